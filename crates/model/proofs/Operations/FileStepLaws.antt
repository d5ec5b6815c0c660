-- What WRITE, SETATTR and OPEN passed, and that each of them keeps a tree well formed.
use Rattle.std.proofs.Common.{ℕ, Bool, true, false, List, [], ◌∷◌, ◌++◌, ◌≡◌, ◌+◌, ◌<◌, ◌≤◌, ◌&&◌, ◌||◌, not, if◌then◌else◌, refl, sym, ap, ◌∙◌, subst, arith, is_some, length, nat_lt, ltb-true, le-leb}
use Rattle.std.specs.Prelude.{Option, Some, None, All, flat_map, unwrap_or, is_none}
use Rattle.std.proofs.lemmas.Bool.{true≢false, ltb-false, not-false}
use Rattle.std.proofs.lemmas.List.{length-replicate}
use Rattle.std.proofs.lemmas.List.Elements.{All-take, All-replicate, All-weaker}
use Rattle.std.proofs.lemmas.List.Sums.{AllPass-from_list_all}
use Rattle.model_tree.specs.declared.acl.Ace.{Ace}
use Rattle.model_tree.specs.declared.node.NodeKind.{NodeKind}
use Rattle.model_tree.specs.declared.node.NodeKind.TheVariants as kind
use Rattle.model_tree.specs.declared.status.Status.TheVariants as status
use Rattle.model_tree.specs.Rights.Acl.{is_list_for}
use Rattle.model_tree.specs.Rights.AclLaws.{ModesKeepLimits, InheritanceKeepsLimits}
use Rattle.model.specs.Attributes.Attribute.{attribute_refusals, settable_at_setattr, settable_at_open, value_refusals, supported, has_one_outside, attributes_of, values_of, is_empty, first_said, size_said, size_given, acl_given, mode_given}
use Rattle.model.specs.Attributes.AttributeValue.{Value, Size}
use Rattle.model_tree.specs.Trees.Changes.{touched, touch, made_edits, acl_of}
use Rattle.model.specs.Operations.Context.{has_current}
use Rattle.model_tree.specs.Trees.Tree.{number_of_entry, number_named, Tree, Node, Content, File, Directory, DirEntry, kind_of, names_of, names_at, bytes_of, is_directory, is_directory_node, is_directory_at, entry_of}
use Rattle.model_tree.specs.Trees.Edit.{PutBytes, SetSize, Show, showing, with_content, resized, overwritten, altered, edited}
use Rattle.model.specs.Operations.Files.{are_bytes, file_refusals, taken_bytes, has_bytes}
use Rattle.model_tree.specs.Rights.Inherit.{created_list, created_without_list, inherited}
use Rattle.model_tree.specs.Trees.Keyed.{at, is_key, with}
use Rattle.model_tree.specs.declared.limits.Limits.{Limits}
use Rattle.model_tree.specs.Refusals.Name.{name_refusals}
use Rattle.model.specs.Operations.Open.{cuts, makes_file, cuts_file, given_by, opening_refusals, share_refusals, place_refusals, known_refusals, new_refusals, name_opening_refusals, new_file, cut_or_not, with_file, opening_done, middle_at_open}
use Rattle.model.specs.Operations.Operation.{Argument, Attributes, WriteArguments, SetAttrArguments, OpenArguments, OpenType, NoCreate, Unchecked, Guarded, ByName, ByHandle, OtherClaim, Opening, Opens as Opening_of, Exclusive}
use Rattle.model_tree.specs.Refusals.Refusal.{Refusals, first_refusal, refused_or}
use Rattle.model.specs.Operations.SetAttr.{kind_at, size_refusals, set_refusals, list_set, metadata_set, size_edits, set_edits}
use Rattle.model.specs.Operations.State.{State, current, stamp_of, current_refusals, named_refusals, is_name_there}
use Rattle.model.specs.Sessions.StateIds.{state_refusals, write_access}
use Rattle.model.specs.Operations.StepLaws.{IsSound}
use Rattle.model_tree.specs.Trees.WellFormed.{IsContent, IsNode}
use Rattle.model.proofs.Operations.AttributeLaws.{given_lists_fit, first_passed}
use Rattle.model_tree.proofs.Trees.ChangeLaws.{IsChanged, creation_keeps, entry_found, names_in, led_to}
use Rattle.model_tree.proofs.Trees.EditLaws.{forest_of, kind_of_directory}
use Rattle.model_tree.proofs.Trees.KeyedLaws.{some≢none}
use Rattle.model_tree.proofs.Trees.NodeChangeLaws.{altered-once, altered-twice, resized_bytes, length-resized, overwritten_bytes, overwritten_within, replacement_keeps}
use Rattle.model.proofs.Operations.StepCases.{Passes}
use Rattle.model.proofs.Operations.RefusalLaws.{none_earlier, none_in_both}
use Rattle.model_tree.proofs.Facts.BooleanLaws.{second_false}

-- A file's node

pub record IsFileAt (tree : Tree) (place : ℕ) : Type 0 where
  pub node : Node
  pub bytes : List ℕ
  pub there : at place tree ≡ Some node
  pub content : node.content ≡ File bytes

pub file_at : (tree : Tree) (place : ℕ) → is_key place tree ≡ true → is_directory_at tree place ≡ false → IsFileAt tree place
file_at tree place key no_directory = by_node (at place tree) refl key no_directory
  where
    by_content : (node : Node) → at place tree ≡ Some node → (content : Content) → node.content ≡ content → is_directory content ≡ false
        → IsFileAt tree place
    by_content node there (File bytes) same is = record { node = node; bytes = bytes; there = there; content = same }
    by_content node there (Directory names) same is = absurd (true≢false is)

    by_node : (o : Option Node) → at place tree ≡ o → is_some o ≡ true → is_directory_node o ≡ false → IsFileAt tree place
    by_node None is key apart = absurd (true≢false (sym key))
    by_node (Some node) is key apart = by_content node is node.content refl apart

-- what the tests of the current node and of a file leave
pub current_key : (state : State) → first_refusal (current_refusals state) ≡ None → is_key (current state) state.tree ≡ true
current_key state passed =
    let handle = none_earlier (not (has_current state.context)) status.NoFileHandle _ passed in
    not-false (is_key (current state) state.tree)
    (none_earlier (not (is_key (current state) state.tree)) status.Stale None handle.1).0

no_directory : (b : Bool) → refused_or b status.IsDir None ≡ None → b ≡ false
no_directory true none = absurd (some≢none status.IsDir none)
no_directory false none = refl

-- Bytes of a file, and its metadata

module _ (limits : Limits) (state : State) (sound : IsSound limits state) (place : ℕ) (file : IsFileAt state.tree place) where
  old_list : is_list_for limits.aces_set limits.aces kind.File file.node.acl ≡ true
  old_list = subst (λ (c : Content). is_list_for limits.aces_set limits.aces (kind_of c) file.node.acl ≡ true) file.content
      (sound.well_formed.nodes place file.node file.there).entries

  old_bytes : All (λ byte. byte < 256) file.bytes × (length file.bytes ≤ limits.file_bytes)
  old_bytes = subst (IsContent limits) file.content (sound.well_formed.nodes place file.node file.there).content

  old_same : bytes_of file.node.content ≡ file.bytes
  old_same = ap bytes_of file.content

  -- a file with other bytes and other metadata
  rewritten_keeps : (bytes : List ℕ) → IsContent limits (File bytes) → (shown : Node) → shown.content ≡ File bytes
      → is_list_for limits.aces_set limits.aces kind.File shown.acl ≡ true → shown.change ≡ stamp_of state
      → IsChanged limits (stamp_of state) state.tree (with state.tree place shown) 0
  rewritten_keeps bytes content shown same list change =
      replacement_keeps limits state.tree sound.well_formed (stamp_of state) sound.before place file.node file.there shown
      (record {
        entries = subst (λ (c : Content). is_list_for limits.aces_set limits.aces (kind_of c) shown.acl ≡ true) (sym same) list;
        content = subst (IsContent limits) (sym same) content;
      })
      (ap is_directory same ∙ sym (ap is_directory file.content)) (ap names_of same ∙ sym (ap names_of file.content)) change

  pub bytes_written : (offset now : ℕ) (part : List ℕ) → All (λ byte. byte < 256) part → offset + length part ≤ limits.file_bytes
      → IsChanged limits (stamp_of state) state.tree
      (edited (PutBytes place offset part ∷ touch state.tree place (stamp_of state) now ∷ []) state.tree) 0
  bytes_written offset now part are within =
      let shown = touched (at place state.tree) (stamp_of state) now in
      let f : Node → Node = λ node. with_content node (File (overwritten (bytes_of node.content) offset part)) in
      let same = ap (λ l. overwritten l offset part) old_same in
      subst (λ (t : Tree). IsChanged limits (stamp_of state) state.tree t 0)
      (sym (altered-twice f (showing shown) state.tree place file.node file.there))
      (rewritten_keeps (overwritten file.bytes offset part)
      (overwritten_bytes file.bytes offset part old_bytes.0 are, overwritten_within file.bytes offset part limits.file_bytes old_bytes.1 within)
      (showing shown (f file.node)) (ap File same)
      (subst (λ (l : List Ace). is_list_for limits.aces_set limits.aces kind.File l ≡ true) (sym (ap acl_of file.there)) old_list) refl)

  pub size_set : (size : ℕ) (shown : Node → Node) → size ≤ limits.file_bytes
      → ((node : Node) → (shown node).content ≡ node.content) → ((node : Node) → (shown node).change ≡ stamp_of state)
      → ((node : Node) → is_list_for limits.aces_set limits.aces kind.File (shown node).acl ≡ true)
      → IsChanged limits (stamp_of state) state.tree (altered shown (edited (SetSize place size ∷ []) state.tree) place) 0
  size_set size shown within contents changes lists =
      let f : Node → Node = λ node. with_content node (File (resized (bytes_of node.content) size)) in
      subst (λ (t : Tree). IsChanged limits (stamp_of state) state.tree t 0) (sym (altered-twice f shown state.tree place file.node file.there))
      (rewritten_keeps (resized file.bytes size)
      (resized_bytes file.bytes size old_bytes.0, let long = length-resized file.bytes size in omega arith)
      (shown (f file.node)) (contents (f file.node) ∙ ap File (ap (λ l. resized l size) old_same))
      (lists (f file.node)) (changes (f file.node)))

  pub file_cut : (now : ℕ) → IsChanged limits (stamp_of state) state.tree
      (edited (SetSize place 0 ∷ touch state.tree place (stamp_of state) now ∷ []) state.tree) 0
  file_cut now = size_set 0 (showing (touched (at place state.tree) (stamp_of state) now)) (omega arith) (λ node. refl) (λ node. refl)
      (λ node. subst (λ (l : List Ace). is_list_for limits.aces_set limits.aces kind.File l ≡ true) (sym (ap acl_of file.there)) old_list)

-- WRITE

pub write_changed : (limits : Limits) (state : State) (now : ℕ) (arguments : WriteArguments) → Passes limits state now (Argument.Write arguments)
    → IsSound limits state → has_bytes arguments ≡ true
    → IsChanged limits (stamp_of state) state.tree
    (edited (PutBytes (current state) arguments.offset (taken_bytes limits arguments)
    ∷ touch state.tree (current state) (stamp_of state) now ∷ []) state.tree) 0
write_changed limits state now arguments passes sound some =
    let part = taken_bytes limits arguments in
    let bytes = none_earlier (not (are_bytes arguments.data_bytes)) status.BadXdr _ passes.early in
    let tests = none_in_both (current_refusals state)
    (file_refusals state ++ state_refusals state.opens state.context write_access arguments.state) bytes.1 in
    let is_file = none_in_both (file_refusals state) (state_refusals state.opens state.context write_access arguments.state) tests.1 in
    let late = none_earlier (has_bytes arguments && nat_lt limits.file_bytes (arguments.offset + length part)) status.FBig None passes.late in
    let all = AllPass-from_list_all (λ byte. nat_lt byte 256) arguments.data_bytes (not-false (are_bytes arguments.data_bytes) bytes.0) in
    let small = All-weaker (λ (byte : ℕ). nat_lt byte 256 ≡ true) (λ (byte : ℕ). byte < 256) (λ byte low. ltb-true byte 256 low) arguments.data_bytes all in
    bytes_written limits state sound (current state)
    (file_at state.tree (current state) (current_key state tests.0) (no_directory (is_directory_at state.tree (current state)) is_file.0))
    arguments.offset now part (All-take (λ (byte : ℕ). byte < 256) limits.transfer_bytes arguments.data_bytes small)
    (ltb-false limits.file_bytes (arguments.offset + length part) (second_false (has_bytes arguments) _ late.0 some))

-- The attributes that are set

some_number : (x y : ℕ) → Some x ≡ Some y → x ≡ y
some_number x y same = cc

said_within : (limits : Limits) (of : NodeKind) (values : List Value) (size : ℕ) → first_refusal (flat_map (value_refusals limits of) values) ≡ None
    → first_said size_said values ≡ Some size → size ≤ limits.file_bytes
said_within limits of [] size none said = absurd (some≢none size (sym said))
said_within limits of (Size bytes ∷ values) size none said =
    let passed = first_passed (value_refusals limits of) (Size bytes) values none in
    let few = ltb-false limits.file_bytes bytes (none_earlier (nat_lt limits.file_bytes bytes) status.FBig None passed.0).0 in
    let same = some_number bytes size said in
    omega arith
said_within limits of (value ∷ values) size none said =
    said_within limits of values size (first_passed (value_refusals limits of) value values none).1 said

-- a size that passes is within the limit
pub size_within : (limits : Limits) (of : NodeKind) (settable : List ℕ) (given : Attributes) (size : ℕ)
    → first_refusal (attribute_refusals limits of settable given) ≡ None → size_given given ≡ Some size → size ≤ limits.file_bytes
unfolding attribute_refusals
size_within limits of settable given size none said =
    let known = none_earlier (has_one_outside supported (attributes_of given.bitmap)) status.AttrNotSupp _ none in
    let settable_here = none_earlier (has_one_outside settable (attributes_of given.bitmap)) status.Inval _ known.1 in
    let whole = none_earlier (is_none (values_of given)) status.BadXdr _ settable_here.1 in
    said_within limits of (unwrap_or (values_of given) []) size whole.1 said

-- The list of a node that is set or made

module _ (modes : ModesKeepLimits) (inheritance : InheritanceKeepsLimits) where
  empty_list : (limits : Limits) (of : NodeKind) → is_list_for limits.aces_set limits.aces of [] ≡ true
  unfolding is_list_for
  empty_list limits of = rw (le-leb 0 limits.aces (omega arith), le-leb 0 limits.aces_set (omega arith)) refl

  list_created : (limits : Limits) (of : NodeKind) → limits.aces_set + 5 ≤ limits.aces → (parent : List Ace)
      → is_list_for limits.aces_set limits.aces kind.Directory parent ≡ true → (nothing_given : Bool) (mode : Option ℕ)
      → is_list_for limits.aces_set limits.aces of (created_without_list parent of nothing_given mode) ≡ true
  list_created limits of room parent is nothing_given (Some mode) =
      modes limits.aces_set limits.aces room of (inherited parent of) mode
      (inheritance limits.aces_set limits.aces (omega arith) of parent is)
  list_created limits of room parent is true None = empty_list limits of
  list_created limits of room parent is false None = inheritance limits.aces_set limits.aces (omega arith) of parent is

  -- with a list that was given, which passed its tests
  pub list_given : (limits : Limits) (of : NodeKind) → limits.aces_set + 5 ≤ limits.aces → (parent : List Ace)
      → is_list_for limits.aces_set limits.aces kind.Directory parent ≡ true → (nothing_given : Bool) (mode : Option ℕ) (acl : Option (List Ace))
      → ((list : List Ace) → acl ≡ Some list → is_list_for limits.aces_set limits.aces of list ≡ true)
      → is_list_for limits.aces_set limits.aces of (created_list parent of nothing_given mode acl) ≡ true
  list_given limits of room parent is nothing_given mode None fits = list_created limits of room parent is nothing_given mode
  list_given limits of room parent is nothing_given mode (Some list) fits = fits list refl

  pub list_is_set : (limits : Limits) (of : NodeKind) → limits.aces_set + 5 ≤ limits.aces → (acl : List Ace)
      → is_list_for limits.aces_set limits.aces of acl ≡ true → (mode : Option ℕ) (set : Option (List Ace))
      → ((list : List Ace) → set ≡ Some list → is_list_for limits.aces_set limits.aces of list ≡ true)
      → is_list_for limits.aces_set limits.aces of (list_set of acl mode set) ≡ true
  list_is_set limits of room acl is mode (Some list) fits = fits list refl
  list_is_set limits of room acl is (Some mode) None fits = modes limits.aces_set limits.aces room of acl mode is
  list_is_set limits of room acl is None None fits = is

  -- SETATTR

  node_at : (o : Option Node) → is_some o ≡ true → (node : Node) × (o ≡ Some node)
  node_at None key = absurd (true≢false (sym key))
  node_at (Some node) key = (node, refl)

  kind_same : (tree : Tree) (place : ℕ) (node : Node) → at place tree ≡ Some node → kind_at tree place ≡ kind_of node.content
  kind_same tree place node there = by_content node.content (ap is_directory_node there)
    where
      by_content : (content : Content) → is_directory_at tree place ≡ is_directory content → kind_at tree place ≡ kind_of content
      by_content (File bytes) is = ap (λ (b : Bool). if b then kind.Directory else kind.File) is
      by_content (Directory names) is = ap (λ (b : Bool). if b then kind.Directory else kind.File) is

  module _ (limits : Limits) (state : State) (now : ℕ) (arguments : SetAttrArguments) (passes : Passes limits state now (Argument.SetAttr arguments))
      (sound : IsSound limits state) where
    abbrev given : Attributes
    given = arguments.attributes

    abbrev place : ℕ
    place = current state

    abbrev tested : Refusals
    tested = attribute_refusals limits (kind_at state.tree place) settable_at_setattr given

    set_tests : (first_refusal tested ≡ None) × (first_refusal (size_refusals state arguments) ≡ None) × (is_key place state.tree ≡ true)
    set_tests =
        let tests = none_in_both (current_refusals state) (set_refusals limits state arguments) passes.early in
        let attributes = none_in_both tested (size_refusals state arguments) tests.1 in
        (attributes.0, attributes.1, current_key state tests.0)

    -- if a size is set, it is a file
    sized_file : (size : ℕ) → size_given given ≡ Some size → is_directory_at state.tree place ≡ false
    sized_file size said = by_given (size_given given) said set_tests.1
      where
        by_given : (o : Option ℕ) → o ≡ Some size
            → first_refusal (if is_some o then (is_directory_at state.tree place, status.IsDir)
            ∷ state_refusals state.opens state.context write_access arguments.state else []) ≡ None
            → is_directory_at state.tree place ≡ false
        by_given None is none = absurd (some≢none size (sym is))
        by_given (Some other) is none =
            (none_earlier (is_directory_at state.tree place) status.IsDir
            (first_refusal (state_refusals state.opens state.context write_access arguments.state)) none).0

    abbrev old : Node
    old = (node_at (at place state.tree) set_tests.2).0

    old_there : at place state.tree ≡ Some old
    old_there = (node_at (at place state.tree) set_tests.2).1

    abbrev shows : Node → Node
    shows node = showing (metadata_set (at place state.tree) given (stamp_of state) now) node

    metadata_list : (shows old).acl ≡ list_set (kind_of old.content) old.acl (mode_given given) (acl_given given)
    metadata_list = ap (λ (o : Option Node). (metadata_set o given (stamp_of state) now).acl) old_there

    metadata_change : (node : Node) → (shows node).change ≡ stamp_of state
    metadata_change node = by_node (at place state.tree)
      where
        by_node : (o : Option Node) → (metadata_set o given (stamp_of state) now).change ≡ stamp_of state
        by_node None = refl
        by_node (Some node) = refl

    set_list : is_list_for limits.aces_set limits.aces (kind_of old.content) (list_set (kind_of old.content) old.acl (mode_given given) (acl_given given)) ≡ true
    set_list = list_is_set limits (kind_of old.content) sound.room_for_mode old.acl (sound.well_formed.nodes place old old_there).entries
        (mode_given given) (acl_given given)
        (λ list said. subst (λ (of : NodeKind). is_list_for limits.aces_set limits.aces of list ≡ true) (kind_same state.tree place old old_there)
        (given_lists_fit limits (kind_at state.tree place) settable_at_setattr given list (let room = sound.room_for_mode in omega arith) set_tests.0 said))

    by_size : (size : Option ℕ) → size_given given ≡ size
        → IsChanged limits (stamp_of state) state.tree
        (edited (size_edits place size ++ (Show place (metadata_set (at place state.tree) given (stamp_of state) now) ∷ [])) state.tree) 0
    by_size None none =
        subst (λ (t : Tree). IsChanged limits (stamp_of state) state.tree t 0) (sym (altered-once shows state.tree place old old_there))
        (replacement_keeps limits state.tree sound.well_formed (stamp_of state) sound.before place old old_there (shows old)
        (record {
          entries = subst (λ (l : List Ace). is_list_for limits.aces_set limits.aces (kind_of old.content) l ≡ true) (sym metadata_list) set_list;
          content = (sound.well_formed.nodes place old old_there).content;
        }) refl refl (metadata_change old))
    by_size (Some size) said =
        let file = file_at state.tree place set_tests.2 (sized_file size said) in
        let same : old ≡ file.node = one_node old file.node (sym old_there ∙ file.there) in
        let is_file : kind_of old.content ≡ kind.File = ap (λ (n : Node). kind_of n.content) same ∙ ap kind_of file.content in
        size_set limits state sound place file size shows
        (size_within limits (kind_at state.tree place) settable_at_setattr given size set_tests.0 said)
        (λ node. refl) metadata_change
        (λ node. subst (λ (l : List Ace). is_list_for limits.aces_set limits.aces kind.File l ≡ true) (sym metadata_list)
        (subst (λ (of : NodeKind). is_list_for limits.aces_set limits.aces of
        (list_set (kind_of old.content) old.acl (mode_given given) (acl_given given)) ≡ true) is_file set_list))
      where
        one_node : (x y : Node) → Some x ≡ Some y → x ≡ y
        one_node x y equal = cc

    pub set_changed : IsChanged limits (stamp_of state) state.tree (edited (set_edits state.tree place given (stamp_of state) now) state.tree) 0
    set_changed = by_size (size_given given) refl

  -- OPEN

  module _ (limits : Limits) (state : State) (now : ℕ) (sound : IsSound limits state) (name : List ℕ) where
    -- a name of the directory leads to a node
    pub named_key : is_name_there state name ≡ true → is_key (number_named state.tree (current state) name) state.tree ≡ true
    named_key is = by_entry (entry_of name (names_at state.tree (current state))) refl is
      where
        by_entry : (o : Option (ℕ × DirEntry)) → entry_of name (names_at state.tree (current state)) ≡ o → is_some o ≡ true
            → is_key (number_named state.tree (current state) name) state.tree ≡ true
        by_entry None found is = absurd (true≢false (sym is))
        by_entry (Some entry) found is =
            let forest = forest_of limits state.tree sound.well_formed in
            let stands = entry_found name (names_at state.tree (current state)) 0 (names_in limits state.tree forest (current state)).rising entry found in
            let led = led_to limits state.tree forest (current state) entry.0 entry.1 stands.0 in
            ap (λ (o : Option (ℕ × DirEntry)). is_key (number_of_entry o) state.tree) found ∙ ap is_some led.1

    cut_keeps : (how : OpenType) → first_refusal (known_refusals limits state (number_named state.tree (current state) name) how) ≡ None
        → is_name_there state name ≡ true → cuts how ≡ true
        → IsChanged limits (stamp_of state) state.tree (cut_or_not true state now (number_named state.tree (current state) name)).tree 0
    cut_keeps NoCreate passed there is = absurd (true≢false (sym is))
    cut_keeps (Guarded given) passed there is = absurd (true≢false (sym is))
    cut_keeps (Unchecked given) passed there is =
        let number = number_named state.tree (current state) name in
        let directory = none_earlier (is_directory_at state.tree number) status.IsDir _ passed in
        file_cut limits state sound number (file_at state.tree number (named_key there) directory.0) now

    attributes_passed : (how : OpenType) → first_refusal (new_refusals limits how) ≡ None
        → first_refusal (attribute_refusals limits kind.File settable_at_open (given_by how)) ≡ None
    attributes_passed NoCreate passed = absurd (some≢none status.NoEnt passed)
    attributes_passed (Unchecked given) passed = passed
    attributes_passed (Guarded given) passed = passed

    zeros_within : (size : Option ℕ) → ((of : ℕ) → size ≡ Some of → of ≤ limits.file_bytes) → unwrap_or size 0 ≤ limits.file_bytes
    zeros_within None within = omega arith
    zeros_within (Some size) within = within size refl

    creation_of : (how : OpenType) → first_refusal (new_refusals limits how) ≡ None → is_name_there state name ≡ false
        → is_directory_at state.tree (current state) ≡ true → first_refusal (name_refusals limits name) ≡ None
        → IsChanged limits (stamp_of state) state.tree (with_file false state now how name).tree 0
    creation_of how passed new directory allowed =
        let given = given_by how in
        let attributes = attributes_passed how passed in
        let parent = directory_node (at (current state) state.tree) directory in
        let list : is_list_for limits.aces_set limits.aces kind.Directory parent.0.acl ≡ true
        = rw (kind_of_directory parent.0.content parent.2) at (sound.well_formed.nodes (current state) parent.0 parent.1).entries in
        let size = unwrap_or (size_given given) 0 in
        let long = length-replicate {A = ℕ} size 0 in
        let within : size ≤ limits.file_bytes
        = zeros_within (size_given given) (λ of said. size_within limits kind.File settable_at_open given of attributes said) in
        let file = new_file state.context.cred parent.0.acl given (stamp_of state) now in
        let is_node : IsNode limits file = record {
          entries = list_given limits kind.File sound.room_for_mode parent.0.acl list (is_empty given.bitmap) (mode_given given) (acl_given given)
              (λ acl said. given_lists_fit limits kind.File settable_at_open given acl (let room = sound.room_for_mode in omega arith) attributes said);
          content = (All-replicate (λ (byte : ℕ). byte < 256) size 0 (omega arith), omega (arith, within, long));
        } in
        subst (λ (o : Option Node). IsChanged limits (stamp_of state) state.tree (edited (made_edits state.tree (current state) name
        (new_file state.context.cred (acl_of o) given (stamp_of state) now) (stamp_of state) now) state.tree) 0) (sym parent.1)
        (creation_keeps limits state.tree sound.well_formed (stamp_of state) sound.before now (current state) name file
        directory (is_nothing (entry_of name (names_at state.tree (current state))) new) (omega arith) allowed is_node refl refl)
      where
        is_nothing : {A : Type 0} (o : Option A) → is_some o ≡ false → o ≡ None
        is_nothing None told = refl
        is_nothing (Some x) told = absurd (true≢false told)

        directory_node : (o : Option Node) → is_directory_node o ≡ true → (node : Node) × (o ≡ Some node) × (is_directory node.content ≡ true)
        directory_node None is = absurd (true≢false (sym is))
        directory_node (Some node) is = (node, refl, is)

    -- what an opening by name is, whether the name is there and whether the file is truncated

    by_cut : (how : OpenType) (cut : Bool) → cuts how ≡ cut → cut ≡ true → first_refusal (known_refusals limits state (number_named state.tree (current state) name) how) ≡ None
        → is_name_there state name ≡ true
        → IsChanged limits (stamp_of state) state.tree (cut_or_not cut state now (number_named state.tree (current state) name)).tree 0
        × ((cut_or_not cut state now (number_named state.tree (current state) name)).changes ≡ state.changes + 1)
    by_cut how false same is passed there = absurd (true≢false (sym is))
    by_cut how true same is passed there = (cut_keeps how passed there same, refl)

    by_name : (how : OpenType) (there : Bool) → is_name_there state name ≡ there → (not there || (there && cuts how)) ≡ true
        → first_refusal (if there then known_refusals limits state (number_named state.tree (current state) name) how else new_refusals limits how) ≡ None
        → is_directory_at state.tree (current state) ≡ true → first_refusal (name_refusals limits name) ≡ None
        → IsChanged limits (stamp_of state) state.tree (with_file there state now how name).tree 0
        × ((with_file there state now how name).changes ≡ state.changes + 1)
    by_name how true there is passed directory allowed = by_cut how (cuts how) refl is passed there
    by_name how false there is passed directory allowed = (creation_of how passed there directory allowed, refl)

  pub opening_changed : (limits : Limits) (state : State) (now : ℕ) (arguments : OpenArguments) (opening : Opening) → arguments.opening ≡ opening
      → Passes limits state now (Argument.Open arguments) → IsSound limits state
      → (makes_file state opening || cuts_file state opening) ≡ true
      → IsChanged limits (stamp_of state) state.tree (opening_done state now opening).tree 0
      × ((opening_done state now opening).changes ≡ state.changes + 1)
  opening_changed limits state now arguments (Exclusive mode) same passes sound is = absurd (true≢false (sym is))
  opening_changed limits state now arguments (Opening_of how (OtherClaim claim)) same passes sound is = absurd (true≢false (sym is))
  opening_changed limits state now arguments (Opening_of how ByHandle) same passes sound is = absurd (true≢false (sym is))
  opening_changed limits state now arguments (Opening_of how (ByName name)) same passes sound is =
      let tests = none_in_both (current_refusals state)
      (opening_refusals arguments.opening ++ (share_refusals arguments ++ place_refusals limits state arguments.opening)) passes.early in
      let opening = none_in_both (opening_refusals arguments.opening) (share_refusals arguments ++ place_refusals limits state arguments.opening) tests.1 in
      let share = none_in_both (share_refusals arguments) (place_refusals limits state arguments.opening) opening.1 in
      let place : first_refusal (named_refusals limits state name) ≡ None
      = ap (λ (o : Opening). first_refusal (place_refusals limits state o)) (sym same) ∙ share.1 in
      let middle : first_refusal (name_opening_refusals limits state how name) ≡ None
      = ap (λ (o : Opening). first_refusal (middle_at_open limits state o)) (sym same) ∙ passes.middle in
      let directory = none_earlier (not (is_directory_at state.tree (current state))) status.NotDir (first_refusal (name_refusals limits name)) place in
      by_name limits state now sound name how (is_name_there state name) refl is middle
      (not-false (is_directory_at state.tree (current state)) directory.0) directory.1

-- An opening that neither makes nor truncates a file leaves everything as it is

pub opening_leaves : (state : State) (now : ℕ) (opening : Opening) → (makes_file state opening || cuts_file state opening) ≡ false
    → opening_done state now opening ≡ state
opening_leaves state now (Exclusive mode) no_change = refl
opening_leaves state now (Opening_of how (OtherClaim claim)) no_change = refl
opening_leaves state now (Opening_of how ByHandle) no_change = refl
opening_leaves state now (Opening_of how (ByName name)) no_change = by_name (is_name_there state name) no_change
  where
    by_cut : (cut : Bool) → cut ≡ false → cut_or_not cut state now (number_named state.tree (current state) name) ≡ state
    by_cut true is = absurd (true≢false is)
    by_cut false is = refl

    by_name : (there : Bool) → (not there || (there && cuts how)) ≡ false → with_file there state now how name ≡ state
    by_name true is = by_cut (cuts how) is
    by_name false is = absurd (true≢false is)
