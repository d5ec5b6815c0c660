-- Each operation by its parts: its tests, the rights that it asks for, and what it does.
use Rattle.std.proofs.Common.{◌≡◌, ◌+◌, ◌++◌, ◌==◌, ℕ, Bool, true, false, cond, not, ◌&&◌, ◌||◌, ◌-◌, min, List, [], ◌∷◌, Option, Some, None, length, map, drop, ◌⊎◌, inl, inr, refl, sym, ap, ap₂, ◌∙◌, subst}
use Rattle.std.specs.Prelude.{nat_lt, nat_le, is_some, option_map}
use Rattle.std.specs.List.{list_any}
use Rattle.std.proofs.lemmas.Bool.{true≢false}
use Rattle.std.proofs.lemmas.List.{length-replicate, length-take, length-drop}
use Rattle.model_tree.specs.Refusals.Name.{name_refusals}
use Rattle.model_tree.specs.declared.acl.Ace.{Ace}
use Rattle.model_tree.specs.Refusals.Refusal.{Refusals, first_refusal}
use Rattle.model_tree.specs.declared.acl.Cred.{Cred}
use Rattle.model_tree.specs.declared.limits.Limits.{Limits}
use Rattle.model_tree.specs.declared.node.NodeKind.TheVariants as kind
use Rattle.model_tree.specs.declared.status.Status.{Status}
use Rattle.model_tree.specs.declared.status.Status.TheVariants as status
use Rattle.model_tree.specs.Rights.Acl.{read_data, read_acl, write_data, append_data, delete, delete_child}
use Rattle.model_tree.specs.Trees.Ancestors.{is_below}
use Rattle.model_tree.specs.Trees.Changes.{touch, removal, moving, made_edits, removed_edits, renamed_edits, acl_of}
use Rattle.model_tree.specs.Trees.Charge.{fits}
use Rattle.model_tree.specs.Trees.Edit.{Edit, PutNode, PutName, PutBytes, SetSize, Show, Metadata, edited}
use Rattle.model_tree.specs.Trees.Keyed.{Keyed, at}
use Rattle.model_tree.specs.Trees.Stamp.{is_stamp_left, handle_number, is_filehandle}
use Rattle.model_tree.specs.Trees.Tree.{Tree, Node, Content, File, Directory, DirEntry, bytes_of, bytes_at, bytes_of_node, is_directory_at, names_at, entry_of, number_of_entry, number_named, is_named}
use Rattle.model.specs.Attributes.Attribute.{attribute_refusals, settable_at_creation, settable_at_open, settable_at_setattr, size_given, trimmed}
use Rattle.model.specs.Operations.Answer.{Answer, Outcome, Entry, ReadDirAnswer}
use Rattle.model.specs.Operations.Context.{Context, has_current, has_saved, current_number, saved_number, is_same_name, at_node}
use Rattle.model.specs.Operations.Create.{create, create_refusals, late_at_create}
use Rattle.model.specs.Operations.Directory.{change_of, new_directory}
use Rattle.model.specs.Operations.Files.{are_bytes, has_bytes, taken_bytes, file_refusals, write, read, part_of}
use Rattle.model.specs.Operations.Need.{Right, granted_on, is_granted, are_granted, right_if, here}
use Rattle.model.specs.Operations.Open.{opening_refusals, share_refusals, place_refusals, creates, cuts, known_refusals, new_refusals, middle_at_open, access_rights, opening_rights, makes_file, cuts_file, file_opened, asked_open, cut_or_not, with_file, opening_done, change_at_open, set_at_open, opened_state, at_opened, open_file, new_file, given_by, size_alone}
use Rattle.model.specs.Operations.Operation.{Argument, Attributes, ChangeInfo, CreateArguments, NewDirectory, OtherType, RenameArguments, SetAttrArguments, ReadDirArguments, ReadArguments, WriteArguments, OpenArguments, OpenType, NoCreate, Unchecked, Guarded, ByName, ByHandle, OtherClaim, Opening, Opens as Opening_of, Exclusive}
use Rattle.model.specs.Attributes.NodeAttributes.{unreadable}
use Rattle.model.specs.Operations.ReadDir.{names_after, listing_rights, asks_errors, may_read_acl, listed_entry, all_entries, page, page_room, page_bytes, empty_page_bytes, page_refusals, fitting}
use Rattle.model.specs.Operations.Rename.{rename_refusals, removable, rename_rights, is_other, has_names, moved_number, target_number, late_at_rename, remove, rename}
use Rattle.model.specs.Operations.SetAttr.{asks_acls, sets, sets_size, set_refusals, set_edits, size_edits, set_attributes}
use Rattle.model.specs.Operations.State.{State, Stepped, current, saved, stamp_of, current_refusals, named_refusals, is_name_there, answered, refused, moved_to, change_to}
use Rattle.model.specs.Operations.Step.{early, need_first, middle, need_then, late, alters, effect, refusals, without_rights, change_refusals, unless_refused, does}
use Rattle.model.specs.Sessions.Opens.{Open, Opens}
use Rattle.model.specs.Sessions.StateIds.{state_refusals, write_access, new_open, Opened, opened, is_table_full, without_number}
use Rattle.model.proofs.Operations.RefusalLaws.{none_after, none_earlier, none_before}
use Rattle.secrecy.specs.Blind.{blank, hidden_if, hidden, hiding, hiding_after, MayReadNone, EachIsBlind, EachAnswersAlike}
use Rattle.secrecy.proofs.Alike.{same_at, same_key, same_directory, same_names, same_grant, same_touch, same_acl, same_change, same_shown, same_access, same_attributes}
use Rattle.secrecy.proofs.Hiding.{at-hidden, hidden-twice, fits-hidden, parent-hidden, below-hidden, edits-hidden}

-- Two lists of tests or rights, made of parts that are the same

both : {A : Type 0} {a b c d : List A} → a ≡ b → c ≡ d → a ++ c ≡ b ++ d
both {A} first second = ap₂ (λ (x y : List A). x ++ y) first second

module _ (secret : ℕ → Bool) (tree : Tree) where
  abbrev veiled : Tree
  veiled = hidden secret tree

  named_same : (directory : ℕ) (name : List ℕ) → number_named veiled directory name ≡ number_named tree directory name
  named_same directory name = ap (λ (names : Keyed DirEntry). number_of_entry (entry_of name names)) (same_names secret tree directory)

  there_same : (directory : ℕ) (name : List ℕ) → is_named veiled directory name ≡ is_named tree directory name
  there_same directory name = ap (λ (names : Keyed DirEntry). is_some (entry_of name names)) (same_names secret tree directory)

  has_names_same : (number : ℕ) → has_names veiled number ≡ has_names tree number
  has_names_same number = ap (λ (names : Keyed DirEntry). nat_lt 0 (length names)) (same_names secret tree number)

  -- Rights

  any_same : (cred : Cred) (rights : List Right) → list_any (is_granted veiled cred) rights ≡ list_any (is_granted tree cred) rights
  any_same cred [] = refl
  any_same cred (right ∷ rights) = ap₂ (λ (a b : Bool). a || b) (same_grant secret tree cred right.mask right.number) (any_same cred rights)

  pub granted_same : (context : Context) (rights : List (List Right)) → are_granted veiled context rights ≡ are_granted tree context rights
  granted_same context [] = refl
  granted_same context (right ∷ rights) = ap₂ (λ (a b : Bool). a && b) (any_same context.cred right) (granted_same context rights)

  removable_same : (directory : ℕ) (name : List ℕ) → removable veiled directory name ≡ removable tree directory name
  removable_same directory name =
      ap (λ (number : ℕ). record { number = number; mask = delete } ∷ record { number = directory; mask = delete_child } ∷ []) (named_same directory name)

  rename_rights_same : (from to : ℕ) (arguments : RenameArguments) → rename_rights veiled from to arguments ≡ rename_rights tree from to arguments
  rename_rights_same from to arguments =
      ap₂ (λ (a : List Right) (b : List (List Right)). a ∷ b) (removable_same from arguments.old_name)
      (both
      (ap₂ (λ (there : Bool) (rights : List Right). cond there (rights ∷ []) []) (there_same to arguments.new_name) (removable_same to arguments.new_name))
      (ap (λ (directory : Bool). (record { number = to; mask = cond directory append_data write_data } ∷ []) ∷ [])
      (ap (is_directory_at veiled) (named_same from arguments.old_name) ∙ same_directory secret tree (number_named tree from arguments.old_name))))

  pub need_first_same : (context : Context) (operation : Argument) → need_first veiled context operation ≡ need_first tree context operation
  need_first_same context (Argument.Remove name) = ap (λ (rights : List Right). rights ∷ []) (removable_same (current_number context) name)
  need_first_same context (Argument.Rename arguments) =
      ap (λ (rights : List (List Right)). cond (is_same_name context arguments) [] rights)
      (rename_rights_same (saved_number context) (current_number context) arguments)
  need_first_same context _ = refl

  opening_rights_same : (context : Context) (access : ℕ) (opening : Opening) → opening_rights veiled context access opening ≡ opening_rights tree context access opening
  opening_rights_same context access (Exclusive mode) = refl
  opening_rights_same context access (Opening_of how (OtherClaim claim)) = refl
  opening_rights_same context access (Opening_of how (ByName name)) =
      ap₂ (λ (there : Bool) (number : ℕ).
      cond there (access_rights number access ++ right_if (cuts how) number write_data) (here context write_data))
      (there_same (current_number context) name) (named_same (current_number context) name)
  opening_rights_same context access (Opening_of how ByHandle) = refl

  listing_rights_same : (context : Context) (arguments : ReadDirArguments) → listing_rights veiled context arguments ≡ listing_rights tree context arguments
  listing_rights_same context arguments =
      ap (λ (names : Keyed DirEntry). cond (asks_acls arguments.bitmap && not (asks_errors arguments.bitmap))
      (map (λ (name : ℕ × DirEntry). record { number = name.1.number; mask = read_acl } ∷ []) (names_after arguments.cookie names)) [])
      (same_names secret tree (current_number context))

  pub need_then_same : (context : Context) (operation : Argument) → need_then veiled context operation ≡ need_then tree context operation
  need_then_same context (Argument.Open arguments) = opening_rights_same context arguments.access arguments.opening
  need_then_same context (Argument.ReadDir arguments) = listing_rights_same context arguments
  need_then_same context _ = refl

-- Tests

module _ (limits : Limits) (secret : ℕ → Bool) (state : State) where
  abbrev over : State
  over = hiding secret state

  abbrev here_is : Tree
  here_is = state.tree

  pub current_same : current_refusals over ≡ current_refusals state
  current_same =
      ap (λ (there : Bool). (not (has_current state.context), status.NoFileHandle) ∷ (not there, status.Stale) ∷ []) (same_key secret here_is (current state))

  file_same : file_refusals over ≡ file_refusals state
  file_same = ap (λ (directory : Bool). (directory, status.IsDir) ∷ []) (same_directory secret here_is (current state))

  not_directory_same : (number : ℕ) → ◌≡◌ {A = Refusals} ((not (is_directory_at over.tree number), status.NotDir) ∷ []) ((not (is_directory_at state.tree number), status.NotDir) ∷ [])
  not_directory_same number = ap (λ (directory : Bool). (not directory, status.NotDir) ∷ []) (same_directory secret here_is number)

  named_refusals_same : (name : List ℕ) → named_refusals limits over name ≡ named_refusals limits state name
  named_refusals_same name =
      ap (λ (directory : Bool). (not directory, status.NotDir) ∷ name_refusals limits name) (same_directory secret here_is (current state))

  name_there_same : (name : List ℕ) → is_name_there over name ≡ is_name_there state name
  name_there_same name = there_same secret here_is (current state) name

  create_same : (arguments : CreateArguments) → create_refusals limits over arguments ≡ create_refusals limits state arguments
  create_same (NewDirectory name given) =
      ap (λ (tests : Refusals). tests ++ attribute_refusals limits kind.Directory settable_at_creation given) (named_refusals_same name)
  create_same (OtherType number) = refl

  place_same : (opening : Opening) → place_refusals limits over opening ≡ place_refusals limits state opening
  place_same (Exclusive mode) = refl
  place_same (Opening_of how (OtherClaim claim)) = refl
  place_same (Opening_of how (ByName name)) = named_refusals_same name
  place_same (Opening_of how ByHandle) =
      ap (λ (directory : Bool). (creates how, status.Inval) ∷ (directory, status.IsDir) ∷ []) (same_directory secret here_is (current state))

  rename_refusals_same : (arguments : RenameArguments) → rename_refusals limits over arguments ≡ rename_refusals limits state arguments
  rename_refusals_same arguments =
      both
      (ap₂ (λ (there : Bool) (rest : Refusals). (not (has_saved state.context), status.NoFileHandle) ∷ (not there, status.Stale) ∷ rest)
      (same_key secret here_is (saved state))
      (ap₂ (λ (from to : Bool). (not from, status.NotDir) ∷ (not to, status.NotDir) ∷ [])
      (same_directory secret here_is (saved state)) (same_directory secret here_is (current state))))
      (ap (λ (there : Bool). name_refusals limits arguments.old_name ++ (name_refusals limits arguments.new_name ++ ((not there, status.NoEnt) ∷ [])))
      (there_same secret here_is (saved state) arguments.old_name))

  set_refusals_same : (arguments : SetAttrArguments) → set_refusals limits over arguments ≡ set_refusals limits state arguments
  set_refusals_same arguments =
      ap (λ (directory : Bool).
      attribute_refusals limits (cond directory kind.Directory kind.File) settable_at_setattr arguments.attributes
      ++ cond (sets_size arguments.attributes)
      ((directory, status.IsDir) ∷ state_refusals state.opens state.context write_access arguments.state) [])
      (same_directory secret here_is (current state))

  pub early_same : (operation : Argument) → early limits over operation ≡ early limits state operation
  early_same (Argument.Access rights) = current_same
  early_same (Argument.Close arguments) = both current_same refl
  early_same (Argument.Commit arguments) = both current_same file_same
  early_same (Argument.Create arguments) = both current_same (create_same arguments)
  early_same (Argument.GetAttr bitmap) = current_same
  early_same Argument.GetFh = current_same
  early_same (Argument.Lookup name) = both current_same (named_refusals_same name)
  early_same Argument.LookupParent = both current_same (not_directory_same (current state))
  early_same (Argument.Open arguments) =
      both current_same (ap (λ (tests : Refusals). opening_refusals arguments.opening ++ (share_refusals arguments ++ tests)) (place_same arguments.opening))
  early_same (Argument.PutFh handle) =
      ap (λ (there : Bool). (not (is_filehandle handle), status.BadHandle) ∷ (not there, status.Stale) ∷ []) (same_key secret here_is (handle_number handle))
  early_same Argument.PutRootFh = refl
  early_same (Argument.Read arguments) = both current_same (both file_same refl)
  early_same (Argument.ReadDir arguments) = both current_same (not_directory_same (current state))
  early_same (Argument.Remove name) =
      both current_same (both (named_refusals_same name) (ap (λ (there : Bool). (not there, status.NoEnt) ∷ []) (name_there_same name)))
  early_same (Argument.Rename arguments) = both current_same (rename_refusals_same arguments)
  early_same Argument.RestoreFh = refl
  early_same Argument.SaveFh = current_same
  early_same (Argument.SetAttr arguments) = both current_same (set_refusals_same arguments)
  early_same (Argument.Write arguments) =
      ap (λ (tests : Refusals). (not (are_bytes arguments.data_bytes), status.BadXdr) ∷ tests) (both current_same (both file_same refl))
  early_same (Argument.ExchangeId arguments) = refl
  early_same (Argument.CreateSession arguments) = refl
  early_same (Argument.DestroySession session) = refl
  early_same (Argument.Sequence arguments) = refl
  early_same (Argument.DestroyClientId client) = refl
  early_same (Argument.ReclaimComplete one_fs) = refl

  known_same : (number : ℕ) (how : OpenType) → known_refusals limits over number how ≡ known_refusals limits state number how
  known_same number NoCreate = ap (λ (directory : Bool). (directory, status.IsDir) ∷ []) (same_directory secret here_is number)
  known_same number (Unchecked given) =
      ap (λ (directory : Bool). (directory, status.IsDir) ∷ attribute_refusals limits kind.File settable_at_open given) (same_directory secret here_is number)
  known_same number (Guarded given) = refl

  middle_open_same : (opening : Opening) → middle_at_open limits over opening ≡ middle_at_open limits state opening
  middle_open_same (Exclusive mode) = refl
  middle_open_same (Opening_of how (OtherClaim claim)) = refl
  middle_open_same (Opening_of how (ByName name)) =
      ap₂ (λ (there : Bool) (known : Refusals). cond there known (new_refusals limits how)) (name_there_same name)
      (ap (λ (number : ℕ). known_refusals limits over number how) (named_same secret here_is (current state) name)
      ∙ known_same (number_named here_is (current state) name) how)
  middle_open_same (Opening_of how ByHandle) = refl

  pub middle_same : (operation : Argument) → middle limits over operation ≡ middle limits state operation
  middle_same (Argument.Open arguments) = middle_open_same arguments.opening
  middle_same _ = refl

  -- READDIR

  may_read_same : (cred : Cred) (number : ℕ) → may_read_acl cred (at number (hidden secret here_is)) ≡ may_read_acl cred (at number here_is)
  may_read_same cred = same_at secret here_is (may_read_acl cred) by_if
    where
      by_if : (b : Bool) (node : Node) → may_read_acl cred (Some (hidden_if b node)) ≡ may_read_acl cred (Some node)
      by_if true node = refl
      by_if false node = refl

  entries_same : (cred : Cred) (bitmap : List ℕ) (names : Keyed DirEntry)
      → map (listed_entry limits (hidden secret here_is) cred bitmap) names ≡ map (listed_entry limits here_is cred bitmap) names
  entries_same cred bitmap [] = refl
  entries_same cred bitmap (name ∷ names) =
      ap₂ (λ (given : Attributes) (rest : List Entry). record { cookie = name.0; name = name.1.name; attributes = given } ∷ rest)
      (ap₂ (λ (may : Bool) (given : Attributes). cond (asks_acls bitmap && not may) unreadable given)
      (may_read_same cred name.1.number) (same_attributes secret here_is limits bitmap name.1.number name.1.number))
      (entries_same cred bitmap names)

  all_same : (arguments : ReadDirArguments) → all_entries limits over arguments ≡ all_entries limits state arguments
  all_same arguments =
      ap (λ (names : Keyed DirEntry). map (listed_entry limits (hidden secret here_is) state.context.cred arguments.bitmap) (names_after arguments.cookie names))
      (same_names secret here_is (current state))
      ∙ entries_same state.context.cred arguments.bitmap (names_after arguments.cookie (names_at here_is (current state)))

  page_same : (arguments : ReadDirArguments) → page limits over arguments ≡ page limits state arguments
  unfolding page
  page_same arguments =
      ap (λ (all : List Entry).
      record { entries = fitting (page_room limits arguments) all; is_end = length (fitting (page_room limits arguments) all) == length all }) (all_same arguments)

  page_refusals_same : (arguments : ReadDirArguments) → page_refusals limits over arguments ≡ page_refusals limits state arguments
  page_refusals_same arguments =
      ap₂ (λ (all : List Entry) (shown : ReadDirAnswer).
      (nat_lt (page_bytes limits arguments) empty_page_bytes, status.TooSmall) ∷ (nat_lt 0 (length all) && length shown.entries == 0, status.TooSmall) ∷ [])
      (all_same arguments) (page_same arguments)

  -- OPEN

  opened_number_same : (opening : Opening) → file_opened over opening ≡ file_opened state opening
  opened_number_same (Exclusive mode) = refl
  opened_number_same (Opening_of how (OtherClaim claim)) = refl
  opened_number_same (Opening_of how (ByName name)) =
      ap₂ (λ (there : Bool) (number : ℕ). cond there number (stamp_of state)) (name_there_same name) (named_same secret here_is (current state) name)
  opened_number_same (Opening_of how ByHandle) = refl

  asked_same : (arguments : OpenArguments) → asked_open over arguments ≡ asked_open state arguments
  asked_same arguments = ap (λ (number : ℕ). new_open state.context.client arguments.owner number arguments.access) (opened_number_same arguments.opening)

  change_same : (number after : ℕ) → change_to over number after ≡ change_to state number after
  change_same number after = ap (λ (change : ℕ). record { is_atomic = true; before = change; after = after }) (same_change secret here_is number)

  change_open_same : (opening : Opening) → change_at_open over opening ≡ change_at_open state opening
  change_open_same (Exclusive mode) = refl
  change_open_same (Opening_of how (OtherClaim claim)) = refl
  change_open_same (Opening_of how (ByName name)) =
      ap₂ (λ (there : Bool) (change : ℕ). change_to over (current state) (cond there change (stamp_of state))) (name_there_same name) (same_change secret here_is (current state))
      ∙ change_same (current state) (cond (is_name_there state name) (change_of (at (current state) here_is)) (stamp_of state))
  change_open_same (Opening_of how ByHandle) = refl

  set_open_same : (opening : Opening) → set_at_open over opening ≡ set_at_open state opening
  set_open_same (Exclusive mode) = refl
  set_open_same (Opening_of how (OtherClaim claim)) = refl
  set_open_same (Opening_of how (ByName name)) =
      ap (λ (there : Bool). cond there (cond (cuts how) size_alone []) (trimmed (given_by how).bitmap)) (name_there_same name)
  set_open_same (Opening_of how ByHandle) = refl

  -- The last tests, and whether it is a change

  moved_same : (arguments : RenameArguments) → moved_number over arguments ≡ moved_number state arguments
  moved_same arguments = named_same secret here_is (saved state) arguments.old_name

  target_same : (arguments : RenameArguments) → target_number over arguments ≡ target_number state arguments
  target_same arguments = named_same secret here_is (current state) arguments.new_name

  directory_of_same : {old new : ℕ} → old ≡ new → is_directory_at (hidden secret here_is) old ≡ is_directory_at here_is new
  directory_of_same {old} {new} same = ap (is_directory_at (hidden secret here_is)) same ∙ same_directory secret here_is new

  late_rename_same : (arguments : RenameArguments) → late_at_rename over arguments ≡ late_at_rename state arguments
  late_rename_same arguments =
      let moved = directory_of_same (moved_same arguments) in
      let below : is_below (hidden secret here_is) (moved_number over arguments) (current state) ≡ is_below here_is (moved_number state arguments) (current state)
      = ap (λ (n : ℕ). is_below (hidden secret here_is) n (current state)) (moved_same arguments) ∙ below-hidden secret here_is (moved_number state arguments) (current state) in
      let names : has_names (hidden secret here_is) (target_number over arguments) ≡ has_names here_is (target_number state arguments)
      = ap (has_names (hidden secret here_is)) (target_same arguments) ∙ has_names_same secret here_is (target_number state arguments) in
      ap₂ (λ (first second : Bool). (first, status.Inval) ∷ (second, status.Exist) ∷ [])
      (ap₂ (λ (a b : Bool). a && b) moved below)
      (ap₂ (λ (a b : Bool). a && b) (name_there_same arguments.new_name)
      (ap₂ (λ (a b : Bool). a || b) (ap₂ is_other moved (directory_of_same (target_same arguments))) names))

  late_create_same : (arguments : CreateArguments) → late_at_create over arguments ≡ late_at_create state arguments
  late_create_same (NewDirectory name given) = ap (λ (there : Bool). (there, status.Exist) ∷ []) (name_there_same name)
  late_create_same (OtherType number) = refl

  pub late_same : (operation : Argument) → late limits over operation ≡ late limits state operation
  late_same (Argument.Create arguments) = late_create_same arguments
  late_same (Argument.Lookup name) = ap (λ (there : Bool). (not there, status.NoEnt) ∷ []) (name_there_same name)
  late_same (Argument.Open arguments) = ap (λ (asked : Open). (is_table_full limits.opens state.opens asked, status.Delay) ∷ []) (asked_same arguments)
  late_same (Argument.ReadDir arguments) = page_refusals_same arguments
  late_same (Argument.Remove name) =
      ap (λ (some : Bool). (some, status.NotEmpty) ∷ [])
      (ap (has_names (hidden secret here_is)) (named_same secret here_is (current state) name) ∙ has_names_same secret here_is (number_named here_is (current state) name))
  late_same (Argument.Rename arguments) = ap (λ (tests : Refusals). cond (is_same_name state.context arguments) [] tests) (late_rename_same arguments)
  late_same _ = refl

  makes_same : (opening : Opening) → makes_file over opening ≡ makes_file state opening
  makes_same (Exclusive mode) = refl
  makes_same (Opening_of how (OtherClaim claim)) = refl
  makes_same (Opening_of how (ByName name)) = ap not (name_there_same name)
  makes_same (Opening_of how ByHandle) = refl

  cuts_same : (opening : Opening) → cuts_file over opening ≡ cuts_file state opening
  cuts_same (Exclusive mode) = refl
  cuts_same (Opening_of how (OtherClaim claim)) = refl
  cuts_same (Opening_of how (ByName name)) = ap (λ (there : Bool). there && cuts how) (name_there_same name)
  cuts_same (Opening_of how ByHandle) = refl

  pub alters_same : (operation : Argument) → alters over operation ≡ alters state operation
  alters_same (Argument.Open arguments) = ap₂ (λ (a b : Bool). a || b) (makes_same arguments.opening) (cuts_same arguments.opening)
  alters_same _ = refl

  -- What it does

  -- the same result, and the same except for these bytes
  record AsIf (one other : Stepped) : Type 0 where
    outcome : one.outcome ≡ other.outcome
    tree : hidden secret one.state.tree ≡ hidden secret other.state.tree
    changes : one.state.changes ≡ other.state.changes
    opens : one.state.opens ≡ other.state.opens
    context : one.state.context ≡ other.state.context

  as_if : (one other : Stepped) → AsIf one other → hiding_after secret one ≡ hiding_after secret other
  as_if one other is =
      ap₂ (λ (outcome : Outcome) (tree : Tree). record { outcome = outcome; state = record one.state { tree = tree } }) is.outcome is.tree
      ∙ (ap₂ (λ (changes : ℕ) (opens : Opens). record {
        outcome = other.outcome;
        state = record { tree = hidden secret other.state.tree; changes = changes; opens = opens; context = one.state.context };
      }) is.changes is.opens
      ∙ ap (λ (context : Context). record {
        outcome = other.outcome;
        state = record { tree = hidden secret other.state.tree; changes = other.state.changes; opens = other.state.opens; context = context };
      }) is.context)

  -- only an answer
  only_answers : (one other : Answer) → one ≡ other → AsIf (answered over one) (answered state other)
  only_answers one other same = record { outcome = ap Outcome.Done same; tree = hidden-twice secret here_is; changes = refl; opens = refl; context = refl }

  only_moves : (one other : ℕ) (answer : Answer) → one ≡ other → AsIf (answered (moved_to over one) answer) (answered (moved_to state other) answer)
  only_moves one other answer same =
      record { outcome = refl; tree = hidden-twice secret here_is; changes = refl; opens = refl; context = ap (at_node state.context) same }

  edits_same : (one other : List Edit) → one ≡ other → hidden secret (edited one (hidden secret here_is)) ≡ hidden secret (edited other here_is)
  edits_same one other same = ap (λ (edits : List Edit). hidden secret (edited edits (hidden secret here_is))) same ∙ edits-hidden secret other here_is

  touch_same : (number stamp now : ℕ) → touch (hidden secret here_is) number stamp now ≡ touch here_is number stamp now
  touch_same number stamp now = ap (λ (shown : Metadata). Show number shown) (same_touch secret here_is stamp now number)

  made_same : (name : List ℕ) (node : Node) (stamp now : ℕ) → made_edits (hidden secret here_is) (current state) name node stamp now ≡ made_edits here_is (current state) name node stamp now
  made_same name node stamp now =
      ap (λ (last : Edit). PutNode stamp node ∷ PutName (current state) stamp (record { name = name; number = stamp }) ∷ last ∷ []) (touch_same (current state) stamp now)

  creates_as_if : (now : ℕ) (arguments : CreateArguments) → AsIf (create over now arguments) (create state now arguments)
  creates_as_if now (NewDirectory name given) =
      let node : Node = new_directory state.context.cred (acl_of (at (current state) here_is)) given (stamp_of state) now in
      record {
        outcome = ap (λ (change : ℕ). Outcome.Done (Answer.Create (record {
          change = record { is_atomic = true; before = change; after = stamp_of state };
          was_set = trimmed given.bitmap;
        }))) (same_change secret here_is (current state));
        tree = edits_same _ (made_edits here_is (current state) name node (stamp_of state) now)
            (ap (λ (acl : List Ace). made_edits (hidden secret here_is) (current state) name
            (new_directory state.context.cred acl given (stamp_of state) now) (stamp_of state) now) (same_acl secret here_is (current state))
            ∙ made_same name node (stamp_of state) now);
        changes = refl;
        opens = refl;
        context = refl;
      }
  creates_as_if now (OtherType number) = record { outcome = refl; tree = hidden-twice secret here_is; changes = refl; opens = refl; context = refl }

  removes_as_if : (now : ℕ) (name : List ℕ) → AsIf (remove over now name) (remove state now name)
  removes_as_if now name = record {
    outcome = ap (λ (info : ChangeInfo). Outcome.Done (Answer.Remove info)) (change_same (current state) (stamp_of state));
    tree = edits_same _ (removed_edits here_is (current state) name (stamp_of state) now)
        (ap₂ (λ (names : Keyed DirEntry) (last : Edit). removal (current state) (entry_of name names) ++ (last ∷ []))
        (same_names secret here_is (current state)) (touch_same (current state) (stamp_of state) now));
    changes = refl;
    opens = ap (λ (number : ℕ). without_number number state.opens) (named_same secret here_is (current state) name);
    context = refl;
  }

  renames_as_if : (same : Bool) (now : ℕ) (arguments : RenameArguments) → AsIf (rename same over now arguments) (rename same state now arguments)
  renames_as_if true now arguments = only_answers _ _
      (ap₂ (λ (source target : ChangeInfo). Answer.Rename (record { source = source; target = target }))
      (ap (change_to over (saved state)) (same_change secret here_is (saved state)) ∙ change_same (saved state) (change_of (at (saved state) here_is)))
      (ap (change_to over (current state)) (same_change secret here_is (current state)) ∙ change_same (current state) (change_of (at (current state) here_is))))
  renames_as_if false now arguments = record {
    outcome = ap₂ (λ (source target : ChangeInfo). Outcome.Done (Answer.Rename (record { source = source; target = target })))
        (change_same (saved state) (stamp_of state)) (change_same (current state) (stamp_of state));
    tree = edits_same _ (renamed_edits here_is (saved state) (current state) arguments.old_name arguments.new_name (stamp_of state) now)
        (both
        (ap (λ (names : Keyed DirEntry). removal (current state) (entry_of arguments.new_name names)) (same_names secret here_is (current state)))
        (both
        (ap (λ (names : Keyed DirEntry). moving (saved state) (current state) (entry_of arguments.old_name names) arguments.new_name (stamp_of state)) (same_names secret here_is (saved state)))
        (ap₂ (λ (first second : Edit). first ∷ second ∷ []) (touch_same (saved state) (stamp_of state) now) (touch_same (current state) (stamp_of state) now))));
    changes = refl;
    opens = ap (λ (number : ℕ). without_number number state.opens) (target_same arguments);
    context = refl;
  }

  sets_as_if : (some : Bool) (now : ℕ) (arguments : SetAttrArguments) → AsIf (set_attributes some over now arguments) (set_attributes some state now arguments)
  sets_as_if true now arguments = record {
    outcome = refl;
    tree = edits_same _ (set_edits here_is (current state) arguments.attributes (stamp_of state) now)
        (ap (λ (shown : Metadata). size_edits (current state) (size_given arguments.attributes) ++ (Show (current state) shown ∷ []))
        (same_shown secret here_is arguments.attributes (stamp_of state) now (current state)));
    changes = refl;
    opens = refl;
    context = refl;
  }
  sets_as_if false now arguments = only_answers _ _ refl

  writes_as_if : (some : Bool) (now : ℕ) (arguments : WriteArguments) → AsIf (write some limits over now arguments) (write some limits state now arguments)
  writes_as_if true now arguments = record {
    outcome = refl;
    tree = edits_same _ (PutBytes (current state) arguments.offset (taken_bytes limits arguments) ∷ touch here_is (current state) (stamp_of state) now ∷ [])
        (ap (λ (last : Edit). PutBytes (current state) arguments.offset (taken_bytes limits arguments) ∷ last ∷ []) (touch_same (current state) (stamp_of state) now));
    changes = refl;
    opens = refl;
    context = refl;
  }
  writes_as_if false now arguments = only_answers _ _ refl

  -- the file that an OPEN makes, cuts or finds
  record Leaves (one other : State) : Type 0 where
    tree : hidden secret one.tree ≡ hidden secret other.tree
    changes : one.changes ≡ other.changes

  stays_as_if : Leaves over state
  stays_as_if = record { tree = hidden-twice secret here_is; changes = refl }

  cuts_as_if : (cut : Bool) (now one other : ℕ) → one ≡ other → Leaves (cut_or_not cut over now one) (cut_or_not cut state now other)
  cuts_as_if true now one other same = record {
    tree = edits_same _ (SetSize other 0 ∷ touch here_is other (stamp_of state) now ∷ [])
        (ap (λ (number : ℕ). SetSize number 0 ∷ touch (hidden secret here_is) number (stamp_of state) now ∷ []) same
        ∙ ap (λ (last : Edit). SetSize other 0 ∷ last ∷ []) (touch_same other (stamp_of state) now));
    changes = refl;
  }
  cuts_as_if false now one other same = stays_as_if

  with_file_as_if : (there : Bool) (now : ℕ) (how : OpenType) (name : List ℕ) → Leaves (with_file there over now how name) (with_file there state now how name)
  with_file_as_if true now how name = cuts_as_if (cuts how) now _ _ (named_same secret here_is (current state) name)
  with_file_as_if false now how name =
      let node : Node = new_file state.context.cred (acl_of (at (current state) here_is)) (given_by how) (stamp_of state) now in
      record {
        tree = edits_same _ (made_edits here_is (current state) name node (stamp_of state) now)
            (ap (λ (acl : List Ace). made_edits (hidden secret here_is) (current state) name
            (new_file state.context.cred acl (given_by how) (stamp_of state) now) (stamp_of state) now) (same_acl secret here_is (current state))
            ∙ made_same name node (stamp_of state) now);
        changes = refl;
      }

  done_as_if : (now : ℕ) (opening : Opening) → Leaves (opening_done over now opening) (opening_done state now opening)
  done_as_if now (Exclusive mode) = stays_as_if
  done_as_if now (Opening_of how (OtherClaim claim)) = stays_as_if
  done_as_if now (Opening_of how (ByName name)) =
      subst (λ (there : Bool). Leaves (with_file there over now how name) (opening_done state now (Opening_of how (ByName name)))) (sym (name_there_same name))
      (with_file_as_if (is_name_there state name) now how name)
  done_as_if now (Opening_of how ByHandle) = stays_as_if

  opens_as_if : (now : ℕ) (arguments : OpenArguments) → AsIf (open_file over now arguments) (open_file state now arguments)
  opens_as_if now arguments =
      let leaves = done_as_if now arguments.opening in
      let opened_same : opened state.opens (asked_open over arguments) ≡ opened state.opens (asked_open state arguments) = ap (opened state.opens) (asked_same arguments) in
      record {
        outcome = ap₂ (λ (by : Opened) (change : ChangeInfo). Outcome.Done (Answer.Open (record {
          state = opened_state state by;
          change = change;
          flags = 0;
          was_set = set_at_open over arguments.opening;
        }))) opened_same (change_open_same arguments.opening)
            ∙ ap (λ (set : List ℕ). Outcome.Done (Answer.Open (record {
              state = opened_state state (opened state.opens (asked_open state arguments));
              change = change_at_open state arguments.opening;
              flags = 0;
              was_set = set;
            }))) (set_open_same arguments.opening);
        tree = leaves.tree;
        changes = leaves.changes;
        opens = ap (λ (by : Opened). by.opens) opened_same;
        context = ap (λ (by : Opened). at_opened state.context by.state.number (opened_state state by)) opened_same;
      }

  -- READ of a file whose bytes are not hidden
  reads_as_if : secret (current state) ≡ false → (arguments : ReadArguments) → AsIf (read limits over arguments) (read limits state arguments)
  reads_as_if plain arguments =
      let same : at (current state) (hidden secret here_is) ≡ at (current state) here_is
      = at-hidden secret here_is (current state) ∙ (ap (λ (b : Bool). option_map (hidden_if b) (at (current state) here_is)) plain ∙ shown_plain (at (current state) here_is)) in
      only_answers _ _ (ap (λ (there : Option Node).
      let bytes = bytes_of_node there in
      Answer.Read (record {
        is_end = nat_le (length bytes) (arguments.offset + length (part_of limits bytes arguments));
        data_bytes = part_of limits bytes arguments;
      })) same)
    where
      shown_plain : (there : Option Node) → option_map (hidden_if false) there ≡ there
      shown_plain None = refl
      shown_plain (Some node) = refl

  IsRead : Argument → Bool
  IsRead (Argument.Read arguments) = true
  IsRead _ = false

  effect_as_if : (now : ℕ) (operation : Argument) → (IsRead operation ≡ true → secret (current state) ≡ false) → AsIf (effect limits over now operation) (effect limits state now operation)
  unfolding effect IsRead
  effect_as_if now (Argument.Access rights) plain = only_answers _ _ (ap Answer.Access (same_access secret here_is state.context.cred rights (current state)))
  effect_as_if now (Argument.Close arguments) plain = record { outcome = refl; tree = hidden-twice secret here_is; changes = refl; opens = refl; context = refl }
  effect_as_if now (Argument.Commit arguments) plain = only_answers _ _ refl
  effect_as_if now (Argument.Create arguments) plain = creates_as_if now arguments
  effect_as_if now (Argument.GetAttr bitmap) plain =
      only_answers _ _ (ap Answer.GetAttr (same_attributes secret here_is limits bitmap (current state) (current state)))
  effect_as_if now Argument.GetFh plain = only_answers _ _ refl
  effect_as_if now (Argument.Lookup name) plain = only_moves _ _ Answer.Lookup (named_same secret here_is (current state) name)
  effect_as_if now Argument.LookupParent plain = only_moves _ _ Answer.LookupParent (parent-hidden secret here_is (current state))
  effect_as_if now (Argument.Open arguments) plain = opens_as_if now arguments
  effect_as_if now (Argument.PutFh handle) plain = only_moves _ _ Answer.PutFh refl
  effect_as_if now Argument.PutRootFh plain = only_moves _ _ Answer.PutRootFh refl
  effect_as_if now (Argument.Read arguments) plain = reads_as_if (plain refl) arguments
  effect_as_if now (Argument.ReadDir arguments) plain = only_answers _ _ (ap Answer.ReadDir (page_same arguments))
  effect_as_if now (Argument.Remove name) plain = removes_as_if now name
  effect_as_if now (Argument.Rename arguments) plain = renames_as_if (is_same_name state.context arguments) now arguments
  effect_as_if now Argument.RestoreFh plain = record { outcome = refl; tree = hidden-twice secret here_is; changes = refl; opens = refl; context = refl }
  effect_as_if now Argument.SaveFh plain = record { outcome = refl; tree = hidden-twice secret here_is; changes = refl; opens = refl; context = refl }
  effect_as_if now (Argument.SetAttr arguments) plain = sets_as_if (sets arguments) now arguments
  effect_as_if now (Argument.Write arguments) plain = writes_as_if (has_bytes arguments) now arguments
  effect_as_if now (Argument.ExchangeId arguments) plain = record { outcome = refl; tree = hidden-twice secret here_is; changes = refl; opens = refl; context = refl }
  effect_as_if now (Argument.CreateSession arguments) plain = record { outcome = refl; tree = hidden-twice secret here_is; changes = refl; opens = refl; context = refl }
  effect_as_if now (Argument.DestroySession session) plain = record { outcome = refl; tree = hidden-twice secret here_is; changes = refl; opens = refl; context = refl }
  effect_as_if now (Argument.Sequence arguments) plain = record { outcome = refl; tree = hidden-twice secret here_is; changes = refl; opens = refl; context = refl }
  effect_as_if now (Argument.DestroyClientId client) plain = record { outcome = refl; tree = hidden-twice secret here_is; changes = refl; opens = refl; context = refl }
  effect_as_if now (Argument.ReclaimComplete one_fs) plain = record { outcome = refl; tree = hidden-twice secret here_is; changes = refl; opens = refl; context = refl }

  -- All tests

  rights_same : (one other : List (List Right)) → one ≡ other → without_rights over one ≡ without_rights state other
  rights_same one other same = ap not (ap (are_granted (hidden secret here_is) state.context) same ∙ granted_same secret here_is state.context other)

  refusals_same : (operation : Argument) → refusals limits over operation ≡ refusals limits state operation
  unfolding refusals
  refusals_same operation =
      both (early_same operation)
      (both
      (ap₂ (λ (test : Bool) (tests : Refusals). (test, status.Access) ∷ tests) (rights_same _ _ (need_first_same secret here_is state.context operation)) (middle_same operation))
      (ap₂ (λ (test : Bool) (tests : Refusals). (test, status.Access) ∷ tests) (rights_same _ _ (need_then_same secret here_is state.context operation)) (late_same operation)))

  change_refusals_same : (operation : Argument) (one other : Tree) → hidden secret one ≡ hidden secret other
      → change_refusals limits over operation one ≡ change_refusals limits state operation other
  change_refusals_same operation one other same =
      let room : fits limits one ≡ fits limits other = sym (fits-hidden secret limits one) ∙ (ap (fits limits) same ∙ fits-hidden secret limits other) in
      ap₂ (λ (changes has_room : Bool). (changes && not has_room, status.NoSpc) ∷ (changes && not (is_stamp_left state.changes), status.ServerFault) ∷ [])
      (alters_same operation) room

  -- The whole operation

  all_tests : (now : ℕ) (operation : Argument) → Refusals
  all_tests now operation = refusals limits state operation ++ change_refusals limits state operation (effect limits state now operation).state.tree

  unless_as_if : (operation : Argument) (one other : Stepped) → AsIf one other → (refusal : Option Status)
      → hiding_after secret (unless_refused over operation refusal one) ≡ hiding_after secret (unless_refused state operation refusal other)
  unless_as_if operation one other is None = as_if one other is
  unless_as_if operation one other is (Some reason) =
      as_if (refused over operation reason) (refused state operation reason)
      (record { outcome = refl; tree = hidden-twice secret here_is; changes = refl; opens = refl; context = refl })

  does_as_if : (now : ℕ) (operation : Argument) → AsIf (effect limits over now operation) (effect limits state now operation)
      → hiding_after secret (does limits over now operation) ≡ hiding_after secret (does limits state now operation)
  unfolding does
  does_as_if now operation is =
      ap (λ (tests : Refusals). hiding_after secret (unless_refused over operation (first_refusal tests) (effect limits over now operation)))
      (both (refusals_same operation) (change_refusals_same operation _ _ is.tree))
      ∙ unless_as_if operation _ _ is (first_refusal (refusals limits state operation ++ change_refusals limits state operation (effect limits state now operation).state.tree))

  -- a READ of hidden bytes is refused
  refused_alike : (operation : Argument) (one other : Stepped) (refusal : Option Status) → (refusal ≡ None → ⊥)
      → hiding_after secret (unless_refused over operation refusal one) ≡ hiding_after secret (unless_refused state operation refusal other)
  refused_alike operation one other None some = absurd (some refl)
  refused_alike operation one other (Some reason) some =
      as_if (refused over operation reason) (refused state operation reason)
      (record { outcome = refl; tree = hidden-twice secret here_is; changes = refl; opens = refl; context = refl })

  read_refused : (arguments : ReadArguments) (change : Refusals) → granted_on (at (current state) here_is) state.context.cred read_data ≡ false
      → first_refusal (refusals limits state (Argument.Read arguments) ++ change) ≡ None → ⊥
  unfolding refusals
  read_refused arguments change denied none =
      let tests = none_before (refusals limits state (Argument.Read arguments)) change none in
      let behind = none_after (early limits state (Argument.Read arguments)) _ tests in
      let rights = (none_earlier (without_rights state (here state.context read_data)) status.Access _ behind).0 in
      true≢false (sym (ap (λ (b : Bool). not ((b || false) && true)) denied) ∙ rights)

  read_as_if : (now : ℕ) (arguments : ReadArguments) → granted_on (at (current state) here_is) state.context.cred read_data ≡ false
      → hiding_after secret (does limits over now (Argument.Read arguments)) ≡ hiding_after secret (does limits state now (Argument.Read arguments))
  unfolding does effect
  read_as_if now arguments denied =
      let operation : Argument = Argument.Read arguments in
      let change : Refusals = change_refusals limits state operation here_is in
      ap (λ (tests : Refusals). hiding_after secret (unless_refused over operation (first_refusal tests) (read limits over arguments)))
      (both (refusals_same operation) refl)
      ∙ refused_alike operation (read limits over arguments) (read limits state arguments) (first_refusal (refusals limits state operation ++ change))
      (read_refused arguments change denied)

  blind_by : (now : ℕ) (operation : Argument) → MayReadNone secret here_is state.context.cred → (b : Bool) → secret (current state) ≡ b
      → hiding_after secret (does limits over now operation) ≡ hiding_after secret (does limits state now operation)
  unfolding IsRead
  blind_by now operation may false plain = does_as_if now operation (effect_as_if now operation (λ _. plain))
  blind_by now (Argument.Read arguments) may true kept = read_as_if now arguments (may (current state) kept)
  blind_by now operation may true kept = does_as_if now operation (effect_as_if now operation (λ reads. absurd (true≢false (sym reads))))

pub each_is_blind : EachIsBlind
each_is_blind limits secret state now operation may = blind_by limits secret state now operation may (secret (current state)) refl

-- A caller who may read them gets the same number of bytes

pub record ReadsAlike (one other : Outcome) : Type 0 where
  pub is_end : Bool
  pub first : List ℕ
  pub second : List ℕ
  pub one_is : one ≡ Outcome.Done (Answer.Read (record { is_end = is_end; data_bytes = first }))
  pub other_is : other ≡ Outcome.Done (Answer.Read (record { is_end = is_end; data_bytes = second }))
  pub long : length first ≡ length second

abbrev pub AreAlike : Outcome → Outcome → Type 0
AreAlike one other = (one ≡ other) ⊎ ReadsAlike one other

pub record Near (secret : ℕ → Bool) (one other : Stepped) : Type 0 where
  pub outcome : AreAlike one.outcome other.outcome
  pub state : hiding secret one.state ≡ hiding secret other.state

module _ (limits : Limits) (secret : ℕ → Bool) (state : State) where
  abbrev veiled_state : State
  veiled_state = hiding secret state

  shown-long : length (bytes_at (hidden secret state.tree) (current state)) ≡ length (bytes_at state.tree (current state))
  shown-long = same_at secret state.tree (λ (there : Option Node). length (bytes_of_node there)) by_if (current state)
    where
      by_content : (content : Content) → length (bytes_of (blank content)) ≡ length (bytes_of content)
      by_content (File bytes) = let none : ℕ = 0 in length-replicate (length bytes) none
      by_content (Directory names) = refl

      by_if : (b : Bool) (node : Node) → length (bytes_of (hidden_if b node).content) ≡ length (bytes_of node.content)
      by_if false node = refl
      by_if true node = by_content node.content

  reads_alike : (arguments : ReadArguments) → ReadsAlike (read limits veiled_state arguments).outcome (read limits state arguments).outcome
  reads_alike arguments =
      let one = bytes_at (hidden secret state.tree) (current state) in
      let other = bytes_at state.tree (current state) in
      let long : length (part_of limits one arguments) ≡ length (part_of limits other arguments)
      = length-take (min arguments.count limits.transfer_bytes) (drop arguments.offset one)
      ∙ (ap (min (min arguments.count limits.transfer_bytes)) (length-drop arguments.offset one ∙ (ap (λ (n : ℕ). n - arguments.offset) shown-long ∙ sym (length-drop arguments.offset other)))
      ∙ sym (length-take (min arguments.count limits.transfer_bytes) (drop arguments.offset other))) in
      record {
        is_end = nat_le (length other) (arguments.offset + length (part_of limits other arguments));
        first = part_of limits one arguments;
        second = part_of limits other arguments;
        one_is = ap₂ (λ (all some : ℕ). Outcome.Done (Answer.Read (record { is_end = nat_le all (arguments.offset + some); data_bytes = part_of limits one arguments }))) shown-long long;
        other_is = refl;
        long = long;
      }

  near_unless : (arguments : ReadArguments) (refusal : Option Status)
      → Near secret (unless_refused veiled_state (Argument.Read arguments) refusal (read limits veiled_state arguments))
      (unless_refused state (Argument.Read arguments) refusal (read limits state arguments))
  near_unless arguments None =
      record { outcome = inr (reads_alike arguments); state = ap (λ (t : Tree). record state { tree = t }) (hidden-twice secret state.tree) }
  near_unless arguments (Some reason) =
      record { outcome = inl refl; state = ap (λ (t : Tree). record state { tree = t }) (hidden-twice secret state.tree) }

  near_read : (now : ℕ) (arguments : ReadArguments) → Near secret (does limits veiled_state now (Argument.Read arguments)) (does limits state now (Argument.Read arguments))
  unfolding does effect
  near_read now arguments =
      let operation : Argument = Argument.Read arguments in
      subst (λ (tests : Refusals). Near secret (unless_refused veiled_state operation (first_refusal tests) (read limits veiled_state arguments)) (does limits state now operation))
      (sym (both (refusals_same limits secret state operation) refl))
      (near_unless arguments (first_refusal (refusals limits state operation ++ change_refusals limits state operation state.tree)))

  near_other : (now : ℕ) (operation : Argument) → (IsRead limits secret state operation ≡ true → secret (current state) ≡ false)
      → Near secret (does limits veiled_state now operation) (does limits state now operation)
  near_other now operation plain =
      let same = does_as_if limits secret state now operation (effect_as_if limits secret state now operation plain) in
      record { outcome = inl (ap (λ (s : Stepped). s.outcome) same); state = ap (λ (s : Stepped). s.state) same }

  pub each_is_near : (now : ℕ) (operation : Argument) → Near secret (does limits veiled_state now operation) (does limits state now operation)
  unfolding IsRead
  each_is_near now (Argument.Read arguments) = near_read now arguments
  each_is_near now operation = near_other now operation (λ reads. absurd (true≢false (sym reads)))

-- Two trees that differ in such bytes only

pub each_answers_alike : EachAnswersAlike
each_answers_alike limits secret one other now operation same may =
    let contexts : one.context ≡ other.context = ap (λ (s : State). s.context) same in
    let trees : hidden secret one.tree ≡ hidden secret other.tree = ap (λ (s : State). s.tree) same in
    let may_other : MayReadNone secret other.tree other.context.cred
    = λ number is_secret.
    sym (same_grant secret other.tree other.context.cred read_data number)
    ∙ (ap₂ (λ (t : Tree) (c : Context). granted_on (at number t) c.cred read_data) (sym trees) (sym contexts)
    ∙ (same_grant secret one.tree one.context.cred read_data number ∙ may number is_secret)) in
    ap (λ (stepped : Stepped). stepped.outcome) (sym (each_is_blind limits secret one now operation may))
    ∙ (ap (λ (s : State). (does limits s now operation).outcome) same
    ∙ ap (λ (stepped : Stepped). stepped.outcome) (each_is_blind limits secret other now operation may_other))
