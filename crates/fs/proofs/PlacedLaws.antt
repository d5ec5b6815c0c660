-- A name in place of another one, in a well-formed tree: its edits can be done one after the other.
use Rattle.std.proofs.Common.{◌≡◌, ◌≢◌, ◌≤◌, ◌<◌, ◌+◌, ◌⊎◌, ℕ, Bool, true, false, List, [], ◌∷◌, Option, Some, None, length, eqb, refl, sym, ap, ◌∙◌, arith, is_some, inl, inr, bytes_eq, lt_irrefl, true≢false}
use Rattle.std.proofs.lemmas.Bool.{cases_eq, cases_Bool, eqb-true}
use Rattle.directory.specs.Records.{record_from}
use Rattle.tree_transaction.specs.declared.nodes.Metadata.{Metadata}
use Rattle.tree_transaction.specs.Nodes.{metadata_of}
use Rattle.tree_edits.specs.declared.edit.Edit.{Edit}
use Rattle.tree_edits.specs.Edits.{AreEntries, AreDoable}
use Rattle.model_tree.specs.declared.limits.Limits.{Limits}
use Rattle.model_tree.specs.Trees.Edit.{DropName, DropNode, PutName, done, name_put, name_dropped, showing, altered_at}
use Rattle.model_tree.specs.Trees.Keyed.{IsAbove, Keyed, at, is_key, without, kept_or_not}
use Rattle.model_tree.specs.Trees.Tree.{Tree, Node, DirEntry, names_of_node, names_at, is_directory_node, is_directory_at, entry_of, found_or}
use Rattle.model_tree.specs.Trees.WellFormed.{one_if, times_named, IsWellFormed, IsBefore}
use Rattle.model_tree.proofs.Trees.ChangeLaws.{entry_found, names_in, led_to, never_named, directory_key}
use Rattle.model_tree.proofs.Trees.EditLaws.{IsForest, forest_of, directory_at}
use Rattle.model_tree.proofs.Trees.EditViews.{entry_before, NameDropped, name_is_dropped, NodeDropped, node_is_dropped}
use Rattle.model_tree.proofs.Trees.KeyedLaws.{at-below, at-with_same, IsAbove-without}
use Rattle.model_tree.proofs.Facts.OptionLaws.{none_unless, some≢none}
use Rattle.fs.specs.declared.renaming.Renaming.{Renaming}
use Rattle.fs.specs.RenameTests.{new_place, old_place}
use Rattle.fs.proofs.FlatLaws.{key-altered}
use Rattle.fs.specs.Forms.{moving}

-- Names of a directory

not_named : (name : List ℕ) (names : Keyed DirEntry) → times_named name names ≡ 0 → entry_of name names ≡ None
not_named name [] none = refl
not_named name (entry ∷ rest) none = by_test (bytes_eq name entry.1.name) refl (not_named name rest)
  where
    by_test : (b : Bool) → bytes_eq name entry.1.name ≡ b → (times_named name rest ≡ 0 → entry_of name rest ≡ None) → entry_of name (entry ∷ rest) ≡ None
    by_test true is others = absurd (let one : one_if (bytes_eq name entry.1.name) ≡ 1 = ap one_if is in omega (arith, none, one))
    by_test false is others =
        let zero : one_if (bytes_eq name entry.1.name) ≡ 0 = ap one_if is in
        ap (λ (b : Bool). found_or b entry (entry_of name rest)) is ∙ others (omega (arith, none, zero))

-- an entry stays if one of another stamp goes
entry_stays : (name : List ℕ) (names : Keyed DirEntry) (stamp : ℕ) (found : ℕ × DirEntry) → entry_of name names ≡ Some found → found.0 ≢ stamp
    → entry_of name (without names stamp) ≡ Some found
entry_stays name [] stamp found is apart = is
entry_stays name (entry ∷ rest) stamp found is apart =
    by_test (bytes_eq name entry.1.name) (cases_Bool (eqb stamp entry.0)) refl is (λ others. entry_stays name rest stamp found others apart)
  where
    here : (x y : ℕ × DirEntry) → (let one : Option (ℕ × DirEntry) = Some x in one ≡ Some y) → x ≡ y
    here x y same = cc

    by_test : (b : Bool) → (eqb stamp entry.0 ≡ true) ⊎ (eqb stamp entry.0 ≡ false) → bytes_eq name entry.1.name ≡ b → found_or b entry (entry_of name rest) ≡ Some found
        → (entry_of name rest ≡ Some found → entry_of name (without rest stamp) ≡ Some found) → entry_of name (without (entry ∷ rest) stamp) ≡ Some found
    by_test true (inl same) told is others = absurd (apart (sym (ap (λ (e : ℕ × DirEntry). e.0) (here entry found is)) ∙ sym (eqb-true stamp entry.0 same)))
    by_test true (inr other) told is others = ap (λ (b : Bool). entry_of name (kept_or_not b entry (without rest stamp))) other ∙ ap (λ (b : Bool). found_or b entry (entry_of name (without rest stamp))) told ∙ is
    by_test false (inl same) told is others = ap (λ (b : Bool). entry_of name (kept_or_not b entry (without rest stamp))) same ∙ others is
    by_test false (inr other) told is others = ap (λ (b : Bool). entry_of name (kept_or_not b entry (without rest stamp))) other ∙ ap (λ (b : Bool). found_or b entry (entry_of name (without rest stamp))) told
        ∙ others is

-- names after edits
names-dropped : (tree : Tree) (number stamp : ℕ) → is_directory_at tree number ≡ true → names_at (done (DropName number stamp) tree) number ≡ without (names_at tree number) stamp
names-dropped tree number stamp is =
    let found = directory_at (at number tree) is in
    ap (λ (o : Option Node). names_at (altered_at (name_dropped stamp) tree number o) number) found.1
    ∙ ap names_of_node (at-with_same tree number (name_dropped stamp found.0))
    ∙ sym (ap (λ (o : Option Node). without (names_of_node o) stamp) found.1)

-- What is there before the name goes to its place: nothing under the new name, and the old one still

pub record IsFree (limits : Limits) (own : ℕ) (tree : Tree) (from to : ℕ) (old_name new_name : List ℕ) (old : ℕ × DirEntry) : Type 0 where
  pub forest : IsForest limits tree None
  pub before : IsBefore own tree
  pub from_directory : is_directory_at tree from ≡ true
  pub to_directory : is_directory_at tree to ≡ true
  pub entry : entry_of old_name (names_at tree from) ≡ Some old
  pub none : times_named new_name (names_at tree to) ≡ 0

module _ (limits : Limits) (tree : Tree) (well : IsWellFormed limits tree) (own : ℕ) (before : IsBefore own tree) (from to : ℕ) (old_name new_name : List ℕ) (old : ℕ × DirEntry)
    (from_directory : is_directory_at tree from ≡ true) (to_directory : is_directory_at tree to ≡ true) (entry : entry_of old_name (names_at tree from) ≡ Some old) where
  forest : IsForest limits tree None
  forest = forest_of limits tree well

  pub free_there : entry_of new_name (names_at tree to) ≡ None → IsFree limits own tree from to old_name new_name old
  free_there none = record {
    forest = forest;
    before = before;
    from_directory = from_directory;
    to_directory = to_directory;
    entry = entry;
    none = never_named new_name (names_at tree to) none;
  }

  module _ (target : ℕ × DirEntry) (under : entry_of new_name (names_at tree to) ≡ Some target) (empty : names_at tree target.1.number ≡ []) (differs : from ≡ to → bytes_eq new_name old.1.name ≡ false) where
    stands : (at target.0 (names_at tree to) ≡ Some target.1) × (bytes_eq new_name target.1.name ≡ true)
    stands = entry_found new_name (names_at tree to) 0 (names_in limits tree forest to).rising target under

    old_stands : (at old.0 (names_at tree from) ≡ Some old.1) × (bytes_eq old_name old.1.name ≡ true)
    old_stands = entry_found old_name (names_at tree from) 0 (names_in limits tree forest from).rising old entry

    pub from_apart : from ≢ target.1.number
    from_apart = λ same. some≢none old (sym entry ∙ ap (λ (n : ℕ). entry_of old_name (names_at tree n)) same ∙ ap (entry_of old_name) empty)

    pub to_apart : to ≢ target.1.number
    to_apart = λ same. some≢none target (sym under ∙ ap (λ (n : ℕ). entry_of new_name (names_at tree n)) same ∙ ap (entry_of new_name) empty)

    pub target_there : is_key target.1.number tree ≡ true
    target_there = ap is_some (led_to limits tree forest to target.0 target.1 stands.0).1

    drop : NameDropped limits tree (done (DropName to target.0) tree) to target.0 target.1
    drop = name_is_dropped limits tree forest to target.0 target.1 to_directory stands.0

    node : (node : Node) × (at target.1.number tree ≡ Some node)
    node = led_to limits tree forest to target.0 target.1 stands.0

    gone : NodeDropped limits (done (DropName to target.0) tree) (done (DropNode target.1.number) (done (DropName to target.0) tree)) target.1.number
    gone = node_is_dropped limits (done (DropName to target.0) tree) target.1.number drop.forest node.0
        (drop.elsewhere target.1.number (λ same. to_apart (sym same)) ∙ node.1) (sym (ap names_of_node node.1) ∙ empty)

    entry_then : (from ≡ to) ⊎ (from ≢ to) → entry_of old_name (names_at (done (DropName to target.0) tree) from) ≡ Some old
    entry_then (inl one) =
        ap (λ (n : ℕ). entry_of old_name (names_at (done (DropName to target.0) tree) n)) one
        ∙ ap (entry_of old_name) (names-dropped tree to target.0 to_directory)
        ∙ entry_stays old_name (names_at tree to) target.0 old (ap (λ (n : ℕ). entry_of old_name (names_at tree n)) (sym one) ∙ entry) (λ same.
        true≢false (sym stands.1 ∙ ap (λ (e : DirEntry). bytes_eq new_name e.name)
        (the target.1 old.1 (sym stands.0 ∙ ap (λ (k : ℕ). at k (names_at tree to)) (sym same) ∙ ap (λ (n : ℕ). at old.0 (names_at tree n)) (sym one) ∙ old_stands.0)) ∙ differs one))
      where
        the : (x y : DirEntry) → (let first : Option DirEntry = Some x in first ≡ Some y) → x ≡ y
        the x y same = cc
    entry_then (inr apart) = ap (λ (o : Option Node). entry_of old_name (names_of_node o)) (drop.elsewhere from apart) ∙ entry

    pub free_then : IsFree limits own (done (DropNode target.1.number) (done (DropName to target.0) tree)) from to old_name new_name old
    free_then = record {
      forest = gone.forest;
      before = gone.before own (drop.before own before);
      from_directory = ap is_directory_node (gone.elsewhere from from_apart) ∙ drop.directories from ∙ from_directory;
      to_directory = ap is_directory_node (gone.elsewhere to to_apart) ∙ drop.directories to ∙ to_directory;
      entry = ap (entry_of old_name) (gone.names from) ∙ entry_then (cases_eq from to);
      none =
          let sum : times_named new_name (names_at (done (DropName to target.0) tree) to) + one_if (bytes_eq new_name target.1.name) ≡ times_named new_name (names_at tree to) = drop.gone new_name in
          let one : one_if (bytes_eq new_name target.1.name) ≡ 1 = ap one_if stands.1 in
          let most : times_named new_name (names_at tree to) ≤ 1 = (names_in limits tree forest to).once new_name in
          let same = ap (times_named new_name) (gone.names to) in
          omega (arith, sum, one, most, same);
    }

-- What its edits require of the tree, only in equalities

abbrev pub moving_edits : Renaming → (old_stamp number stamp : ℕ) → (from_metadata to_metadata : Metadata) → List Edit
moving_edits asked old_stamp number stamp from_metadata to_metadata = moving number (old_place asked old_stamp) (new_place asked stamp) from_metadata to_metadata

pub record CanMove (tree : Tree) (asked : Renaming) (old_stamp number own : ℕ) : Type 0 where
  pub from_directory : is_directory_at tree asked.from ≡ true
  pub entry : entry_of asked.old_name.now (names_at tree asked.from) ≡ Some (record_from old_stamp asked.old_name.now number)
  pub to_key : is_key asked.to tree ≡ true
  pub to_directory : is_directory_at (done (DropName asked.from old_stamp) tree) asked.to ≡ true
  pub new_name : entry_of asked.new_name.now (names_at (done (DropName asked.from old_stamp) tree) asked.to) ≡ None
  pub new_stamp : at own (names_at (done (DropName asked.from old_stamp) tree) asked.to) ≡ None

pub can_move : (limits : Limits) (tree : Tree) (own number old_stamp : ℕ) (asked : Renaming)
    → IsFree limits own tree asked.from asked.to asked.old_name.now asked.new_name.now (record_from old_stamp asked.old_name.now number) → CanMove tree asked old_stamp number own
can_move limits tree own number old_stamp asked free =
    let first = done (DropName asked.from old_stamp) tree in
    let stands = entry_found asked.old_name.now (names_at tree asked.from) 0 (names_in limits tree free.forest asked.from).rising (record_from old_stamp asked.old_name.now number) free.entry in
    let dropped = name_is_dropped limits tree free.forest asked.from old_stamp (record { name = asked.old_name.now; number = number }) free.from_directory stands.0 in
    record {
      from_directory = free.from_directory;
      entry = free.entry;
      to_key = directory_key tree asked.to free.to_directory;
      to_directory = dropped.directories asked.to ∙ free.to_directory;
      new_name = not_named asked.new_name.now (names_at first asked.to)
          (let less = dropped.times asked.new_name.now asked.to in let none = free.none in omega (arith, less, none));
      new_stamp = none_unless (at own (names_at first asked.to)) (λ one is. lt_irrefl own (entry_before own first (dropped.before own free.before) asked.to own one is));
    }

-- No name has the stamp 0

pub zero_open : (limits : Limits) (tree : Tree) (own from to : ℕ) (old_name new_name : List ℕ) (stamp : ℕ) (entry : DirEntry) → IsFree limits own tree from to old_name new_name (stamp, entry)
    → at 0 (names_at (done (DropName from stamp) tree) to) ≡ None
zero_open limits tree own from to old_name new_name stamp entry free = by_place (cases_eq to from)
  where
    above : (place : ℕ) → IsAbove 0 (names_at tree place)
    above place = (let names = names_in limits tree free.forest place in names.rising)

    dropped : NameDropped limits tree (done (DropName from stamp) tree) from stamp entry
    dropped = name_is_dropped limits tree free.forest from stamp entry free.from_directory (entry_found old_name (names_at tree from) 0 (names_in limits tree free.forest from).rising (stamp, entry) free.entry).0

    by_place : (to ≡ from) ⊎ (to ≢ from) → at 0 (names_at (done (DropName from stamp) tree) to) ≡ None
    by_place (inl same) = ap (λ (n : ℕ). at 0 (names_at (done (DropName from stamp) tree) n)) same ∙ ap (at 0) (names-dropped tree from stamp free.from_directory)
        ∙ at-below (without (names_at tree from) stamp) 0 0 (IsAbove-without (names_at tree from) stamp 0 (above from)) (omega arith)
    by_place (inr apart) = ap (λ (o : Option Node). at 0 (names_of_node o)) ((dropped).elsewhere to apart) ∙ at-below (names_at tree to) 0 0 (above to) (omega arith)

-- Then it goes to its place

module _ (tree : Tree) (own number old_stamp : ℕ) (asked : Renaming) (from_metadata to_metadata : Metadata) (can : CanMove tree asked old_stamp number own)
    (high : 0 < own) (some : 0 < length asked.new_name.now) (short : length asked.new_name.now ≤ 255)
    (from_entries : AreEntries (metadata_of from_metadata).acl) (to_entries : AreEntries (metadata_of to_metadata).acl) where
  abbrev put : DirEntry
  put = record { name = asked.new_name.now; number = number }

  abbrev first : Tree
  first = done (DropName asked.from old_stamp) tree

  abbrev second : Tree
  second = done (PutName asked.to own put) first

  pub moved_doable : AreDoable tree (moving_edits asked old_stamp number own from_metadata to_metadata)
  moved_doable = (
    record { there = can.from_directory; number = number; named = can.entry },
    (
      record { there = can.to_directory; new_name = can.new_name; new_stamp = can.new_stamp; some = some; short = short; above = high },
      (
        record {
          there = key-altered (name_put own put) first asked.to asked.from ∙ key-altered (name_dropped old_stamp) tree asked.from asked.from ∙ directory_key tree asked.from can.from_directory;
          entries = from_entries;
        },
        (
          record {
            there = key-altered (showing (metadata_of from_metadata)) second asked.from asked.to ∙ key-altered (name_put own put) first asked.to asked.to
                ∙ key-altered (name_dropped old_stamp) tree asked.from asked.to ∙ can.to_key;
            entries = to_entries;
          },
          tt,
        ),
      ),
    ),
  )
