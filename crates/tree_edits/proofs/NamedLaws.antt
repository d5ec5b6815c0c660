-- Names of the outline and names of cached nodes.
use Rattle.std.proofs.Common.{◌≡◌, ◌<◌, ◌+◌, ◌≤◌, eqb, ℕ, Bool, true, false, List, [], ◌∷◌, Option, Some, None, length, refl, sym, ap, ◌∙◌, arith, subst}
use Rattle.std.specs.Prelude.{bytes_eq, if◌then◌else◌, nat_le, IsTrue}
use Rattle.std.proofs.lemmas.Bool.{and_parts, le-leb, leb-true}
use Rattle.directory.specs.declared.names.TheConstants.Names.{MAX_NAMES}
use Rattle.directory.specs.Listing.{by_stamp, without_entry}
use Rattle.directory.specs.Records.{Record, record_from, place_of, with_record, without_place}
use Rattle.directory.proofs.ByStamp.{at-by_stamp}
use Rattle.directory.proofs.NamedByStamp.{entry_of-by_stamp}
use Rattle.directory.proofs.RecordMaps.{puts_by_stamp, removes_by_stamp}
use Rattle.tree_transaction.specs.Naming.{CanName, HasNameAt, blocks_named}
use Rattle.tree_transaction.proofs.KnownLaws.{cached_at}
use Rattle.tree_edits.specs.Edits.{IsNewName, IsName}
use Rattle.tree_edits.specs.Outlines.{tree_without_data}
use Rattle.tree_edits.proofs.PlaceLaws.{IsThere, there_is, names_there}
use Rattle.layout.specs.CachedNodes.{CachedNode, node_of, content_of}
use Rattle.layout.specs.Known.{AreCached, HasContent, HasNames}
use Rattle.layout.proofs.ChargeLaws.{length-by_stamp, length-with, above_by_stamp}
use Rattle.model_tree.specs.declared.node.NodeKind.{NodeKind}
use Rattle.model_tree.specs.declared.node.NodeKind.TheVariants as kind
use Rattle.model_tree.specs.Trees.Charge.{charge, charge_of_blocks, blocks_of, few_names}
use Rattle.model_tree.specs.Trees.Edit.{altered, altered_at, name_put}
use Rattle.model_tree.specs.Trees.Keyed.{at, here_or, with, without}
use Rattle.model_tree.proofs.Trees.KeyedLaws.{at-with_same}
use Rattle.model_tree.specs.Trees.Tree.{Tree, Node, DirEntry, entry_of, names_at, names_of, names_of_node, found_or}

-- a name that is not among records comes after the last
pub place_behind : (name : List ℕ) (names : List Record) → entry_of name names ≡ None → place_of name names ≡ length names
place_behind name [] none = refl
place_behind name (entry ∷ names) none = by_name (place_behind name names) (bytes_eq name entry.1.name) none
  where
    by_name : (entry_of name names ≡ None → place_of name names ≡ length names) → (same : Bool) → found_or same entry (entry_of name names) ≡ None
        → (if same then 0 else place_of name names + 1) ≡ length (entry ∷ names)
    by_name rest true found = absurd cc
    by_name rest false found = omega (arith, rest found)

-- and one that is among them, before
pub place_before : (name : List ℕ) (names : List Record) (found : Record) → entry_of name names ≡ Some found → place_of name names < length names
place_before name [] found some = absurd cc
place_before name (entry ∷ names) found some = by_name (place_before name names found) (bytes_eq name entry.1.name) some
  where
    by_name : (entry_of name names ≡ Some found → place_of name names < length names) → (same : Bool) → found_or same entry (entry_of name names) ≡ Some found
        → (if same then 0 else place_of name names + 1) < length (entry ∷ names)
    by_name rest true here = omega arith
    by_name rest false later = omega (arith, rest later)

-- in a tree of directories with few names each has few
pub few-at : (most : ℕ) (tree : Tree) (number : ℕ) (node : Node) → IsTrue (few_names most tree) → at number tree ≡ Some node → length (names_of node.content) ≤ most
few-at most [] number node few there = absurd cc
few-at most (entry ∷ rest) number node few there = by_key (few-at most rest number node) (eqb number entry.0) there
  where
    some_is : {x y : Node} → (let one : Option Node = Some x in one ≡ Some y) → x ≡ y
    some_is e = cc

    parts : (nat_le (length (names_of entry.1.content)) most ≡ true) × (few_names most rest ≡ true)
    parts = and_parts (nat_le (length (names_of entry.1.content)) most) (few_names most rest) few

    by_key : (IsTrue (few_names most rest) → at number rest ≡ Some node → length (names_of node.content) ≤ most) → (same : Bool)
        → here_or same entry.1 (at number rest) ≡ Some node → length (names_of node.content) ≤ most
    by_key later true here = subst (λ (n : Node). length (names_of n.content) ≤ most) (some_is here) (leb-true (length (names_of entry.1.content)) most parts.0)
    by_key later false found = later parts.1 found

pub few_named : (most : ℕ) (tree : Tree) (number : ℕ) → IsTrue (few_names most tree) → length (names_at tree number) ≤ most
few_named most tree number few = by_node (at number tree) refl
  where
    by_node : (found : Option Node) → at number tree ≡ found → length (names_of_node found) ≤ most
    by_node None is = omega arith
    by_node (Some node) is = few-at most tree number node few is

-- so for a greater limit
pub few_more : (most more : ℕ) (tree : Tree) → most ≤ more → IsTrue (few_names most tree) → IsTrue (few_names more tree)
few_more most more [] less few = refl
few_more most more (entry ∷ rest) less few =
    let parts = and_parts (nat_le (length (names_of entry.1.content)) most) (few_names most rest) few in
    rw (le-leb (length (names_of entry.1.content)) more (omega (arith, less, leb-true (length (names_of entry.1.content)) most parts.0)), few_more most more rest less parts.1) refl

-- The names of a directory's cached node

module _ (nodes : ℕ) (mark : ℕ → ℕ) (cached_nodes : List (Option CachedNode)) (known : AreCached nodes mark cached_nodes) (place number : ℕ) (it : IsThere cached_nodes place number) (is : it.cached.fields.kind ≡ kind.Directory) where
  pub has_names : HasNames it.cached
  has_names = let cached_node = cached_at nodes mark cached_nodes place it.cached known it.there in subst (λ (k : NodeKind). HasContent k it.cached) is cached_node.content

  names_are : names_at (tree_without_data cached_nodes) number ≡ by_stamp it.cached.names
  names_are = names_there cached_nodes known.apart place number it is

  pub entry_is : (name : List ℕ) → entry_of name (names_at (tree_without_data cached_nodes) number) ≡ entry_of name it.cached.names
  entry_is name = ap (entry_of name) names_are ∙ entry_of-by_stamp name it.cached.names has_names.names.apart has_names.stamped.apart

  pub stamp_is : (stamp : ℕ) → at stamp (names_at (tree_without_data cached_nodes) number) ≡ at stamp it.cached.names
  stamp_is stamp = ap (at stamp) names_are ∙ at-by_stamp stamp it.cached.names

  -- what a new name requires
  module _ (stamp : ℕ) (name : List ℕ) (to : ℕ) (new : IsNewName (tree_without_data cached_nodes) number stamp (record { name = name; number = to })) where
    unnamed : entry_of name it.cached.names ≡ None
    unnamed = sym (entry_is name) ∙ new.new_name

    unstamped : at stamp it.cached.names ≡ None
    unstamped = sym (stamp_is stamp) ∙ new.new_stamp

    -- there is room for it if there are few names after it
    pub room_there : IsTrue (few_names MAX_NAMES (altered (name_put stamp (record { name = name; number = to })) (tree_without_data cached_nodes) number)) → length it.cached.names < MAX_NAMES
    unfolding node_of
    room_there few =
        let entry : DirEntry = record { name = name; number = to } in
        let node = node_of (λ n. []) it.cached in
        let behind : at number (altered (name_put stamp entry) (tree_without_data cached_nodes) number) ≡ Some (name_put stamp entry node) =
        ap (λ (found : Option Node). at number (altered_at (name_put stamp entry) (tree_without_data cached_nodes) number found)) (there_is cached_nodes known.apart place number it)
        ∙ at-with_same (tree_without_data cached_nodes) number (name_put stamp entry node) in
        let most = few-at MAX_NAMES (altered (name_put stamp entry) (tree_without_data cached_nodes) number) number (name_put stamp entry node) few behind in
        let names = ap (λ (k : NodeKind). length (with (names_of (content_of (λ n. []) k it.cached)) stamp entry)) is in
        let more = length-with (by_stamp it.cached.names) stamp 0 entry (above_by_stamp it.cached.names has_names.stamped) (at-by_stamp stamp it.cached.names ∙ unstamped) in
        omega (arith, most, names, more, length-by_stamp it.cached.names has_names.stamped)

    pub can_name : length it.cached.names < MAX_NAMES → CanName cached_nodes place name stamp
    can_name room = record {
      cached = it.cached;
      there = it.there;
      directory = is;
      few = room;
      some = new.some;
      short = new.short;
      new_name = (place_behind name it.cached.names unnamed, unnamed);
      above = new.above;
      new_stamp = unstamped;
    }

    pub names_with : by_stamp (with_record it.cached.names (record_from stamp name to)) ≡ with (by_stamp it.cached.names) stamp (record { name = name; number = to })
    names_with =
        let puts = puts_by_stamp it.cached.names (record_from stamp name to) has_names.names.apart has_names.stamped new.above unstamped in
        puts.entries ∙ ap (λ (found : Option Record). with (without_entry (by_stamp it.cached.names) found) stamp (record { name = name; number = to })) unnamed

    -- with which the directory is charged for the blocks that it needs with one more name
    pub named_charge : charge (name_put stamp (record { name = name; number = to }) (node_of (λ n. []) it.cached)) ≡ charge_of_blocks (blocks_named it.cached)
    unfolding node_of
    named_charge = ap (λ (k : NodeKind). charge_of_blocks (blocks_of kind.Directory (length (with (names_of (content_of (λ n. []) k it.cached)) stamp (record { name = name; number = to }))))) is
        ∙ ap (λ (n : ℕ). charge_of_blocks (blocks_of kind.Directory n))
        (length-with (by_stamp it.cached.names) stamp 0 (record { name = name; number = to }) (above_by_stamp it.cached.names has_names.stamped) (at-by_stamp stamp it.cached.names ∙ unstamped)
        ∙ omega (arith, length-by_stamp it.cached.names has_names.stamped))

  -- what a name that is removed requires
  module _ (stamp : ℕ) (name : List ℕ)
      (named : IsName (tree_without_data cached_nodes) number stamp name) where
    pub entry_there : entry_of name it.cached.names ≡ Some (record_from stamp name named.number)
    entry_there = sym (entry_is name) ∙ named.named

    within : place_of name it.cached.names < length it.cached.names
    within = place_before name it.cached.names (record_from stamp name named.number) entry_there

    pub has_name : HasNameAt cached_nodes place name
    has_name = record {
      cached = it.cached;
      there = it.there;
      directory = is;
      within = within;
    }

    pub names_without : by_stamp (without_place it.cached.names (place_of name it.cached.names)) ≡ without (by_stamp it.cached.names) stamp
    names_without =
        let removes = removes_by_stamp name it.cached.names within has_names.stamped in
        removes.entries ∙ ap (without_entry (by_stamp it.cached.names)) entry_there
