-- A removal, a rename and a creation keep a tree well formed, and stamp what they alter.
use Rattle.std.proofs.Common.{ℕ, Bool, true, false, List, [], ◌∷◌, ◌++◌, ◌≡◌, ◌≢◌, ◌+◌, ◌<◌, ◌≤◌, ◌&&◌, ◌⊎◌, not, inl, inr, refl, sym, ap, ◌∙◌, subst, arith, eqb, eq-eqb, lt_irrefl, is_some, bytes_eq}
use Rattle.std.specs.Prelude.{Option, Some, None}
use Rattle.std.proofs.lemmas.Bool.{cases_eq}
use Rattle.model_tree.specs.Trees.Changes.{touched, touch, removal, moving, made_edits, removed_edits, renamed_edits, IsStamped, acl_of}
use Rattle.model_tree.specs.Trees.Charge.{fits}
use Rattle.model_tree.specs.Trees.Tree.{number_of_entry, Tree, Node, Content, File, Directory, DirEntry, root, names_of, names_at, names_of_node, is_directory, is_directory_node, is_directory_at, entry_of, found_or}
use Rattle.model_tree.specs.Trees.Edit.{PutNode, PutName, DropName, done, edited}
use Rattle.model_tree.specs.Trees.Keyed.{Keyed, at, is_key, IsAbove}
use Rattle.model_tree.specs.Trees.Limits.{Limits}
use Rattle.model_tree.specs.Refusals.Name.{name_refusals}
use Rattle.model_tree.specs.Refusals.Refusal.{first_refusal}
use Rattle.model_tree.specs.Trees.WellFormed.{one_if, links_from, links_to, links_owed, times_named, IsFrom, AreNames, IsContent, IsNode, IsWellFormed, IsBefore}
use Rattle.model_tree.proofs.Trees.KeyedLaws.{at-first, at-rest, at-above, some≢none}
use Rattle.model_tree.proofs.Trees.EditLaws.{IsForest, forest_of, well_formed_of, from_more, from_leaf, directory_at}
use Rattle.model_tree.proofs.Trees.EditViews.{entry_before, name_is_dropped, node_is_dropped, name_is_put, node_is_put, node_is_shown}
use Rattle.model_tree.proofs.Trees.AncestorLaws.{total-some}

-- Names and what they lead to

found_cases : (test : Bool) (entry : ℕ × DirEntry) (others : Option (ℕ × DirEntry)) (found : ℕ × DirEntry) → found_or test entry others ≡ Some found
    → ((test ≡ true) × (entry ≡ found)) ⊎ ((test ≡ false) × (others ≡ Some found))
found_cases true entry others found is = inl (refl, value entry found is)
  where
    value : (x y : ℕ × DirEntry) → Some x ≡ Some y → x ≡ y
    value x y same = cc
found_cases false entry others found is = inr (refl, is)

-- a name that is found is at its stamp
pub entry_found : (name : List ℕ) (names : Keyed DirEntry) (least : ℕ) → IsAbove least names → (found : ℕ × DirEntry) → entry_of name names ≡ Some found
    → (at found.0 names ≡ Some found.1) × (bytes_eq name found.1.name ≡ true)
entry_found name [] least above found is = absurd (some≢none found (sym is))
entry_found name (entry ∷ rest) least above found is =
    elim (found_cases (bytes_eq name entry.1.name) entry (entry_of name rest) found is) [
      | inl here ↦ subst (λ (f : ℕ × DirEntry). (at f.0 (entry ∷ rest) ≡ Some f.1) × (bytes_eq name f.1.name ≡ true)) here.1
          (at-first entry.0 entry.0 entry.1 rest refl, here.0)
      | inr behind ↦
          let others = entry_found name rest entry.0 above.1 found behind.1 in
          let high : entry.0 < found.0 = at-above rest entry.0 found.0 found.1 above.1 others.0 in
          (at-rest entry.0 found.0 entry.1 rest (omega arith) ∙ others.0, others.1)
    ]

pub not_found : (test : Bool) (entry : ℕ × DirEntry) (others : Option (ℕ × DirEntry)) → found_or test entry others ≡ None
    → (test ≡ false) × (others ≡ None)
not_found true entry others none = absurd (some≢none entry none)
not_found false entry others none = (refl, none)

pub never_named : (name : List ℕ) (names : Keyed DirEntry) → entry_of name names ≡ None → times_named name names ≡ 0
never_named name [] none = refl
never_named name (entry ∷ rest) none =
    let apart = not_found (bytes_eq name entry.1.name) entry (entry_of name rest) none in
    let others : times_named name rest ≡ 0 = never_named name rest apart.1 in
    rw apart.0 (omega arith)

names_of_content : (limits : Limits) (content : Content) → IsContent limits content → AreNames limits (names_of content)
names_of_content limits (File bytes) is = record { rising = tt; named = λ stamp entry has. absurd (some≢none entry (sym has)); once = λ name. omega arith }
names_of_content limits (Directory names) is = is

is_owed : (b c : Bool) → 1 ≤ one_if (b && c) → b ≡ true
is_owed true c owed = refl
is_owed false c owed = absurd (omega (arith, owed))

key_node : (o : Option Node) → is_some o ≡ true → (node : Node) × (o ≡ Some node)
key_node None is = absurd (cc)
key_node (Some node) is = (node, refl)

module _ (limits : Limits) (tree : Tree) (old_forest : IsForest limits tree None) where
  pub names_in : (number : ℕ) → AreNames limits (names_at tree number)
  names_in number = by_node (at number tree) refl
    where
      by_node : (o : Option Node) → at number tree ≡ o → AreNames limits (names_of_node o)
      by_node None is = record { rising = tt; named = λ stamp entry has. absurd (some≢none entry (sym has)); once = λ name. omega arith }
      by_node (Some node) is = names_of_content limits node.content (old_forest.nodes number node is).content

  -- what a name leads to is a node
  pub led_to : (place stamp : ℕ) (entry : DirEntry) → at stamp (names_at tree place) ≡ Some entry → (node : Node) × (at entry.number tree ≡ Some node)
  led_to place stamp entry has = by_node (at place tree) refl has
    where
      by_node : (o : Option Node) → at place tree ≡ o → at stamp (names_of_node o) ≡ Some entry → (node : Node) × (at entry.number tree ≡ Some node)
      by_node None is named = absurd (some≢none entry (sym named))
      by_node (Some node) is named =
          let one : one_if (eqb entry.number entry.number) ≡ 1 = ap one_if (eq-eqb entry.number entry.number refl) in
          let here : one_if (eqb entry.number entry.number) ≤ links_from entry.number node
          = total-some (λ (e : DirEntry). one_if (eqb e.number entry.number)) (names_of node.content) stamp entry named in
          let whole : links_from entry.number node ≤ links_to tree entry.number = total-some (links_from entry.number) tree place node is in
          let owed : links_to tree entry.number + 0 ≡ links_owed tree entry.number = old_forest.linked entry.number in
          key_node (at entry.number tree) (is_owed (is_key entry.number tree) (not (eqb entry.number root)) (omega arith))

  -- A name is removed, with what it leads to, if the directory has it

  pub record Removed (after : Tree) (place : ℕ) (name : List ℕ) (target : ℕ) : Type 0 where
    pub forest : IsForest limits after None
    pub fewer : (number of : ℕ) (other : DirEntry) → at of (names_at after number) ≡ Some other → at of (names_at tree number) ≡ Some other
    pub keeps : (number of : ℕ) (other : DirEntry) → at of (names_at tree number) ≡ Some other
        → (number ≡ place → bytes_eq name other.name ≡ false) → at of (names_at after number) ≡ Some other
    pub directories : (number : ℕ) → number ≢ target → is_directory_at after number ≡ is_directory_at tree number
    pub lists : (number : ℕ) → number ≢ target → acl_of (at number after) ≡ acl_of (at number tree)
    pub elsewhere : (number : ℕ) → number ≢ place → number ≢ target → at number after ≡ at number tree
    pub none : times_named name (names_at after place) ≡ 0
    pub gone : at target after ≡ None
    pub before : (bound : ℕ) → IsBefore bound tree → IsBefore bound after

  some_value : {A : Type 0} (x y : A) → Some x ≡ Some y → x ≡ y
  some_value x y same = cc

  removed : (place : ℕ) (name : List ℕ) → is_directory_at tree place ≡ true → (found : Option (ℕ × DirEntry)) → entry_of name (names_at tree place) ≡ found
      → ((entry : ℕ × DirEntry) → found ≡ Some entry → names_at tree entry.1.number ≡ [])
      → Removed (edited (removal place found) tree) place name (number_of_entry found)
  removed place name is None lacks empty = record {
    forest = old_forest;
    fewer = λ number of other has. has;
    keeps = λ number of other has apart. has;
    directories = λ number apart. refl;
    lists = λ number apart. refl;
    elsewhere = λ number apart off. refl;
    none = never_named name (names_at tree place) lacks;
    gone = nothing_at_zero (at 0 tree) refl;
    before = λ bound before. before;
  }
    where
      nothing_at_zero : (o : Option Node) → at 0 tree ≡ o → o ≡ None
      nothing_at_zero None there = refl
      nothing_at_zero (Some node) there = absurd (lt_irrefl 0 (at-above tree 0 0 node old_forest.numbered there))
  removed place name is (Some entry) has empty =
      let stands = entry_found name (names_at tree place) 0 (names_in place).rising entry has in
      let drop = name_is_dropped limits tree old_forest place entry.0 entry.1 is stands.0 in
      let node = led_to place entry.0 entry.1 stands.0 in
      let no_names : names_at tree entry.1.number ≡ [] = empty entry refl in
      let apart : entry.1.number ≢ place = λ same. some≢none entry.1
      (sym stands.0 ∙ (sym (ap (λ n. at entry.0 (names_at tree n)) same) ∙ ap (at entry.0) no_names)) in
      let free = node_is_dropped limits (done (DropName place entry.0) tree) entry.1.number drop.forest node.0
      (drop.elsewhere entry.1.number apart ∙ node.1) (sym (ap names_of_node node.1) ∙ no_names) in
      record {
        forest = free.forest;
        fewer = λ number of other named. drop.fewer number of other (sym (ap (at of) (free.names number)) ∙ named);
        keeps = λ number of other named differs. ap (at of) (free.names number) ∙ (drop.stays number of
            (λ one same. true≢false (sym stands.1 ∙ (ap (λ (e : DirEntry). bytes_eq name e.name)
            (some_value entry.1 other (sym stands.0 ∙ (sym (ap (λ n. at entry.0 (names_at tree n)) one)
            ∙ (sym (ap (λ k. at k (names_at tree number)) same) ∙ named)))) ∙ differs one))) ∙ named);
        directories = λ number off. ap is_directory_node (free.elsewhere number off) ∙ drop.directories number;
        lists = λ number off. ap acl_of (free.elsewhere number off) ∙ drop.lists number;
        elsewhere = λ number away off. free.elsewhere number off ∙ drop.elsewhere number away;
        none =
            let sum : times_named name (names_at (done (DropName place entry.0) tree) place) + one_if (bytes_eq name entry.1.name) ≡ times_named name (names_at tree place)
            = drop.gone name in
            let one : one_if (bytes_eq name entry.1.name) ≡ 1 = ap one_if stands.1 in
            let most : times_named name (names_at tree place) ≤ 1 = (names_in place).once name in
            let same = ap (times_named name) (free.names place) in
            omega arith;
        gone = free.gone;
        before = λ bound before. free.before bound (drop.before bound before);
      }
    where
      true≢false : true ≡ false → ⊥
      true≢false same = cc

-- The three changes. Each requires what the operation's tests establish, and gives a well-formed
-- tree whose stamps are below each later one, in which what the change altered has its stamp.

abbrev pub is_file_node : Option Node → Bool
is_file_node None = false
is_file_node (Some node) = not (is_directory node.content)

-- a change that removes only the node of this number, if there is one
pub record IsChanged (limits : Limits) (stamp : ℕ) (tree after : Tree) (gone : ℕ) : Type 0 where
  pub well_formed : fits limits after ≡ true → IsWellFormed limits after
  pub before : (bound : ℕ) → stamp < bound → IsBefore bound after
  pub stamped : IsStamped stamp tree after
  pub differs : after ≡ tree → ⊥
  pub files : (number : ℕ) → number ≢ gone → is_file_node (at number tree) ≡ true → is_file_node (at number after) ≡ true

-- no directory is a file
no_file : (tree : Tree) (number : ℕ) → is_directory_at tree number ≡ true → is_file_node (at number tree) ≡ true → ⊥
no_file tree number directory file = by_node (at number tree) directory file
  where
    by_node : (o : Option Node) → is_directory_node o ≡ true → is_file_node o ≡ true → ⊥
    by_node None directory file = let never : ⊥ = cc in never
    by_node (Some node) directory file = let same : not true ≡ true = rw directory at file in let never : ⊥ = cc in never

pub was_before : (stamp later : ℕ) (tree : Tree) → IsBefore stamp tree → stamp < later → IsBefore later tree
was_before stamp later tree before order = record {
  number = λ number node is. let low : number < stamp = before.number number node is in omega arith;
  change = λ number node is. let low : node.change < stamp = before.change number node is in omega arith;
  entry = λ number node of entry is has. let low : of < stamp = before.entry number node of entry is has in omega arith;
}

pub directory_key : (tree : Tree) (number : ℕ) → is_directory_at tree number ≡ true → is_key number tree ≡ true
directory_key tree number is = ap is_some (directory_at (at number tree) is).1

module _ (limits : Limits) (tree : Tree) (well : IsWellFormed limits tree) (stamp : ℕ) (before : IsBefore stamp tree) (now : ℕ) where
  another : (place : ℕ) → is_directory_at tree place ≡ true → (after : Tree) → ((node : Node) → at place after ≡ Some node → node.change ≡ stamp)
      → after ≡ tree → ⊥
  another place is after here same =
      let there = directory_at (at place tree) is in
      let change : there.0.change ≡ stamp = here there.0 (ap (at place) same ∙ there.1) in
      let low : there.0.change < stamp = before.change place there.0 there.1 in
      absurd (omega arith)

  -- A directory with names is not what an entry without names leads to, nor is it what no entry
  -- leads to
  apart_from_target : (number place : ℕ) (found : Option (ℕ × DirEntry)) → is_directory_at tree number ≡ true
      → ((of : ℕ × DirEntry) → found ≡ Some of → (names_at tree of.1.number ≡ []) × ((stamp : ℕ) × (entry : DirEntry) × (at stamp (names_at tree number) ≡ Some entry)))
      → number ≢ number_of_entry found
  apart_from_target number place None is has same =
      let there = directory_at (at number tree) is in
      let high : 0 < number = at-above tree 0 number there.0 well.numbered there.1 in
      absurd (omega arith)
  apart_from_target number place (Some found) is has same =
      let what = has found refl in
      let named = what.1 in
      some≢none named.1 (sym named.2 ∙ (ap (λ n. at named.0 (names_at tree n)) same ∙ ap (at named.0) what.0))

  pub removal_keeps : (place : ℕ) (name : List ℕ) (entry : ℕ × DirEntry) → is_directory_at tree place ≡ true
      → entry_of name (names_at tree place) ≡ Some entry → names_at tree entry.1.number ≡ []
      → IsChanged limits stamp tree (edited (removed_edits tree place name stamp now) tree) entry.1.number
  removal_keeps place name entry is has empty =
      let forest = forest_of limits tree well in
      let stands = entry_found name (names_at tree place) 0 (names_in limits tree forest place).rising entry has in
      let gone = removed limits tree forest place name is (Some entry) has (λ other same.
      ap (λ (e : ℕ × DirEntry). names_at tree e.1.number) (sym (one_value entry other same)) ∙ empty) in
      let apart : place ≢ entry.1.number = apart_from_target place place (Some entry) is
      (λ other same. (
        ap (λ (e : ℕ × DirEntry). names_at tree e.1.number) (sym (one_value entry other same)) ∙ empty,
        (entry.0, entry.1, stands.0),
      )) in
      let between = edited (removal place (Some entry)) tree in
      let after = done (touch tree place stamp now) between in
      let metadata = node_is_shown limits between None gone.forest place (touched (at place tree) stamp now)
      (gone.directories place apart ∙ is) (gone.lists place apart) in
      subst (λ (found : Option (ℕ × DirEntry)). IsChanged limits stamp tree
      (edited (removal place found ++ (touch tree place stamp now ∷ [])) tree) entry.1.number) (sym has) (record {
        well_formed = λ fitting. well_formed_of limits after metadata.forest fitting;
        before = λ bound low. metadata.before bound low (gone.before bound (was_before stamp bound tree before low));
        stamped = record {
          node = λ number node there. elim (cases_eq number place) [
            | inl one ↦ inr (
              metadata.here node (ap (λ n. at n after) (sym one) ∙ there),
              inl (ap (λ n. is_key n tree) one ∙ directory_key tree place is),
            )
            | inr away ↦ elim (cases_eq number entry.1.number) [
              | inl target ↦ absurd (some≢none node (sym there ∙ (metadata.elsewhere number away ∙ (ap (λ n. at n between) target ∙ gone.gone))))
              | inr off ↦ inl (sym (gone.elsewhere number away off) ∙ (sym (metadata.elsewhere number away) ∙ there))
            ]
          ];
          entry = λ number of other named. inl (gone.fewer number of other (sym (ap (at of) (metadata.names number)) ∙ named));
        };
        differs = another place is after metadata.here;
        files = λ number off file. elim (cases_eq number place) [
          | inl one ↦ absurd (no_file tree place is (ap (λ n. is_file_node (at n tree)) (sym one) ∙ file))
          | inr away ↦ ap is_file_node (metadata.elsewhere number away ∙ gone.elsewhere number away off) ∙ file
        ];
      })
    where
      one_value : (x y : ℕ × DirEntry) → Some x ≡ Some y → x ≡ y
      one_value x y same = cc

  pub rename_keeps : (from to : ℕ) (old_name new_name : List ℕ) (entry : ℕ × DirEntry) → is_directory_at tree from ≡ true → is_directory_at tree to ≡ true
      → entry_of old_name (names_at tree from) ≡ Some entry → 0 < stamp
      → first_refusal (name_refusals limits new_name) ≡ None
      → (from ≡ to → bytes_eq new_name entry.1.name ≡ false)
      → ((target : ℕ × DirEntry) → entry_of new_name (names_at tree to) ≡ Some target → names_at tree target.1.number ≡ [])
      → (IsFrom tree entry.1.number to → ⊥)
      → IsChanged limits stamp tree (edited (renamed_edits tree from to old_name new_name stamp now) tree)
      (number_of_entry (entry_of new_name (names_at tree to)))
  rename_keeps from to old_name new_name entry is_from is_to has high allowed differs empty outside =
      subst (λ (found : Option (ℕ × DirEntry)). IsChanged limits stamp tree
      (edited (removal to (entry_of new_name (names_at tree to)) ++ (moving from to found new_name stamp
      ++ (touch tree from stamp now ∷ touch tree to stamp now ∷ []))) tree) (number_of_entry (entry_of new_name (names_at tree to)))) (sym has)
      (by_target (entry_of new_name (names_at tree to)) refl)
    where
      forest : IsForest limits tree None
      forest = forest_of limits tree well

      stands : (at entry.0 (names_at tree from) ≡ Some entry.1) × (bytes_eq old_name entry.1.name ≡ true)
      stands = entry_found old_name (names_at tree from) 0 (names_in limits tree forest from).rising entry has

      moved : (between : Tree) (target : ℕ) → Removed limits tree forest between to new_name target → from ≢ target → to ≢ target
          → IsChanged limits stamp tree (edited (DropName from entry.0 ∷ PutName to stamp (record { name = new_name; number = entry.1.number })
          ∷ touch tree from stamp now ∷ touch tree to stamp now ∷ []) between) target
      moved between target gone from_apart to_apart =
          let t3 = done (DropName from entry.0) between in
          let drop = name_is_dropped limits between gone.forest from entry.0 entry.1 (gone.directories from from_apart ∙ is_from)
          (gone.keeps from entry.0 entry.1 stands.0 differs) in
          let t4 = done (PutName to stamp (record { name = new_name; number = entry.1.number })) t3 in
          let fewer : (number of : ℕ) (other : DirEntry) → at of (names_at t3 number) ≡ Some other → at of (names_at tree number) ≡ Some other
          = λ number of other named. gone.fewer number of other (drop.fewer number of other named) in
          let none : times_named new_name (names_at t3 to) ≡ 0
          = let less = drop.times new_name to in let zero_named = gone.none in omega arith in
          let put = name_is_put limits t3 to stamp (record { name = new_name; number = entry.1.number }) drop.forest
          (drop.directories to ∙ (gone.directories to to_apart ∙ is_to)) (entry_before stamp t3 (drop.before stamp (gone.before stamp before))) high allowed none
          (λ below. outside (from_more t3 tree fewer entry.1.number to below)) in
          let t5 = done (touch tree from stamp now) t4 in
          let first = node_is_shown limits t4 None put.forest from (touched (at from tree) stamp now)
          (put.directories from ∙ (drop.directories from ∙ (gone.directories from from_apart ∙ is_from)))
          (put.lists from ∙ (drop.lists from ∙ gone.lists from from_apart)) in
          let t6 = done (touch tree to stamp now) t5 in
          let second = node_is_shown limits t5 None first.forest to (touched (at to tree) stamp now)
          (first.directories to ∙ (put.directories to ∙ (drop.directories to ∙ (gone.directories to to_apart ∙ is_to))))
          (first.lists to ∙ (put.lists to ∙ (drop.lists to ∙ gone.lists to to_apart))) in
          record {
            well_formed = λ fitting. well_formed_of limits t6 second.forest fitting;
            before = λ bound low. second.before bound low (first.before bound low (put.before bound low (drop.before bound
                (gone.before bound (was_before stamp bound tree before low)))));
            stamped = record {
              node = λ number node there. elim (cases_eq number to) [
                | inl one ↦ inr (
                  second.here node (ap (λ n. at n t6) (sym one) ∙ there),
                  inl (ap (λ n. is_key n tree) one ∙ directory_key tree to is_to),
                )
                | inr off_to ↦ elim (cases_eq number from) [
                  | inl one ↦ inr (
                    first.here node (ap (λ n. at n t5) (sym one) ∙ (sym (second.elsewhere number off_to) ∙ there)),
                    inl (ap (λ n. is_key n tree) one ∙ directory_key tree from is_from),
                  )
                  | inr off_from ↦
                      let back : at number t6 ≡ at number between
                      = second.elsewhere number off_to ∙ (first.elsewhere number off_from
                      ∙ (put.elsewhere number off_to ∙ drop.elsewhere number off_from)) in
                      elim (cases_eq number target) [
                        | inl one ↦ absurd (some≢none node (sym there ∙ (back ∙ (ap (λ n. at n between) one ∙ gone.gone))))
                        | inr off ↦ inl (sym (gone.elsewhere number off_to off) ∙ (sym back ∙ there))
                      ]
                ]
              ];
              entry = λ number of other named. elim (put.entries number of other
                  (sym (ap (at of) (first.names number)) ∙ (sym (ap (at of) (second.names number)) ∙ named))) [
                    | inl was ↦ inl (fewer number of other was)
                    | inr one ↦ inr one
                  ];
            };
            differs = another to is_to t6 second.here;
            files = λ number off file. elim (cases_eq number to) [
              | inl one ↦ absurd (no_file tree to is_to (ap (λ n. is_file_node (at n tree)) (sym one) ∙ file))
              | inr off_to ↦ elim (cases_eq number from) [
                | inl one ↦ absurd (no_file tree from is_from (ap (λ n. is_file_node (at n tree)) (sym one) ∙ file))
                | inr off_from ↦ ap is_file_node (second.elsewhere number off_to ∙ (first.elsewhere number off_from
                    ∙ (put.elsewhere number off_to ∙ (drop.elsewhere number off_from ∙ gone.elsewhere number off_to off)))) ∙ file
              ]
            ];
          }

      by_target : (found : Option (ℕ × DirEntry)) → entry_of new_name (names_at tree to) ≡ found
          → IsChanged limits stamp tree (edited (removal to found ++ (moving from to (Some entry) new_name stamp
          ++ (touch tree from stamp now ∷ touch tree to stamp now ∷ []))) tree) (number_of_entry found)
      by_target None lacks =
          moved tree 0 (removed limits tree forest to new_name is_to None lacks (λ other same. absurd (some≢none other (sym same))))
          (apart_from_target from to None is_from (λ other same. absurd (some≢none other (sym same))))
          (apart_from_target to to None is_to (λ other same. absurd (some≢none other (sym same))))
      by_target (Some target) there =
          let target_stands = entry_found new_name (names_at tree to) 0 (names_in limits tree forest to).rising target there in
          moved (edited (removal to (Some target)) tree) target.1.number
          (removed limits tree forest to new_name is_to (Some target) there (λ other same. empty other (there ∙ same)))
          (apart_from_target from to (Some target) is_from (λ other same. (empty other (there ∙ same), (entry.0, entry.1, stands.0))))
          (apart_from_target to to (Some target) is_to (λ other same. (empty other (there ∙ same), (target.0, target.1, target_stands.0))))

  pub creation_keeps : (place : ℕ) (name : List ℕ) (node : Node) → is_directory_at tree place ≡ true → entry_of name (names_at tree place) ≡ None
      → 0 < stamp → first_refusal (name_refusals limits name) ≡ None → IsNode limits node → names_of node.content ≡ [] → node.change ≡ stamp
      → IsChanged limits stamp tree (edited (made_edits tree place name node stamp now) tree) 0
  creation_keeps place name node is lacks high allowed is_node empty change =
      let forest = forest_of limits tree well in
      let unused : at stamp tree ≡ None = nothing_unless (at stamp tree) (λ found has. lt_irrefl stamp (before.number stamp found has)) in
      let there = directory_at (at place tree) is in
      let low : place < stamp = before.number place there.0 there.1 in
      let apart : place ≢ stamp = omega (arith, low) in
      let t1 = done (PutNode stamp node) tree in
      let made = node_is_put limits tree forest stamp node unused high is_node empty in
      let no_names : names_at t1 stamp ≡ [] = made.names stamp ∙ ap names_of_node unused in
      let t2 = done (PutName place stamp (record { name = name; number = stamp })) t1 in
      let put = name_is_put limits t1 place stamp (record { name = name; number = stamp }) made.forest
      (ap is_directory_node (made.elsewhere place apart) ∙ is)
      (λ number of other named. entry_before stamp tree before number of other (sym (ap (at of) (made.names number)) ∙ named)) high allowed
      (ap (times_named name) (made.names place) ∙ never_named name (names_at tree place) lacks)
      (λ below. apart (from_leaf t1 stamp no_names place below)) in
      let t3 = done (touch tree place stamp now) t2 in
      let metadata = node_is_shown limits t2 None put.forest place (touched (at place tree) stamp now)
      (put.directories place ∙ (ap is_directory_node (made.elsewhere place apart) ∙ is))
      (put.lists place ∙ ap acl_of (made.elsewhere place apart)) in
      record {
        well_formed = λ fitting. well_formed_of limits t3 metadata.forest fitting;
        before = λ bound order. metadata.before bound order (put.before bound order
            (made.before bound order (let new : node.change < bound = omega (arith, order, change) in new) (was_before stamp bound tree before order)));
        stamped = record {
          node = λ number other has. elim (cases_eq number place) [
            | inl one ↦ inr (metadata.here other (ap (λ n. at n t3) (sym one) ∙ has), inl (ap (λ n. is_key n tree) one ∙ directory_key tree place is))
            | inr away ↦ elim (cases_eq number stamp) [
              | inl one ↦ inr (
                sym (ap (λ (n : Node). n.change) (some_node node other (sym made.here ∙ (sym (put.elsewhere stamp (λ same. apart (sym same)))
                    ∙ (sym (metadata.elsewhere stamp (λ same. apart (sym same))) ∙ (ap (λ n. at n t3) (sym one) ∙ has)))))) ∙ change,
                inr one,
              )
              | inr off ↦ inl (sym (made.elsewhere number off) ∙ (sym (put.elsewhere number away) ∙ (sym (metadata.elsewhere number away) ∙ has)))
            ]
          ];
          entry = λ number of other named. elim (put.entries number of other (sym (ap (at of) (metadata.names number)) ∙ named)) [
            | inl was ↦ inl (sym (ap (at of) (made.names number)) ∙ was)
            | inr one ↦ inr one
          ];
        };
        differs = another place is t3 metadata.here;
        files = λ number off file. elim (cases_eq number place) [
          | inl one ↦ absurd (no_file tree place is (ap (λ n. is_file_node (at n tree)) (sym one) ∙ file))
          | inr away ↦ elim (cases_eq number stamp) [
            | inl one ↦ absurd (no_node (at stamp tree) unused (ap (λ n. is_file_node (at n tree)) (sym one) ∙ file))
            | inr apart_from_new ↦ ap is_file_node (metadata.elsewhere number away ∙ (put.elsewhere number away ∙ made.elsewhere number apart_from_new)) ∙ file
          ]
        ];
      }
    where
      some_node : (x y : Node) → Some x ≡ Some y → x ≡ y
      some_node x y same = cc

      no_node : (o : Option Node) → o ≡ None → is_file_node o ≡ true → ⊥
      no_node o none file = let is : is_file_node None ≡ true = rw none at file in let never : ⊥ = cc in never

      nothing_unless : (o : Option Node) → ((x : Node) → o ≡ Some x → ⊥) → o ≡ None
      nothing_unless None never = refl
      nothing_unless (Some x) never = absurd (never x refl)
