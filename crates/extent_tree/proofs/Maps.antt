-- Maps of nodes.
use Rattle.std.proofs.Common.{[], ◌∷◌, refl, true, false, ltb, eqb, Result, Ok, Err, ◌≢◌, inl, inr, Vec, Global, ◌≡◌, ℕ, List, Option, Some, None, sym, ap, ◌∙◌, subst}
use Rattle.std.specs.BTreeMap.{BTreeMap, IsClone, IsUnchanged, Updates, get}
use Rattle.std.specs.Map.{lookup}
use Rattle.std.specs.List.{AllByRecursion}
use Rattle.std.specs.Result.{OnErr, IsErrAnd}
use Rattle.std.proofs.lemmas.Bool.{cases_lt, lt-ltb, le-ltb, ne_eqb}
use Rattle.std.specs.declared.rc.Rc.{Rc}
use Rattle.std.specs.Option.{MatchOption, IsSomeAnd}
use Rattle.std.specs.Ordering.{nat_cmp}
use Rattle.std.specs.BTreeMap.{is_at}
use Rattle.std.proofs.lemmas.Map.Entries.{lookup_clone}
use Rattle.extent_tree.specs.declared.entry.Entry.{Entry}
use Rattle.extent_tree.specs.Held.{entries_at, entries_by, Blocks, blocks_by}
use Rattle.extent_tree.specs.Setting.{AreDistinct}
use Rattle.extent_tree.specs.Tree.{IsRoot, file_indexes}
use Rattle.extent_tree.proofs.Counts.{distinct_as}
use Rattle.extent_tree.proofs.Frames.{AreSameAt}

same_node : {R : Type 0} → (items : R → List Entry) (D : R → R → Type 0) → ((v w : R) → D v w → items w ≡ items v) → (a b : Option R) → MatchOption a (b ≡ None) (λ v. IsSomeAnd b (D v)) → entries_at items b ≡ entries_at items a
same_node items D same None b h = ap (entries_at items) h
same_node items D same (Some v) None h = absurd h
same_node items D same (Some v) (Some w) h = same v w h

-- a copy of a map has the same entries
pub entries_by-clone : {R : Type 0} → (items : R → List Entry) (C : ℕ → ℕ → Type 0) (D : R → R → Type 0) (m n : BTreeMap ℕ R) → IsClone C D m n → ((x y : ℕ) → C x y → y ≡ x) → ((v w : R) → D v w → items w ≡ items v) → entries_by items m ≡ entries_by items n
entries_by-clone items C D m n clone key same =
    let each : (s : ℕ) → entries_by items m s ≡ entries_by items n s =
    λ s. sym (same_node items D same (get nat_cmp m s) (get nat_cmp n s) (lookup_clone C D (is_at (nat_cmp s)) (λ x y h. ap (is_at (nat_cmp s)) (key x y h)) m.entries n.entries clone)) in
    λ i s. each s i

-- so it is the same tree
pub root_of-clone : (index other : ℕ → List Entry) (b : ℕ) (root found : List Entry) → index ≡ other → found ≡ root → IsRoot index b root → IsRoot other b found
root_of-clone index other b root found same here is = subst (IsRoot other b) (sym here) (subst (λ (f : ℕ → List Entry). IsRoot f b root) same is)

pub blocks_of-clone : (index other : ℕ → List Entry) (b : ℕ) (root found : List Entry) (seen : Blocks) → index ≡ other → found ≡ root → blocks_by index b root ≡ seen → blocks_by other b found ≡ seen
blocks_of-clone index other b root found seen same here view_is =
    ap (blocks_by other b) here ∙ sym (ap (λ (f : ℕ → List Entry). blocks_by f b root) same) ∙ view_is

pub distinct_of-clone : (index other : ℕ → List Entry) (b : ℕ) (root found : List Entry) → index ≡ other → found ≡ root → AreDistinct (file_indexes index b root) → AreDistinct (file_indexes other b found)
distinct_of-clone index other b root found same here h =
    distinct_as (file_indexes other b found) (file_indexes index b root) (ap (file_indexes other b) here ∙ sym (ap (λ (f : ℕ → List Entry). file_indexes f b root) same)) h

abbrev pub Node : Type 0
Node = Rc (Vec Entry Global) Global

abbrev pub items_of : Node → List Entry
items_of node = node.value.items

pub nodes-clone : (m n : BTreeMap ℕ Node) → IsClone (λ x y. y ≡ x) (λ (v w : Node). w.value ≡ v.value) m n → entries_by items_of m ≡ entries_by items_of n
nodes-clone m n clone =
    entries_by-clone items_of (λ x y. y ≡ x) (λ (v w : Node). w.value ≡ v.value) m n clone (λ x y h. h) (λ v w h. ap (λ (x : Vec Entry Global). x.items) h)

-- ---- one more node

apart_at : (k s : ℕ) → (s ≡ k → ⊥) → is_at (nat_cmp k) s ≡ false
apart_at k s apart =
    let differ : eqb k s ≡ false = ne_eqb k s (λ e. apart (sym e)) in
    elim (cases_lt k s) [
      | inl lt ↦ let test : ltb k s ≡ true = lt-ltb k s lt in rw test refl
      | inr le ↦ let test : ltb k s ≡ false = le-ltb k s le in rw (test, differ) refl
    ]

pub inserted_here : (m n : BTreeMap ℕ Node) (sector : ℕ) (node : Node) (entries : List Entry) → Updates nat_cmp m n sector (Some node) → node.value.items ≡ entries → entries_by items_of n sector ≡ entries
inserted_here m n sector node entries h is = ap (entries_at items_of) h.1 ∙ is

pub inserted_apart : (m n : BTreeMap ℕ Node) (sector : ℕ) (node : Node) (sectors : List ℕ) → Updates nat_cmp m n sector (Some node) → AllByRecursion (λ (s : ℕ). s ≢ sector) sectors → AreSameAt (entries_by items_of m) (entries_by items_of n) sectors
inserted_apart m n sector node [] h apart = tt
inserted_apart m n sector node (s ∷ sectors) h apart = (ap (entries_at items_of) (h.2 s (apart_at sector s apart.0)), inserted_apart m n sector node sectors h apart.1)

pub inserted_other : (m n : BTreeMap ℕ Node) (sector : ℕ) (node : Node) → Updates nat_cmp m n sector (Some node) → (s : ℕ) → s ≢ sector → entries_by items_of n s ≡ entries_by items_of m s
inserted_other m n sector node h s apart = ap (entries_at items_of) (h.2 s (apart_at sector s apart))

pub removed_other : (m n : BTreeMap ℕ Node) (sector : ℕ) → Updates nat_cmp m n sector None → (s : ℕ) → s ≢ sector → entries_by items_of n s ≡ entries_by items_of m s
removed_other m n sector h s apart = ap (entries_at items_of) (h.2 s (apart_at sector s apart))

-- a map that is unchanged has the same entries
pub entries_by-unchanged : (m n : BTreeMap ℕ Node) → IsUnchanged m n → entries_by items_of m ≡ entries_by items_of n
entries_by-unchanged m n same =
    let each : (s : ℕ) → entries_by items_of m s ≡ entries_by items_of n s =
    λ s. ap (λ (es : List (ℕ × Node)). entries_at items_of (lookup (is_at (nat_cmp s)) es)) (sym same) in
    λ i s. each s i

pub on_err : {T E P : Type 0} → (r : Result T E) → P → OnErr r P
on_err (Ok x) p = tt
on_err (Err e) p = p

-- an error that `?` passes on is the one that a call returned
pub passed_on : {T U E : Type 0} → (r : Result T E) (e f : E) → IsErrAnd r (λ g. g ≡ e) → r ≡ Err f → (let first : Result U E = Err e in let second : Result U E = Err f in first ≡ second)
passed_on (Ok x) e f h is = absurd h
passed_on (Err g) e f h is = let same : g ≡ f = cc in let here : e ≡ f = sym h ∙ same in rw here refl
