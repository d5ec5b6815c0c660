-- The blocks of entries, by their places.
use Rattle.std.proofs.Common.{◌≡◌, ◌<◌, ◌≤◌, ◌+◌, ◌-◌, ◌*◌, ◌/◌, ◌%◌, ◌^◌, ◌&&◌, ℕ, zero, suc, Bool, true, false, cond, ltb, List, [], ◌∷◌, ◌++◌, Option, Some, None, Result, Ok, Err, IfOk, length, get_or, map, replicate, min, refl, sym, ap, ap₂, ◌∙◌, subst, arith, inl, inr}
use Rattle.std.specs.List.{flat_map, range_with_len, AllByRecursion}
use Rattle.std.proofs.Math.Nat.{pow-suc, mul_comm, div-add-mod'}
use Rattle.std.proofs.lemmas.Bool.{cases_lt, lt-ltb, le-ltb, eqb-true, false≢true}
use Rattle.std.proofs.lemmas.Nat.{div_below, mod_below}
use Rattle.std.proofs.lemmas.List.{length-append, length-replicate, length-take-le, get_or_append_left, get_or-append_right, get_or-append-add, get_or-take, get_or_past}
use Rattle.std.proofs.lemmas.List.FromFn.{length-map-range_with_len, get_or-map-range_with_len}
use Rattle.extent_tree.specs.declared.entry.Entry.{Entry}
use Rattle.extent_tree.specs.Depth.{depth_of}
use Rattle.extent_tree.specs.Entries.{EachWithin, IsEntry}
use Rattle.extent_tree.specs.Held.{Blocks, blocks_by, no_blocks}
use Rattle.extent_tree.specs.Tree.{is_index, run_of, blocks_of, blocks_in, indexes_in, IsTree, AreTrees, AreSomeTrees, IsRoot, file_blocks, file_indexes}
use Rattle.extent_tree.proofs.Charges.{span_pos}
use Rattle.extent_tree.proofs.Depths.{least}

-- ---- one run

pub get_or-replicate_None : (n k : ℕ) → get_or {A = Option ℕ} (replicate n None) k None ≡ None
get_or-replicate_None zero k = refl
get_or-replicate_None (suc n) zero = refl
get_or-replicate_None (suc n) (suc k) = get_or-replicate_None n k

pub length-run : (span : ℕ) (entry : Entry) → entry.length ≤ span → length (run_of span entry) ≡ span
unfolding run_of
length-run span entry h =
    let front : length (map {A = ℕ} {B = Option ℕ} (λ n. Some n) (range_with_len entry.sector entry.length)) ≡ entry.length = length-map-range_with_len (λ n. Some n) entry.sector entry.length in
    let back : length (replicate {A = Option ℕ} (span - entry.length) None) ≡ span - entry.length = length-replicate (span - entry.length) None in
    length-append (map (λ n. Some n) (range_with_len entry.sector entry.length)) (replicate (span - entry.length) None) ∙ omega (arith, front, back)

pub run_at : (span k : ℕ) (entry : Entry) → get_or (run_of span entry) k None ≡ cond (ltb k entry.length) (Some (entry.sector + k)) None
unfolding run_of
run_at span k entry =
    let front : List (Option ℕ) = map (λ n. Some n) (range_with_len entry.sector entry.length) in
    let len : length front ≡ entry.length = length-map-range_with_len (λ n. Some n) entry.sector entry.length in
    elim (cases_lt k entry.length) [
      | inl lt ↦
          let test : ltb k entry.length ≡ true = lt-ltb k entry.length lt in
          let within : k < length front = omega arith in
          rw test (get_or_append_left front (replicate (span - entry.length) None) None k within ∙ get_or-map-range_with_len (λ n. Some n) entry.sector entry.length k (entry.sector + k) None lt refl)
      | inr le ↦
          let test : ltb k entry.length ≡ false = le-ltb k entry.length le in
          rw test (get_or-append_right front (replicate (span - entry.length) None) entry.length k None len le ∙ get_or-replicate_None (span - entry.length) (k - entry.length))
    ]

entry_within : (e n : ℕ) (entry : Entry) → IsEntry e n entry → entry.length ≤ 512 ^ e
entry_within e n entry (inl is) = omega (arith, is.length)
entry_within e n entry (inr (inl is)) = omega (arith, is.length)
entry_within e n entry (inr (inr is)) = is.span

-- ---- parts of one width, end to end

abbrev AreAllWide : (f : Entry → List (Option ℕ)) → (w : ℕ) → List Entry → Type 0
AreAllWide f w entries = AllByRecursion (λ (x : Entry). length (f x) ≡ w) entries

length-parts : (f : Entry → List (Option ℕ)) (w : ℕ) (entries : List Entry) → AreAllWide f w entries → length (flat_map f entries) ≡ w * length entries
length-parts f w [] wide = omega arith
length-parts f w (x ∷ xs) wide = omega (arith, length-append (f x) (flat_map f xs), wide.0, length-parts f w xs wide.1)

part_at : (f : Entry → List (Option ℕ)) (w : ℕ) (entries : List Entry) (i j : ℕ) (d : Entry) → AreAllWide f w entries → i < length entries → j < w → get_or (flat_map f entries) (w * i + j) None ≡ get_or (f (get_or entries i d)) j None
part_at f w [] i j d wide hi hj = absurd (omega arith)
part_at f w (x ∷ xs) zero j d wide hi hj =
    let here : w * 0 + j ≡ j = omega arith in
    let within : j < length (f x) = omega (arith, wide.0) in
    ap (λ (k : ℕ). get_or (f x ++ flat_map f xs) k None) here ∙ get_or_append_left (f x) (flat_map f xs) None j within
part_at f w (x ∷ xs) (suc i) j d wide hi hj =
    let there : w * suc i + j ≡ length (f x) + (w * i + j) = omega (arith, wide.0) in
    ap (λ (k : ℕ). get_or (f x ++ flat_map f xs) k None) there ∙ get_or-append-add (f x) (flat_map f xs) (w * i + j) None
    ∙ part_at f w xs i j d wide.1 (omega arith) hj

-- what holds of each entry makes each as wide
each_wide : (f : Entry → List (Option ℕ)) (P : ℕ → Entry → Type 0) (w : ℕ) → ((n : ℕ) (x : Entry) → P n x → length (f x) ≡ w) → (span count : ℕ) (entries : List Entry) → EachWithin P span count entries → AreAllWide f w entries
each_wide f P w one span count [] h = tt
each_wide f P w one span count (x ∷ xs) h = (one (min count span) x h.0, each_wide f P w one span (count - span) xs h.1)

-- ---- trees

chosen : (test : Bool) (a b : List (Option ℕ)) (n : ℕ) → (test ≡ true → length a ≡ n) → length b ≡ n → length (cond test a b) ≡ n
chosen true a b n first second = first refl
chosen false a b n first second = second

pub length-blocks_of : (index : ℕ → List Entry) (e n : ℕ) (entry : Entry) → IsTree index e n entry → length (blocks_of index e entry) ≡ 512 ^ e
length-blocks_of index zero n entry h = length-run 1 entry (entry_within 0 n entry h)
length-blocks_of index (suc e) n entry h =
    chosen (is_index entry) (blocks_in index e (index entry.sector)) (run_of (512 ^ suc e) entry) (512 ^ suc e)
    (λ test. let below = h.1 test in
    let whole : length (blocks_in index e (index entry.sector)) ≡ 512 ^ e * length (index entry.sector) = length-parts (blocks_of index e) (512 ^ e) (index entry.sector) (each_wide (blocks_of index e) (IsTree index e) (512 ^ e) (length-blocks_of index e) (512 ^ e) n (index entry.sector) below.each) in
    whole ∙ ap (λ (k : ℕ). 512 ^ e * k) below.len ∙ sym (pow-suc 512 e))
    (length-run (512 ^ suc e) entry (entry_within (suc e) n entry h.0))

all_wide : (index : ℕ → List Entry) (e count : ℕ) (entries : List Entry) → AreTrees index e count entries → AreAllWide (blocks_of index e) (512 ^ e) entries
all_wide index e count entries h = each_wide (blocks_of index e) (IsTree index e) (512 ^ e) (length-blocks_of index e) (512 ^ e) count entries h

pub length-blocks_in : (index : ℕ → List Entry) (e count : ℕ) (entries : List Entry) → AreTrees index e count entries → length (blocks_in index e entries) ≡ 512 ^ e * length entries
length-blocks_in index e count entries h = length-parts (blocks_of index e) (512 ^ e) entries (all_wide index e count entries h)

-- the i-th entry is a tree
tree_at : (P : ℕ → Entry → Type 0) (span count : ℕ) (entries : List Entry) (i : ℕ) (d : Entry) → EachWithin P span count entries → i < length entries → (n : ℕ) × P n (get_or entries i d)
tree_at P span count [] i d h lt = absurd (omega arith)
tree_at P span count (x ∷ xs) zero d h lt = (min count span, h.0)
tree_at P span count (x ∷ xs) (suc i) d h lt = tree_at P span (count - span) xs i d h.1 (omega arith)

-- an entry, whatever the number of blocks
abbrev pub IsSomeTree : (index : ℕ → List Entry) → (e : ℕ) → Entry → Type 0
IsSomeTree index e entry = (n : ℕ) × IsTree index e n entry

module _ (index : ℕ → List Entry) (e k w : ℕ) (entries : List Entry) (trees : AreSomeTrees index e entries) (span : w ≡ 512 ^ e) (within : k < 512 ^ e * length entries) where
  pub place_in : k / w < length entries
  place_in =
      let pos : 0 < w = omega (arith, span_pos e) in
      let turned : 512 ^ e * length entries ≡ length entries * w = mul_comm (512 ^ e) (length entries) ∙ ap (λ (n : ℕ). length entries * n) (sym span) in
      div_below k w (length entries) pos (omega (arith, turned))

  pub tree_here : (d : Entry) → IsSomeTree index e (get_or entries (k / w) d)
  tree_here d = tree_at (IsTree index e) (512 ^ e) trees.0 entries (k / w) d trees.1 place_in

  pub at_entry : (d : Entry) → get_or (blocks_in index e entries) k None ≡ get_or (blocks_of index e (get_or entries (k / w) d)) (k % w) None
  at_entry d =
      let pos : 0 < w = omega (arith, span_pos e) in
      let below : k % w < w = mod_below k w pos in
      let parts : k ≡ 512 ^ e * (k / w) + k % w = sym (div-add-mod' k w) ∙ ap (λ (n : ℕ). n + k % w) (mul_comm (k / w) w ∙ ap (λ (n : ℕ). n * (k / w)) span) in
      ap (λ (n : ℕ). get_or (blocks_in index e entries) n None) parts
      ∙ part_at (blocks_of index e) (512 ^ e) entries (k / w) (k % w) d (all_wide index e trees.0 entries trees.1) place_in (omega arith)

  pub place_below : k % w < 512 ^ e
  place_below =
      let pos : 0 < w = omega (arith, span_pos e) in
      let below : k % w < w = mod_below k w pos in
      omega arith

pub blocks-run : (index : ℕ → List Entry) (e : ℕ) (entry : Entry) → is_index entry ≡ false → blocks_of index e entry ≡ run_of (512 ^ e) entry
blocks-run index zero entry test = refl
blocks-run index (suc e) entry test = rw test refl

-- an entry that has no index sector
pub run_here : (index : ℕ → List Entry) (e k : ℕ) (entry : Entry) → is_index entry ≡ false → get_or (blocks_of index e entry) k None ≡ cond (ltb k entry.length) (Some (entry.sector + k)) None
run_here index e k entry test = ap (λ (xs : List (Option ℕ)). get_or xs k None) (blocks-run index e entry test) ∙ run_at (512 ^ e) k entry

pub is_entry : (index : ℕ → List Entry) (e n : ℕ) (entry : Entry) → IsTree index e n entry → IsEntry e n entry
is_entry index zero n entry h = h
is_entry index (suc e) n entry h = h.0

fits_of : (e n : ℕ) (entry : Entry) → IsEntry e n entry → entry.sector + entry.length ≤ 2 ^ 32
fits_of e n entry (inl is) = omega (arith, is.sector, is.length)
fits_of e n entry (inr (inl is)) = omega (arith, is.fits, is.length)
fits_of e n entry (inr (inr is)) = is.fits

pub entry_fits : (index : ℕ → List Entry) (e : ℕ) (entry : Entry) → IsSomeTree index e entry → entry.sector + entry.length ≤ 2 ^ 32
entry_fits index e entry h = fits_of e h.0 entry (is_entry index e h.0 entry h.1)

pub and-right : (a b : Bool) → (a && b) ≡ true → b ≡ true
and-right true b h = h
and-right false b h = absurd (false≢true h)

pub above_of : (e n : ℕ) (entry : Entry) → IsEntry e n entry → is_index entry ≡ true → 0 < e
above_of e n entry (inl is) test = let x : false ≡ true = rw is.sector at test in absurd (false≢true x)
above_of e n entry (inr (inl is)) test = is.above
above_of e n entry (inr (inr is)) test = let none : entry.length ≡ 0 = eqb-true entry.length 0 (and-right _ _ test) in absurd (omega (arith, is.some))

pub index_above : (index : ℕ → List Entry) (e : ℕ) (entry : Entry) → IsSomeTree index e entry → is_index entry ≡ true → 0 < e
index_above index e entry h test = above_of e h.0 entry (is_entry index e h.0 entry h.1) test

-- the entries of its index sector
pub record AreBelow (index : ℕ → List Entry) (e d : ℕ) (entry : Entry) : Type 0 where
  pub trees : AreSomeTrees index d (index entry.sector)
  pub blocks : blocks_of index e entry ≡ blocks_in index d (index entry.sector)
  pub span : 512 ^ e ≡ 512 ^ d * length (index entry.sector)

below_suc : (index : ℕ → List Entry) (e n : ℕ) (entry : Entry) → IsTree index (suc e) n entry → is_index entry ≡ true → AreBelow index (suc e) e entry
below_suc index e n entry h test = record {
  trees = (n, (h.1 test).each);
  blocks = rw test refl;
  span = pow-suc 512 e ∙ ap (λ (k : ℕ). 512 ^ e * k) (sym (h.1 test).len);
}

pub below : (index : ℕ → List Entry) (e d : ℕ) (entry : Entry) → IsSomeTree index e entry → is_index entry ≡ true → d ≡ e - 1 → AreBelow index e d entry
below index zero d entry h test is = absurd (omega (arith, index_above index zero entry h test))
below index (suc e) d entry h test is =
    let same : e ≡ d = omega arith in
    subst (λ (x : ℕ). AreBelow index (suc e) x entry) same (below_suc index e h.0 entry h.1 test)

-- the entry of a block has no index sector
pub here_fits : (index : ℕ → List Entry) (e k w : ℕ) (entries : List Entry) → AreSomeTrees index e entries → w ≡ 512 ^ e → k < 512 ^ e * length entries → (d : Entry) → (get_or entries (k / w) d).sector + (get_or entries (k / w) d).length ≤ 2 ^ 32
here_fits index e k w entries trees span within d = entry_fits index e (get_or entries (k / w) d) (tree_here index e k w entries trees span within d)

pub sector_here : (index : ℕ → List Entry) (e k w : ℕ) (entries : List Entry) → AreSomeTrees index e entries → w ≡ 512 ^ e → k < 512 ^ e * length entries → (d : Entry) (x : Option ℕ) → is_index (get_or entries (k / w) d) ≡ false
    → x ≡ cond (ltb (k % w) (get_or entries (k / w) d).length) (Some ((get_or entries (k / w) d).sector + k % w)) None → x ≡ get_or (blocks_in index e entries) k None
sector_here index e k w entries trees span within d x test is =
    is ∙ sym (at_entry index e k w entries trees span within d ∙ run_here index e (k % w) (get_or entries (k / w) d) test)

-- it has one
pub index_here : (index : ℕ → List Entry) (e k w : ℕ) (entries : List Entry) → AreSomeTrees index e entries → w ≡ 512 ^ e → k < 512 ^ e * length entries → (d : Entry) → is_index (get_or entries (k / w) d) ≡ true → 0 < e
index_here index e k w entries trees span within d test = index_above index e (get_or entries (k / w) d) (tree_here index e k w entries trees span within d) test

module _ (index : ℕ → List Entry) (e k w : ℕ) (entries : List Entry) (trees : AreSomeTrees index e entries) (span : w ≡ 512 ^ e) (within : k < 512 ^ e * length entries) (d : Entry) (test : is_index (get_or entries (k / w) d) ≡ true) (found : List Entry)
    (is : found ≡ index (get_or entries (k / w) d).sector) where
  are_below : AreBelow index e (e - 1) (get_or entries (k / w) d)
  are_below = below index e (e - 1) (get_or entries (k / w) d) (tree_here index e k w entries trees span within d) test refl

  pub found_trees : AreSomeTrees index (e - 1) found
  found_trees = subst (AreSomeTrees index (e - 1)) (sym is) are_below.trees

  pub found_within : k % w < 512 ^ (e - 1) * length found
  found_within =
      let wide : 512 ^ e ≡ 512 ^ (e - 1) * length found = are_below.span ∙ ap (λ (xs : List Entry). 512 ^ (e - 1) * length xs) (sym is) in
      omega (arith, place_below index e k w entries trees span within)

  pub found_at : (x : Option ℕ) → x ≡ get_or (blocks_in index (e - 1) found) (k % w) None → x ≡ get_or (blocks_in index e entries) k None
  found_at x there =
      there ∙ ap (λ (xs : List Entry). get_or (blocks_in index (e - 1) xs) (k % w) None) is
      ∙ sym (at_entry index e k w entries trees span within d ∙ ap (λ (xs : List (Option ℕ)). get_or xs (k % w) None) are_below.blocks)

-- ---- a file

pub file_long : (index : ℕ → List Entry) (b : ℕ) (root : List Entry) → IsRoot index b root → b ≤ 2 ^ 28 → b ≤ length (blocks_in index (depth_of b) root)
file_long index b root is h =
    let whole : length (blocks_in index (depth_of b) root) ≡ 512 ^ depth_of b * length root = length-blocks_in index (depth_of b) b root is.each in
    let many : 512 ^ depth_of b * length root ≡ 512 ^ depth_of b * 256 = ap (λ (n : ℕ). 512 ^ depth_of b * n) is.len in
    let turned : 512 ^ depth_of b * 256 ≡ 256 * 512 ^ depth_of b = mul_comm (512 ^ depth_of b) 256 in
    omega (arith, (least b h).spans, whole, many, turned)

pub length-file_blocks : (index : ℕ → List Entry) (b : ℕ) (root : List Entry) → IsRoot index b root → b ≤ 2 ^ 28 → length (file_blocks index b root) ≡ b
length-file_blocks index b root is h = length-take-le b (blocks_in index (depth_of b) root) (file_long index b root is h)

pub root_within : (index : ℕ → List Entry) (b k d : ℕ) (root : List Entry) → IsRoot index b root → b ≤ 2 ^ 28 → d ≡ depth_of b → k < b → k < 512 ^ d * length root
root_within index b k d root is h same lt =
    let turned : 512 ^ depth_of b * length root ≡ 256 * 512 ^ depth_of b = ap (λ (n : ℕ). 512 ^ depth_of b * n) is.len ∙ mul_comm (512 ^ depth_of b) 256 in
    let here : k < 512 ^ depth_of b * length root = omega (arith, (least b h).spans, turned) in
    subst (λ (x : ℕ). k < 512 ^ x * length root) (sym same) here

pub root_trees : (index : ℕ → List Entry) (b d : ℕ) (root found : List Entry) → found ≡ root → IsRoot index b root → d ≡ depth_of b → AreSomeTrees index d found
root_trees index b d root found here is same =
    subst (AreSomeTrees index d) (sym here) (subst (λ (x : ℕ). AreSomeTrees index x root) (sym same) (b, is.each))

-- what is found below the root is what callers see
pub file_is : (index : ℕ → List Entry) (b k d : ℕ) (root found : List Entry) (x : Option ℕ) (seen : Blocks) → found ≡ root → d ≡ depth_of b → k < b → x ≡ get_or (blocks_in index d found) k None → blocks_by index b root ≡ seen → x ≡ get_or seen.sectors k None
file_is index b k d root found x seen here same lt is view_is =
    is ∙ ap (λ (xs : List Entry). get_or (blocks_in index d xs) k None) here ∙ ap (λ (n : ℕ). get_or (blocks_in index n root) k None) same
    ∙ sym (get_or-take b (blocks_in index (depth_of b) root) k None lt) ∙ ap (λ (all : Blocks). get_or all.sectors k None) view_is

pub count_is : (index : ℕ → List Entry) (b : ℕ) (root : List Entry) (seen : Blocks) → IsRoot index b root → b ≤ 2 ^ 28 → blocks_by index b root ≡ seen → b ≡ length seen.sectors
count_is index b root seen is h view_is = sym (length-file_blocks index b root is h) ∙ ap (λ (all : Blocks). length all.sectors) view_is

pub file_past : (index : ℕ → List Entry) (b k : ℕ) (root : List Entry) → IsRoot index b root → b ≤ 2 ^ 28 → b ≤ k → get_or (file_blocks index b root) k None ≡ None
file_past index b k root is h le = get_or_past (file_blocks index b root) k None (omega (arith, length-file_blocks index b root is h))

-- ---- no blocks

abbrev hole : Entry
hole = record { sector = 0; length = 0 }

holes : (count n : ℕ) (index : ℕ → List Entry) → EachWithin (IsTree index 0) 1 count (replicate n hole)
holes count zero index = tt
holes count (suc n) index = (inl (record { sector = refl; length = refl }), holes (count - 1) n index)

pub no_indexes : (n : ℕ) (index : ℕ → List Entry) → indexes_in index 0 (replicate n hole) ≡ []
no_indexes zero index = refl
no_indexes (suc n) index = no_indexes n index

pub IsRoot-none : (index : ℕ → List Entry) (root : List Entry) → root ≡ replicate 256 hole → IsRoot index 0 root
IsRoot-none index root is = subst (IsRoot index 0) (sym is) (record { len = length-replicate 256 hole; each = holes 0 256 index })

none_is : (index : ℕ → List Entry) (root : List Entry) → root ≡ replicate 256 hole → blocks_by index 0 root ≡ no_blocks
none_is index root is =
    let made : List ℕ → List Entry → Blocks = λ indexes here. record { sectors = []; indexes = indexes; root = here; nodes = map index indexes } in
    ap₂ made (ap (file_indexes index 0) is ∙ no_indexes 256 index) is

pub none_if_ok : {E : Type 0} → (r : Result Blocks E) (index : ℕ → List Entry) (root : List Entry) → root ≡ replicate 256 hole → IfOk r (λ tree. tree ≡ blocks_by index 0 root) → IfOk r (λ tree. tree ≡ no_blocks)
none_if_ok (Ok tree) index root is h = h ∙ none_is index root is
none_if_ok (Err e) index root is h = tt
