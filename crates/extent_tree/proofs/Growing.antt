-- Holes at the end of a file.
use Rattle.std.proofs.Common.{◌≡◌, ◌<◌, ◌≤◌, ◌+◌, ◌-◌, ◌*◌, ◌^◌, ◌&&◌, ℕ, zero, suc, Bool, true, false, cond, ltb, List, [], ◌∷◌, ◌++◌, Option, Some, None, is_some, length, get_or, set, ◌⊎◌, take, replicate, min, refl, sym, ap, ap₂, ◌∙◌, subst, arith, inl, inr}
use Rattle.std.specs.List.{flat_map, list_all}
use Rattle.std.proofs.Math.Nat.{pow-suc}
use Rattle.std.proofs.lemmas.Bool.{cases_lt, lt-ltb, le-ltb, eqb-true, false≢true}
use Rattle.std.proofs.lemmas.List.{append-nil, length-append, length-replicate, length-take-le, get_or_append_left, get_or-append_right, get_or-append-add, get_or-take, get_or_past, ext_get_or}
use Rattle.std.proofs.lemmas.List.Concat.{flat_map-append}
use Rattle.extent_tree.specs.declared.entry.Entry.{Entry}
use Rattle.extent_tree.specs.Depth.{depth_of}
use Rattle.extent_tree.specs.Entries.{EachWithin, IsEntry}
use Rattle.extent_tree.specs.Held.{Blocks, blocks_by, hole, with_room, root_above}
use Rattle.extent_tree.specs.Tree.{is_hole, is_index, run_of, blocks_of, blocks_in, indexes_of, indexes_in, IsTree, AreTrees, IsRoot, IsIndexSector, HasBlock, with_holes, file_blocks, file_indexes}
use Rattle.extent_tree.proofs.Charges.{span_pos}
use Rattle.extent_tree.proofs.Depths.{least}
use Rattle.extent_tree.proofs.Frames.{decided, blocks-index, indexes-index, AreSameAt, same_blocks_in, same_indexes_in, same_trees}
use Rattle.extent_tree.proofs.Shapes.{count_is, run_at, run_here, blocks-run, is_entry, and-right, get_or-replicate_None, length-blocks_of, file_long}

-- ---- more blocks

entry_more : (e n m : ℕ) (entry : Entry) → n ≤ m → IsEntry e n entry → IsEntry e m entry
entry_more e n m entry le (inl is) = inl is
entry_more e n m entry le (inr (inl is)) = inr (inl (record { above = is.above; sector = is.sector; fits = is.fits; length = is.length; some = omega (arith, is.some) }))
entry_more e n m entry le (inr (inr is)) = inr (inr (record { sector = is.sector; fits = is.fits; some = is.some; span = is.span; within = omega (arith, is.within) }))

each_more : (P : ℕ → Entry → Type 0) → ((n m : ℕ) (x : Entry) → n ≤ m → P n x → P m x) → (span n m : ℕ) (xs : List Entry) → n ≤ m → EachWithin P span n xs → EachWithin P span m xs
each_more P more span n m [] le h = tt
each_more P more span n m (x ∷ xs) le h = (more (min n span) (min m span) x (omega arith) h.0, each_more P more span (n - span) (m - span) xs (omega arith) h.1)

tree_more : (index : ℕ → List Entry) (e n m : ℕ) (entry : Entry) → n ≤ m → IsTree index e n entry → IsTree index e m entry
tree_more index zero n m entry le h = entry_more 0 n m entry le h
tree_more index (suc e) n m entry le h = (
  entry_more (suc e) n m entry le h.0,
  λ test.
      let below = h.1 test in
      record { len = below.len; each = each_more (IsTree index e) (tree_more index e) (512 ^ e) n m (index entry.sector) le below.each; some = below.some },
)

trees_more : (index : ℕ → List Entry) (e n m : ℕ) (xs : List Entry) → n ≤ m → AreTrees index e n xs → AreTrees index e m xs
trees_more index e n m xs le h = each_more (IsTree index e) (tree_more index e) (512 ^ e) n m xs le h

-- ---- past the last block

pub entry_count : (e n : ℕ) (entry : Entry) → IsEntry e n entry → entry.length ≤ n
entry_count e n entry (inl is) = omega (arith, is.length)
entry_count e n entry (inr (inl is)) = omega (arith, is.length)
entry_count e n entry (inr (inr is)) = is.within

run_past : (span k : ℕ) (entry : Entry) → entry.length ≤ k → get_or (run_of span entry) k None ≡ None
run_past span k entry le = let test : ltb k entry.length ≡ false = le-ltb k entry.length le in run_at span k entry ∙ rw test refl

past_in : (f : Entry → List (Option ℕ)) (P : ℕ → Entry → Type 0) (w : ℕ) → ((n : ℕ) (x : Entry) → P n x → length (f x) ≡ w) → ((n k : ℕ) (x : Entry) → P n x → n ≤ k → get_or (f x) k None ≡ None)
    → (n k : ℕ) (xs : List Entry) → EachWithin P w n xs → n ≤ k → get_or (flat_map f xs) k None ≡ None
past_in f P w wide one n k [] h le = refl
past_in f P w wide one n k (x ∷ xs) h le =
    let len : length (f x) ≡ w = wide (min n w) x h.0 in
    elim (cases_lt k w) [
      | inl lt ↦ let within : k < length (f x) = omega arith in get_or_append_left (f x) (flat_map f xs) None k within ∙ one (min n w) k x h.0 (omega arith)
      | inr ge ↦ get_or-append_right (f x) (flat_map f xs) w k None len ge ∙ past_in f P w wide one (n - w) (k - w) xs h.1 (omega arith)
    ]

tree_past : (index : ℕ → List Entry) (e n k : ℕ) (entry : Entry) → IsTree index e n entry → n ≤ k → get_or (blocks_of index e entry) k None ≡ None
tree_past index zero n k entry h le = run_past 1 k entry (omega (arith, entry_count 0 n entry h))
tree_past index (suc e) n k entry h le =
    elim (decided (is_index entry)) [
      | inl test ↦
          ap (λ (xs : List (Option ℕ)). get_or xs k None) (blocks-index index e entry test)
          ∙ past_in (blocks_of index e) (IsTree index e) (512 ^ e) (length-blocks_of index e) (tree_past index e) n k (index entry.sector) (h.1 test).each le
      | inr test ↦ ap (λ (xs : List (Option ℕ)). get_or xs k None) (blocks-run index (suc e) entry test) ∙ run_past (512 ^ suc e) k entry (omega (arith, entry_count (suc e) n entry h.0))
    ]

trees_past : (index : ℕ → List Entry) (e n k : ℕ) (xs : List Entry) → AreTrees index e n xs → n ≤ k → get_or (blocks_in index e xs) k None ≡ None
trees_past index e n k xs h le = past_in (blocks_of index e) (IsTree index e) (512 ^ e) (length-blocks_of index e) (tree_past index e) n k xs h le

-- ---- holes

pub hole_tree : (index : ℕ → List Entry) (e n : ℕ) → IsTree index e n hole
hole_tree index zero n = inl (record { sector = refl; length = refl })
hole_tree index (suc e) n = (inl (record { sector = refl; length = refl }), λ test. absurd (false≢true test))

pub holes_in : (index : ℕ → List Entry) (e span count n : ℕ) → EachWithin (IsTree index e) span count (replicate n hole)
holes_in index e span count zero = tt
holes_in index e span count (suc n) = (hole_tree index e (min count span), holes_in index e span (count - span) n)

pub holes_none : (index : ℕ → List Entry) (e n k : ℕ) → get_or (blocks_in index e (replicate n hole)) k None ≡ None
holes_none index e n k = trees_past index e 0 k (replicate n hole) (holes_in index e (512 ^ e) 0 n) (omega arith)

hole_indexes : (index : ℕ → List Entry) (e : ℕ) → indexes_of index e hole ≡ []
hole_indexes index zero = refl
hole_indexes index (suc e) = refl

pub holes_indexes : (index : ℕ → List Entry) (e n : ℕ) → indexes_in index e (replicate n hole) ≡ []
holes_indexes index e zero = refl
holes_indexes index e (suc n) = ap₂ (λ (x y : List ℕ). x ++ y) (hole_indexes index e) (holes_indexes index e n)

get_or_tail : (xs ys : List (Option ℕ)) (k : ℕ) → ((j : ℕ) → get_or ys j None ≡ None) → get_or (xs ++ ys) k None ≡ get_or xs k None
get_or_tail xs ys k none =
    elim (cases_lt k (length xs)) [
      | inl lt ↦ get_or_append_left xs ys None k lt
      | inr le ↦ get_or-append_right xs ys (length xs) k None refl le ∙ none (k - length xs) ∙ sym (get_or_past xs k None le)
    ]

-- what has the same blocks, and more holes at the end
grown : (old new : List (Option ℕ)) (b c : ℕ) → b ≤ c → b ≤ length old → c ≤ length new → ((k : ℕ) → get_or new k None ≡ get_or old k None) → ((k : ℕ) → b ≤ k → get_or old k None ≡ None) → take c new ≡ with_holes (take b old) c
grown old new b c le long longer same past =
    let front : length (take b old) ≡ b = length-take-le b old long in
    let whole : length (take c new) ≡ c = length-take-le c new longer in
    let tail : length (replicate {A = Option ℕ} (c - length (take b old)) None) ≡ c - length (take b old) = length-replicate (c - length (take b old)) None in
    let lengths : length (take c new) ≡ length (with_holes (take b old) c) = omega (arith, front, whole, tail, length-append (take b old) (replicate (c - length (take b old)) None)) in
    ext_get_or None (take c new) (with_holes (take b old) c) lengths (λ k lt.
    let within : k < c = omega arith in
    get_or-take c new k None within ∙ same k
    ∙ elim (cases_lt k b) [
      | inl small ↦ sym (get_or-take b old k None small)
      | inr ge ↦ let over : length (take b old) ≤ k = omega arith in past k ge ∙ sym (get_or_past (take b old) k None over)
    ]
    ∙ sym (get_or_tail (take b old) (replicate (c - length (take b old)) None) k (get_or-replicate_None (c - length (take b old)))))

grown_file : (index other : ℕ → List Entry) (b c : ℕ) (root new : List Entry) → IsRoot index b root → IsRoot other c new → b ≤ c → c ≤ 2 ^ 28
    → ((k : ℕ) → get_or (blocks_in other (depth_of c) new) k None ≡ get_or (blocks_in index (depth_of b) root) k None) → file_blocks other c new ≡ with_holes (file_blocks index b root) c
grown_file index other b c root new old_is new_is le h same =
    grown (blocks_in index (depth_of b) root) (blocks_in other (depth_of c) new) b c le (file_long index b root old_is (omega arith)) (file_long other c new new_is h) same
    (λ k. trees_past index (depth_of b) b k root old_is.each)

-- ---- the same depth

pub root_more : (index : ℕ → List Entry) (b c : ℕ) (root : List Entry) → IsRoot index b root → b ≤ c → depth_of c ≡ depth_of b → IsRoot index c root
root_more index b c root is le same = record {
  len = is.len;
  each = subst (λ (d : ℕ). AreTrees index d c root) (sym same) (trees_more index (depth_of b) b c root le is.each);
}

-- the sectors of the blocks, and the index sectors
pub record Part : Type 0 where
  pub sectors : List (Option ℕ)
  pub indexes : List ℕ

abbrev pub part_by : (index : ℕ → List Entry) → (b : ℕ) → List Entry → Part
part_by index b root = record { sectors = file_blocks index b root; indexes = file_indexes index b root }

abbrev pub with_more : Part → (count : ℕ) → List ℕ → Part
with_more seen count indexes = record { sectors = with_holes seen.sectors count; indexes = indexes }

same_seen : (a b : List (Option ℕ)) (x y : List ℕ) → a ≡ b → x ≡ y → (let first : Part = record { sectors = a; indexes = x } in let second : Part = record { sectors = b; indexes = y } in first ≡ second)
same_seen a b x y p q = rw (p, q) refl

pub blocks_more : (index : ℕ → List Entry) (b c : ℕ) (root : List Entry) → IsRoot index b root → b ≤ c → c ≤ 2 ^ 28 → depth_of c ≡ depth_of b → part_by index c root ≡ with_more (part_by index b root) c (file_indexes index b root)
blocks_more index b c root is le h same =
    same_seen _ _ _ _
    (grown_file index index b c root root is (root_more index b c root is le same) le h (λ k. ap (λ (d : ℕ). get_or (blocks_in index d root) k None) same))
    (ap (λ (d : ℕ). indexes_in index d root) same)

-- ---- no blocks but holes

and-left : (a b : Bool) → (a && b) ≡ true → a ≡ true
and-left true b h = refl
and-left false b h = h

same_entry : (entry : Entry) → entry.sector ≡ 0 → entry.length ≡ 0 → entry ≡ hole
same_entry entry first second = rw (first, second) refl

pub hole_is : (entry : Entry) → is_hole entry ≡ true → entry ≡ hole
hole_is entry test =
    let first : entry.sector ≡ 0 = eqb-true entry.sector 0 (and-left _ _ test) in
    let second : entry.length ≡ 0 = eqb-true entry.length 0 (and-right _ _ test) in
    same_entry entry first second

pub holes_are : (xs : List Entry) → list_all is_hole xs ≡ true → xs ≡ replicate (length xs) hole
holes_are [] h = refl
holes_are (x ∷ xs) h = ap₂ (λ (y : Entry) (ys : List Entry). y ∷ ys) (hole_is x (and-left (is_hole x) (list_all is_hole xs) h)) (holes_are xs (and-right (is_hole x) (list_all is_hole xs) h))

pub root_of_holes : (index : ℕ → List Entry) (b c : ℕ) (root : List Entry) → IsRoot index b root → list_all is_hole root ≡ true → IsRoot index c root
root_of_holes index b c root is none =
    let all : root ≡ replicate 256 hole = holes_are root none ∙ ap (λ (n : ℕ). replicate n hole) is.len in
    record { len = is.len; each = subst (AreTrees index (depth_of c) c) (sym all) (holes_in index (depth_of c) (512 ^ depth_of c) c 256) }

pub blocks_of_holes : (index : ℕ → List Entry) (b c : ℕ) (root : List Entry) → IsRoot index b root → b ≤ c → c ≤ 2 ^ 28 → list_all is_hole root ≡ true → part_by index c root ≡ with_more (part_by index b root) c (file_indexes index b root)
blocks_of_holes index b c root is le h none =
    let all : root ≡ replicate 256 hole = holes_are root none ∙ ap (λ (n : ℕ). replicate n hole) is.len in
    let blocks = λ (d k : ℕ). ap (λ (xs : List Entry). get_or (blocks_in index d xs) k None) all ∙ holes_none index d 256 k in
    let indexes = λ (d : ℕ). ap (indexes_in index d) all ∙ holes_indexes index d 256 in
    same_seen _ _ _ _
    (grown_file index index b c root root is (root_of_holes index b c root is none) le h (λ k. blocks (depth_of c) k ∙ sym (blocks (depth_of b) k)))
    (indexes (depth_of c) ∙ sym (indexes (depth_of b)))

-- ---- a deeper tree

has_append : (xs ys : List (Option ℕ)) → HasBlock xs → HasBlock (xs ++ ys)
has_append xs ys h =
    elim (cases_lt h.0 (length xs)) [
      | inl lt ↦ (h.0, ap is_some (get_or_append_left xs ys None h.0 lt) ∙ h.1)
      | inr le ↦ let none : is_some (get_or xs h.0 None) ≡ false = ap is_some (get_or_past xs h.0 None le) in absurd (false≢true (sym none ∙ h.1))
    ]

has_behind : (xs ys : List (Option ℕ)) → HasBlock ys → HasBlock (xs ++ ys)
has_behind xs ys h = (length xs + h.0, ap is_some (get_or-append-add xs ys h.0 None) ∙ h.1)

pub index_test : (entry : Entry) → 0 < entry.sector → entry.length ≡ 0 → is_index entry ≡ true
index_test entry some none = let test : ltb 0 entry.sector ≡ true = lt-ltb 0 entry.sector some in rw (test, none) refl

pub not_index : (entry : Entry) → 0 < entry.length → is_index entry ≡ false
not_index entry some =
    elim (decided (is_index entry)) [
      | inl test ↦ let none : entry.length ≡ 0 = eqb-true entry.length 0 (and-right _ _ test) in absurd (omega arith)
      | inr test ↦ test
    ]

extent_some : (index : ℕ → List Entry) (e : ℕ) (entry : Entry) → 0 < entry.length → HasBlock (blocks_of index e entry)
extent_some index e entry some =
    let test : ltb 0 entry.length ≡ true = lt-ltb 0 entry.length some in
    let first : cond (ltb 0 entry.length) (Some (entry.sector + 0)) None ≡ Some (entry.sector + 0) = rw test refl in
    let here : get_or (blocks_of index e entry) 0 None ≡ Some (entry.sector + 0) = run_here index e 0 entry (not_index entry some) ∙ first in
    (0, ap is_some here)

tree_some : (index : ℕ → List Entry) (e n : ℕ) (entry : Entry) → IsTree index e n entry → IsEntry e n entry → is_hole entry ≡ false → HasBlock (blocks_of index e entry)
tree_some index e n entry h (inl is) test = let x : true ≡ false = rw (is.sector, is.length) at test in absurd (false≢true (sym x))
tree_some index zero n entry h (inr (inl is)) test = absurd (omega (arith, is.above))
tree_some index (suc e) n entry h (inr (inl is)) test = let yes_index = index_test entry is.sector is.length in subst HasBlock (sym (blocks-index index e entry yes_index)) (h.1 yes_index).some
tree_some index e n entry h (inr (inr is)) test = extent_some index e entry is.some

pub some_in : (index : ℕ → List Entry) (e span n : ℕ) (xs : List Entry) → EachWithin (IsTree index e) span n xs → list_all is_hole xs ≡ false → HasBlock (blocks_in index e xs)
some_in index e span n [] h test = absurd (false≢true (sym test))
some_in index e span n (x ∷ xs) h test =
    elim (decided (is_hole x)) [
      | inr here ↦ has_append (blocks_of index e x) (blocks_in index e xs) (tree_some index e (min n span) x h.0 (is_entry index e (min n span) x h.0) here)
      | inl here ↦ let rest : list_all is_hole xs ≡ false = rw here at test in has_behind (blocks_of index e x) (blocks_in index e xs) (some_in index e span (n - span) xs h.1 rest)
    ]

each_append : (P : ℕ → Entry → Type 0) (w n : ℕ) (xs ys : List Entry) → EachWithin P w n xs → ((m : ℕ) → EachWithin P w m ys) → EachWithin P w n (xs ++ ys)
each_append P w n [] ys h back = back n
each_append P w n (x ∷ xs) ys h back = (h.0, each_append P w (n - w) xs ys h.1 back)

module _ (index other : ℕ → List Entry) (d b sector : ℕ) (root : List Entry) (trees : AreTrees index d b root) (len : length root ≡ 256) (spans : b ≤ 256 * 512 ^ d) (same : AreSameAt index other (indexes_in index d root)) (there : other sector ≡ with_room root) (used : 0 < sector)
    (test : list_all is_hole root ≡ false) where
  blocks_there : blocks_of other (suc d) (record { sector = sector; length = 0 }) ≡ blocks_in index d root ++ blocks_in other d (replicate 256 hole)
  blocks_there =
      blocks-index other d (record { sector = sector; length = 0 }) (index_test (record { sector = sector; length = 0 }) used refl) ∙ ap (blocks_in other d) there ∙ flat_map-append (blocks_of other d) root (replicate 256 hole)
      ∙ ap (λ (xs : List (Option ℕ)). xs ++ blocks_in other d (replicate 256 hole)) (same_blocks_in index other d root same)

  pub deeper_blocks : (k : ℕ) → get_or (blocks_in other (suc d) (root_above sector)) k None ≡ get_or (blocks_in index d root) k None
  deeper_blocks k =
      get_or_tail (blocks_of other (suc d) (record { sector = sector; length = 0 })) (blocks_in other (suc d) (replicate 255 hole)) k (holes_none other (suc d) 255)
      ∙ ap (λ (xs : List (Option ℕ)). get_or xs k None) blocks_there
      ∙ get_or_tail (blocks_in index d root) (blocks_in other d (replicate 256 hole)) k (holes_none other d 256)

  first_tree : (n : ℕ) → sector < 2 ^ 32 → b ≤ n → 0 < n → IsTree other (suc d) n (record { sector = sector; length = 0 })
  first_tree n fits le some = (
    inr (inl (record { above = omega arith; sector = used; fits = fits; length = refl; some = some })),
    λ _.
        let made : IsIndexSector (IsTree other d) (512 ^ d) n (with_room root) (blocks_in other d (with_room root)) = record {
          len = omega (arith, length-append root (replicate 256 hole), length-replicate {A = Entry} 256 hole);
          each = each_append (IsTree other d) (512 ^ d) n root (replicate 256 hole) (trees_more other d b n root le (same_trees index other d b root trees same)) (λ m. holes_in other d (512 ^ d) m 256);
          some =
              subst HasBlock (sym (flat_map-append (blocks_of other d) root (replicate 256 hole)))
              (has_append (blocks_in other d root) (blocks_in other d (replicate 256 hole)) (subst HasBlock (sym (same_blocks_in index other d root same)) (some_in index d (512 ^ d) b root trees test)));
        } in
        subst (λ (xs : List Entry). IsIndexSector (IsTree other d) (512 ^ d) n xs (blocks_in other d xs)) (sym there) made,
  )

  pub deeper_trees : (c : ℕ) → sector < 2 ^ 32 → b ≤ c → 0 < c → AreTrees other (suc d) c (root_above sector)
  deeper_trees c fits le some =
      let pos : 0 < 512 ^ suc d = span_pos (suc d) in
      let wide : 512 ^ suc d ≡ 512 ^ d * 512 = pow-suc 512 d in
      (first_tree (min c (512 ^ suc d)) fits (omega arith) (omega arith), holes_in other (suc d) (512 ^ suc d) (c - 512 ^ suc d) 255)

  pub deeper_indexes : indexes_in other (suc d) (root_above sector) ≡ sector ∷ indexes_in index d root
  deeper_indexes =
      let below : indexes_in other d (other sector) ≡ indexes_in index d root =
      ap (indexes_in other d) there ∙ flat_map-append (indexes_of other d) root (replicate 256 hole)
      ∙ ap₂ (λ (x y : List ℕ). x ++ y) (same_indexes_in index other d root same) (holes_indexes other d 256) ∙ append-nil (indexes_in index d root) in
      ap₂ (λ (x y : List ℕ). x ++ y) (indexes-index other d (record { sector = sector; length = 0 }) (index_test (record { sector = sector; length = 0 }) used refl)) (holes_indexes other (suc d) 255)
      ∙ append-nil (sector ∷ indexes_in other d (other sector)) ∙ ap (λ (xs : List ℕ). sector ∷ xs) below

-- ---- the file with a deeper tree

-- a file that has a deeper tree than another has a block
above_0 : (c d : ℕ) → depth_of c ≡ d + 1 → 0 < c
above_0 zero d deep = absurd (omega arith)
above_0 (suc c) d deep = omega arith

pub deeper_root : (index other : ℕ → List Entry) (b c sector : ℕ) (root : List Entry) → IsRoot index b root → b ≤ c → c ≤ 2 ^ 28 → depth_of c ≡ depth_of b + 1 → 0 < sector → sector < 2 ^ 32 → AreSameAt index other (file_indexes index b root) → other sector ≡ with_room root
    → list_all is_hole root ≡ false → IsRoot other c (root_above sector)
deeper_root index other b c sector root is le h deep used fits same there test =
    let up : suc (depth_of b) ≡ depth_of c = omega arith in
    let some : 0 < c = omega (arith, above_0 c (depth_of b) deep) in
    record {
      len = omega (arith, length-replicate {A = Entry} 255 hole);
      each = subst (λ (d : ℕ). AreTrees other d c (root_above sector)) up (deeper_trees index other (depth_of b) b sector root is.each is.len (least b (omega arith)).spans same there used test c fits le some);
    }

pub deeper_file : (index other : ℕ → List Entry) (b c sector : ℕ) (root : List Entry) → IsRoot index b root → b ≤ c → c ≤ 2 ^ 28 → depth_of c ≡ depth_of b + 1 → 0 < sector → sector < 2 ^ 32 → AreSameAt index other (file_indexes index b root) → other sector ≡ with_room root
    → list_all is_hole root ≡ false → part_by other c (root_above sector) ≡ with_more (part_by index b root) c (sector ∷ file_indexes index b root)
deeper_file index other b c sector root is le h deep used fits same there test =
    let up : suc (depth_of b) ≡ depth_of c = omega arith in
    let spans : b ≤ 256 * 512 ^ depth_of b = (least b (omega arith)).spans in
    same_seen _ _ _ _
    (grown_file index other b c root (root_above sector) is (deeper_root index other b c sector root is le h deep used fits same there test) le h
    (λ k. subst (λ (d : ℕ). get_or (blocks_in other d (root_above sector)) k None ≡ get_or (blocks_in index (depth_of b) root) k None) up (deeper_blocks index other (depth_of b) b sector root is.each is.len spans same there used test k)))
    (subst (λ (d : ℕ). indexes_in other d (root_above sector) ≡ sector ∷ file_indexes index b root) up (deeper_indexes index other (depth_of b) b sector root is.each is.len spans same there used test))

-- ---- what callers see

-- the tree gets no deeper, or has only holes
abbrev pub Stays : (b c : ℕ) → List Entry → Type 0
Stays b c root = (depth_of c ≡ depth_of b) ⊎ (list_all is_hole root ≡ true)

-- `seen` is what callers see, and c no fewer blocks
pub record CanGrow (index : ℕ → List Entry) (b c : ℕ) (root : List Entry) (seen : Blocks) : Type 0 where
  pub is : IsRoot index b root
  pub small : b ≤ 2 ^ 28
  pub view_is : blocks_by index b root ≡ seen
  pub count : length seen.sectors ≤ c
  pub most : c ≤ 2 ^ 28

not_fewer : (index : ℕ → List Entry) (b c : ℕ) (root : List Entry) (seen : Blocks) → CanGrow index b c root seen → b ≤ c
not_fewer index b c root seen can = omega (arith, can.count, count_is index b root seen can.is can.small can.view_is)

stays_more : (index : ℕ → List Entry) (b c : ℕ) (root : List Entry) (seen : Blocks) → CanGrow index b c root seen → Stays b c root → part_by index c root ≡ with_more (part_by index b root) c (file_indexes index b root)
stays_more index b c root seen can (inl same) = blocks_more index b c root can.is (not_fewer index b c root seen can) can.most same
stays_more index b c root seen can (inr none) = blocks_of_holes index b c root can.is (not_fewer index b c root seen can) can.most none

pub stays_root : (index : ℕ → List Entry) (b c : ℕ) (root : List Entry) (seen : Blocks) → CanGrow index b c root seen → Stays b c root → IsRoot index c root
stays_root index b c root seen can (inl same) = root_more index b c root can.is (not_fewer index b c root seen can) same
stays_root index b c root seen can (inr none) = root_of_holes index b c root can.is none

pub stays_sectors : (index : ℕ → List Entry) (b c : ℕ) (root : List Entry) (seen : Blocks) → CanGrow index b c root seen → Stays b c root → file_blocks index c root ≡ with_holes seen.sectors c
stays_sectors index b c root seen can stays =
    ap (λ (x : Part). x.sectors) (stays_more index b c root seen can stays) ∙ ap (λ (x : Blocks). with_holes x.sectors c) can.view_is

pub stays_indexes : (index : ℕ → List Entry) (b c : ℕ) (root : List Entry) (seen : Blocks) → CanGrow index b c root seen → Stays b c root → file_indexes index c root ≡ seen.indexes
stays_indexes index b c root seen can stays =
    ap (λ (x : Part). x.indexes) (stays_more index b c root seen can stays) ∙ ap (λ (x : Blocks). x.indexes) can.view_is

-- `other` has the entries of one more index sector, and `new` those of the inode above it
pub record Deepens (index other : ℕ → List Entry) (b c sector : ℕ) (root new : List Entry) (seen : Blocks) : Type 0 where
  pub can : CanGrow index b c root seen
  pub step : depth_of c ≤ depth_of (length seen.sectors) + 1
  pub apart : depth_of c ≡ depth_of b → ⊥
  pub used : 0 < sector
  pub fits : sector < 2 ^ 32
  pub same : AreSameAt index other seen.indexes
  pub there : other sector ≡ with_room root
  pub some : list_all is_hole root ≡ false
  pub made : new ≡ root_above sector

module _ (index other : ℕ → List Entry) (b c sector : ℕ) (root new : List Entry) (seen : Blocks) (h : Deepens index other b c sector root new seen) where
  more : b ≤ c
  more = not_fewer index b c root seen h.can

  deep : depth_of c ≡ depth_of b + 1
  deep =
      let many : depth_of b ≡ depth_of (length seen.sectors) = ap depth_of (count_is index b root seen h.can.is h.can.small h.can.view_is) in
      let low : depth_of b ≤ depth_of c = (least b h.can.small).least (depth_of c) (omega (arith, more, (least c h.can.most).spans)) in
      let high : depth_of c ≤ depth_of (length seen.sectors) + 1 = h.step in
      elim (cases_lt (depth_of b) (depth_of c)) [
        | inl lt ↦ omega arith
        | inr le ↦ let same : depth_of c ≡ depth_of b = omega arith in absurd (h.apart same)
      ]

  same_at : AreSameAt index other (file_indexes index b root)
  same_at = subst (AreSameAt index other) (sym (ap (λ (x : Blocks). x.indexes) h.can.view_is)) h.same

  pub deepens_root : IsRoot other c new
  deepens_root = subst (IsRoot other c) (sym h.made) (deeper_root index other b c sector root h.can.is more h.can.most deep h.used h.fits same_at h.there h.some)

  deepens_more : part_by other c new ≡ with_more (part_by index b root) c (sector ∷ file_indexes index b root)
  deepens_more = ap (part_by other c) h.made ∙ deeper_file index other b c sector root h.can.is more h.can.most deep h.used h.fits same_at h.there h.some

  pub deepens_sectors : file_blocks other c new ≡ with_holes seen.sectors c
  deepens_sectors = ap (λ (x : Part). x.sectors) deepens_more ∙ ap (λ (x : Blocks). with_holes x.sectors c) h.can.view_is

  pub deepens_indexes : file_indexes other c new ≡ sector ∷ seen.indexes
  deepens_indexes = ap (λ (x : Part). x.indexes) deepens_more ∙ ap (λ (x : Blocks). sector ∷ x.indexes) h.can.view_is

-- the entries of an inode above an index sector
set_first : (n : ℕ) (x : Entry) → set (replicate (suc n) hole) 0 x ≡ x ∷ replicate n hole
set_first n x = refl

pub root_made : (made : List Entry) (sector : ℕ) → made ≡ replicate 256 hole → set made 0 (record { sector = sector; length = 0 }) ≡ root_above sector
root_made made sector is =
    let first : Entry = record { sector = sector; length = 0 } in
    ap (λ (xs : List Entry). set xs 0 first) is ∙ set_first 255 first
