-- How many index sectors a block may need.
use Rattle.std.proofs.Common.{◌≡◌, ◌<◌, ◌≤◌, ◌+◌, ◌-◌, ◌*◌, ◌/◌, ◌%◌, ◌^◌, ℕ, zero, suc, true, false, List, [], ◌∷◌, length, get_or, min, sym, ap, ◌∙◌, subst, arith}
use Rattle.std.proofs.Math.Nat.{div-add-mod}
use Rattle.std.proofs.lemmas.List.{length-append}
use Rattle.std.proofs.lemmas.Nat.{mod_below}
use Rattle.extent_tree.specs.declared.entry.Entry.{Entry}
use Rattle.extent_tree.specs.Charge.{most_indexes, charge_of}
use Rattle.extent_tree.specs.Depth.{depth_of}
use Rattle.extent_tree.specs.Held.{Blocks}
use Rattle.extent_tree.specs.Setting.{AreTooFew}
use Rattle.extent_tree.specs.Tree.{is_index, indexes_of, indexes_in, IsTree, AreTrees}
use Rattle.extent_tree.proofs.Changes.{CanSet, can_count}
use Rattle.extent_tree.proofs.Charges.{covers, most_in, most_of, rounded_up-pos, span_pos, split_at}
use Rattle.extent_tree.proofs.Cuts.{at_count}
use Rattle.extent_tree.proofs.Frames.{indexes-index}
use Rattle.extent_tree.proofs.Parts.{no_indexes_of}

-- a span with a block has room for an index sector at each depth
depth_most : (e n : ℕ) → 0 < n → e ≤ most_indexes e n
depth_most zero n some = omega arith
depth_most (suc e) n some = omega (arith, depth_most e n some, rounded_up-pos n (512 ^ suc e) some (span_pos (suc e)))

-- if one entry has room for m more, so have all
many_with : (index : ℕ → List Entry) (e m : ℕ) (xs : List Entry) (i : ℕ) (d : Entry) (n : ℕ) → AreTrees index e n xs → i < length xs → length (indexes_of index e (get_or xs i d)) + m ≤ most_indexes e (min (n - 512 ^ e * i) (512 ^ e)) → length (indexes_in index e xs) + m ≤ most_indexes e n
many_with index e m [] i d n h lt few = absurd (omega arith)
many_with index e m (x ∷ xs) zero d n h lt few =
    let here : min (n - 512 ^ e * 0) (512 ^ e) ≡ min n (512 ^ e) = omega arith in
    let few' : length (indexes_of index e x) + m ≤ most_indexes e (min n (512 ^ e)) = subst (λ (k : ℕ). length (indexes_of index e x) + m ≤ most_indexes e k) here few in
    omega (arith, length-append (indexes_of index e x) (indexes_in index e xs), most_in index e (n - 512 ^ e) xs h.1, split_at e n)
many_with index e m (x ∷ xs) (suc i) d n h lt few =
    let here : min (n - 512 ^ e * suc i) (512 ^ e) ≡ min (n - 512 ^ e - 512 ^ e * i) (512 ^ e) = omega arith in
    let few' : length (indexes_of index e (get_or xs i d)) + m ≤ most_indexes e (min (n - 512 ^ e - 512 ^ e * i) (512 ^ e)) = subst (λ (k : ℕ). length (indexes_of index e (get_or xs i d)) + m ≤ most_indexes e k) here few in
    omega (arith, length-append (indexes_of index e x) (indexes_in index e xs), most_of index e (min n (512 ^ e)) x h.0, many_with index e m xs i d (n - 512 ^ e) h.1 (omega arith) few', split_at e n)

abbrev pub AreFewer : (index : ℕ → List Entry) → (e place k : ℕ) → List Entry → Type 0
AreFewer index e place k xs = (n : ℕ) → place < n → AreTrees index e n xs → k + length (indexes_in index e xs) < most_indexes e n

module _ (index : ℕ → List Entry) (e place w k : ℕ) (xs : List Entry) (y : Entry) (span : w ≡ 512 ^ e) (at : place / w < length xs) (y_is : y ≡ get_or xs (place / w) y) where
  count_here : (n : ℕ) → place < n → place % w < min (n - 512 ^ e * (place / w)) (512 ^ e)
  count_here n lt =
      let sum : 512 ^ e * (place / w) + place % w ≡ place = ap (λ (m : ℕ). m * (place / w) + place % w) (sym span) ∙ div-add-mod place w in
      let pos : 0 < w = omega (arith, span_pos e) in
      omega (arith, mod_below place w pos)

  from_entry : ((n : ℕ) → place % w < n → IsTree index e n y → length (indexes_of index e y) + (k + 1) ≤ most_indexes e n) → AreFewer index e place k xs
  from_entry one n lt h =
      let here : ℕ = min (n - 512 ^ e * (place / w)) (512 ^ e) in
      let tree : IsTree index e here y = subst (IsTree index e here) (sym y_is) (at_count (IsTree index e) (512 ^ e) n xs (place / w) y h at) in
      let few : length (indexes_of index e (get_or xs (place / w) y)) + (k + 1) ≤ most_indexes e here = subst (λ (x : Entry). length (indexes_of index e x) + (k + 1) ≤ most_indexes e here) y_is (one here (count_here n lt) tree) in
      omega (arith, many_with index e (k + 1) xs (place / w) y n h at few)

  pub plain_fewer : is_index y ≡ false → k < e → AreFewer index e place k xs
  plain_fewer test few =
      from_entry
      (λ n lt tree. let none : length (indexes_of index e y) ≡ 0 = ap (λ (zs : List ℕ). length zs) (no_indexes_of index e y test) in
      omega (arith, depth_most e n (omega arith)))

  pub index_fewer : (d : ℕ) → e ≡ suc d → is_index y ≡ true → AreFewer index d (place % w) k (index y.sector) → AreFewer index e place k xs
  index_fewer d up test below =
      from_entry
      (λ n lt tree. let tree' : IsTree index (suc d) n y = subst (λ (m : ℕ). IsTree index m n y) up tree in
      let one : length (indexes_of index (suc d) y) ≡ 1 + length (indexes_in index d (index y.sector)) = ap (λ (zs : List ℕ). length zs) (indexes-index index d y test) ∙ omega arith in
      let few : length (indexes_of index (suc d) y) + (k + 1) ≤ most_indexes (suc d) n = omega (arith, below n lt (tree'.1 test).each, rounded_up-pos n (512 ^ suc d) (omega arith) (span_pos (suc d))) in
      subst (λ (m : ℕ). length (indexes_of index m y) + (k + 1) ≤ most_indexes m n) (sym up) few)

pub charged : (index : ℕ → List Entry) (b place k d : ℕ) (root : List Entry) → b ≤ 2 ^ 28 → place < b → AreTrees index d b root → d ≡ depth_of b → AreFewer index d place k root → k + length (indexes_in index d root) < charge_of b
charged index b place k d root small lt h is few =
    let most : most_indexes d b ≡ most_indexes (depth_of b) b = ap (λ (m : ℕ). most_indexes m b) is in
    omega (arith, few b lt h, covers.most b small)

module _ (index : ℕ → List Entry) (e place w k : ℕ) (xs : List Entry) (y : Entry) (span : w ≡ 512 ^ e) (at : place / w < length xs) (y_is : y ≡ get_or xs (place / w) y) where
  pub plain_too_few : is_index y ≡ false → k < e → AreTooFew index e place k xs
  plain_too_few test few = record { depth = few; most = plain_fewer index e place w k xs y span at y_is test few }

  pub index_too_few : (d : ℕ) → d ≡ e - 1 → 0 < e → is_index y ≡ true → AreTooFew index d (place % w) k (index y.sector) → AreTooFew index e place k xs
  index_too_few d low above test below =
      let up : e ≡ suc d = omega arith in
      record { depth = omega (arith, below.depth); most = index_fewer index e place w k xs y span at y_is d up test below.most }

module _ (index : ℕ → List Entry) (b : ℕ) (root : List Entry) (seen : Blocks) (spare : List ℕ) (h : CanSet index b root seen spare) (d : ℕ) (is : d ≡ depth_of b) where
  pub can_each : AreTrees index d b root
  can_each = subst (λ (m : ℕ). AreTrees index m b root) (sym is) h.is.each

  pub can_charge : (k : ℕ) → k + length (indexes_in index d root) < charge_of b → k + length seen.indexes < charge_of (length seen.sectors)
  can_charge k few =
      let same : length (indexes_in index d root) ≡ length seen.indexes = ap (λ (m : ℕ). length (indexes_in index m root)) is ∙ ap (λ (x : Blocks). length x.indexes) h.view_is in
      let count : charge_of b ≡ charge_of (length seen.sectors) = ap charge_of (can_count index b root seen spare h) in
      omega arith
