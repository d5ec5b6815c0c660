-- How many index sectors a tree has at most.
use Rattle.std.proofs.Common.{◌≡◌, ◌<◌, ◌≤◌, ◌+◌, ◌-◌, ◌*◌, ◌/◌, ◌^◌, ℕ, zero, suc, Bool, true, false, cond, List, [], ◌∷◌, length, min, refl, ap, ◌∙◌, arith, inl, inr}
use Rattle.std.specs.List.{flat_map}
use Rattle.std.proofs.Math.Nat.{pow-suc, one-le-pow, min-eq_left, min-eq_right, div-eq_of_lt, add-mul-div_left, mul_assoc}
use Rattle.std.proofs.lemmas.Bool.{cases_lt, false≢true}
use Rattle.std.proofs.lemmas.List.{length-append}
use Rattle.std.proofs.lemmas.Nat.{le-div}
use Rattle.extent_tree.specs.declared.entry.Entry.{Entry}
use Rattle.extent_tree.specs.Depth.{depth_of}
use Rattle.extent_tree.specs.Entries.{EachWithin, IsEntry}
use Rattle.extent_tree.specs.Tree.{is_index, indexes_of, indexes_in, IsTree, AreTrees}
use Rattle.extent_tree.specs.Charge.{rounded_up, most_indexes, charge_of, ChargeCovers}
use Rattle.extent_tree.proofs.Depths.{at_depth}

-- ---- the number of blocks, split after a whole number of spans

rounded_up-zero : (m : ℕ) → 0 < m → rounded_up 0 m ≡ 0
rounded_up-zero m h = div-eq_of_lt (omega arith)

rounded_up-add : (n m k : ℕ) → 0 < m → rounded_up (n + m * k) m ≡ rounded_up n m + k
rounded_up-add n m k h =
    let e : n + m * k + (m - 1) ≡ n + (m - 1) + m * k = omega arith in
    ap (λ (x : ℕ). x / m) e ∙ add-mul-div_left (n + (m - 1)) k h

rounded_up-split : (n m k : ℕ) → 0 < m → rounded_up (min n (m * k)) m + rounded_up (n - m * k) m ≡ rounded_up n m
rounded_up-split n m k h =
    elim (cases_lt n (m * k)) [
      | inl lt ↦
          let le : n ≤ m * k = omega arith in
          let front : min n (m * k) ≡ n = min-eq_left le in
          let none : n - m * k ≡ 0 = omega arith in
          let zeros : rounded_up 0 m ≡ 0 = rounded_up-zero m h in
          rw (front, none) (ap (λ (x : ℕ). rounded_up n m + x) zeros ∙ omega arith)
      | inr le ↦
          let front : min n (m * k) ≡ m * k = min-eq_right le in
          let parts : n ≡ n - m * k + m * k = omega arith in
          let whole : rounded_up n m ≡ rounded_up (n - m * k) m + k = ap (λ (x : ℕ). rounded_up x m) parts ∙ rounded_up-add (n - m * k) m k h in
          let first : rounded_up (m * k) m ≡ k = ap (λ (x : ℕ). rounded_up x m) (omega arith) ∙ rounded_up-add 0 m k h ∙ ap (λ (x : ℕ). x + k) (rounded_up-zero m h) ∙ omega arith in
          ap (λ (x : ℕ). rounded_up x m + rounded_up (n - m * k) m) front ∙ omega (arith, whole, first)
    ]

pub rounded_up-pos : (n m : ℕ) → 0 < n → 0 < m → 1 ≤ rounded_up n m
rounded_up-pos n m hn hm = le-div 1 (n + (m - 1)) m hm (omega arith)

pub span_pos : (e : ℕ) → 0 < 512 ^ e
span_pos e = one-le-pow e 512 (omega arith)

-- entries up to a whole number of spans, and those behind them
most-split : (e n span k : ℕ) → span ≡ 512 ^ e * k → most_indexes e (min n span) + most_indexes e (n - span) ≤ most_indexes e n
most-split zero n span k is = omega arith
most-split (suc e) n span k is =
    let fewer : span ≡ 512 ^ e * (512 * k) = is ∙ ap (λ (x : ℕ). x * k) (pow-suc 512 e) ∙ mul_assoc (512 ^ e) 512 k in
    let below : most_indexes e (min n span) + most_indexes e (n - span) ≤ most_indexes e n = most-split e n span (512 * k) fewer in
    let here : rounded_up (min n span) (512 ^ suc e) + rounded_up (n - span) (512 ^ suc e) ≡ rounded_up n (512 ^ suc e) =
    ap (λ (x : ℕ). rounded_up (min n x) (512 ^ suc e) + rounded_up (n - x) (512 ^ suc e)) is ∙ rounded_up-split n (512 ^ suc e) k (span_pos (suc e)) in
    omega (arith, below, here)

-- ---- a tree

-- what bounds each entry bounds all
many_in : (f : Entry → List ℕ) (P : ℕ → Entry → Type 0) (most : ℕ → ℕ) (span : ℕ) → ((n : ℕ) → most (min n span) + most (n - span) ≤ most n) → ((n : ℕ) (x : Entry) → P n x → length (f x) ≤ most n)
    → (count : ℕ) (entries : List Entry) → EachWithin P span count entries → length (flat_map f entries) ≤ most count
many_in f P most span split one count [] h = omega arith
many_in f P most span split one count (x ∷ xs) h =
    omega (arith, length-append (f x) (flat_map f xs), one (min count span) x h.0, many_in f P most span split one (count - span) xs h.1, split count)

pub split_at : (e n : ℕ) → most_indexes e (min n (512 ^ e)) + most_indexes e (n - 512 ^ e) ≤ most_indexes e n
split_at e n = most-split e n (512 ^ e) 1 (omega arith)

-- an index sector's entry is of a span with a block
block_in : (e count : ℕ) (entry : Entry) → IsEntry e count entry → is_index entry ≡ true → 0 < count
block_in e count entry (inl is) test = let e : false ≡ true = rw is.sector at test in absurd (false≢true e)
block_in e count entry (inr (inl is)) test = is.some
block_in e count entry (inr (inr is)) test = omega (arith, is.some, is.within)

-- an index sector and those below it, if there is one
length-chosen : (test : Bool) (s : ℕ) (below : List ℕ) (n : ℕ) → (test ≡ true → length below + 1 ≤ n) → length (cond test (s ∷ below) []) ≤ n
length-chosen true s below n h = omega (arith, h refl)
length-chosen false s below n h = omega arith

pub most_of : (index : ℕ → List Entry) (e count : ℕ) (entry : Entry) → IsTree index e count entry → length (indexes_of index e entry) ≤ most_indexes e count
most_of index zero count entry h = omega arith
most_of index (suc e) count entry h =
    length-chosen (is_index entry) entry.sector (flat_map (indexes_of index e) (index entry.sector)) (most_indexes (suc e) count)
    (λ test. let below : length (flat_map (indexes_of index e) (index entry.sector)) ≤ most_indexes e count = many_in (indexes_of index e) (IsTree index e) (most_indexes e) (512 ^ e) (split_at e) (most_of index e) count (index entry.sector) (h.1 test).each in
    let here : 1 ≤ rounded_up count (512 ^ suc e) = rounded_up-pos count (512 ^ suc e) (block_in (suc e) count entry h.0 test) (span_pos (suc e)) in
    omega (arith, below, here))

pub most_in : (index : ℕ → List Entry) (e count : ℕ) (entries : List Entry) → AreTrees index e count entries → length (indexes_in index e entries) ≤ most_indexes e count
most_in index e count entries h = many_in (indexes_of index e) (IsTree index e) (most_indexes e) (512 ^ e) (split_at e) (most_of index e) count entries h

-- ---- the charge

most_1 : (b : ℕ) → 256 < b → most_indexes 1 b ≤ charge_of b
most_1 b h = omega arith

most_2 : (b : ℕ) → 131072 < b → most_indexes 2 b ≤ charge_of b
most_2 b h = omega arith

most_3 : (b : ℕ) → 67108864 < b → most_indexes 3 b ≤ charge_of b
most_3 b h = omega arith

pub covers : ChargeCovers
covers = record {
  tree = λ index b root is. most_in index (depth_of b) b root is.each;
  most = λ b h. at_depth (λ (d : ℕ). most_indexes d b ≤ charge_of b) b (λ _. omega arith) (λ more _. most_1 b more) (λ more _. most_2 b more) (λ more. most_3 b more);
  small = λ b h. at_depth (λ (d : ℕ). most_indexes d b ≡ 0) b (λ _. refl) (λ more _. absurd (omega arith)) (λ more _. absurd (omega arith)) (λ more. absurd (omega arith));
}
