-- The least depth.
use Rattle.std.proofs.Common.{◌≡◌, ◌<◌, ◌≤◌, ◌*◌, ◌^◌, ℕ, zero, suc, true, false, leb, arith, inl, inr}
use Rattle.std.proofs.Math.Nat.{mul-le-mul_left}
use Rattle.std.proofs.lemmas.Bool.{cases_lt, le-leb, lt-leb}
use Rattle.extent_tree.specs.Depth.{depth_of, IsDepth, DepthIsLeast}

above_0 : (b e : ℕ) → 256 < b → b ≤ 256 * 512 ^ e → 1 ≤ e
above_0 b zero more h = absurd (omega arith)
above_0 b (suc e) more h = omega arith

above_1 : (b e : ℕ) → 131072 < b → b ≤ 256 * 512 ^ e → 2 ≤ e
above_1 b zero more h = absurd (omega arith)
above_1 b (suc zero) more h = absurd (omega arith)
above_1 b (suc (suc e)) more h = omega arith

above_2 : (b e : ℕ) → 67108864 < b → b ≤ 256 * 512 ^ e → 3 ≤ e
above_2 b zero more h = absurd (omega arith)
above_2 b (suc zero) more h = absurd (omega arith)
above_2 b (suc (suc zero)) more h = absurd (omega arith)
above_2 b (suc (suc (suc e))) more h = omega arith

pub is_depth_0 : (b : ℕ) → b ≤ 256 → IsDepth b 0
is_depth_0 b h = record { spans = omega arith; least = λ e _. omega arith }

pub is_depth_1 : (b : ℕ) → 256 < b → b ≤ 131072 → IsDepth b 1
is_depth_1 b more h = record { spans = omega arith; least = λ e. above_0 b e more }

pub is_depth_2 : (b : ℕ) → 131072 < b → b ≤ 67108864 → IsDepth b 2
is_depth_2 b more h = record { spans = omega arith; least = λ e. above_1 b e more }

pub is_depth_3 : (b : ℕ) → 67108864 < b → b ≤ 268435456 → IsDepth b 3
is_depth_3 b more h = record { spans = omega arith; least = λ e. above_2 b e more }

-- what holds at each depth holds at the depth of a file
pub at_depth : (P : ℕ → Type 0) (b : ℕ) → (b ≤ 256 → P 0) → (256 < b → b ≤ 131072 → P 1) → (131072 < b → b ≤ 67108864 → P 2) → (67108864 < b → P 3) → P (depth_of b)
at_depth P b p0 p1 p2 p3 =
    elim (cases_lt 256 b) [
      | inr le ↦ let t : leb b 256 ≡ true = le-leb b 256 le in rw t (p0 le)
      | inl more ↦
          let t : leb b 256 ≡ false = lt-leb b 256 more in
          elim (cases_lt 131072 b) [
            | inr le ↦ let u : leb b 131072 ≡ true = le-leb b 131072 le in rw (t, u) (p1 more le)
            | inl more' ↦
                let u : leb b 131072 ≡ false = lt-leb b 131072 more' in
                elim (cases_lt 67108864 b) [
                  | inr le ↦ let v : leb b 67108864 ≡ true = le-leb b 67108864 le in rw (t, u, v) (p2 more' le)
                  | inl more'' ↦ let v : leb b 67108864 ≡ false = lt-leb b 67108864 more'' in rw (t, u, v) (p3 more'')
                ]
          ]
    ]

pub least : DepthIsLeast
least b h = at_depth (IsDepth b) b (is_depth_0 b) (is_depth_1 b) (is_depth_2 b) (λ more. is_depth_3 b more h)

pub span_small : (e : ℕ) → e ≤ 3 → 512 ^ e ≤ 134217728
span_small zero h = omega arith
span_small (suc zero) h = omega arith
span_small (suc (suc zero)) h = omega arith
span_small (suc (suc (suc zero))) h = omega arith
span_small (suc (suc (suc (suc e)))) h = absurd (omega arith)

index_span_small : (e : ℕ) → e < 3 → 512 ^ e ≤ 262144
index_span_small zero h = omega arith
index_span_small (suc zero) h = omega arith
index_span_small (suc (suc zero)) h = omega arith
index_span_small (suc (suc (suc e))) h = absurd (omega arith)

-- the first block of an entry of an index sector
pub index_span_fits : (e w i : ℕ) → e < 3 → w ≡ 512 ^ e → i < 512 → w * i < 2 ^ 32
index_span_fits e w i h is lt =
    let small : w ≤ 262144 = omega (arith, index_span_small e h) in
    let few : i ≤ 512 = omega arith in
    omega (arith, mul-le-mul_left w few)
