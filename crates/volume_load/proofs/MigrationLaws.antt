-- The mark of a migration.
use Rattle.std.proofs.Common.{◌≡◌, ◌<◌, ◌^◌, ℕ, List, Option, Some, None, get_or, drop, refl, sym, ap, ◌∙◌, arith}
use Rattle.std.specs.Int.{w32, from_be_bytes}
use Rattle.std.proofs.lemmas.Nat.{from_be_bytes-to_be_bytes_4}
use Rattle.disk.specs.Calls.{zero_sector}
use Rattle.layout.specs.Stands.{mark_held, mark_sector, moved_by}
use Rattle.layout.proofs.FileLaws.{zero_sector-at}
use Rattle.volume_load.specs.Sectors.{AreZeroFrom}
use Rattle.volume_load.proofs.SectorLaws.{zero-all}

-- A mark's sector begins with a byte that is not zero, and says how many places the mark counts

starts : (moved : ℕ) → get_or (mark_sector moved) 0 0 ≡ 77
unfolding mark_sector
starts moved = refl

not_zero : (moved : ℕ) → mark_sector moved ≡ zero_sector → ⊥
not_zero moved same = absurd (let e : 77 ≡ 0 = sym (starts moved) ∙ ap (λ (l : List ℕ). get_or l 0 0) same ∙ zero_sector-at 0 in omega arith)

moved-back : (moved : ℕ) → moved < 2 ^ 32 → from_be_bytes w32 (drop 4 (mark_sector moved)) ≡ moved
unfolding mark_sector
moved-back moved fits = from_be_bytes-to_be_bytes_4 moved fits

-- so at most one mark is there

pub one_mark : (a b : Option ℕ) → moved_by a < 2 ^ 32 → moved_by b < 2 ^ 32 → mark_held a ≡ mark_held b → a ≡ b
one_mark None None first second same = refl
one_mark None (Some moved) first second same = absurd (not_zero moved (sym same))
one_mark (Some moved) None first second same = absurd (not_zero moved same)
one_mark (Some moved) (Some other) first second same =
    ap (λ (n : ℕ). Some n) (sym (moved-back moved first) ∙ ap (λ (l : List ℕ). from_be_bytes w32 (drop 4 l)) same ∙ moved-back other second)

-- a sector that is not zero belongs to no mark except the one that its word gives
pub told : (content : List ℕ) (number : ℕ) (mark : Option ℕ) → (AreZeroFrom content 0 → ⊥) → number ≡ from_be_bytes w32 (drop 4 content) → moved_by mark < 2 ^ 32 → content ≡ mark_held mark → (let some : Option ℕ = Some number in some ≡ mark)
told content number None other is fits same = absurd (other (zero-all content 0 same))
told content number (Some moved) other is fits same = ap (λ (n : ℕ). Some n) (is ∙ ap (λ (l : List ℕ). from_be_bytes w32 (drop 4 l)) same ∙ moved-back moved fits)
