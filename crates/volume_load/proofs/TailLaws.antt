-- The last block of a file.
use Rattle.std.proofs.Common.{◌≡◌, ◌<◌, ◌+◌, ◌*◌, ◌/◌, ◌%◌, ℕ, List, Option, Some, None, length, get_or, sym, ap, ◌∙◌, arith, inl, inr}
use Rattle.std.proofs.lemmas.Bool.{cases_lt}
use Rattle.std.proofs.lemmas.List.{get_or_past}
use Rattle.disk.specs.Moments.{Image}
use Rattle.layout.specs.CachedNodes.{content_at, byte_at}
use Rattle.volume_load.specs.Names.{HasTail}
use Rattle.volume_load.specs.Sectors.{AreZeroFrom}

-- a byte past the last block is zero, and so is one of a hole
past : (image : Image) (blocks : List (Option ℕ)) (k : ℕ) → get_or blocks (k / 4096) None ≡ None → byte_at image blocks k ≡ 0
unfolding byte_at
past image blocks k none = ap (λ (block : Option ℕ). get_or (content_at image block) (k % 4096) 0) none

there : (image : Image) (blocks : List (Option ℕ)) (k sector : ℕ) → get_or blocks (k / 4096) None ≡ Some sector → byte_at image blocks k ≡ get_or (image sector) (k % 4096) 0
unfolding byte_at
there image blocks k sector is = ap (λ (block : Option ℕ). get_or (content_at image block) (k % 4096) 0) is

behind : (image : Image) (blocks : List (Option ℕ)) (size k : ℕ) → length blocks ≡ (size + 4095) / 4096 → size / 4096 < k / 4096 → byte_at image blocks k ≡ 0
behind image blocks size k long h = past image blocks k (get_or_past blocks (k / 4096) None (omega arith))

pub tail_of_hole : (image : Image) (blocks : List (Option ℕ)) (size : ℕ) → length blocks ≡ (size + 4095) / 4096 → get_or blocks (size / 4096) None ≡ None → HasTail image blocks size
tail_of_hole image blocks size long none k h = elim (cases_lt (size / 4096) (k / 4096)) [
  | inl more ↦ behind image blocks size k long more
  | inr same ↦ let e : k / 4096 ≡ size / 4096 = omega arith in past image blocks k (ap (λ (n : ℕ). get_or blocks n None) e ∙ none)
]

pub tail_of_sector : (image : Image) (blocks : List (Option ℕ)) (size sector : ℕ) → length blocks ≡ (size + 4095) / 4096 → get_or blocks (size / 4096) None ≡ Some sector → AreZeroFrom (image sector) (size % 4096) → HasTail image blocks size
tail_of_sector image blocks size sector long is zeros k h = elim (cases_lt (size / 4096) (k / 4096)) [
  | inl more ↦ behind image blocks size k long more
  | inr same ↦ let e : k / 4096 ≡ size / 4096 = omega arith in there image blocks k sector (ap (λ (n : ℕ). get_or blocks n None) e ∙ is) ∙ zeros (k % 4096) (omega arith)
]

pub zeros_of_tail : (image : Image) (blocks : List (Option ℕ)) (size sector : ℕ) → length (image sector) ≡ 4096 → get_or blocks (size / 4096) None ≡ Some sector → HasTail image blocks size → AreZeroFrom (image sector) (size % 4096)
zeros_of_tail image blocks size sector whole is tail at h = elim (cases_lt at 4096) [
  | inl low ↦
      let k = 4096 * (size / 4096) + at in
      let block : k / 4096 ≡ size / 4096 = omega arith in
      let byte : k % 4096 ≡ at = omega arith in
      ap (λ (n : ℕ). get_or (image sector) n 0) (sym byte) ∙ sym (there image blocks k sector (ap (λ (n : ℕ). get_or blocks n None) block ∙ is)) ∙ tail k (omega arith)
  | inr high ↦ get_or_past (image sector) at 0 (omega arith)
]
