use Rattle.std.proofs.Common.{◌≡◌, ◌≤◌, ◌<◌, ℕ, List, length, get_or, refl, arith, inl, inr}
use Rattle.std.proofs.lemmas.Bool.{cases_lt}
use Rattle.std.proofs.lemmas.List.{get_or_past}
use Rattle.volume_load.specs.Sectors.{AreZeroFrom}
use Rattle.volume_load.proofs.sectors.is_zero_from.Goals as goal

all_zero : (content : List ℕ) (from at : ℕ) → length content ≡ 4096 → ((k : ℕ) → from ≤ k → k < at → get_or content k 0 ≡ 0) → 4096 ≤ at → AreZeroFrom content from
all_zero content from at long below end k h = elim (cases_lt k at) [
  | inl low ↦ below k h low
  | inr high ↦ get_or_past content k 0 (omega arith)
]

pub returns-clause-zero : goal.returns-clause-zero
returns-clause-zero c = ((λ is. all_zero c.args.content.now c.args.from c.loop-at.at c.told-content c.loop-at.invariant c.loop-at-test.false), λ zeros. refl)
