use Rattle.std.proofs.Common.{◌∙◌, ℕ, List, All, subst}
use Rattle.disk.specs.Moments.{IsSector}
use Rattle.disk.proofs.memory.MemDevice.with_sectors.Goals as goal

pub invariant_of-result-clause-rows : goal.invariant_of-result-clause-rows
invariant_of-result-clause-rows c =
    let P : List (List ℕ) → Type 0 = λ rows. All IsSector rows in
    subst P (c.in_ok-first.ensures.rows ∙ c.deref.ensures.value) c.in_ok-first.ensures.sectors
