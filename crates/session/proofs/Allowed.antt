-- Flags that are among the allowed ones, and those that add nothing to them.
use Rattle.std.proofs.Common.{◌≡◌, ℕ, ◌==◌, arith}
use Rattle.std.specs.Int.Bits.{bit_and, or_add_and}
use Rattle.std.specs.Cmp.{both_ways}
use Rattle.std.proofs.lemmas.Bool.{eqb-true, eq-eqb}
use Rattle.std.proofs.lemmas.Nat.{and_comm}
use Rattle.model.specs.Sessions.Session.{has_only}

pub among_allowed : (allowed flags : ℕ) → (bit_and allowed flags == flags) ≡ has_only allowed flags
among_allowed allowed flags =
    let common = and_comm allowed flags in
    let sum = or_add_and flags allowed in
    both_ways _ _
    (λ is. let same = eqb-true _ _ is in eq-eqb _ _ (omega (arith, common, sum, same)))
    (λ is. let same = eqb-true _ _ is in eq-eqb _ _ (omega (arith, common, sum, same)))
