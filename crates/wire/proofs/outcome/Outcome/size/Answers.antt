use Rattle.std.proofs.Common.{arith}
use Rattle.std.proofs.lemmas.List.{length-append}
use Rattle.xdr.proofs.Numbers.{length-number_32}
use Rattle.wire.proofs.outcome.Outcome.size.Goals as goal

pub size-requires-clause-small : goal.size-requires-clause-small
size-requires-clause-small c =
    let all = simp (length-append, length-number_32) at (rw c.in-Done.is at c.requires.small) in
    omega (arith, all)

pub overflow_add-result : goal.overflow_add-result
overflow_add-result c =
    let all = simp (length-append, length-number_32) at (rw c.in-Done.is at c.requires.small) in
    omega (arith, all, c.size.ensures)

pub returns-in-Done : goal.returns-in-Done
returns-in-Done c = rw c.in-Done.is (simp (length-append, length-number_32) (omega (arith, c.size.ensures)))

pub returns-in-Refused : goal.returns-in-Refused
returns-in-Refused c = rw c.in-Refused.is (simp (length-append, length-number_32) (omega (arith, c.refused_size.ensures)))
