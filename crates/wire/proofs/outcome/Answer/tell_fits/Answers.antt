use Rattle.std.proofs.Common.{arith}
use Rattle.std.proofs.lemmas.List.{length-append}
use Rattle.xdr.proofs.Sizes.{padded_length, counted_length}
use Rattle.xdr.proofs.Numbers.{length-number_32, length-number_64}
use Rattle.wire.proofs.outcome.Answer.tell_fits.Goals as goal

pub returns-in-Access-clause-bound : goal.returns-in-Access-clause-bound
returns-in-Access-clause-bound c = rw c.in-Access.is (simp (length-append, length-number_32) (omega arith))

pub returns-in-Close-clause-bound : goal.returns-in-Close-clause-bound
returns-in-Close-clause-bound c = rw c.in-Close.is (simp (length-append, length-number_32, padded_length) (omega (arith, c.tell_state.ensures.1)))

pub returns-in-Commit-clause-bound : goal.returns-in-Commit-clause-bound
returns-in-Commit-clause-bound c = rw c.in-Commit.is (simp padded_length (omega (arith, c.tell_array.ensures)))

pub returns-in-GetFh-clause-bound : goal.returns-in-GetFh-clause-bound
returns-in-GetFh-clause-bound c =
    let short = rw c.in-GetFh.is at c.requires in
    rw c.in-GetFh.is (simp counted_length (omega (arith, short)))

pub returns-in-Remove-clause-bound : goal.returns-in-Remove-clause-bound
returns-in-Remove-clause-bound c = rw c.in-Remove.is (simp (length-append, length-number_32, length-number_64) (omega arith))

pub returns-in-Rename-clause-bound : goal.returns-in-Rename-clause-bound
returns-in-Rename-clause-bound c = rw c.in-Rename.is (simp (length-append, length-number_32, length-number_64) (omega arith))

pub returns-in-Write-clause-bound : goal.returns-in-Write-clause-bound
returns-in-Write-clause-bound c = rw c.in-Write.is (simp (length-append, length-number_32, padded_length) (omega (arith, c.tell_write.ensures.1.1)))

pub returns-in-Sequence-clause-bound : goal.returns-in-Sequence-clause-bound
returns-in-Sequence-clause-bound c = rw c.in-Sequence.is (simp (length-append, length-number_32, padded_length) (omega (arith, c.tell_sequence.ensures.0)))
