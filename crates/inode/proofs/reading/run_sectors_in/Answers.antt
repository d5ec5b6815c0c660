use Rattle.std.proofs.Common.{◌+◌, ◌*◌, refl}
use Rattle.sector.specs.Written.{AreRead-more, none_there}
use Rattle.inode.specs.Fields.{IsRunSector}
use Rattle.inode.specs.Encoding.{number_bytes}
use Rattle.inode.proofs.EntryLemmas.{numbers_wide, some_is}
use Rattle.inode.proofs.reading.run_sectors_in.Goals as goal

pub returns-in_default-clause-err : goal.returns-in_default-clause-err
returns-in_default-clause-err c = λ is.
    none_there number_bytes IsRunSector 4 numbers_wide 48 c.args.count c.args.sector.now c.loop-i.numbers.items c.loop-i.i c.loop-i.invariant 0 (48 + 4 * c.loop-i.i) c.loop-i-test.true refl
    (λ other rest is' e. c.in_default.not-Some other (c.run_sector_at.ensures.only other rest is' e))

pub loop-i-preserved : goal.loop-i-preserved
loop-i-preserved c =
    rw c.in_ok-push.ensures.items
    (AreRead-more number_bytes IsRunSector 4 numbers_wide 48 c.args.count c.args.sector.now c.loop-i.numbers.items c.loop-i.i c.loop-i.invariant c.in-Some.number (48 + 4 * c.loop-i.i) c.in-Some.ensures.fits c.loop-i-test.true refl
    (λ other rest is e. some_is c.in-Some.number other (c.in-Some.ensures.only other rest is e)))
