use Rattle.std.proofs.Common.{◌-◌, ◌*◌, [], length, map, replicate, ap, arith, Err}
use Rattle.std.proofs.lemmas.Result.{err_from_is_err_and}
use Rattle.std.proofs.lemmas.List.{map_push}
use Rattle.sector.specs.Written.{AreRead-more, AreRead-all, none_there}
use Rattle.directory.specs.Records.{record_of, record_from, IsRecord}
use Rattle.directory.specs.Encoding.{record_bytes}
use Rattle.directory.proofs.Sector.{records_wide, records_there, err_is}
use Rattle.directory.proofs.sectors.entries_in.Goals as goal

pub returns-in_err-entry-clause-err : goal.returns-in_err-entry-clause-err
returns-in_err-entry-clause-err c = λ is others all many e.
    let p = err_from_is_err_and c.from_residual.result c.from_residual.ensures.1 in
    let fault = err_is _ _ (rw (p.1, p.2) at is) in
    none_there record_bytes IsRecord 272 records_wide 0 c.args.count c.args.sector.now (map record_of c.loop-i.entries.items) c.loop-i.i c.loop-i.invariant (record_from 0 [] 0) (272 * c.loop-i.i) c.loop-i-test.true (omega arith)
    (λ other rest is' e'. c.in_err-entry.ensures.err (ap (λ x. Err x) fault) other rest is' e') others (replicate (4096 - 272 * length others) 0) all many (records_there others c.args.sector.now e)

pub loop-i-preserved : goal.loop-i-preserved
loop-i-preserved c =
    let entry = c.in_ok-entry.entry in
    rw (c.in_ok-push.ensures.items, map_push record_of c.loop-i.entries.items entry)
    (AreRead-more record_bytes IsRecord 272 records_wide 0 c.args.count c.args.sector.now (map record_of c.loop-i.entries.items) c.loop-i.i c.loop-i.invariant (record_of entry) (272 * c.loop-i.i) c.in_ok-entry.ensures.fits c.loop-i-test.true (omega arith) c.in_ok-entry.ensures.only)

pub returns-clause-only : goal.returns-clause-only
returns-clause-only c = λ others all many e.
    AreRead-all record_bytes IsRecord 272 records_wide 0 c.args.count c.args.sector.now (map record_of c.loop-i.entries.items) c.loop-i.i c.loop-i.invariant (omega arith) others (replicate (4096 - 272 * length others) 0) all many (records_there others c.args.sector.now e)
