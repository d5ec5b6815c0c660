use Rattle.std.proofs.Common.{arith, ap, Err}
use Rattle.std.proofs.lemmas.Result.{err_from_is_err_and}
use Rattle.inode.proofs.EntryLemmas.{some_is, err_is}
use Rattle.inode.proofs.Parts.{kind_there, count_there, runs_there, number_there, owner_there, group_there, change_there, time_there, size_there, run_sectors_there, acl_there, same_fields, rest_of_numbers, rest_of_acl}
use Rattle.inode.proofs.reading.inode_in.Goals as goal

pub returns-in_default-clause-err : goal.returns-in_default-clause-err
returns-in_default-clause-err c = λ is fields fits e.
    c.in_default.not-Some fields.kind (c.kind_from.ensures fields.kind (kind_there c.args.form fields c.args.sector.now e))

pub returns-then-aces-most_entries-clause-err : goal.returns-then-aces-most_entries-clause-err
returns-then-aces-most_entries-clause-err c = λ is fields fits e.
    let count = count_there c.args.form fields c.args.sector.now e fits in omega (arith, fits.acl, c.count_at-aces.ensures, c.most_entries.ensures)

pub returns-then-runs-gt-MAX_RUNS-clause-err : goal.returns-then-runs-gt-MAX_RUNS-clause-err
returns-then-runs-gt-MAX_RUNS-clause-err c = λ is fields fits e.
    let runs = runs_there c.args.form fields c.args.sector.now e fits c.u16_at-runs.result c.u16_at-runs.ensures.only in omega (arith, fits.runs)

pub returns-in_err-run_sectors-clause-err : goal.returns-in_err-run_sectors-clause-err
returns-in_err-run_sectors-clause-err c = λ is fields fits e.
    let form = c.args.form in
    let p = err_from_is_err_and c.from_residual.result c.from_residual.ensures.1 in
    let fault = err_is _ _ (rw (p.1, p.2) at is) in
    let runs = runs_there form fields c.args.sector.now e fits c.u16_at-runs.result c.u16_at-runs.ensures.only in
    c.in_err-run_sectors.ensures.err (ap (λ x. Err x) fault) fields.run_sectors (rest_of_numbers form fields) fits.each_run_sector (omega (arith, fits.run_sectors, c.div_ceil.ensures)) (run_sectors_there form fields c.args.sector.now e)

pub returns-in_err-acl-clause-err : goal.returns-in_err-acl-clause-err
returns-in_err-acl-clause-err c = λ is fields fits e.
    let form = c.args.form in
    let p = err_from_is_err_and c.from_residual-in_err-acl.result c.from_residual-in_err-acl.ensures.1 in
    let fault = err_is _ _ (rw (p.1, p.2) at is) in
    let count = count_there form fields c.args.sector.now e fits in
    c.in_err-acl.ensures.err (ap (λ x. Err x) fault) fields.acl (rest_of_acl fields) fits.each_ace (omega (arith, c.count_at-aces.ensures)) (acl_there form fields c.args.sector.now e fits)

pub returns-clause-only : goal.returns-clause-only
returns-clause-only c = λ fields fits e.
    let form = c.args.form in
    let sector = c.args.sector.now in
    let kind = some_is c.in-Some.kind fields.kind (c.in-Some.ensures fields.kind (kind_there form fields sector e)) in
    let runs = runs_there form fields sector e fits c.u16_at-runs.result c.u16_at-runs.ensures.only in
    let count = count_there form fields sector e fits in
    let numbers = c.in_ok-run_sectors.ensures.only fields.run_sectors (rest_of_numbers form fields) fits.each_run_sector (omega (arith, fits.run_sectors, c.div_ceil.ensures)) (run_sectors_there form fields sector e) in
    let acl = c.in_ok-acl.ensures.only fields.acl (rest_of_acl fields) fits.each_ace (omega (arith, c.count_at-aces.ensures)) (acl_there form fields sector e fits) in
    same_fields c.in-Some.kind c.u64_at.result c.u32_at.result c.u32_at-2.result c.u64_at-2.result c.u64_at-3.result c.u64_at-4.result c.u16_at-runs.result c.in_ok-run_sectors.run_sectors.items c.in_ok-acl.acl fields kind
    (number_there form fields sector e fits c.u64_at.result c.u64_at.ensures.only) (owner_there form fields sector e fits c.u32_at.result c.u32_at.ensures.only)
    (group_there form fields sector e fits c.u32_at-2.result c.u32_at-2.ensures.only) (change_there form fields sector e fits c.u64_at-2.result c.u64_at-2.ensures.only)
    (time_there form fields sector e fits c.u64_at-3.result c.u64_at-3.ensures.only) (size_there form fields sector e fits c.u64_at-4.result c.u64_at-4.ensures.only) runs numbers acl
