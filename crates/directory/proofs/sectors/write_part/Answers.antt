use Rattle.std.proofs.Common.{◌≡◌, ◌+◌, ◌*◌, ◌-◌, [], length, get_or, take, drop, refl, sym, subst, ◌∙◌, arith}
use Rattle.std.proofs.lemmas.List.{length-take, length-drop, get_or-take, get_or-drop}
use Rattle.sector.specs.Written.{AreWritten, AreWritten-more, AreWritten-zeros, each_at}
use Rattle.directory.specs.Records.{record_of, record_from, IsRecord}
use Rattle.directory.specs.Encoding.{record_bytes}
use Rattle.directory.proofs.Sector.{sector_written}
use Rattle.directory.proofs.sectors.write_part.Goals as goal

pub overflow_add-from : goal.overflow_add-from
overflow_add-from c = omega (arith, c.loop-i-test.true, c.requires.small)

pub put_record-requires-clause-few : goal.put_record-requires-clause-few
put_record-requires-clause-few c =
    let nothing = record_from 0 [] 0 in
    let fits = each_at IsRecord c.args.records.now (c.args.from + c.loop-i.i) nothing c.requires.each (omega (arith, c.loop-i-test.true, c.requires.within)) in
    let its = subst IsRecord (c.get.ensures nothing) fits in
    its.few

pub loop-i-preserved : goal.loop-i-preserved
loop-i-preserved c =
    let records = c.args.records.now in
    let part = take c.args.count (drop c.args.from records) in
    let i = c.loop-i.i in
    let one = record_of c.get.result.now in
    let many : length part ≡ c.args.count = omega (arith, length-take c.args.count (drop c.args.from records), length-drop c.args.from records, c.requires.within) in
    let is : one ≡ get_or part i one =
    sym (get_or-take c.args.count (drop c.args.from records) i one c.loop-i-test.true ∙ (get_or-drop c.args.from records i one ∙ c.get.ensures one)) in
    AreWritten-more record_bytes 272 0 c.args.sector.now c.loop-i.sector c.put_record.new.sector part i (272 * i) one c.loop-i.invariant (omega (arith, many, c.loop-i-test.true)) is (omega arith) c.put_record.ensures.prefix c.put_record.ensures.len

pub returns : goal.returns
returns c =
    let records = c.args.records.now in
    let part = take c.args.count (drop c.args.from records) in
    let count = c.args.count in
    let many : length part ≡ count = omega (arith, length-take count (drop c.args.from records), length-drop c.args.from records, c.requires.within) in
    let end : c.loop-i.i ≡ length part = omega (arith, many, c.loop-i-test.false, c.loop-i.auto.i-end) in
    let last = subst (AreWritten record_bytes 272 0 c.args.sector.now c.loop-i.sector part) end c.loop-i.invariant in
    sector_written part c.put_zeros.new.sector (272 * count) (4096 - 272 * count) (omega (arith, many)) (omega (arith, many, c.requires.few)) refl c.put_zeros.ensures.len
    (AreWritten-zeros record_bytes 272 0 c.args.sector.now c.loop-i.sector c.put_zeros.new.sector part (272 * count) (4096 - 272 * count) last (omega (arith, many)) c.put_zeros.ensures.prefix)
