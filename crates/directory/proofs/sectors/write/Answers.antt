use Rattle.std.proofs.Common.{◌≡◌, ◌*◌, ◌-◌, length, refl, subst, arith}
use Rattle.sector.specs.Written.{AreWritten, AreWritten-more, AreWritten-zeros}
use Rattle.directory.proofs.Sector.{entry_bytes, name_fits, directory_sector-written}
use Rattle.directory.proofs.sectors.write.Goals as goal

pub put_record-requires-clause-few : goal.put_record-requires-clause-few
put_record-requires-clause-few c = name_fits c.args.entries.now c.loop-i.i c.index-entries-i.result c.requires.each c.loop-i-test.true c.index-entries-i.is

pub loop-i-preserved : goal.loop-i-preserved
loop-i-preserved c =
    AreWritten-more entry_bytes 272 0 c.args.sector.now c.loop-i.sector c.put_record.new.sector c.args.entries.now c.loop-i.i (272 * c.loop-i.i) c.index-entries-i.result c.loop-i.invariant c.loop-i-test.true c.index-entries-i.is (omega arith) c.put_record.ensures.prefix c.put_record.ensures.len

pub returns : goal.returns
returns c =
    let entries = c.args.entries.now in
    let end : c.loop-i.i ≡ length entries = omega arith in
    let last = subst (AreWritten entry_bytes 272 0 c.args.sector.now c.loop-i.sector entries) end c.loop-i.invariant in
    directory_sector-written _ entries c.put_zeros.new.sector (272 * length entries) (4096 - 272 * length entries) refl refl c.requires.few refl c.put_zeros.ensures.len
    (AreWritten-zeros entry_bytes 272 0 c.args.sector.now c.loop-i.sector c.put_zeros.new.sector entries (272 * length entries) (4096 - 272 * length entries) last (omega arith) c.put_zeros.ensures.prefix)
