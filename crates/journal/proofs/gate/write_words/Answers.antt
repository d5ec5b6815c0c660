use Rattle.std.proofs.Common.{length}
use Rattle.journal.proofs.GateBytes.{words_written}
use Rattle.journal.proofs.gate.write_words.Goals as goal

pub returns : goal.returns
returns c = words_written _ _ _ _ _ _ _ _ c.args.sector.now c.write_u32.new.buf c.write_u32-2.new.buf c.write_u32_into.new.dst _
    (length c.args.targets.now) c.requires.long c.write_u32.ensures c.write_u32-2.ensures c.write_u32_into.ensures
