use Rattle.std.proofs.Common.{arith}
use Rattle.extent_tree.proofs.Bytes.{entry_read}
use Rattle.extent_tree.proofs.encoding.entry_at.Goals as goal

pub returns-clause-bytes : goal.returns-clause-bytes
returns-clause-bytes c = entry_read c.args.sector.now c.args.at c.u32_at.result c.u32_at-2.result c.u32_at.ensures.value c.u32_at-2.ensures.value (omega arith) c.fits-sector
