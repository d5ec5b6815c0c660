use Rattle.std.proofs.Common.{arith}
use Rattle.freemap.proofs.Setting.{clear-becomes}
use Rattle.freemap.proofs.sectors.clear_bit.Goals as goal

pub returns : goal.returns
returns c = clear-becomes c.args.bits.now c.args.place (omega arith)
