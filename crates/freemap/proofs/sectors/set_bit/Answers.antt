use Rattle.std.proofs.Common.{arith}
use Rattle.freemap.proofs.Setting.{set-becomes}
use Rattle.freemap.proofs.sectors.set_bit.Goals as goal

pub returns : goal.returns
returns c = set-becomes c.args.bits.now c.args.place (omega arith)
