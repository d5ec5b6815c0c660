use Rattle.std.proofs.Common.{arith}
use Rattle.freemap.proofs.Setting.{byte_more}
use Rattle.freemap.proofs.sectors.skip_bytes.Goals as goal

pub loop-byte-preserved : goal.loop-byte-preserved
loop-byte-preserved c = record {
  within = omega arith;
  below = byte_more c.args.bits.now c.loop-byte.byte c.loop-byte.invariant.below c.if-bits-byte.true;
}
