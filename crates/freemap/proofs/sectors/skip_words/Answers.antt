use Rattle.std.proofs.Common.{arith, length, ◌*◌}
use Rattle.freemap.proofs.Bits.{part-there}
use Rattle.freemap.proofs.Setting.{word_more}
use Rattle.freemap.proofs.sectors.skip_words.Goals as goal

pub loop-word-preserved : goal.loop-word-preserved
loop-word-preserved c = record {
  within = omega arith;
  below = word_more c.args.bits.now _ c.loop-word.word (λ k h. part-there c.args.bits.now (8 * c.loop-word.word) (length c.args.bits.now) k (omega arith)) c.loop-word.invariant.below (c.is_full.ensures c.if-is_full.true);
}
