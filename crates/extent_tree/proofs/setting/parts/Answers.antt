use Rattle.std.proofs.Common.{arith}
use Rattle.extent_tree.proofs.Depths.{index_span_fits}
use Rattle.extent_tree.proofs.setting.parts.Goals as goal

pub overflow_mul-span : goal.overflow_mul-span
overflow_mul-span c = omega (arith, index_span_fits c.args.depth c.span-span.result c.loop-i.i c.requires.depth c.span-span.ensures c.loop-i-test.true)
