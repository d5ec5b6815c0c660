use Rattle.std.proofs.Common.{arith}
use Rattle.extent_tree.proofs.Depths.{span_small}
use Rattle.extent_tree.proofs.spans.span.Goals as goal

pub pow-requires : goal.pow-requires
pow-requires c = omega (arith, span_small c.from.result (omega arith))
