use Rattle.std.proofs.Common.{sym, ap, ◌∙◌, arith}
use Rattle.layout.specs.CachedNodes.{tree_of}
use Rattle.volume.proofs.BelowLaws.{at-root, further, here, is_met}
use Rattle.volume.proofs.ParentTrees.{known-count}
use Rattle.volume.proofs.ancestors.is_below.Goals as goal

pub loop-step-init : goal.loop-step-init
loop-step-init c image =
    let known = c.requires.cached_nodes in
    ap (λ n. is_met n (tree_of image c.args.table.now) c.args.upper c.args.number)
    (omega (arith, c.count-step-end.ensures.count, known-count known.0 known.1 c.args.table.now known.2 image))

pub returns-then-node-upper : goal.returns-then-node-upper
returns-then-node-upper c image =
    sym (here c.count-step-end.result c.loop-step._step (omega (arith, c.loop-step-test.true)) (tree_of image c.args.table.now) c.args.upper c.loop-step.node c.if-node-upper.true)
    ∙ c.loop-step.invariant image

pub returns-then-node-eq-ROOT : goal.returns-then-node-eq-ROOT
returns-then-node-eq-ROOT c image =
    sym (at-root c.count-step-end.result c.loop-step._step (omega (arith, c.loop-step-test.true)) (tree_of image c.args.table.now) c.args.upper c.loop-step.node c.if-node-upper.false c.if-node-eq-ROOT.true)
    ∙ c.loop-step.invariant image

pub loop-step-preserved : goal.loop-step-preserved
loop-step-preserved c image =
    sym (further c.count-step-end.result c.loop-step._step (omega (arith, c.loop-step-test.true)) (tree_of image c.args.table.now) c.args.upper c.loop-step.node c.parent_of-node.result
    c.if-node-upper.false c.if-node-eq-ROOT.false (c.parent_of-node.ensures image))
    ∙ c.loop-step.invariant image
