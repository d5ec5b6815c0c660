use Rattle.std.proofs.Common.{ap, arith}
use Rattle.directory.specs.Records.{record_of}
use Rattle.layout.specs.CachedNodes.{CachedNode}
use Rattle.tree_check.specs.Walks.{number_in}
use Rattle.tree_check.proofs.Visiting.{is-stuck, led-reached, next}
use Rattle.tree_check.proofs.walk.Walk.visit.Goals as goal

pub follow-requires-clause-reached : goal.follow-requires-clause-reached
follow-requires-clause-reached c =
    led-reached c.args.table.now c.args.place c.in-Some.cached.now c.cached-2.inside.names c.in-Some.ensures.some
    (ap (λ (cached_node : CachedNode). cached_node.names) c.cached-2.view_is) c.loop-i.i (record_of c.entry.result.now) (omega (arith, c.loop-i-test.true, c.len-i-end.ensures.count)) c.entry.ensures
    (number_in c.args.table.now c.args.place) c.requires.there c.requires.reached

pub returns-then-not-branch-clause-stuck : goal.returns-then-not-branch-clause-stuck
returns-then-not-branch-clause-stuck c stays =
    is-stuck c.args.table.now c.args.place c.in-Some.cached.now c.cached-2.inside.names c.in-Some.ensures.some
    (ap (λ (cached_node : CachedNode). cached_node.names) c.cached-2.view_is) c.loop-i.i (record_of c.entry.result.now) (omega (arith, c.loop-i-test.true, c.len-i-end.ensures.count)) c.entry.ensures
    c.loop-i.self.seen.items c.args.self.now.order.items c.loop-i.self.order.items c.loop-i.invariant (c.in_ok-follow.ensures.missing c.if-not-branch.true)

pub loop-i-preserved : goal.loop-i-preserved
loop-i-preserved c =
    next c.args.table.now c.args.place c.in-Some.cached.now c.cached-2.inside.names c.in-Some.ensures.some
    (ap (λ (cached_node : CachedNode). cached_node.names) c.cached-2.view_is) c.loop-i.i (record_of c.entry.result.now) (omega (arith, c.loop-i-test.true, c.len-i-end.ensures.count)) c.entry.ensures
    c.loop-i.self.seen.items c.args.self.now.order.items c.loop-i.self.order.items c.loop-i.invariant _ _ (c.in_ok-follow.ensures.met c.if-not-branch.false)
