use Rattle.std.proofs.Common.{inr, ◌∙◌}
use Rattle.tree_check.proofs.Meeting.{mark_is, meets, met_before}
use Rattle.tree_check.proofs.walk.Walk.follow.Goals as goal

pub returns-in_ok-meet-in-Some-clause-met : goal.returns-in_ok-meet-in-Some-clause-met
returns-in_ok-meet-in-Some-clause-met c done =
    let walk = c.args.self.now in
    meets c.args.table.now walk.seen.items walk.order.items c.requires.walk c.args.number c.in-Some.place c.in-Some.ensures.some
    (mark_is c.args.table.now walk.seen.items walk.order.items c.requires.walk c.args.number c.in-Some.place c.in-Some.ensures.some c.index.result.now c.index.ensures ∙ c.if-not-index.true)
    c.requires.reached c.meet.new.self.seen.items c.meet.new.self.order.items c.in_ok-meet-in-Some.ensures.seen c.in_ok-meet-in-Some.ensures.order

pub returns-in_default-clause-missing : goal.returns-in_default-clause-missing
returns-in_default-clause-missing c done =
    let walk = c.args.self.now in
    inr (met_before c.args.table.now walk.seen.items walk.order.items c.requires.walk c.args.number c.in-Some.place c.in-Some.ensures.some
    (mark_is c.args.table.now walk.seen.items walk.order.items c.requires.walk c.args.number c.in-Some.place c.in-Some.ensures.some c.index.result.now c.index.ensures ∙ c.if-not-index.false))
