use Rattle.std.proofs.Common.{sym, subst}
use Rattle.directory.specs.Order.{IsTakenOut}
use Rattle.directory.proofs.Rising.{taken_out, there}
use Rattle.directory.proofs.order.take_out.Goals as goal

pub position_of-at-requires-clause-there : goal.position_of-at-requires-clause-there
position_of-at-requires-clause-there c = c.requires.within c.args.place c.requires.there

pub remove-requires : goal.remove-requires
remove-requires c =
    there c.args.by c.args.records.now c.args.order.now c.args.place c.position_of-at.result c.requires.rising c.position_of-at.ensures c.requires.there

pub returns : goal.returns
returns c =
    subst (λ new. IsTakenOut c.args.by c.args.records.now c.args.order.now new c.args.place) (sym c.in_ok-remove.ensures.ok)
    (taken_out c.args.by c.args.records.now c.args.order.now c.args.place c.position_of-at.result c.requires.rising c.position_of-at.ensures c.requires.there)
