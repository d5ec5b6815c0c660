use Rattle.std.proofs.Common.{get_or}
use Rattle.std.proofs.lemmas.List.{get_or_default}
use Rattle.directory.proofs.Sorting.{reached_monotone, reached_position}
use Rattle.directory.proofs.order.position.Goals as goal

pub position-requires-clause-each : goal.position-requires-clause-each
position-requires-clause-each c = λ k d within.
    c.requires.within (get_or c.args.order.now k d) (k, within, get_or_default c.args.order.now k (get_or c.args.order.now k d) d within)

pub position-requires-clause-monotone : goal.position-requires-clause-monotone
position-requires-clause-monotone c = reached_monotone c.args.by c.args.records.now c.args.order.now c.args.sought.now c.requires.rising

pub returns : goal.returns
returns c = reached_position c.args.by c.args.records.now c.args.order.now c.args.sought.now c.requires.rising c.position.result c.position.ensures
