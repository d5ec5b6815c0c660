use Rattle.std.proofs.Common.{sym, ap, ◌∙◌}
use Rattle.rpc.specs.Assembly.{released}
use Rattle.server.specs.Connections.{connection_view}
use Rattle.server.specs.Stages.{held_record, turn_of_end, left_by_turn, is_fresh}
use Rattle.server.proofs.connection.Connection.settle.Goals as goal

pub invariant_of-self : goal.invariant_of-self
invariant_of-self c = record { ready = rw c.in-Begun.is at c.requires.follows }

pub invariant_of-self-in-Answered : goal.invariant_of-self-in-Answered
invariant_of-self-in-Answered c = record { ready = ap is_fresh (c.release.ensures.assembly ∙ ap released c.requires.holds.1) }

pub returns-in-Begun-clause-turn : goal.returns-in-Begun-clause-turn
returns-in-Begun-clause-turn c = ap turn_of_end (sym c.in-Begun.is)

pub returns-in-Begun-clause-state : goal.returns-in-Begun-clause-state
unfolding connection_view
returns-in-Begun-clause-state c = ap (left_by_turn (held_record c.args.self.now.assembler)) (sym c.in-Begun.is)

pub returns-in-Answered-clause-turn : goal.returns-in-Answered-clause-turn
returns-in-Answered-clause-turn c = ap turn_of_end (sym c.in-Answered.is)

pub returns-in-Answered-clause-state : goal.returns-in-Answered-clause-state
unfolding connection_view
returns-in-Answered-clause-state c = ap (left_by_turn (held_record c.args.self.now.assembler)) (sym c.in-Answered.is)
