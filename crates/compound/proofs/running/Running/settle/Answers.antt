use Rattle.std.proofs.Common.{ℕ, sym, subst, ◌∙◌}
use Rattle.model.specs.Operations.Answer.{Refused}
use Rattle.model_tree.specs.declared.status.Status.TheVariants as status
use Rattle.wire.specs.OutcomeView.{answer_view}
use Rattle.compound.specs.Operates.{GivesIn, left_by_effect}
use Rattle.compound.specs.Views.{in_progress_of}
use Rattle.compound.proofs.Rooms.{gives_in_room, refused_in_room}
use Rattle.compound.proofs.running.Running.settle.Goals as goal

pub returns-then-not-has_room-clause-gives : goal.returns-then-not-has_room-clause-gives
returns-then-not-has_room-clause-gives c = λ now state kind is runs.
    let request = in_progress_of c.args.self.now in
    let room = rw c.short-outcome.ensures.is at c.has_room.ensures in
    c.refuse.ensures.gives now state state kind
    (subst (λ (n : ℕ). GivesIn now state state request request kind (Refused n status.RepTooBig)) (sym is ∙ sym c.operation-operation.ensures)
    (refused_in_room now state state request (left_by_effect c.args.effect request) kind (answer_view c.args.answer) (sym c.if-not-has_room.true ∙ room) runs))

pub returns-clause-gives : goal.returns-clause-gives
returns-clause-gives c = rw c.short-outcome.ensures.is (λ now state kind is runs.
    let request = in_progress_of c.args.self.now in
    let room = rw c.short-outcome.ensures.is at c.has_room.ensures in
    gives_in_room now state state request (left_by_effect c.args.effect request) kind (answer_view c.args.answer) (sym c.if-not-has_room.false ∙ room) runs)
