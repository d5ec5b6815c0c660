use Rattle.std.proofs.Common.{ℕ, length, sym, subst, ap, ◌∙◌}
use Rattle.model.specs.Operations.Answer.{Refused}
use Rattle.model_tree.specs.declared.status.Status.TheVariants as status
use Rattle.wire.specs.Numbers.{number_of}
use Rattle.compound.specs.Operates.{GivesIn}
use Rattle.compound.specs.Views.{in_progress_of}
use Rattle.compound.proofs.Rooms.{gives_in_room, refused_in_room}
use Rattle.compound.proofs.Tellings.{has_room_for, room_for_encoded}
use Rattle.compound.proofs.running.Running.settle_encoded.Goals as goal

pub returns-then-not-has_room_for-clause-gives : goal.returns-then-not-has_room_for-clause-gives
returns-then-not-has_room_for-clause-gives c = λ now state kind answer encodes is runs.
    let request = in_progress_of c.args.self.now in
    c.refuse.ensures.gives now state state kind
    (subst (λ (n : ℕ). GivesIn now state state request request kind (Refused n status.RepTooBig)) (sym is)
    (refused_in_room now state state request request kind answer
    (room_for_encoded request (number_of c.args.operation) c.args.values.items answer (length c.as_slice.result.now) _ encodes (ap length c.as_slice.ensures.value) (sym c.if-not-has_room_for.true ∙ c.has_room_for.ensures)) runs))

pub returns-clause-gives : goal.returns-clause-gives
returns-clause-gives c = λ now state kind answer encodes is runs.
    let request = in_progress_of c.args.self.now in (
      answer,
      encodes,
      gives_in_room now state state request request kind answer
          (room_for_encoded request (number_of c.args.operation) c.args.values.items answer (length c.as_slice.result.now) _ encodes (ap length c.as_slice.ensures.value) (sym c.if-not-has_room_for.false ∙ c.has_room_for.ensures)) runs,
    )

pub returns-clause-answered : goal.returns-clause-answered
returns-clause-answered c =
    has_room_for (in_progress_of c.args.self.now) (number_of c.args.operation) c.args.values.items (length c.as_slice.result.now) (ap length c.as_slice.ensures.value) (sym c.has_room_for.ensures ∙ c.if-not-has_room_for.false)
