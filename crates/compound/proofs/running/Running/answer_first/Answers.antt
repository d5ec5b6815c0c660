use Rattle.std.proofs.Common.{arith}
use Rattle.model.specs.Operations.Answer.{Done}
use Rattle.model.specs.Server.World.{outcome_text}
use Rattle.wire.specs.OutcomeView.{answer_view}
use Rattle.compound.specs.Operates.{left_by_effect}
use Rattle.compound.specs.Views.{in_progress_of}
use Rattle.compound.proofs.Rooms.{gives_in_room, first_room, room_true}
use Rattle.compound.proofs.running.Running.answer_first.Goals as goal

pub returns-clause-gives : goal.returns-clause-gives
unfolding in_progress_of outcome_text
returns-clause-gives c = rw c.short.ensures.is (λ now old new kind runs.
    let request = in_progress_of c.args.self.now in
    gives_in_room now old new request (left_by_effect c.args.effect request) kind (answer_view c.args.answer)
    (room_true request (Done (answer_view c.args.answer)) (first_room request (Done (answer_view c.args.answer)) c.args.self.now.compound.tag.short (c.args.self.now.progress.first c.requires.first) c.short.ensures.bound)) runs)

pub returns-clause-answered : goal.returns-clause-answered
unfolding in_progress_of outcome_text
returns-clause-answered c = rw c.short.ensures.is (record {
  fits = c.short.ensures.fits;
  small = omega (arith, c.short.ensures.bound);
  room = first_room (in_progress_of c.args.self.now) (Done (answer_view c.args.answer)) c.args.self.now.compound.tag.short (c.args.self.now.progress.first c.requires.first) c.short.ensures.bound;
})
