use Rattle.model.specs.Operations.Answer.{Done}
use Rattle.wire.specs.Numbers.{number_of}
use Rattle.compound.specs.Views.{in_progress_of}
use Rattle.compound.proofs.Rooms.{gives_in_room, room_true}
use Rattle.compound.proofs.Tellings.{first_has_room, first_encoded_room}
use Rattle.compound.proofs.running.Running.answer_first_encoded.Goals as goal

pub returns-clause-gives : goal.returns-clause-gives
unfolding in_progress_of
returns-clause-gives c = λ now old new kind answer encodes runs.
    let request = in_progress_of c.args.self.now in (
      answer,
      encodes,
      gives_in_room now old new request request kind answer
          (room_true request (Done answer)
          (first_encoded_room request (number_of c.args.operation) c.args.values.items answer encodes c.args.self.now.compound.tag.short (c.args.self.now.progress.first c.requires.first) c.requires.short))
          runs,
    )

pub returns-clause-answered : goal.returns-clause-answered
unfolding in_progress_of
returns-clause-answered c =
    first_has_room (in_progress_of c.args.self.now) (number_of c.args.operation) c.args.values.items c.args.self.now.compound.tag.short (c.args.self.now.progress.first c.requires.first) c.requires.short
