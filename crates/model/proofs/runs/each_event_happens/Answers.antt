use Rattle.model.proofs.Server.RuledOutLaws.{each_event_happens}
use Rattle.model.proofs.runs.each_event_happens.Goals as goal

pub returns : goal.returns
returns c = each_event_happens
