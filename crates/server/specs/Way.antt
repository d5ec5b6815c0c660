-- The progress of a COMPOUND that has begun, as an operator may see it.
use Rattle.std.specs.Prelude.{Option, Some, None}
use Rattle.compound.specs.Ahead.{ahead_of}
use Rattle.model.specs.Server.World.{Connection, InProgress, Busy}
use Rattle.server.specs.declared.statistics.UnderWay.{UnderWay}

abbrev pub way_of : InProgress → UnderWay
way_of request = record { answered = request.answered; ahead = ahead_of request }

abbrev pub under_way : Option Connection → Option UnderWay
under_way (Some (Busy request)) = Some (way_of request)
under_way _ = None
