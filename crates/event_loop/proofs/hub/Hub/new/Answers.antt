use Rattle.std.proofs.Common.{ap}
use Rattle.event_loop.specs.Settled.{settings_served}
use Rattle.event_loop.proofs.Runs.{if_ok, loop_begins_as}
use Rattle.event_loop.proofs.hub.Hub.new.Goals as goal

pub returns : goal.returns
returns g c = λ keeps.
    if_ok _ _ c.with.result (λ hub none. loop_begins_as (ap settings_served c.in_ok-desk.ensures) (c.mounted-server.ensures keeps) none) c.with.ensures
