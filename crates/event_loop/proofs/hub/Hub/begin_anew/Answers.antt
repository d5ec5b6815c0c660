use Rattle.std.proofs.Common.{ap}
use Rattle.event_loop.specs.Settled.{settings_served}
use Rattle.event_loop.proofs.Runs.{if_ok, loop_begins_anew}
use Rattle.event_loop.proofs.hub.Hub.begin_anew.Goals as goal

pub returns : goal.returns
returns g c = λ keeps.
    if_ok _ _ c.with.result
    (λ hub none.
    loop_begins_anew c.into_server-server.result c.into_server-server.ensures c.into_device.ensures.history c.into_device.ensures.size c.into_device.ensures.failures
    (ap settings_served c.end_run.ensures) (c.next_server-server.ensures keeps) none) c.with.ensures
