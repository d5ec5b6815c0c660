use Rattle.event_loop.proofs.AnyCalls.{begun_on}
use Rattle.event_loop.proofs.hub.first_server.Goals as goal

pub returns-in-Ok : goal.returns-in-Ok
returns-in-Ok g c = λ keeps. begun_on (c.in_ok-server.ensures keeps) c.begin_first_run.ensures
