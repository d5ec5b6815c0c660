use Rattle.session.specs.Views.{settings_of}
use Rattle.event_loop.proofs.AnyCalls.{begun}
use Rattle.event_loop.proofs.calls.mounted.Goals as goal

pub returns-in-Ok : goal.returns-in-Ok
returns-in-Ok g c = λ keeps. begun (settings_of c.args.settings) c.args.device _ (c.in-Ok.ensures.begins keeps) c.in-Ok.ensures.serves
