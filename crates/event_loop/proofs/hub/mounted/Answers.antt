use Rattle.std.proofs.Common.{subst}
use Rattle.model.specs.Sessions.Session.{Settings}
use Rattle.std.proofs.Common.{IfOk}
use Rattle.event_loop.specs.Runs.{HasBegun}
use Rattle.event_loop.proofs.hub.mounted.Goals as goal

pub returns : goal.returns
returns g c = λ keeps.
    subst (λ (settings : Settings). IfOk c.mounted.result (HasBegun g.D.Device.keeps_word settings c.args.device)) c.in_ok-of_server.ensures (c.mounted.ensures keeps)
