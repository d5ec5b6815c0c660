use Rattle.std.proofs.Common.{ℕ, List, ap, ◌∙◌}
use Rattle.model.specs.Sessions.Session.{Settings}
use Rattle.event_loop.specs.Settled.{name_served}
use Rattle.event_loop.specs.declared.settings.Settings as loop
use Rattle.event_loop.proofs.settings.Settings.of_server.Goals as goal

abbrev named : loop.Settings → List ℕ → Settings
named settings name = record { name = name; holding = settings.holding; yields_when_full = settings.yields_when_full }

pub returns : goal.returns
returns c = ap (named c.args.self.now) (c.in_ok-name_of.ensures ∙ ap name_served c.deref.ensures.value)
