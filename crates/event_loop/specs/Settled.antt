-- By which settings a server is mounted.
use Rattle.std.specs.Prelude.{ℕ, List, [], ◌∷◌}
use Rattle.model.specs.Sessions.Session.{Settings, plain_settings}
use Rattle.event_loop.specs.declared.settings.Settings as loop

-- under which name: the standard one, unless it has one of its own
abbrev pub name_served : List ℕ → List ℕ
name_served [] = plain_settings.name
name_served (byte ∷ bytes) = byte ∷ bytes

abbrev pub settings_served : loop.Settings → Settings
settings_served settings = record {
  name = name_served settings.name.items;
  holding = settings.holding;
  yields_when_full = settings.yields_when_full;
}
