-- How many clients, sessions, slots and operations a server has, by the version of its volume:
-- numbers, and not the constants of the code, so that a constant that is changed is refused.
use Rattle.std.specs.Prelude.{ℕ}
use Rattle.layout.specs.declared.versions.VersionNumber.{VersionNumber}
use Rattle.layout.specs.declared.versions.VersionNumber.TheVariants.{One, Two, Three}
use Rattle.model.specs.Sessions.Session.{SessionLimits}

-- on a volume whose seats have `seat_slots` slots
abbrev pub served_with : (seat_slots : ℕ) → SessionLimits
served_with seat_slots = record {
  clients = 64;
  sessions = 32;
  slots = 8;
  seat_slots = seat_slots;
  operations = 16;
  record_bytes = 16384;
}

abbrev pub served_by : VersionNumber → SessionLimits
served_by One = served_with 2
served_by Two = served_with 2
served_by (Three s) = served_with s.geometry.slots
