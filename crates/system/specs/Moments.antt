-- The moments that a clock shows.
use Rattle.std.specs.Prelude.{ℕ, ◌≡◌}
use Rattle.std.specs.Time.{system_time_nanos}
use Rattle.std.specs.declared.time.SystemTime.{SystemTime}

-- a time that it shows, in nanoseconds since 1970
abbrev pub IsMoment : (shows : SystemTime → Type 0) → ℕ → Type 0
IsMoment shows now = (time : SystemTime) × shows time × (now ≡ system_time_nanos time)
