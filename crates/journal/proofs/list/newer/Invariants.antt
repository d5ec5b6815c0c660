use Rattle.std.proofs.Common.{◌≡◌, take}
use Rattle.std.specs.Prelude.{unwrap_or}
use Rattle.disk.specs.Moments.{Image, applied}
use Rattle.journal.proofs.list.newer.Given as goal

abbrev pub invariant-loop-update : goal.invariant-loop-update
invariant-loop-update l = (image base : Image) → image l.n ≡ unwrap_or l.fn.before (base l.n)
    → applied (take l.update-index l.updates) image l.n ≡ unwrap_or l.found (base l.n)
