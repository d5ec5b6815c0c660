use Rattle.std.proofs.Common.{◌≡◌, ◌≤◌}
use Rattle.freemap.specs.Places.{places_in}
use Rattle.freemap.specs.Kept.{free_places}
use Rattle.freemap.proofs.sectors.count_free.Given as goal

abbrev pub invariant-loop-place : goal.invariant-loop-place
invariant-loop-place l = (l.free ≤ l.place) × (l.free ≡ free_places (places_in l.bits l.place))
