use Rattle.std.proofs.Common.{◌≡◌, ◌+◌, ◌<◌, ◌⊎◌, drop}
use Rattle.journal.specs.Layout.{home, home_from}
use Rattle.journal.proofs.gate.place_of.Given as goal

abbrev pub invariant-loop-i : goal.invariant-loop-i
invariant-loop-i l = record {
  found : home l.named l.area.first l.n ≡ home_from l.place (drop l.i l.named) (l.area.first + l.i) l.n;
  within : (l.place < l.area.first + l.area.sectors) ⊎ (l.place ≡ l.n);
}
