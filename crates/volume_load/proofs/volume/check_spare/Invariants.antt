use Rattle.std.proofs.Common.{◌≡◌, ◌≤◌, ◌<◌, ℕ}
use Rattle.disk.specs.Calls.{zero_sector}
use Rattle.volume_load.proofs.volume.check_spare.Given as goal

abbrev pub invariant-loop-n : goal.invariant-loop-n
invariant-loop-n g l = record {
  zero : g.S.Sectors.keeps_word → (k : ℕ) → l.first ≤ k → k < l.n → g.S.Sectors.image (g.S.Sectors.kept l.fn.sectors) k ≡ zero_sector;
  kept : g.S.Sectors.kept l.sectors ≡ g.S.Sectors.kept l.fn.sectors;
  health : g.S.Sectors.health l.sectors ≡ g.S.Sectors.health l.fn.sectors;
}
