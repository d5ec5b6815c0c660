use Rattle.std.proofs.Common.{◌≡◌}
use Rattle.volume_load.proofs.RunLaws.{AreReadTo}
use Rattle.volume_load.proofs.runs.read_runs.Given as goal

abbrev pub invariant-loop-number : goal.invariant-loop-number
invariant-loop-number g l = record {
  far : AreReadTo g.S.Sectors.keeps_word (g.S.Sectors.image (g.S.Sectors.kept l.fn.sectors)) l.numbers l.count l.number-index l.runs.items;
  kept : g.S.Sectors.kept l.sectors ≡ g.S.Sectors.kept l.fn.sectors;
  health : g.S.Sectors.health l.sectors ≡ g.S.Sectors.health l.fn.sectors;
}
