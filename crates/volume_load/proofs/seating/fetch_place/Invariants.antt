use Rattle.std.proofs.Common.{◌≡◌, ◌<◌, ℕ, [], length, get_or}
use Rattle.volume_load.specs.Seating.{at_place}
use Rattle.volume_load.proofs.seating.fetch_place.Given as goal

abbrev pub invariant-loop-k : goal.invariant-loop-k
invariant-loop-k g l = record {
  long : length l.content.items ≡ l.k;
  content : g.S.Sectors.keeps_word → (k : ℕ) → k < l.k → get_or l.content.items k [] ≡ at_place l.fn.sizes l.first (g.S.Sectors.image (g.S.Sectors.kept l.fn.sectors)) l.place k;
  kept : g.S.Sectors.kept l.sectors ≡ g.S.Sectors.kept l.fn.sectors;
  health : g.S.Sectors.health l.sectors ≡ g.S.Sectors.health l.fn.sectors;
}
