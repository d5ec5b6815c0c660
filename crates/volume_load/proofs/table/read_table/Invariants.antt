use Rattle.std.proofs.Common.{◌≡◌, ◌<◌, ◌+◌, ℕ, None, length, get_or}
use Rattle.layout.specs.Marks.{named}
use Rattle.layout.specs.Stands.{version_by}
use Rattle.model_tree.specs.Seats.Seats.{no_seats}
use Rattle.volume_load.specs.Ahead.{IsAhead}
use Rattle.volume_load.specs.CachedNodes.{FindsPlace}
use Rattle.volume_load.specs.Marking.{AreMarked}
use Rattle.volume_load.proofs.table.read_table.Given as goal

abbrev pub invariant-loop-place : goal.invariant-loop-place
invariant-loop-place g l = record {
  marked : AreMarked (148 + l.nodes) l.fn.places l.places (λ n. named n l.cached_nodes.items);
  long : length l.cached_nodes.items ≡ l.place;
  each : (p : ℕ) → p < l.place → FindsPlace g.S.Sectors.keeps_word ((version_by l.number l.mark no_seats).form p) (g.S.Sectors.image (g.S.Sectors.kept l.fn.sectors)) p (get_or l.cached_nodes.items p None);
  ahead : IsAhead g.S.Sectors.keeps_word (g.S.Sectors.image (g.S.Sectors.kept l.fn.sectors)) (g.S.Sectors.size (g.S.Sectors.kept l.fn.sectors)) l.nodes l.ahead;
  kept : g.S.Sectors.kept l.sectors ≡ g.S.Sectors.kept l.fn.sectors;
  health : g.S.Sectors.health l.sectors ≡ g.S.Sectors.health l.fn.sectors;
}
