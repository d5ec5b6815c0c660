use Rattle.std.proofs.Common.{◌≡◌, ◌<◌, ℕ, None, length, get_or, map}
use Rattle.std.specs.List.{AllByRecursion}
use Rattle.model_tree.specs.Seats.SeatViews.{place_view}
use Rattle.layout.specs.Stands.{frees_whole, seats_from, sizes_by}
use Rattle.volume_load.specs.Seating.{at_place}
use Rattle.seats.specs.Encoding.{HoldPlace, IsSeatPlace}
use Rattle.volume_load.proofs.seating.read_places.Given as goal

abbrev pub invariant-loop-place : goal.invariant-loop-place
invariant-loop-place g l = record {
  long : length l.places.items ≡ l.place;
  fits : AllByRecursion (IsSeatPlace (sizes_by l.fn.number).slots) (map place_view l.places.items);
  found : g.S.Sectors.keeps_word → (p : ℕ) → p < l.place → HoldPlace (sizes_by l.fn.number).slots (frees_whole l.fn.number) (at_place (sizes_by l.fn.number) (seats_from l.fn.number) (g.S.Sectors.image (g.S.Sectors.kept l.fn.sectors)) p) (get_or (map place_view l.places.items) p None);
  kept : g.S.Sectors.kept l.sectors ≡ g.S.Sectors.kept l.fn.sectors;
  health : g.S.Sectors.health l.sectors ≡ g.S.Sectors.health l.fn.sectors;
}
