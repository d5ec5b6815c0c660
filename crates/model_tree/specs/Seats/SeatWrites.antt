-- How many edits of seats write a seat or a reply. Freeing a place is none of them: in layout version 3 it
-- writes one sector.
use Rattle.std.specs.Prelude.{◌+◌, ℕ, List, [], ◌∷◌}
use Rattle.model_tree.specs.declared.seats.SeatEdit.{SeatEdit}
use Rattle.model_tree.specs.declared.seats.SeatEdit.TheVariants.{Stays, Frees, Takes, Holds}

abbrev pub writes_by : SeatEdit → ℕ
writes_by Stays = 0
writes_by Frees = 0
writes_by (Takes seat) = 1
writes_by (Holds slot held) = 1

abbrev pub writes_of : List SeatEdit → ℕ
writes_of [] = 0
writes_of (edit ∷ edits) = writes_by edit + writes_of edits
