use Rattle.std.proofs.Common.{◌≡◌, take, map}
use Rattle.model_tree.specs.Seats.SeatEdits.{edit_view}
use Rattle.volume.specs.SeatUpdates.{updates_from}
use Rattle.volume.proofs.seat_updates.all_updates.Given as goal

abbrev pub invariant-loop-place : goal.invariant-loop-place
invariant-loop-place l = l.updates.items ≡ updates_from l.version 0 (map edit_view (take l.place l.edits.list.items))
