use Rattle.std.proofs.Common.{◌≡◌, map, replicate}
use Rattle.model_tree.specs.Seats.SeatEdits.{Stays, edit_view}
use Rattle.session.proofs.edits.idle_edits.Given as goal

abbrev pub invariant-loop-place : goal.invariant-loop-place
invariant-loop-place l = map edit_view l.list.items ≡ replicate l._place Stays
