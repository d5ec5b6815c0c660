use Rattle.std.proofs.Common.{◌≡◌, List, length, get_or, map, min, take, ap, sym, ◌∙◌, arith}
use Rattle.layout.specs.declared.versions.VersionNumber.{VersionNumber}
use Rattle.layout.specs.Versions.{sizes_by}
use Rattle.model_tree.specs.Seats.SeatEdits.{edit_view}
use Rattle.model_tree.specs.declared.seats.SeatEdit.{SeatEdit}
use Rattle.seats.specs.declared.sizes.SeatSizes.{SeatSizes}
use Rattle.volume.specs.SeatUpdates.{updates_from}
use Rattle.volume.proofs.SeatEdits.{all_pushed, updates_more}
use Rattle.volume.proofs.seat_updates.all_updates.Goals as goal

pub loop-place-preserved : goal.loop-place-preserved
loop-place-preserved c =
    updates_more c.args.version c.args.edits.now.list.items c.loop-place.place c.index.result.now c.loop-place.updates.items c.push_edit.new.updates.items
    (omega (arith, c.loop-place-test.true, c.min-count.ensures, c.len.ensures, c.args.edits.now.list.ok))
    c.index.ensures c.loop-place.invariant c.in_ok-push_edit.ensures

pub returns : goal.returns
returns c =
    let edits = c.args.edits.now.list.items in
    let sizes = sizes_by c.args.version in
    let places = ap (λ (s : SeatSizes). s.places) c.seat_sizes.ensures.value in
    let last : c.loop-place.place ≡ min (length edits) sizes.places =
    omega (arith, c.loop-place-test.false, c.loop-place.auto.place-end, c.min-count.ensures, c.len.ensures, c.args.edits.now.list.ok, places) in
    c.loop-place.invariant ∙ all_pushed c.args.version edits c.loop-place.place last
