use Rattle.layout.specs.Stands.{Kept}
use Rattle.model_tree.specs.Seats.SeatEdits.{edited_all, edits_view}
use Rattle.volume.specs.Views.{volume_state, volume_failures}
use Rattle.volume.specs.VolumeState.{VolumeState}
use Rattle.volume.proofs.KeepLaws.{keep_flushed, refused_unchanged}
use Rattle.volume.proofs.ServeLaws.{is_err_of}
use Rattle.volume.proofs.volume.Volume.put_seats.Goals as goal

pub returns-in_err-change_seats-clause-shows : goal.returns-in_err-change_seats-clause-shows
returns-in_err-change_seats-clause-shows g c = rw (is_err_of c.from_residual.result c.in_err-change_seats.field-0.0 c.from_residual.ensures.1) (tt)

pub returns-in_err-change_seats-clause-volume : goal.returns-in_err-change_seats-clause-volume
returns-in_err-change_seats-clause-volume g c =
    let was : VolumeState = volume_state c.args.self.now in
    let after : Kept = record { tree = was.tree; seats = edited_all (edits_view c.args.edits.now) was.seats } in
    let fault = c.in_err-change_seats.field-0.0 in
    rw (is_err_of c.from_residual.result fault c.from_residual.ensures.1)
    (refused_unchanged g.D.Device.keeps_word was (volume_state c.change_seats.new.self) after _ _ fault c.in_err-change_seats.ensures.volume)

pub returns-clause-volume : goal.returns-clause-volume
returns-clause-volume g c =
    let was : VolumeState = volume_state c.args.self.now in
    let after : Kept = record { tree = was.tree; seats = edited_all (edits_view c.args.edits.now) was.seats } in
    keep_flushed g.D.Device.keeps_word was (volume_state c.change_seats.new.self) (volume_state c.flush.new.self) after
    (volume_failures c.args.self.now) (volume_failures c.change_seats.new.self) (volume_failures c.flush.new.self)
    c.in_ok-change_seats.ensures.volume c.in_ok-change_seats.ensures.shows c.in_ok-change_seats.ensures.brief c.flush.ensures.brief c.flush.result c.flush.ensures.volume c.flush.ensures.down c.flush.ensures.refuses
