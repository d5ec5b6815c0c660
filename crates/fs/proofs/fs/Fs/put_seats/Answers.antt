use Rattle.std.proofs.Common.{refl}
use Rattle.fs.specs.Views.{fs_of, fs_failures}
use Rattle.fs.specs.Refusals.{volume_fault}
use Rattle.model_tree.specs.Seats.SeatEdits.{edited_all, edits_view}
use Rattle.volume.specs.Changes.{Done, IsSeats}
use Rattle.volume.proofs.ServeLaws.{is_err_of}
use Rattle.fs.proofs.ChangeLaws.{at_once, later, refused_later, with_seats, not_done, told_so}
use Rattle.fs.proofs.fs.Fs.put_seats.Goals as goal

pub returns-in_err-change_seats-clause-volume : goal.returns-in_err-change_seats-clause-volume
unfolding fs_of fs_failures
returns-in_err-change_seats-clause-volume g c =
    let fs = fs_of c.args.self.now in
    let fault = c.in_err-change_seats.field-0.0 in
    let seats = edited_all (edits_view c.args.edits.now) fs.volume.seats in
    rw (is_err_of c.from_residual.result (volume_fault fault) c.from_residual.ensures.1)
    (told_so g.D.Device.keeps_word (IsSeats fs.volume seats) _ _ _ _ fault
    (refused_later g.D.Device.keeps_word _ _ _ _ _ (with_seats fs.volume seats) (λ failed. refl) refl c.if-self.true refl (not_done fault) c.in_err-change_seats.ensures.volume))

pub returns-in_err-put_seats-clause-volume : goal.returns-in_err-put_seats-clause-volume
unfolding fs_of fs_failures
returns-in_err-put_seats-clause-volume g c =
    let fs = fs_of c.args.self.now in
    let fault = c.in_err-put_seats.field-0.0 in
    let seats = edited_all (edits_view c.args.edits.now) fs.volume.seats in
    rw (is_err_of c.from_residual-in_err-put_seats.result (volume_fault fault) c.from_residual-in_err-put_seats.ensures.1)
    (told_so g.D.Device.keeps_word (IsSeats fs.volume seats) _ _ _ _ fault
    (at_once g.D.Device.keeps_word _ _ _ _ _ (with_seats fs.volume seats) (λ failed. refl) refl c.if-self.false refl c.in_err-put_seats.ensures.volume))

pub returns-in_ok-change_seats-clause-volume : goal.returns-in_ok-change_seats-clause-volume
unfolding fs_of fs_failures
returns-in_ok-change_seats-clause-volume g c =
    let held = (fs_of c.args.self.now).volume in
    let seats = with_seats held (edited_all (edits_view c.args.edits.now) held.seats) in
    later g.D.Device.keeps_word _ _ _ _ Done seats (λ failed. refl) refl c.if-self.true refl refl c.in_ok-change_seats.ensures.volume

pub returns-in_ok-put_seats-clause-volume : goal.returns-in_ok-put_seats-clause-volume
unfolding fs_of fs_failures
returns-in_ok-put_seats-clause-volume g c =
    let held = (fs_of c.args.self.now).volume in
    let seats = with_seats held (edited_all (edits_view c.args.edits.now) held.seats) in
    at_once g.D.Device.keeps_word _ _ _ _ Done seats (λ failed. refl) refl c.if-self.false refl c.in_ok-put_seats.ensures.volume
