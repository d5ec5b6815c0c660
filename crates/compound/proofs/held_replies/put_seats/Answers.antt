use Rattle.std.proofs.Common.{sym, ◌∙◌}
use Rattle.fs.specs.Views.{fs_of, fs_failures}
use Rattle.model_tree.specs.Seats.SeatEdits.{edited_all, edits_view}
use Rattle.volume.specs.Changes.{Done, Broken}
use Rattle.compound.proofs.Storing.{all_stayed, seated_still, seats_put}
use Rattle.compound.proofs.held_replies.put_seats.Goals as goal

pub returns-then-is_idle-clause-volume : goal.returns-then-is_idle-clause-volume
returns-then-is_idle-clause-volume g c =
    let fs = fs_of c.args.fs.now in
    let edits = edits_view c.args.edits.now in
    seated_still g.D.Device.keeps_word fs (fs_failures c.args.fs.now) (edited_all edits fs.volume.seats) c.requires.up
    (λ keeps. all_stayed edits fs.volume.seats (sym c.is_idle.ensures ∙ c.if-is_idle.true))

pub returns-in-Ok-clause-volume : goal.returns-in-Ok-clause-volume
returns-in-Ok-clause-volume g c =
    let fs = fs_of c.args.fs.now in
    seats_put g.D.Device.keeps_word fs (fs_of c.put_seats.new.self) (fs_failures c.args.fs.now) (fs_failures c.put_seats.new.self) Done
    (edited_all (edits_view c.args.edits.now) fs.volume.seats) c.in-Ok.ensures.volume

pub returns-in-Err-Device-clause-volume : goal.returns-in-Err-Device-clause-volume
returns-in-Err-Device-clause-volume g c =
    let fs = fs_of c.args.fs.now in
    seats_put g.D.Device.keeps_word fs (fs_of c.put_seats.new.self) (fs_failures c.args.fs.now) (fs_failures c.put_seats.new.self) Broken
    (edited_all (edits_view c.args.edits.now) fs.volume.seats) (rw c.in-Err-Device.field-0-is at c.in-Err-Device.ensures.volume)
