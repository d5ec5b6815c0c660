use Rattle.std.proofs.Common.{◌+◌, ◌^◌, ◌∙◌, sym}
use Rattle.std.proofs.lemmas.Bool.{lt-ltb}
use Rattle.fs.specs.Views.{fs_of}
use Rattle.fs.proofs.RoomTests.{has_room, no_room, no_stamp}
use Rattle.volume.specs.Views.{volume_state}
use Rattle.fs.proofs.fs.Fs.stamp_for.Goals as goal

pub returns-then-not-fits-clause-tests : goal.returns-then-not-fits-clause-tests
unfolding fs_of volume_state
returns-then-not-fits-clause-tests g c after same = no_room (fs_of c.args.self.now) after (same ∙ sym c.fits.ensures ∙ c.if-not-fits.true)

pub returns-in-Some-clause-tests : goal.returns-in-Some-clause-tests
unfolding fs_of volume_state
returns-in-Some-clause-tests g c after same =
    let fs = fs_of c.args.self.now in
    has_room fs after (same ∙ sym c.fits.ensures ∙ c.if-not-fits.false) (lt-ltb (fs.changes + 1) (2 ^ 32) c.in-Some.ensures.1)

pub returns-in-None-clause-tests : goal.returns-in-None-clause-tests
unfolding fs_of volume_state
returns-in-None-clause-tests g c after same = no_stamp (fs_of c.args.self.now) after (same ∙ sym c.fits.ensures ∙ c.if-not-fits.false) c.in-None.ensures
