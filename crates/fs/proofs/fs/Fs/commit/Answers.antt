use Rattle.std.proofs.Common.{ap, refl, sym, ◌∙◌}
use Rattle.std.specs.Prelude.{Err}
use Rattle.fs.specs.Views.{fs_of, fs_failures}
use Rattle.fs.specs.Refusals.{volume_fault}
use Rattle.fs.specs.declared.fault.FsFault.TheVariants as fault
use Rattle.fs.proofs.ChangeLaws.{full_room, done_room, at_once, told_so, waiting}
use Rattle.volume.specs.Changes.{Done, IsTree}
use Rattle.fs.proofs.ReadLaws.{commit_early, commit_goes_on, committed, commit_fails}
use Rattle.volume.specs.VolumeState.{with_tree}
use Rattle.volume.proofs.ServeLaws.{is_err_of}
use Rattle.fs.proofs.fs.Fs.commit.Goals as goal

pub returns-in_err-file-clause-step : goal.returns-in_err-file-clause-step
returns-in_err-file-clause-step g c state now arguments on =
    let told = is_err_of c.from_residual.result (fault.Status c.in_err-file.field-0.0) c.from_residual.ensures.1 in
    rw told (commit_early (fs_of c.args.self.now) c.args.cred.now c.args.number state now on arguments c.in_err-file.field-0.0 c.in_err-file.ensures.tests)

pub returns-in_err-flush-clause-step : goal.returns-in_err-flush-clause-step
unfolding fs_of
returns-in_err-flush-clause-step g c state now arguments on =
    let told = is_err_of c.from_residual-in_err-flush.result (volume_fault c.in_err-flush.field-0.0) c.from_residual-in_err-flush.ensures.1 in
    rw told (commit_fails g.D.Device.keeps_word (fs_of c.args.self.now) (fs_of c.args.self.now) state now arguments c.in_err-flush.field-0.0 c.in_err-flush.ensures.refuses
    (λ down. c.in_err-flush.ensures.down.0 (ap Err down))
    (commit_goes_on (fs_of c.args.self.now) c.args.cred.now c.args.number state now on arguments c.in_ok-file.ensures.tests))

pub returns-clause-step : goal.returns-clause-step
unfolding fs_of
returns-clause-step g c state now arguments on keeps =
    committed (fs_of c.args.self.now) c.args.cred.now c.args.number state now on arguments c.in_ok-file.ensures.tests _ _ (c.in_ok-flush.ensures.shows.tree_is keeps) refl

pub returns-then-not-has_room-clause-step : goal.returns-then-not-has_room-clause-step
returns-then-not-has_room-clause-step g c = λ state now arguments on.
    commit_goes_on (fs_of c.args.self.now) c.args.cred.now c.args.number state now on arguments c.in_ok-file.ensures.tests

pub returns-then-not-has_room-clause-room : goal.returns-then-not-has_room-clause-room
returns-then-not-has_room-clause-room g c = full_room _ _ c.is_down.result c.is_down.ensures c.if-is_down.false c.if-not-has_room.true

pub returns-clause-room : goal.returns-clause-room
returns-clause-room g c = done_room _ _ c.is_down.result c.is_down.ensures c.if-is_down.false _ c.if-not-has_room.false

pub returns-in_err-flush-clause-volume : goal.returns-in_err-flush-clause-volume
unfolding fs_of fs_failures
returns-in_err-flush-clause-volume g c =
    let fs = fs_of c.args.self.now in
    let fault = c.in_err-flush.field-0.0 in
    rw (is_err_of c.from_residual-in_err-flush.result (volume_fault fault) c.from_residual-in_err-flush.ensures.1)
    (told_so g.D.Device.keeps_word (IsTree fs.volume fs.volume.tree) _ _ _ _ fault
    (at_once g.D.Device.keeps_word _ _ _ _ _ (with_tree fs.volume fs.volume.tree) (λ failed. refl) refl c.if-self.false refl c.in_err-flush.ensures.volume))

pub returns-clause-volume : goal.returns-clause-volume
unfolding fs_of fs_failures
returns-clause-volume g c =
    at_once g.D.Device.keeps_word _ _ _ _ Done (with_tree (fs_of c.args.self.now).volume (fs_of c.args.self.now).volume.tree) (λ failed. refl) refl c.if-self.false refl c.in_ok-flush.ensures.volume

pub returns-then-self-clause-volume : goal.returns-then-self-clause-volume
unfolding fs_of fs_failures
returns-then-self-clause-volume g c =
    waiting g.D.Device.keeps_word _ _ _ refl refl refl (sym c.is_down.ensures ∙ c.if-is_down.false) c.if-self.true refl

pub returns-then-self-clause-step : goal.returns-then-self-clause-step
unfolding fs_of fs_failures
returns-then-self-clause-step g c state now arguments on keeps =
    committed (fs_of c.args.self.now) c.args.cred.now c.args.number state now on arguments c.in_ok-file.ensures.tests _ _ refl refl

pub returns-then-self-clause-room : goal.returns-then-self-clause-room
returns-then-self-clause-room g c = done_room _ _ c.is_down.result c.is_down.ensures c.if-is_down.false _ c.if-not-has_room.false
