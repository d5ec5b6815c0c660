use Rattle.std.proofs.Common.{◌≡◌, Bool, true, false, refl}
use Rattle.fs.specs.Changes.{fs_ending}
use Rattle.fs.specs.Views.{fs_of}
use Rattle.fs.specs.Writing.{IsWrittenTree}
use Rattle.fs.proofs.ChangeLaws.{changes_by}
use Rattle.volume.specs.Changes.{IsTree}
use Rattle.volume.specs.Edits.{IsEdited, edited_by}
use Rattle.fs.proofs.fs.Fs.apply_plan.Goals as goal

never_lasts : (lasts is_stable : Bool) → (lasts ≡ true → is_stable ≡ true) → is_stable ≡ false → lasts ≡ false
never_lasts true is_stable is unstable = (let stable = is refl in cc)
never_lasts false is_stable is unstable = refl

pub returns-then-is_stable-clause-volume : goal.returns-then-is_stable-clause-volume
returns-then-is_stable-clause-volume g c =
    let held = (fs_of c.args.self.now).volume in
    changes_by g.D.Device.keeps_word (IsTree held (edited_by held c.args.edits.now)) (IsWrittenTree held c.args.edits.now c.args.is_stable)
    (λ after lasts is. is.0) _ _ _ _ (fs_ending c.change_stable.result)
    c.change_stable.ensures.volume

pub returns-else-is_stable-clause-volume : goal.returns-else-is_stable-clause-volume
returns-else-is_stable-clause-volume g c =
    let held = (fs_of c.args.self.now).volume in
    changes_by g.D.Device.keeps_word (IsEdited held c.args.edits.now) (IsWrittenTree held c.args.edits.now c.args.is_stable)
    (λ after lasts is. (is.0, never_lasts lasts c.args.is_stable is.1 c.if-is_stable.false)) _ _ _ _ (fs_ending c.change_unstable.result) c.change_unstable.ensures.volume
