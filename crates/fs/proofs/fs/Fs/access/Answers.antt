use Rattle.std.proofs.Common.{◌∙◌, sym, ap}
use Rattle.model.specs.Operations.Answer.{Answer, AccessAnswer}
use Rattle.model.specs.Operations.Step.{answered}
use Rattle.fs.specs.Views.{fs_of}
use Rattle.fs.proofs.AccessLaws.{access_is}
use Rattle.fs.proofs.ReadingLaws.{access_gone, access_told}
use Rattle.fs.proofs.fs.Fs.access.Goals as goal

pub returns-in_default-clause-step : goal.returns-in_default-clause-step
unfolding fs_of
returns-in_default-clause-step g c state now on =
    let held = (fs_of c.args.self.now).volume in
    access_gone held.limits held.tree c.args.cred.now c.args.number state now on.is_state c.args.asked c.in_default.ensures.none

pub returns-clause-step : goal.returns-clause-step
unfolding fs_of
returns-clause-step g c state now on =
    let held = (fs_of c.args.self.now).volume in
    let node = c.in-Some.ensures.some in
    access_told held.limits held.tree c.args.cred.now c.args.number state now on.is_state c.args.asked node.node node.there
    ∙ ap (λ (told : AccessAnswer). answered state (Answer.Access told))
    (access_is held.tree c.args.number c.in-Some.cached.now node c.args.cred.now c.args.asked ∙ sym c.access_on.ensures)
