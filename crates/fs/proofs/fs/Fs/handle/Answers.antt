use Rattle.std.proofs.Common.{sym, ap, ◌∙◌}
use Rattle.model.specs.Operations.Answer.{Answer}
use Rattle.model_tree.specs.Trees.Stamp.{filehandle_of}
use Rattle.model.specs.Operations.Step.{answered}
use Rattle.fs.proofs.HandleLaws.{current_gone, handle_got}
use Rattle.fs.specs.Views.{fs_of}
use Rattle.fs.proofs.fs.Fs.handle.Goals as goal

pub returns-then-not-has-clause-step : goal.returns-then-not-has-clause-step
returns-then-not-has-clause-step g c cred state now on =
    current_gone (fs_of c.args.self.now).volume.limits state now on.is_state.has_current
    (rw (on.is_state.tree_is, on.is_state.current_is) (sym c.has.ensures ∙ c.if-not-has.true))

pub returns-clause-step : goal.returns-clause-step
returns-clause-step g c cred state now on =
    handle_got (fs_of c.args.self.now).volume.limits state now on.is_state.has_current
    (rw (on.is_state.tree_is, on.is_state.current_is) (sym c.has.ensures ∙ c.if-not-has.false))
    ∙ ap (λ handle. answered state (Answer.GetFh handle)) (ap filehandle_of on.is_state.current_is ∙ sym c.filehandle_of.ensures)
