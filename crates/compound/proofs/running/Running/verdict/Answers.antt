use Rattle.std.proofs.Common.{◌≡◌, ◌∙◌, [], Some, Err, sym, ap}
use Rattle.fs.proofs.VerdictLaws.{only_possible}
use Rattle.model_tree.specs.Refusals.Refusal.{first_refusal}
use Rattle.model.specs.Sessions.StateIds.{Found, access_refusals, found}
use Rattle.opens.specs.Views.{opens_of}
use Rattle.wire.specs.SmallViews.{state_view}
use Rattle.compound.specs.Views.{in_progress_of}
use Rattle.compound.proofs.running.Running.verdict.Goals as goal

pub returns-in-Some-clause-possible : goal.returns-in-Some-clause-possible
unfolding in_progress_of
returns-in-Some-clause-possible c =
    let opens = opens_of c.args.opens.now in
    let context = (in_progress_of c.args.self.now).context in
    let stateid = state_view c.args.stateid.now in
    let told : first_refusal (access_refusals c.args.access.0 (found opens context stateid)) ≡ Some c.in-Some.status =
    ap (λ (it : Found). first_refusal (access_refusals c.args.access.0 it)) (sym (c.find.ensures context c.id_context.ensures)) ∙ sym c.refuse_access.ensures ∙ c.in-Some.is in
    only_possible (record { tree = []; changes = 0; opens = opens; context = context }) c.args.access.0 stateid (Err c.in-Some.status) told
