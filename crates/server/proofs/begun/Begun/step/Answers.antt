use Rattle.std.proofs.Common.{ap, sym, subst, ◌∙◌}
use Rattle.compound.specs.States.{shared_of}
use Rattle.compound.specs.Steps as compound
use Rattle.compound.specs.Steps.{stepped_on}
use Rattle.compound.specs.Views.{Asked, asked_of, in_progress_of}
use Rattle.compound.specs.Volumes.{fault_ending}
use Rattle.compound.specs.declared.progress.Progress.{Progress}
use Rattle.volume.specs.Changes.{Done}
use Rattle.fs.specs.Views.{fs_of}
use Rattle.model.specs.Server.World.{InProgress}
use Rattle.server.specs.declared.begun.Begun.{Begun}
use Rattle.server.specs.declared.begun.TurnEnd.{TurnEnd}
use Rattle.server.specs.Connections.{RecordGoesOn, RecordSteps}
use Rattle.server.specs.Stages.{in_progress_at}
use Rattle.session.specs.Views.{table_of}
use Rattle.server.proofs.Resumptions.{stands_within, steps_on}
use Rattle.server.proofs.ServedTurns.{agrees_after}
use Rattle.server.proofs.Turning.{same_changes, step_leads}
use Rattle.server.proofs.begun.Begun.step.Goals as goal

pub step-requires-clause-agrees : goal.step-requires-clause-agrees
step-requires-clause-agrees g c = λ keeps. c.args.engine.now.agrees keeps c.requires.up

pub step-requires-clause-run : goal.step-requires-clause-run
step-requires-clause-run g c = ap (λ (r : InProgress). r.context.run) c.resume.ensures.request ∙ c.requires.goes_on.began_in

pub returns-in-Ok-clause-step : goal.returns-in-Ok-clause-step
returns-in-Ok-clause-step g c = λ keeps.
    let request = c.args.request.now in
    let old = shared_of c.args.engine.now.fs.now c.args.engine.now.table.now c.args.engine.now.opens.now in
    let new = shared_of c.step.new.fs c.step.new.table c.step.new.opens in
    subst (λ (left : TurnEnd). RecordSteps c.args.engine.now.moment old new request c.args.self left) (sym c.left.ensures)
    (step_leads c.args.engine.now.moment request c.args.self c.in-Ok.done old new
    (subst (λ (asked : Asked). compound.RequestSteps c.args.engine.now.moment old new asked (in_progress_at request c.args.self) c.in-Ok.done) c.resume.ensures.asked
    (subst (λ (r : InProgress). compound.RequestSteps c.args.engine.now.moment old new (asked_of c.resume.result) r c.in-Ok.done) c.resume.ensures.request (c.in-Ok.ensures.step keeps))))

pub returns-in-Ok-clause-goes_on : goal.returns-in-Ok-clause-goes_on
returns-in-Ok-clause-goes_on g c =
    let request = c.args.request.now in
    let run = (fs_of c.args.engine.now.fs.now).volume.run in
    subst (λ (left : TurnEnd). RecordGoesOn run request c.args.self left) (sym c.left.ensures)
    (steps_on run request c.args.self c.in-Ok.done (stands_within request c.args.self c.requires.goes_on.can)
    (subst (λ (asked : Asked). compound.RequestGoesOn run asked (in_progress_at request c.args.self) c.in-Ok.done) c.resume.ensures.asked
    (subst (λ (r : InProgress). compound.RequestGoesOn run (asked_of c.resume.result) r c.in-Ok.done) c.resume.ensures.request c.in-Ok.ensures.goes_on)))

pub returns-in-Ok-clause-volume : goal.returns-in-Ok-clause-volume
returns-in-Ok-clause-volume g c =
    same_changes g.D.Device.keeps_word (shared_of c.args.engine.now.fs.now c.args.engine.now.table.now c.args.engine.now.opens.now) (fs_of c.args.engine.now.fs.now) (fs_of c.step.new.fs) _ _
    (λ world number. stepped_on world number c.args.engine.now.moment (in_progress_of c.resume.result)) (λ world number. stepped_on world number c.args.engine.now.moment (in_progress_at c.args.request.now c.args.self))
    (λ world number served. ap (stepped_on world number c.args.engine.now.moment) (sym c.resume.ensures.request)) Done c.in-Ok.ensures.volume

pub returns-in-Err-clause-back : goal.returns-in-Err-clause-back
returns-in-Err-clause-back g c =
    ap (λ (progress : Progress). let one : Begun = record { call = c.args.self.call; progress = progress } in one) (c.in-Err.ensures.back ∙ c.resume.ensures.progress)

pub returns-in-Err-clause-volume : goal.returns-in-Err-clause-volume
returns-in-Err-clause-volume g c =
    same_changes g.D.Device.keeps_word (shared_of c.args.engine.now.fs.now c.args.engine.now.table.now c.args.engine.now.opens.now) (fs_of c.args.engine.now.fs.now) (fs_of c.step.new.fs) _ _
    (λ world number. stepped_on world number c.args.engine.now.moment (in_progress_of c.resume.result)) (λ world number. stepped_on world number c.args.engine.now.moment (in_progress_at c.args.request.now c.args.self))
    (λ world number served. ap (stepped_on world number c.args.engine.now.moment) (sym c.resume.ensures.request)) (fault_ending c.in-Err.failed.fault) c.in-Err.ensures.volume

pub invariant_of-engine : goal.invariant_of-engine
invariant_of-engine g c = record {
  agrees = λ keeps up. agrees_after g.D.Device.keeps_word _ (fs_of c.args.engine.now.fs.now) (fs_of c.step.new.fs) _ _ (table_of c.args.engine.now.table.now) (table_of c.step.new.table) _ c.step.result
      c.step.ensures.volume (c.step.ensures.agrees keeps) c.step.ensures.others (c.args.engine.now.agrees keeps c.requires.up) up;
}
