use Rattle.std.proofs.Common.{◌≡◌, ◌∙◌, ℕ, Some, refl, sym, ap, subst, arith}
use Rattle.compound.specs.States.{shared_of}
use Rattle.compound.specs.Steps.{stepped_on}
use Rattle.compound.specs.Volumes.{fault_ending}
use Rattle.compound.specs.declared.fault.Fault.TheVariants as fault
use Rattle.volume.specs.Changes.{Done}
use Rattle.fs.specs.Views.{fs_of, fs_failures}
use Rattle.volume.proofs.ServeLaws.{is_err_of}
use Rattle.compound.proofs.QuietLaws.{leaves_all}
use Rattle.model.specs.Wire.Rpc.{read_call}
use Rattle.model.specs.Server.World.{Turned, called}
use Rattle.server.specs.Stages.{CanGoOn, in_progress_at, turn_of_end, left_by_turn}
use Rattle.server.proofs.Turning.{same_changes, idle_changes, leads_as}
use Rattle.server.proofs.request.first_turn.Goals as goal

pub returns-in_err-reply-clause-volume : goal.returns-in_err-reply-clause-volume
returns-in_err-reply-clause-volume g c =
    let reason = c.in_err-reply.field-0.0 in
    let told = is_err_of c.from_residual.result reason c.from_residual.ensures.1 in
    let memory : reason ≡ fault.Memory = rw c.in_err-reply.was at c.open.ensures.err in
    rw (told, memory) (leaves_all g.D.Device.keeps_word _ _ _ _ _ refl (omega arith))

pub step-requires-clause-goes_on : goal.step-requires-clause-goes_on
step-requires-clause-goes_on g c =
    let opens = rw c.in-Begins.is at c.in_ok-reply.ensures.ok in
    subst (λ (run : ℕ). CanGoOn run c.args.request.now c.in-Begins.begun) c.restart_count.ensures opens.0

pub returns-in-Ok-clause-turn : goal.returns-in-Ok-clause-turn
returns-in-Ok-clause-turn g c = λ keeps.
    let opens = rw c.in-Begins.is at c.in_ok-reply.ensures.ok in
    leads_as (λ world number. stepped_on world number c.args.engine.now.moment (in_progress_at c.args.request.now c.in-Begins.begun)) (λ world number. called world number c.args.engine.now.moment (read_call c.args.request.now))
    (shared_of c.args.engine.now.fs.now c.args.engine.now.table.now c.args.engine.now.opens.now) (shared_of c.step.new.engine.fs.now c.step.new.engine.table.now c.step.new.engine.opens.now)
    (λ world number served. opens.1 world number c.args.engine.now.moment (served.run ∙ sym c.restart_count.ensures))
    (left_by_turn (Some c.args.request.now) c.in-Ok.done) (left_by_turn (Some c.args.request.now) c.in-Ok.done) (turn_of_end c.in-Ok.done) (turn_of_end c.in-Ok.done) refl refl (c.in-Ok.ensures.step keeps)

pub returns-in-Answers-clause-volume : goal.returns-in-Answers-clause-volume
returns-in-Answers-clause-volume g c =
    let opens = rw c.in-Answers.is at c.in_ok-reply.ensures.ok in
    idle_changes g.D.Device.keeps_word (shared_of c.args.engine.now.fs.now c.args.engine.now.table.now c.args.engine.now.opens.now) (fs_failures c.args.engine.now.fs.now) (λ world number. called world number c.args.engine.now.moment (read_call c.args.request.now)) c.requires.up (λ keeps. c.args.engine.now.agrees keeps c.requires.up)
    (λ world number served. ap (λ (t : Turned). t.executed) (opens world number c.args.engine.now.moment))
    (λ world number served. ap (λ (t : Turned). t.world.table) (opens world number c.args.engine.now.moment))

pub returns-in-Ok-clause-volume : goal.returns-in-Ok-clause-volume
returns-in-Ok-clause-volume g c =
    let opens = rw c.in-Begins.is at c.in_ok-reply.ensures.ok in
    same_changes g.D.Device.keeps_word (shared_of c.args.engine.now.fs.now c.args.engine.now.table.now c.args.engine.now.opens.now) (fs_of c.args.engine.now.fs.now) (fs_of c.step.new.engine.fs.now) _ _
    (λ world number. stepped_on world number c.args.engine.now.moment (in_progress_at c.args.request.now c.in-Begins.begun)) (λ world number. called world number c.args.engine.now.moment (read_call c.args.request.now))
    (λ world number served. opens.1 world number c.args.engine.now.moment (served.run ∙ sym c.restart_count.ensures)) Done c.in-Ok.ensures.volume

pub returns-in-Err-clause-volume : goal.returns-in-Err-clause-volume
returns-in-Err-clause-volume g c =
    let opens = rw c.in-Begins.is at c.in_ok-reply.ensures.ok in
    same_changes g.D.Device.keeps_word (shared_of c.args.engine.now.fs.now c.args.engine.now.table.now c.args.engine.now.opens.now) (fs_of c.args.engine.now.fs.now) (fs_of c.step.new.engine.fs.now) _ _
    (λ world number. stepped_on world number c.args.engine.now.moment (in_progress_at c.args.request.now c.in-Begins.begun)) (λ world number. called world number c.args.engine.now.moment (read_call c.args.request.now))
    (λ world number served. opens.1 world number c.args.engine.now.moment (served.run ∙ sym c.restart_count.ensures)) (fault_ending c.in-Err.failed.fault) c.in-Err.ensures.volume
