use Rattle.std.proofs.Common.{Some, ap, sym, subst, ◌∙◌}
use Rattle.compound.specs.States.{shared_of}
use Rattle.compound.specs.Steps.{stepped_on}
use Rattle.compound.specs.Volumes.{fault_ending}
use Rattle.volume.specs.Changes.{Done}
use Rattle.fs.specs.Views.{fs_of}
use Rattle.model.specs.Server.World.{Connection, Busy, turned}
use Rattle.rpc.specs.Assembly.{Assembly}
use Rattle.server.specs.Connections.{HasGoneOn, connection_view, turn_view}
use Rattle.server.specs.Stages.{in_progress_at, held_record, busy_with, turn_of_end, left_by_turn}
use Rattle.server.proofs.Resumptions.{goes_on_as}
use Rattle.server.proofs.Turning.{same_changes, held_comes, leads_as}
use Rattle.server.proofs.connection.Connection.next_turn.Goals as goal

pub step-requires-clause-goes_on : goal.step-requires-clause-goes_on
step-requires-clause-goes_on g c =
    goes_on_as (fs_of c.args.engine.now.fs.now).volume.run c.args.self.now.assembler c.requires.goes_on.0 c.in-Some.record.now c.args.begun c.requires.goes_on.1 c.in-Some.ensures.waits c.requires.goes_on.2

pub returns-in-Ok-clause-turn : goal.returns-in-Ok-clause-turn
returns-in-Ok-clause-turn g c = λ keeps.
    let assembly = c.args.self.now.assembler in
    let request = c.in-Some.record.now in
    leads_as (λ world number. stepped_on world number c.args.engine.now.moment (in_progress_at request c.args.begun)) (λ world number. turned world number c.args.engine.now.moment (Some (busy_with (held_record assembly) c.args.begun)))
    (shared_of c.args.engine.now.fs.now c.args.engine.now.table.now c.args.engine.now.opens.now) (shared_of c.step.new.engine.fs.now c.step.new.engine.table.now c.step.new.engine.opens.now)
    (λ world number served. held_comes c.args.engine.now.moment assembly request c.args.begun c.in-Some.ensures.waits world number)
    (connection_view c.settle.new.self) (left_by_turn (Some request) c.in-Ok.done) (turn_view c.settle.result) (turn_of_end c.in-Ok.done)
    (c.settle.ensures.state ∙ ap (λ (a : Assembly). left_by_turn (held_record a) c.in-Ok.done) c.in-Some.ensures.waits) c.settle.ensures.turn (c.in-Ok.ensures.step keeps)

pub returns-in-Ok-clause-volume : goal.returns-in-Ok-clause-volume
returns-in-Ok-clause-volume g c =
    let assembly = c.args.self.now.assembler in
    let request = c.in-Some.record.now in
    same_changes g.D.Device.keeps_word (shared_of c.args.engine.now.fs.now c.args.engine.now.table.now c.args.engine.now.opens.now) (fs_of c.args.engine.now.fs.now) (fs_of c.step.new.engine.fs.now) _ _
    (λ world number. stepped_on world number c.args.engine.now.moment (in_progress_at request c.args.begun))
    (λ world number. turned world number c.args.engine.now.moment (Some (busy_with (held_record assembly) c.args.begun)))
    (λ world number served. held_comes c.args.engine.now.moment assembly request c.args.begun c.in-Some.ensures.waits world number) Done c.in-Ok.ensures.volume

pub returns-in-Err-clause-volume : goal.returns-in-Err-clause-volume
returns-in-Err-clause-volume g c =
    let assembly = c.args.self.now.assembler in
    let request = c.in-Some.record.now in
    same_changes g.D.Device.keeps_word (shared_of c.args.engine.now.fs.now c.args.engine.now.table.now c.args.engine.now.opens.now) (fs_of c.args.engine.now.fs.now) (fs_of c.step.new.engine.fs.now) _ _
    (λ world number. stepped_on world number c.args.engine.now.moment (in_progress_at request c.args.begun))
    (λ world number. turned world number c.args.engine.now.moment (Some (busy_with (held_record assembly) c.args.begun)))
    (λ world number served. held_comes c.args.engine.now.moment assembly request c.args.begun c.in-Some.ensures.waits world number) (fault_ending c.in-Err.failed.fault) c.in-Err.ensures.volume

pub returns-in-Ok-clause-further : goal.returns-in-Ok-clause-further
returns-in-Ok-clause-further g c =
    let request = c.in-Some.record.now in
    let before = ap (λ (a : Assembly). busy_with (held_record a) c.args.begun) c.in-Some.ensures.waits in
    let after = c.settle.ensures.state ∙ ap (λ (a : Assembly). left_by_turn (held_record a) c.in-Ok.done) c.in-Some.ensures.waits in
    subst (λ (was : Connection). HasGoneOn (Some was) (Some (connection_view c.settle.new.self))) (sym before)
    (subst (λ (is : Connection). HasGoneOn (Some (Busy (in_progress_at request c.args.begun))) (Some is)) (sym after) c.in-Ok.ensures.goes_on.further)
