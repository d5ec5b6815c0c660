use Rattle.std.proofs.Common.{◌≡◌, ℕ, true, false, List, Some, OnOk, refl, ap, sym, subst, ◌∙◌}
use Rattle.compound.specs.States.{shared_of}
use Rattle.compound.specs.Volumes.{ending, fault_ending}
use Rattle.volume.specs.Changes.{Done}
use Rattle.fs.specs.Views.{fs_of, fs_failures}
use Rattle.model.specs.Wire.Rpc.{read_call}
use Rattle.model.specs.Server.World.{World, Connection, is_busy, Waiting, Replied, Turned, called, idle, turned}
use Rattle.rpc.specs.Assembly.{Assembly, Gathers, Holds, Refuses, connection_of}
use Rattle.server.specs.Connections.{connection_view, HasGoneOn, IsOfRun}
use Rattle.server.specs.Stages.{stage_view, held_record, busy_with, turn_of_end, left_by_turn, is_ready}
use Rattle.server.specs.declared.stage.Stage.{Stage}
use Rattle.server.specs.declared.stage.Stage.TheVariants as stages
use Rattle.server.proofs.Turning.{not_begun, turns_by, turns_if, same_changes, idle_changes, idle_turn_to, replied_comes, no_record_comes, waiting_comes}
use Rattle.server.proofs.Resumptions.{goes_on_held}
use Rattle.server.proofs.connection.Connection.turn.Goals as goal

-- what the connection was, by its stage
receiving_before : (assembly : Assembly) (stage : Stage) → stages.Receiving ≡ stage → stage_view assembly stage ≡ connection_of assembly
receiving_before assembly stage is = ap (stage_view assembly) (sym is)

waits : (assembly : Assembly) (stage : Stage) (request : List ℕ) → stages.Receiving ≡ stage → assembly ≡ Holds request → stage_view assembly stage ≡ Waiting request
waits assembly stage request is holds = receiving_before assembly stage is ∙ ap connection_of holds

pub next_turn-requires-clause-goes_on : goal.next_turn-requires-clause-goes_on
unfolding connection_view
next_turn-requires-clause-goes_on g c =
    let assembly = c.args.self.now.assembler in
    let can : is_ready (stages.Running c.in-Running.begun) assembly ≡ true =
    subst (λ (s : Stage). is_ready s assembly ≡ true) (sym c.in-Running.ensures.value) c.args.self.now.ready in
    goes_on_held (fs_of c.args.engine.now.fs.now).volume.run assembly c.in-Running.begun can
    (subst (IsOfRun (fs_of c.args.engine.now.fs.now).volume.run) (ap (stage_view assembly) (sym c.in-Running.ensures.value)) c.requires.run)

pub returns-in-Ok-clause-turn : goal.returns-in-Ok-clause-turn
unfolding connection_view
returns-in-Ok-clause-turn g c = λ keeps.
    turns_by c.args.engine.now.moment (connection_view c.args.self.now) (λ world number. called world number c.args.engine.now.moment (read_call c.in-Some.record.now))
    (waiting_comes c.args.engine.now.moment (connection_view c.args.self.now) c.in-Some.record.now
    (waits c.args.self.now.assembler c.args.self.now.stage c.in-Some.record.now c.in-Receiving.ensures.value c.in-Some.ensures.waits))
    (shared_of c.args.engine.now.fs.now c.args.engine.now.table.now c.args.engine.now.opens.now) (shared_of c.first_turn.new.engine.fs.now c.first_turn.new.engine.table.now c.first_turn.new.engine.opens.now)
    (connection_view c.settle.new.self) (left_by_turn (Some c.in-Some.record.now) c.in-Ok.done) c.settle.result (turn_of_end c.in-Ok.done)
    c.settle.ensures.turn (c.settle.ensures.state ∙ ap (λ (a : Assembly). left_by_turn (held_record a) c.in-Ok.done) c.in-Some.ensures.waits) (c.in-Ok.ensures.turn keeps)

pub returns-in-None-clause-turn : goal.returns-in-None-clause-turn
unfolding connection_view
returns-in-None-clause-turn g c = λ keeps.
    let assembly = c.args.self.now.assembler in
    let before = receiving_before assembly c.args.self.now.stage c.in-Receiving.ensures.value in
    idle_turn_to c.args.engine.now.moment (connection_view c.args.self.now) (stage_view assembly c.replace.new.dest) (shared_of c.args.engine.now.fs.now c.args.engine.now.table.now c.args.engine.now.opens.now)
    (before ∙ sym (ap (stage_view assembly) c.in-Receiving.ensures.after))
    (λ world number. ap (λ (b : Connection). turned world number c.args.engine.now.moment (Some b)) before ∙ no_record_comes c.args.engine.now.moment assembly c.in-None.ensures.waits world number)

pub returns-in-Running-clause-turn : goal.returns-in-Running-clause-turn
unfolding connection_view
returns-in-Running-clause-turn g c = λ keeps.
    let assembly = c.args.self.now.assembler in
    let before = ap (stage_view assembly) (sym c.in-Running.ensures.value) in
    turns_if c.args.engine.now.moment (connection_view c.args.self.now) (λ world number. turned world number c.args.engine.now.moment (Some (busy_with (held_record assembly) c.in-Running.begun)))
    (λ world number. ap (λ (b : Connection). turned world number c.args.engine.now.moment (Some b)) before)
    (shared_of c.args.engine.now.fs.now c.args.engine.now.table.now c.args.engine.now.opens.now) (shared_of c.next_turn.new.engine.fs.now c.next_turn.new.engine.table.now c.next_turn.new.engine.opens.now)
    (connection_view c.next_turn.new.self) c.next_turn.result (c.next_turn.ensures.turn keeps)

pub returns-in-Replied-clause-turn : goal.returns-in-Replied-clause-turn
unfolding connection_view
returns-in-Replied-clause-turn g c = λ keeps.
    let before = ap (stage_view c.args.self.now.assembler) (sym c.in-Replied.ensures.value) in
    idle_turn_to c.args.engine.now.moment (connection_view c.args.self.now) (Replied c.in-Replied.reply.items) (shared_of c.args.engine.now.fs.now c.args.engine.now.table.now c.args.engine.now.opens.now)
    before (replied_comes c.args.engine.now.moment (connection_view c.args.self.now) c.in-Replied.reply.items before)

pub returns-in-Ok-clause-volume : goal.returns-in-Ok-clause-volume
unfolding connection_view
returns-in-Ok-clause-volume g c =
    let before = connection_view c.args.self.now in
    same_changes g.D.Device.keeps_word (shared_of c.args.engine.now.fs.now c.args.engine.now.table.now c.args.engine.now.opens.now) (fs_of c.args.engine.now.fs.now) (fs_of c.first_turn.new.engine.fs.now) _ _
    (λ world number. called world number c.args.engine.now.moment (read_call c.in-Some.record.now)) (λ world number. turned world number c.args.engine.now.moment (Some before))
    (λ world number served. waiting_comes c.args.engine.now.moment before c.in-Some.record.now
    (waits c.args.self.now.assembler c.args.self.now.stage c.in-Some.record.now c.in-Receiving.ensures.value c.in-Some.ensures.waits) world number)
    Done c.in-Ok.ensures.volume

pub returns-in-Err-clause-volume : goal.returns-in-Err-clause-volume
unfolding connection_view
returns-in-Err-clause-volume g c =
    let before = connection_view c.args.self.now in
    same_changes g.D.Device.keeps_word (shared_of c.args.engine.now.fs.now c.args.engine.now.table.now c.args.engine.now.opens.now) (fs_of c.args.engine.now.fs.now) (fs_of c.first_turn.new.engine.fs.now) _ _
    (λ world number. called world number c.args.engine.now.moment (read_call c.in-Some.record.now)) (λ world number. turned world number c.args.engine.now.moment (Some before))
    (λ world number served. waiting_comes c.args.engine.now.moment before c.in-Some.record.now
    (waits c.args.self.now.assembler c.args.self.now.stage c.in-Some.record.now c.in-Receiving.ensures.value c.in-Some.ensures.waits) world number)
    (fault_ending c.in-Err.fault) c.in-Err.ensures.volume

pub returns-in-None-clause-volume : goal.returns-in-None-clause-volume
unfolding connection_view
returns-in-None-clause-volume g c =
    let assembly = c.args.self.now.assembler in
    let before = receiving_before assembly c.args.self.now.stage c.in-Receiving.ensures.value in
    let comes : (world : World) (number : ℕ) → turned world number c.args.engine.now.moment (Some (connection_view c.args.self.now)) ≡ idle world
    = λ world number. ap (λ (b : Connection). turned world number c.args.engine.now.moment (Some b)) before ∙ no_record_comes c.args.engine.now.moment assembly c.in-None.ensures.waits world number in
    idle_changes g.D.Device.keeps_word (shared_of c.args.engine.now.fs.now c.args.engine.now.table.now c.args.engine.now.opens.now) (fs_failures c.args.engine.now.fs.now) (λ world number. turned world number c.args.engine.now.moment (Some (connection_view c.args.self.now))) c.requires.up (λ keeps. c.args.engine.now.agrees keeps c.requires.up)
    (λ world number served. ap (λ (t : Turned). t.executed) (comes world number)) (λ world number served. ap (λ (t : Turned). t.world.table) (comes world number))

pub returns-in-Running-clause-volume : goal.returns-in-Running-clause-volume
unfolding connection_view
returns-in-Running-clause-volume g c =
    let assembly = c.args.self.now.assembler in
    let before = ap (stage_view assembly) (sym c.in-Running.ensures.value) in
    same_changes g.D.Device.keeps_word (shared_of c.args.engine.now.fs.now c.args.engine.now.table.now c.args.engine.now.opens.now) (fs_of c.args.engine.now.fs.now) (fs_of c.next_turn.new.engine.fs.now) _ _
    (λ world number. turned world number c.args.engine.now.moment (Some (busy_with (held_record assembly) c.in-Running.begun)))
    (λ world number. turned world number c.args.engine.now.moment (Some (connection_view c.args.self.now)))
    (λ world number served. ap (λ (b : Connection). turned world number c.args.engine.now.moment (Some b)) before) (ending c.next_turn.result) c.next_turn.ensures.volume

pub returns-in-Replied-clause-volume : goal.returns-in-Replied-clause-volume
unfolding connection_view
returns-in-Replied-clause-volume g c =
    let before = ap (stage_view c.args.self.now.assembler) (sym c.in-Replied.ensures.value) in
    let comes = replied_comes c.args.engine.now.moment (connection_view c.args.self.now) c.in-Replied.reply.items before in
    idle_changes g.D.Device.keeps_word (shared_of c.args.engine.now.fs.now c.args.engine.now.table.now c.args.engine.now.opens.now) (fs_failures c.args.engine.now.fs.now) (λ world number. turned world number c.args.engine.now.moment (Some (connection_view c.args.self.now))) c.requires.up (λ keeps. c.args.engine.now.agrees keeps c.requires.up)
    (λ world number served. ap (λ (t : Turned). t.executed) (comes world number)) (λ world number served. ap (λ (t : Turned). t.world.table) (comes world number))

-- One more of the request that has begun

not_busy_of : (assembly : Assembly) → is_busy (Some (connection_of assembly)) ≡ false
not_busy_of (Gathers bytes) = refl
not_busy_of (Holds request) = refl
not_busy_of (Refuses fault) = refl

pub returns-in-Ok-clause-further : goal.returns-in-Ok-clause-further
unfolding connection_view
returns-in-Ok-clause-further g c =
    not_begun (connection_view c.args.self.now) (Some (connection_view c.settle.new.self))
    (ap (λ (b : Connection). is_busy (Some b)) (receiving_before c.args.self.now.assembler c.args.self.now.stage c.in-Receiving.ensures.value) ∙ not_busy_of c.args.self.now.assembler)

pub returns-in-None-clause-further : goal.returns-in-None-clause-further
unfolding connection_view
returns-in-None-clause-further g c =
    not_begun (connection_view c.args.self.now) (Some (stage_view c.args.self.now.assembler c.replace.new.dest))
    (ap (λ (b : Connection). is_busy (Some b)) (receiving_before c.args.self.now.assembler c.args.self.now.stage c.in-Receiving.ensures.value) ∙ not_busy_of c.args.self.now.assembler)

pub returns-in-Running-clause-further : goal.returns-in-Running-clause-further
unfolding connection_view
returns-in-Running-clause-further g c =
    let before = ap (stage_view c.args.self.now.assembler) (sym c.in-Running.ensures.value) in
    subst (λ (b : Connection). OnOk c.next_turn.result (HasGoneOn (Some b) (Some (connection_view c.next_turn.new.self)))) (sym before) c.next_turn.ensures.further

pub returns-in-Replied-clause-further : goal.returns-in-Replied-clause-further
unfolding connection_view
returns-in-Replied-clause-further g c =
    not_begun (connection_view c.args.self.now) (Some (Replied c.in-Replied.reply.items))
    (ap (λ (b : Connection). is_busy (Some b)) (ap (stage_view c.args.self.now.assembler) (sym c.in-Replied.ensures.value)))
