-- What the operations of a turn work on, and what they leave of it.
use Rattle.std.specs.Prelude.{◌≡◌, ℕ, Result, Ok, Err, IfOk, IfErr, OnErr}
use Rattle.disk.specs.declared.device.Device.{Ghosts}
use Rattle.fs.specs.Changes.{FsChanges}
use Rattle.fs.specs.FileSystem.{FileSystem}
use Rattle.fs.specs.Views.{fs_of, fs_failures, AltersFs}
use Rattle.layout.specs.declared.versions.VersionNumber.{VersionNumber}
use Rattle.model.specs.Operations.Operation.{Argument}
use Rattle.model.specs.Server.World.{InProgress}
use Rattle.model.specs.Sessions.Opens.{Opens}
use Rattle.model.specs.Sessions.Session.{Table}
use Rattle.compound.specs.Operates.{Operates, ChangesTableIn, HasResult, IsAnswered, IsReplyKept}
use Rattle.compound.specs.States.{Agrees, SharedState, shared_of}
use Rattle.compound.specs.Steps.{RequestGoesOn, RequestSteps, stepped_on}
use Rattle.compound.specs.Views.{asked_of, in_progress_of}
use Rattle.compound.specs.Volumes.{OperationGives, RunGives, TurnGives, ending, failed_step_ending}
use Rattle.compound.specs.declared.engine.Engine.{Engine}
use Rattle.compound.specs.declared.executed.Executed.{Executed}
use Rattle.compound.specs.declared.fault.Fault.{Fault}
use Rattle.compound.specs.declared.fault.Fault.TheVariants.{Memory}
use Rattle.compound.specs.declared.running.Running.{Running}
use Rattle.compound.specs.declared.step.StepError.{StepError}
use Rattle.compound.specs.declared.step.Stepped.{Stepped}

abbrev pub files_in : {D : Type 0} {g : Ghosts D} → Engine D g → FileSystem
files_in engine = fs_of engine.fs.now

abbrev pub state_in : {D : Type 0} {g : Ghosts D} → Engine D g → SharedState
state_in engine = shared_of engine.fs.now engine.table.now engine.opens.now

-- it borrows the same file system, table and opens
pub record BorrowsSame {D : Type 0} {g : Ghosts D} (old new : Engine D g) : Type 0 where
  pub fs : new.fs.ghost_name ≡ old.fs.ghost_name
  pub table : new.table.ghost_name ≡ old.table.ghost_name
  pub opens : new.opens.ghost_name ≡ old.opens.ghost_name

-- An operation on the tree, on a device that had failed this often before it and after it: what it
-- gives is that of the definition, and has room in the reply. The table stays, and a call that is
-- not done leaves the opens too.
pub record ChangesState (keeps_word : Type 0) (now : ℕ) (old new : SharedState)
    (before after : ℕ) (request : InProgress) (operation : Argument)
    (result : Result Executed Fault) : Type 0 where
  pub gives : keeps_word → IfOk result (Operates now old new request operation)
  pub answered : IfOk result (HasResult request)
  pub table : new.table ≡ old.table
  pub opens : OnErr result (new.opens ≡ old.opens)
  pub volume : FsChanges keeps_word (OperationGives old request now operation) old.files new.files
      before after (ending result)

pub record Changes {D : Type 0} {g : Ghosts D} (old new : Engine D g) (request : InProgress)
    (operation : Argument) (result : Result Executed Fault) : Type 0 where
  pub same : BorrowsSame old new
  pub state : ChangesState g.keeps_word old.moment (state_in old) (state_in new)
      (fs_failures old.fs.now) (fs_failures new.fs.now) request operation result

-- The same of any operation: one on the sessions may change the table and the seats, and a COMPOUND
-- that is a retry sends again a reply that is there.
pub record RunsState (keeps_word : Type 0) (now : ℕ) (old new : SharedState)
    (before after : ℕ) (request : InProgress) (operation : Argument)
    (result : Result Executed Fault) : Type 0 where
  pub gives : keeps_word → IfOk result (Operates now old new request operation)
  pub answered : IfOk result (IsAnswered request)
  pub kept : IfOk result (IsReplyKept new.table)
  pub table : OnErr result (new.table ≡ old.table)
  pub opens : OnErr result (new.opens ≡ old.opens)
  pub volume : FsChanges keeps_word (RunGives old request now operation) old.files new.files
      before after (ending result)

pub record Runs {D : Type 0} {g : Ghosts D} (old new : Engine D g) (request : InProgress)
    (operation : Argument) (result : Result Executed Fault) : Type 0 where
  pub same : BorrowsSame old new
  pub state : RunsState g.keeps_word old.moment (state_in old) (state_in new)
      (fs_failures old.fs.now) (fs_failures new.fs.now) request operation result

-- one on the clients that changes the table, of a server whose volume has this version: if it is
-- refused for memory, it leaves that too
abbrev pub ChangesClients : VersionNumber → (old new : Table) → Opens → InProgress → Argument
    → Result Executed Fault → Type 0
ChangesClients version old new opens request operation (Ok done) =
    HasResult request done × ChangesTableIn version old new opens request operation done
ChangesClients version old new opens request operation (Err reason) =
    (reason ≡ Memory) × (new ≡ old)

-- what a step leaves of a COMPOUND
pub record StepsTo {D : Type 0} {g : Ghosts D} (old new : Engine D g) (running : Running)
    (result : Result Stepped StepError) : Type 0 where
  pub step : g.keeps_word → IfOk result (RequestSteps old.moment (state_in old) (state_in new)
      (asked_of running) (in_progress_of running))
  pub goes_on : IfOk result (RequestGoesOn (files_in old).volume.run (asked_of running)
      (in_progress_of running))
  pub back : IfErr result (λ failed. failed.progress ≡ running.progress)
  pub table : OnErr result ((state_in new).table ≡ (state_in old).table)
  pub opens : OnErr result ((state_in new).opens ≡ (state_in old).opens)
  pub volume : AltersFs old.fs.now new.fs.now (TurnGives (state_in old)
      (λ world number. stepped_on world number old.moment (in_progress_of running)))
      (failed_step_ending result)

-- and of a volume with the seats of the table
pub record Steps {D : Type 0} {g : Ghosts D} (old new : Engine D g) (running : Running)
    (result : Result Stepped StepError) : Type 0 where
  pub turn : StepsTo old new running result
  pub agrees : g.keeps_word → IfOk result (λ done. Agrees (files_in new) (state_in new).table)
