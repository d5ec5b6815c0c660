-- What the next operation of a COMPOUND does to what it works on.
use Rattle.std.specs.Prelude.{◌≡◌, ◌≤◌, length, drop, Result, IfOk, OnErr}
use Rattle.disk.specs.declared.device.Device.{Ghosts}
use Rattle.fs.specs.Views.{AltersFs}
use Rattle.compound.specs.Engines.{BorrowsSame, state_in}
use Rattle.compound.specs.Operates.{IsAnswered, IsReplyKept}
use Rattle.compound.specs.Steps.{stepped_on}
use Rattle.compound.specs.Turns.{TurnsExecuted}
use Rattle.compound.specs.Views.{in_progress_of}
use Rattle.compound.specs.Volumes.{TurnGives, ending}
use Rattle.compound.specs.declared.engine.Engine.{Engine}
use Rattle.compound.specs.declared.fault.Fault.{Fault}
use Rattle.compound.specs.declared.running.Running.{Running}
use Rattle.compound.specs.declared.step.Ran.{Ran}

-- it ran, or was refused before it ran, and the COMPOUND has not changed yet
pub record RunsNext {D : Type 0} {g : Ghosts D} (old new : Engine D g) (running : Running)
    (result : Result Ran Fault) : Type 0 where
  pub same : BorrowsSame old new
  pub turns : g.keeps_word → IfOk result (λ ran. TurnsExecuted old.moment (state_in old)
      (state_in new) (in_progress_of running)
      (drop ran.position running.compound.operations.now) ran.altered ran.done)
  pub within : IfOk result (λ ran. ran.position ≤ length running.compound.operations.now)
  pub answered : IfOk result (λ ran. IsAnswered (in_progress_of running) ran.done)
  pub kept : IfOk result (λ ran. IsReplyKept (state_in new).table ran.done)
  pub table : OnErr result ((state_in new).table ≡ (state_in old).table)
  pub opens : OnErr result ((state_in new).opens ≡ (state_in old).opens)
  pub volume : AltersFs old.fs.now new.fs.now (TurnGives (state_in old)
      (λ world number. stepped_on world number old.moment (in_progress_of running)))
      (ending result)
