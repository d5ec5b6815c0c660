-- What holds of a call that returned an error, or did not.
use Rattle.std.proofs.Common.{◌≡◌, ◌∙◌, ap, sym, ℕ, Result, Ok, Err, IfOk, IfErr, OnErr, IsErrAnd}
use Rattle.disk.specs.declared.device.Device.{Ghosts}
use Rattle.fs.specs.FileSystem.{FileSystem}
use Rattle.model.specs.Operations.Operation.{Argument}
use Rattle.model.specs.Server.World.{InProgress}
use Rattle.model.specs.Sessions.Opens.{Opens}
use Rattle.model.specs.Sessions.Session.{Table}
use Rattle.compound.specs.Memory.{OrMemory}
use Rattle.compound.specs.Operates.{ChangesTreeAndOpens, HasResult, OnlyReads, Operates, Reads}
use Rattle.compound.specs.Readings.{ChangesOpens, files_read, request_read}
use Rattle.compound.specs.States.{shared}
use Rattle.compound.specs.declared.executed.Executed.{Executed}
use Rattle.compound.specs.declared.fault.Fault.{Fault}
use Rattle.compound.specs.declared.reading.Reading.{Reading}
use Rattle.compound.specs.declared.fault.Fault.TheVariants.{Memory}

pub on_err : {T E : Type 0} (result : Result T E) {P : Type 0} → P → OnErr result P
on_err (Ok done) holds = tt
on_err (Err reason) holds = holds

pub if_not : {T E : Type 0} (P : T → Type 0) (result : Result T E) (reason : E)
    → IsErrAnd result (λ told. told ≡ reason) → IfOk result P
if_not P (Ok done) reason is = absurd is
if_not P (Err told) reason is = tt

pub both_kept : {T E : Type 0} (P Q : Type 0) (result : Result T E) → OnErr result P → OnErr result Q → OnErr result (P × Q)
both_kept P Q (Ok done) one other = tt
both_kept P Q (Err reason) one other = (one, other)

pub changed_if : (now : ℕ) (old new : FileSystem) (table : Table) (before after : Opens) (request : InProgress) (operation : Argument) (result : Result Executed Fault)
    → IfOk result (ChangesTreeAndOpens old new before after now request operation) → IfOk result (Operates now (shared old table before) (shared new table after) request operation)
changed_if now old new table before after request operation (Ok done) changes = changes table
changed_if now old new table before after request operation (Err fault) changes = tt

pub or_weaker : {T : Type 0} {P Q : T → Type 0} (result : Result T Fault) → ((done : T) → P done → Q done) → OrMemory result P → OrMemory result Q
or_weaker (Ok done) weaker holds = weaker done holds
or_weaker (Err reason) weaker memory = memory

pub read_or : (files : FileSystem) (request : InProgress) (operation : Argument) (result : Result Executed Fault)
    → IfOk result (OnlyReads files request operation) → IfOk result (HasResult request) → IfErr result (λ reason. reason ≡ Memory)
    → OrMemory result (Reads files request operation)
read_or files request operation (Ok done) gives answered memory = record { answered = answered; gives = gives }
read_or files request operation (Err reason) gives answered memory = memory

-- of an open of the current file

abbrev fault_of : Result Executed Fault → Fault
fault_of (Ok done) = Memory
fault_of (Err reason) = reason

module _ {D : Type 0} {g : Ghosts D} (reading : Reading D g) (old new : Opens) (operation : Argument) where
  pub opened_answered : (result : Result Executed Fault) → OrMemory result (ChangesOpens reading old new operation) → IfOk result (HasResult (request_read reading))
  opened_answered (Ok done) changes = changes.answered
  opened_answered (Err reason) memory = tt

  pub opened_memory : (result : Result Executed Fault) → OrMemory result (ChangesOpens reading old new operation) → (reason : Fault) → result ≡ Err reason → reason ≡ Memory
  opened_memory (Ok done) changes reason is = let never : ⊥ = cc in absurd never
  opened_memory (Err told) memory reason is =
      let told_is : told ≡ Memory = memory in
      let same : told ≡ reason = ap fault_of is in
      sym same ∙ told_is

pub opened_if : {D : Type 0} {g : Ghosts D} (now : ℕ) (table : Table) (reading : Reading D g) (old new : Opens) (operation : Argument) (result : Result Executed Fault)
    → OrMemory result (ChangesOpens reading old new operation)
    → IfOk result (Operates now (shared (files_read reading) table old) (shared (files_read reading) table new) (request_read reading) operation)
opened_if now table reading old new operation (Ok done) changes = changes.gives now table
opened_if now table reading old new operation (Err reason) memory = tt
