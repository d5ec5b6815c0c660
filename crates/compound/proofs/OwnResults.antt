-- An operation that has a result of its own is answered, and sends no reply again.
use Rattle.std.proofs.Common.{Result, Ok, Err, IfOk}
use Rattle.fs.specs.FileSystem.{FileSystem}
use Rattle.model.specs.Operations.Operation.{Argument}
use Rattle.model.specs.Server.World.{InProgress}
use Rattle.model.specs.Sessions.Session.{Table}
use Rattle.compound.specs.Operates.{HasResult, IsAnswered, IsReplyKept, OnlyReads, Reads}
use Rattle.compound.specs.declared.executed.Executed.{Executed}
use Rattle.compound.specs.declared.executed.Executed.TheVariants as execution
use Rattle.compound.specs.declared.fault.Fault.{Fault}

pub result_answered : (request : InProgress) (done : Executed) → HasResult request done → IsAnswered request done
result_answered request (execution.Gives outcome left) has = has
result_answered request (execution.GivesValues kind values) has = has
result_answered request (execution.Replays slot) has = absurd has

pub result_kept : (request : InProgress) (table : Table) (done : Executed) → HasResult request done → IsReplyKept table done
result_kept request table (execution.Gives outcome left) has = tt
result_kept request table (execution.GivesValues kind values) has = tt
result_kept request table (execution.Replays slot) has = absurd has

pub if_answered : (request : InProgress) (result : Result Executed Fault) → IfOk result (HasResult request) → IfOk result (IsAnswered request)
if_answered request (Ok done) has = result_answered request done has
if_answered request (Err fault) has = tt

pub if_kept : (request : InProgress) (table : Table) (result : Result Executed Fault) → IfOk result (HasResult request) → IfOk result (IsReplyKept table)
if_kept request table (Ok done) has = result_kept request table done has
if_kept request table (Err fault) has = tt

-- and so is one that only reads

pub read_gives : (files : FileSystem) (request : InProgress) (operation : Argument) (result : Result Executed Fault)
    → IfOk result (Reads files request operation) → IfOk result (OnlyReads files request operation)
read_gives files request operation (Ok done) reads = reads.gives
read_gives files request operation (Err fault) reads = tt

pub read_answered : (files : FileSystem) (request : InProgress) (operation : Argument) (result : Result Executed Fault)
    → IfOk result (Reads files request operation) → IfOk result (HasResult request)
read_answered files request operation (Ok done) reads = reads.answered
read_answered files request operation (Err fault) reads = tt
