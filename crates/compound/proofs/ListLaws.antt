-- READDIR, by the call that lists a directory.
use Rattle.std.proofs.Common.{◌≡◌, ℕ, false, Err, IfOk, IfErr, refl}
use Rattle.fs.specs.FileSystem.{FileSystem}
use Rattle.fs.specs.Listing.{Lists}
use Rattle.fs.specs.declared.fault.FsFault.{FsFault}
use Rattle.fs.specs.declared.fault.FsFault.TheVariants as fault
use Rattle.model_tree.specs.declared.limits.Limits.{Limits}
use Rattle.model.specs.Operations.Operation.{Argument, ReadDirArguments}
use Rattle.model.specs.Operations.Step.{State, does, refused, refusals, effect}
use Rattle.model.specs.Server.World.{InProgress, run}
use Rattle.model_tree.specs.declared.status.Status.{Status}
use Rattle.model_tree.proofs.Facts.BooleanLaws.{never_both}
use Rattle.wire.specs.Short.{IsRefusal}
use Rattle.compound.specs.Operates.{OnlyReads}
use Rattle.compound.specs.States.{shared}
use Rattle.compound.specs.Trees.{IsHere, IsUp, fault_result}
use Rattle.compound.specs.declared.fault.Fault.TheVariants.{Memory}
use Rattle.compound.proofs.Rooms.{gives_refusal}
use Rattle.compound.proofs.Telling.{OnTree, tells_err}
use Rattle.compound.proofs.Trees.{does_bad, is_there, of_request}

pub list_on_tree : (arguments : ReadDirArguments) → OnTree (Argument.ReadDir arguments)
unfolding run
list_on_tree arguments = λ world request now. refl

pub list_bad : (limits : Limits) (state : State) (now : ℕ) (arguments : ReadDirArguments) (reason : Status)
    → does limits state now (Argument.ReadDir arguments) ≡ refused state (Argument.ReadDir arguments) reason → IsRefusal reason
unfolding refusals effect
list_bad limits state now arguments reason is = does_bad limits state now (Argument.ReadDir arguments) reason _ refl refl is

-- while the file system is up it is refused with a status, or for memory
pub lists_up : (fs : FileSystem) (state : State) (now : ℕ) (arguments : ReadDirArguments) (why : FsFault) → fs.volume.is_down ≡ false
    → Lists fs state now arguments (Err why) → IsUp why
lists_up fs state now arguments (fault.Status reason) up is = list_bad fs.volume.limits state now arguments reason is
lists_up fs state now arguments fault.NoRoom up is = tt
lists_up fs state now arguments fault.Memory up is = tt
lists_up fs state now arguments fault.Device up is = tt
lists_up fs state now arguments fault.Down up is = never_both fs.volume.is_down up is

-- and the operation comes to that

pub told_lists : (fs : FileSystem) (request : InProgress) (arguments : ReadDirArguments) (why : FsFault)
    → ((state : State) (now : ℕ) → IsHere fs request state → Lists fs state now arguments (Err why))
    → IfOk (fault_result 26 why) (OnlyReads fs request (Argument.ReadDir arguments))
told_lists fs request arguments (fault.Status reason) step = λ now table opens.
    let kind = Argument.ReadDir arguments in
    gives_refusal now (shared fs table opens) (shared fs table opens) request kind 26 reason
    (tells_err now fs table opens request kind (list_on_tree arguments) reason (λ state there. step state now there))
told_lists fs request arguments fault.NoRoom step = λ now table opens. absurd (step (of_request fs request) 0 (is_there fs request))
told_lists fs request arguments fault.Memory step = tt
told_lists fs request arguments fault.Device step = tt
told_lists fs request arguments fault.Down step = tt

pub told_memory : (fs : FileSystem) (state : State) (now : ℕ) (arguments : ReadDirArguments) (why : FsFault) → fs.volume.is_down ≡ false
    → Lists fs state now arguments (Err why) → IfErr (fault_result 26 why) (λ reason. reason ≡ Memory)
told_memory fs state now arguments (fault.Status reason) up is = tt
told_memory fs state now arguments fault.NoRoom up is = tt
told_memory fs state now arguments fault.Memory up is = refl
told_memory fs state now arguments fault.Device up is = absurd is
told_memory fs state now arguments fault.Down up is = never_both fs.volume.is_down up is
