-- Operations that change nothing, by the calls that run them.
use Rattle.std.proofs.Common.{◌≡◌, ℕ, List, false, refl}
use Rattle.fs.specs.FileSystem.{FileSystem}
use Rattle.fs.specs.Operations.{does_on, IsRefused}
use Rattle.fs.specs.declared.fault.FsFault.{FsFault}
use Rattle.fs.specs.declared.fault.FsFault.TheVariants as fault
use Rattle.model.specs.Operations.Answer.{Answer, Done, Refused}
use Rattle.model_tree.specs.declared.limits.Limits.{Limits}
use Rattle.model.specs.Sessions.Opens.{Opens}
use Rattle.model.specs.Operations.Operation.{Argument, operation_of}
use Rattle.model.specs.Sessions.Session.{Table}
use Rattle.model.specs.Operations.Step.{State, answered, does, refused, refusals, effect}
use Rattle.model.specs.Server.World.{World, InProgress, run, stepped, state_of}
use Rattle.model_tree.specs.declared.status.Status.{Status}
use Rattle.model_tree.proofs.Facts.BooleanLaws.{never_both}
use Rattle.wire.specs.Short.{IsRefusal}
use Rattle.compound.specs.Operates.{RunsTo}
use Rattle.compound.specs.Runs.{with_rest}
use Rattle.compound.specs.States.{shared}
use Rattle.compound.specs.Trees.{IsStatus, IsHere}
use Rattle.compound.proofs.Trees.{does_bad, here, tree_runs}

-- while the file system is up they are refused with a status
pub tells_status : (fs : FileSystem) (state : State) (now : ℕ) (kind : Argument) (why : FsFault) → fs.volume.is_down ≡ false
    → IsRefused fs state now kind why → IsStatus why
tells_status fs state now kind (fault.Status reason) up is = tt
tells_status fs state now kind fault.NoRoom up is = is
tells_status fs state now kind fault.Memory up is = is
tells_status fs state now kind fault.Device up is = is
tells_status fs state now kind fault.Down up is = never_both fs.volume.is_down up is

-- which is not OK

pub access_bad : (limits : Limits) (state : State) (now asked : ℕ) (reason : Status)
    → does limits state now (Argument.Access asked) ≡ refused state (Argument.Access asked) reason → IsRefusal reason
unfolding refusals effect
access_bad limits state now asked reason is = does_bad limits state now (Argument.Access asked) reason _ refl refl is

pub attributes_bad : (limits : Limits) (state : State) (now : ℕ) (bitmap : List ℕ) (reason : Status)
    → does limits state now (Argument.GetAttr bitmap) ≡ refused state (Argument.GetAttr bitmap) reason → IsRefusal reason
unfolding refusals effect
attributes_bad limits state now bitmap reason is = does_bad limits state now (Argument.GetAttr bitmap) reason _ refl refl is

-- An operation on the tree comes to what the call reports

abbrev pub OnTree : Argument → Type 0
OnTree kind = (world : World) (request : InProgress) (now : ℕ)
    → run world request now kind ≡ stepped world request (does world.limits.volume (state_of world request) now kind)

pub access_on_tree : (asked : ℕ) → OnTree (Argument.Access asked)
unfolding run
access_on_tree asked = λ world request now. refl

pub attributes_on_tree : (bitmap : List ℕ) → OnTree (Argument.GetAttr bitmap)
unfolding run
attributes_on_tree bitmap = λ world request now. refl

module _ (now : ℕ) (fs : FileSystem) (table : Table) (opens : Opens) (request : InProgress) (kind : Argument) (on_tree : OnTree kind) where
  pub tells_ok : (answer : Answer) → ((state : State) → IsHere fs request state → does_on fs state now kind ≡ answered state answer)
      → RunsTo now (shared fs table opens) (shared fs table opens) request request kind (Done answer)
  tells_ok answer does_so = tree_runs now fs table opens request request.context kind (Done answer) (λ world rest. on_tree world (with_rest request rest) now)
      (λ world rest on. does_so (state_of world (with_rest request rest)) (here world fs table opens request rest on))

  pub tells_err : (reason : Status) → ((state : State) → IsHere fs request state → IsRefused fs state now kind (fault.Status reason))
      → RunsTo now (shared fs table opens) (shared fs table opens) request request kind (Refused (operation_of kind) reason)
  tells_err reason does_so = tree_runs now fs table opens request request.context kind (Refused (operation_of kind) reason) (λ world rest. on_tree world (with_rest request rest) now)
      (λ world rest on. does_so (state_of world (with_rest request rest)) (here world fs table opens request rest on))
