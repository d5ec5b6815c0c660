-- An operation on a world is that on its file system and what is open beside it.
use Rattle.std.proofs.Common.{◌≡◌, ℕ, List}
use Rattle.fs.specs.FileSystem.{FileSystem}
use Rattle.model.specs.Operations.Answer.{Refused}
use Rattle.model.specs.Sessions.Opens.{Opens}
use Rattle.model.specs.Operations.Operation.{Argument, operation_of}
use Rattle.model.specs.Sessions.Session.{Table}
use Rattle.model.specs.Operations.Step.{State, does, refused}
use Rattle.model.specs.Server.World.{World, InProgress, run, stepped, state_of}
use Rattle.model_tree.specs.declared.status.Status.{Status}
use Rattle.compound.specs.Beside.{IsBeside}
use Rattle.compound.specs.Operates.{GivesIn}
use Rattle.compound.specs.Runs.{with_rest}
use Rattle.compound.specs.States.{HasState, shared}
use Rattle.compound.proofs.Rooms.{gives_refusal}
use Rattle.compound.proofs.Trees.{here, tree_runs}

pub beside : (world : World) (fs : FileSystem) (table : Table) (opens : Opens) (request : InProgress) (rest : List ℕ) → HasState world (shared fs table opens)
    → IsBeside fs opens request (state_of world (with_rest request rest))
beside world fs table opens request rest on = record { here = here world fs table opens request rest on; opens_is = on.opens }

module _ (now : ℕ) (fs : FileSystem) (request : InProgress) (kind : Argument)
    (on_tree : (world : World) (rest : List ℕ) → run world (with_rest request rest) now kind
    ≡ stepped world (with_rest request rest) (does world.limits.volume (state_of world (with_rest request rest)) now kind)) where
  -- it is refused
  pub refused_beside : (table : Table) (opens : Opens) (reason : Status)
      → ((state : State) → IsBeside fs opens request state → does fs.volume.limits state now kind ≡ refused state kind reason)
      → GivesIn now (shared fs table opens) (shared fs table opens) request request kind (Refused (operation_of kind) reason)
  refused_beside table opens reason does_so =
      gives_refusal now (shared fs table opens) (shared fs table opens) request kind (operation_of kind) reason
      (tree_runs now fs table opens request request.context kind (Refused (operation_of kind) reason) on_tree
      (λ world rest on. does_so (state_of world (with_rest request rest)) (beside world fs table opens request rest on)))
