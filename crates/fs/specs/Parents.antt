-- What the call of LOOKUPP says.
use Rattle.std.specs.Prelude.{ℕ, Result, Ok, Err, ◌≡◌}
use Rattle.model_tree.specs.declared.acl.Cred.{Cred}
use Rattle.model_tree.specs.declared.limits.Limits.{Limits}
use Rattle.model_tree.specs.declared.status.Status.{Status}
use Rattle.model.specs.Operations.Answer.{Answer}
use Rattle.model.specs.Operations.Operation.{Argument}
use Rattle.model.specs.Operations.Step.{State, Stepped, answered, refused, moved_to, does}
use Rattle.model_tree.specs.Trees.Tree.{Tree}
use Rattle.fs.specs.OnTree.{IsState}
use Rattle.fs.specs.declared.fault.FsFault.{FsFault}
use Rattle.fs.specs.FileSystem.{FileSystem}
use Rattle.fs.specs.Operations.{does_on, IsRefused}

abbrev pub parent_looked_up : State → Result ℕ Status → Stepped
parent_looked_up state (Ok number) = answered (moved_to state number) Answer.LookupParent
parent_looked_up state (Err reason) = refused state Argument.LookupParent reason

-- the result is LOOKUPP's, in each such state
abbrev pub IsParent : Limits → Tree → Cred → (number : ℕ) → Result ℕ Status → Type 0
IsParent limits tree cred number result = (state : State) (now : ℕ)
    → IsState tree cred number state
    → does limits state now Argument.LookupParent ≡ parent_looked_up state result

abbrev pub LooksUpParent : FileSystem → State → (now : ℕ) → Result ℕ FsFault → Type 0
LooksUpParent fs state now (Ok number) =
    does_on fs state now Argument.LookupParent ≡ parent_looked_up state (Ok number)
LooksUpParent fs state now (Err reason) = IsRefused fs state now Argument.LookupParent reason
