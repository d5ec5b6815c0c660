-- What an operation on a file's bytes checks before it looks at them.
use Rattle.std.specs.Prelude.{ℕ, [], ◌∷◌, ◌++◌, true, not, Result, Ok, Err}
use Rattle.model_tree.specs.declared.acl.Cred.{Cred}
use Rattle.model_tree.specs.declared.status.Status.{Status}
use Rattle.model_tree.specs.declared.status.Status.TheVariants as status
use Rattle.model_tree.specs.Trees.Keyed.{at, is_key}
use Rattle.model.specs.Operations.Need.{granted_on}
use Rattle.model.specs.Operations.Operation.{StateId}
use Rattle.model_tree.specs.Refusals.Refusal.{Refusals}
use Rattle.model.specs.Operations.State.{State}
use Rattle.model.specs.Sessions.StateIds.{state_refusals}
use Rattle.model_tree.specs.Trees.Tree.{Tree, is_directory_at}
use Rattle.wire_attributes.specs.Given.{IsChecked}

-- The verdict on a stateid

-- which the opens give, for this access: no refusal, or the first one
abbrev pub IsVerdict : State → (access : ℕ) → StateId → Result (Unit {0}) Status → Type 0
IsVerdict state access stateid verdict =
    IsChecked (state_refusals state.opens state.context access stateid) verdict

abbrev pub verdict_refusals : Result (Unit {0}) Status → Refusals
verdict_refusals (Ok done) = []
verdict_refusals (Err reason) = (true, reason) ∷ []

-- The tests after that of a current filehandle

abbrev pub file_refusals : Tree → (number : ℕ) → Refusals
file_refusals tree number =
    (not (is_key number tree), status.Stale) ∷ (is_directory_at tree number, status.IsDir) ∷ []

-- for a caller who needs these rights, with a stateid of this verdict
abbrev pub permit_refusals : Tree → Cred → (number mask : ℕ) → Result (Unit {0}) Status → Refusals
permit_refusals tree cred number mask verdict =
    file_refusals tree number
    ++ (verdict_refusals verdict
    ++ ((not (granted_on (at number tree) cred mask), status.Access) ∷ []))
