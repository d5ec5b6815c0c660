-- What a call says of an operation in each state of a COMPOUND over a tree.
use Rattle.std.specs.Prelude.{ℕ, List, [], ◌∷◌, ◌++◌, Result, Ok, Err, ◌≡◌, not, is_some, IsTrue}
use Rattle.model_tree.specs.declared.acl.Cred.{Cred}
use Rattle.model_tree.specs.declared.limits.Limits.{Limits}
use Rattle.model_tree.specs.declared.node.NodeKind.TheVariants as kind
use Rattle.model_tree.specs.declared.status.Status.{Status}
use Rattle.model_tree.specs.declared.status.Status.TheVariants as status
use Rattle.model_tree.specs.Rights.Acl.{append_data}
use Rattle.model.specs.Operations.Answer.{Answer}
use Rattle.model.specs.Attributes.Attribute.{attribute_refusals, settable_at_creation}
use Rattle.model.specs.Operations.Context.{has_current}
use Rattle.model_tree.specs.Trees.Keyed.{at, is_key}
use Rattle.model_tree.specs.Refusals.Name.{name_refusals}
use Rattle.model.specs.Operations.Need.{granted_on}
use Rattle.model.specs.Operations.Operation.{Argument, Attributes}
use Rattle.model_tree.specs.Refusals.Refusal.{Refusals}
use Rattle.model.specs.Operations.Step.{State, Stepped, current, answered, refused, moved_to, does}
use Rattle.model_tree.specs.Trees.Tree.{Tree, is_directory_at, names_at, entry_of}

-- a COMPOUND's state over this tree, by this caller, with the node of this number as the current
-- one
pub record IsState (tree : Tree) (cred : Cred) (number : ℕ) (state : State) : Type 0 where
  pub tree_is : state.tree ≡ tree
  pub cred_is : state.context.cred ≡ cred
  pub has_current : IsTrue (has_current state.context)
  pub current_is : current state ≡ number

abbrev pub looked_up : State → (name : List ℕ) → Result ℕ Status → Stepped
looked_up state name (Ok number) = answered (moved_to state number) Answer.Lookup
looked_up state name (Err reason) = refused state (Argument.Lookup name) reason

-- the result is LOOKUP's, in each such state
abbrev pub LooksUpIn : Limits → Tree → Cred → (number : ℕ) → (name : List ℕ) → Result ℕ Status
    → Type 0
LooksUpIn limits tree cred number name result =
    (state : State) (now : ℕ) → IsState tree cred number state
    → does limits state now (Argument.Lookup name) ≡ looked_up state name result

-- CREATE of a directory

-- its tests after that of a current filehandle, and before those of room and of stamps
abbrev pub new_directory_refusals : Limits → Tree → Cred → (number : ℕ) → (name : List ℕ)
    → Attributes → Refusals
new_directory_refusals limits tree cred number name given =
    (not (is_key number tree), status.Stale)
    ∷ (not (is_directory_at tree number), status.NotDir)
    ∷ ((name_refusals limits name
    ++ attribute_refusals limits kind.Directory settable_at_creation given)
    ++ ((not (granted_on (at number tree) cred append_data), status.Access)
    ∷ (is_some (entry_of name (names_at tree number)), status.Exist)
    ∷ []))

-- PUTFH and GETFH

abbrev pub put_handle : State → (handle : List ℕ) → Result ℕ Status → Stepped
put_handle state handle (Ok number) = answered (moved_to state number) Answer.PutFh
put_handle state handle (Err reason) = refused state (Argument.PutFh handle) reason

abbrev pub got_handle : State → Result (List ℕ) Status → Stepped
got_handle state (Ok handle) = answered state (Answer.GetFh handle)
got_handle state (Err reason) = refused state Argument.GetFh reason
