-- One operation of a COMPOUND on the tree: RFC 8881, sections 16.2 and 18. It is refused by the
-- first of its tests that holds, and then changes nothing. The order of the tests is this server's
-- profile: what an operation checks before the caller's rights, the rights, what it checks after
-- them, room on the volume, and whether a stamp is left.
use Rattle.std.specs.Prelude.{ℕ, Bool, List, [], ◌∷◌, ◌++◌, Option, Some, None, ◌&&◌, not}
use Rattle.model_tree.specs.declared.status.Status.{Status}
use Rattle.model_tree.specs.declared.status.Status.TheVariants as status
use Rattle.model.specs.Operations.Access.{ACCESS}
use Rattle.model.specs.Operations.Clients.{off_tree}
use Rattle.model.specs.Operations.Context.{Context}
use Rattle.model.specs.Operations.Create.{CREATE}
pub use Rattle.model.specs.Operations.Create.{made, create}
use Rattle.model.specs.Operations.Definition.{Definition}
use Rattle.model.specs.Operations.Files.{READ, WRITE, COMMIT}
use Rattle.model.specs.Operations.Handles.{PUTFH, PUTROOTFH, GETFH, SAVEFH, RESTOREFH}
use Rattle.model.specs.Operations.Lookup.{LOOKUP, LOOKUPP}
use Rattle.model.specs.Operations.Open.{OPEN, CLOSE}
use Rattle.model.specs.Operations.Operation.{Argument}
use Rattle.model.specs.Operations.ReadDir.{READDIR}
use Rattle.model_tree.specs.Refusals.Refusal.{Refusals, first_refusal}
use Rattle.model.specs.Operations.Rename.{REMOVE, RENAME}
pub use Rattle.model.specs.Operations.Rename.{remove_refusals, rename_refusals, has_names, moved_number, target_number, late_at_rename, rename}
use Rattle.model.specs.Operations.SetAttr.{GETATTR, SETATTR}
pub use Rattle.model.specs.Operations.State.{State, Stepped, current, saved, stamp_of, current_refusals, named_refusals, is_name_there, answered, refused, moved_to, changed, change_to}
use Rattle.model.specs.Operations.Need.{Right, are_granted}
use Rattle.model_tree.specs.Trees.Charge.{fits}
use Rattle.model_tree.specs.declared.limits.Limits.{Limits}
use Rattle.model_tree.specs.Trees.Stamp.{is_stamp_left}
use Rattle.model_tree.specs.Trees.Tree.{Tree}

abbrev pub definition_of : Argument → Definition
definition_of (Argument.Access rights) = ACCESS rights
definition_of (Argument.Close arguments) = CLOSE arguments
definition_of (Argument.Commit arguments) = COMMIT arguments
definition_of (Argument.Create arguments) = CREATE arguments
definition_of (Argument.GetAttr bitmap) = GETATTR bitmap
definition_of Argument.GetFh = GETFH
definition_of (Argument.Lookup name) = LOOKUP name
definition_of Argument.LookupParent = LOOKUPP
definition_of (Argument.Open arguments) = OPEN arguments
definition_of (Argument.PutFh handle) = PUTFH handle
definition_of Argument.PutRootFh = PUTROOTFH
definition_of (Argument.Read arguments) = READ arguments
definition_of (Argument.ReadDir arguments) = READDIR arguments
definition_of (Argument.Remove name) = REMOVE name
definition_of (Argument.Rename arguments) = RENAME arguments
definition_of Argument.RestoreFh = RESTOREFH
definition_of Argument.SaveFh = SAVEFH
definition_of (Argument.SetAttr arguments) = SETATTR arguments
definition_of (Argument.Write arguments) = WRITE arguments
definition_of (Argument.ExchangeId arguments) = off_tree (Argument.ExchangeId arguments)
definition_of (Argument.CreateSession arguments) = off_tree (Argument.CreateSession arguments)
definition_of (Argument.DestroySession session) = off_tree (Argument.DestroySession session)
definition_of (Argument.Sequence arguments) = off_tree (Argument.Sequence arguments)
definition_of (Argument.DestroyClientId client) = off_tree (Argument.DestroyClientId client)
definition_of (Argument.ReclaimComplete one_fs) = off_tree (Argument.ReclaimComplete one_fs)

-- Its parts

abbrev pub early : Limits → State → Argument → Refusals
early limits state operation = (definition_of operation).early limits state

abbrev pub need_first : Tree → Context → Argument → List (List Right)
need_first tree context operation = (definition_of operation).need_first tree context

abbrev pub middle : Limits → State → Argument → Refusals
middle limits state operation = (definition_of operation).middle limits state

abbrev pub need_then : Tree → Context → Argument → List (List Right)
need_then tree context operation = (definition_of operation).need_then tree context

abbrev pub late : Limits → State → Argument → Refusals
late limits state operation = (definition_of operation).late limits state

abbrev pub alters : State → Argument → Bool
alters state operation = (definition_of operation).alters state

unfoldable pub effect : Limits → State → (now : ℕ) → Argument → Stepped
effect limits state now operation = (definition_of operation).effect limits state now

-- The rights of both places

abbrev pub need : Tree → Context → Argument → List (List Right)
need tree context operation = need_first tree context operation ++ need_then tree context operation

unfoldable pub permitted : Tree → Context → Argument → Bool
permitted tree context operation = are_granted tree context (need tree context operation)

-- The tests in their order

abbrev pub without_rights : State → List (List Right) → Bool
without_rights state rights = not (are_granted state.tree state.context rights)

unfoldable pub refusals : Limits → State → Argument → Refusals
refusals limits state operation =
    early limits state operation
    ++ (((without_rights state (need_first state.tree state.context operation), status.Access)
    ∷ middle limits state operation)
    ++ ((without_rights state (need_then state.tree state.context operation), status.Access)
    ∷ late limits state operation))

-- only for a change: whether the tree then fits, and whether a stamp is left
abbrev pub change_refusals : Limits → State → Argument → (after : Tree) → Refusals
change_refusals limits state operation after =
    (alters state operation && not (fits limits after), status.NoSpc)
    ∷ (alters state operation && not (is_stamp_left state.changes), status.ServerFault)
    ∷ []

abbrev pub unless_refused : State → Argument → Option Status → Stepped → Stepped
unless_refused state operation None stepped = stepped
unless_refused state operation (Some reason) stepped = refused state operation reason

-- One operation. That the reply has room for its result is tested after it, for every operation
-- alike.
unfoldable pub does : Limits → State → (now : ℕ) → Argument → Stepped
does limits state now operation =
    let stepped = effect limits state now operation in
    unless_refused state operation
    (first_refusal (refusals limits state operation
    ++ change_refusals limits state operation stepped.state.tree)) stepped
