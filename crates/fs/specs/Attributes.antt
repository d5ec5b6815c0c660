-- What the call of GETATTR says.
use Rattle.std.specs.Prelude.{ℕ, List, Result, Ok, Err, ◌≡◌}
use Rattle.layout.specs.CachedNodes.{CachedNode}
use Rattle.model_tree.specs.declared.acl.Cred.{Cred}
use Rattle.model_tree.specs.declared.limits.Limits.{Limits}
use Rattle.model_tree.specs.declared.status.Status.{Status}
use Rattle.model.specs.Operations.Answer.{Answer}
use Rattle.model.specs.Attributes.NodeAttributes.{node_attributes}
use Rattle.model.specs.Operations.Operation.{Argument}
use Rattle.model.specs.Operations.Step.{State, Stepped, answered, refused, does}
use Rattle.model_tree.specs.Trees.Tree.{Tree}
use Rattle.fs.specs.OnTree.{IsState}
use Rattle.fs.specs.declared.fault.FsFault.{FsFault}
use Rattle.fs.specs.FileSystem.{FileSystem}
use Rattle.fs.specs.Operations.{does_on, IsRefused}
use Rattle.fs.specs.Outline.{node_metadata}
use Rattle.wire_attributes.specs.NodeValues.{answer_view, attributes_answered}
use Rattle.wire_attributes.specs.declared.answer.AttributesAnswer.{AttributesAnswer}
use Rattle.wire_attributes.specs.declared.node.NodeAttributes.{NodeAttributes}

-- the attributes of a cached node, whichever are asked for
abbrev pub ShowsCached : Limits → CachedNode → NodeAttributes → Type 0
ShowsCached limits cached node = (bitmap : List ℕ) → attributes_answered node bitmap
    ≡ node_attributes limits bitmap cached.fields.number (node_metadata cached)

abbrev pub attributes_result : State → (bitmap : List ℕ) → Result AttributesAnswer Status → Stepped
attributes_result state bitmap (Ok answer) = answered state (Answer.GetAttr (answer_view answer))
attributes_result state bitmap (Err reason) = refused state (Argument.GetAttr bitmap) reason

-- the result is GETATTR's, in each such state
abbrev pub AreAttributes : Limits → Tree → Cred → (number : ℕ) → (bitmap : List ℕ)
    → Result AttributesAnswer Status → Type 0
AreAttributes limits tree cred number bitmap result = (state : State) (now : ℕ)
    → IsState tree cred number state
    → does limits state now (Argument.GetAttr bitmap) ≡ attributes_result state bitmap result

abbrev pub GetsAttributes : FileSystem → State → (now : ℕ) → (bitmap : List ℕ)
    → Result AttributesAnswer FsFault → Type 0
GetsAttributes fs state now bitmap (Ok answer) =
    does_on fs state now (Argument.GetAttr bitmap) ≡ attributes_result state bitmap (Ok answer)
GetsAttributes fs state now bitmap (Err reason) =
    IsRefused fs state now (Argument.GetAttr bitmap) reason
