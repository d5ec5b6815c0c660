-- What the call of ACCESS says.
use Rattle.std.specs.Prelude.{ℕ, Result, Ok, Err, ◌≡◌}
use Rattle.layout.specs.CachedNodes.{CachedNode}
use Rattle.model_tree.specs.declared.acl.Cred.{Cred}
use Rattle.model.specs.Operations.Access.{access_masks, asked_bits, granted_bits}
use Rattle.model.specs.Operations.Answer.{Answer, AccessAnswer}
use Rattle.model.specs.Operations.Operation.{Argument}
use Rattle.model.specs.Operations.Step.{State, answered}
use Rattle.fs.specs.declared.access.Access.{Access}
use Rattle.fs.specs.declared.fault.FsFault.{FsFault}
use Rattle.fs.specs.FileSystem.{FileSystem}
use Rattle.fs.specs.Operations.{does_on, IsRefused}
use Rattle.fs.specs.Outline.{node_metadata}

abbrev pub access_answer : Access → AccessAnswer
access_answer access = record { supported = access.supported; access = access.granted }

-- what a cached node supports and grants, of the bits that are asked for
abbrev pub access_on : CachedNode → Cred → (asked : ℕ) → AccessAnswer
access_on cached cred asked = record {
  supported = asked_bits asked (access_masks cached.fields.kind);
  access = granted_bits (node_metadata cached) cred asked (access_masks cached.fields.kind);
}

abbrev pub TellsAccess : FileSystem → State → (now asked : ℕ) → Result Access FsFault → Type 0
TellsAccess fs state now asked (Ok access) = does_on fs state now (Argument.Access asked)
    ≡ answered state (Answer.Access (access_answer access))
TellsAccess fs state now asked (Err reason) =
    IsRefused fs state now (Argument.Access asked) reason
