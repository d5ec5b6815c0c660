-- ACCESS: RFC 8881, section 18.1. Which mask each of its bits needs is this server's profile.
use Rattle.std.specs.Prelude.{ℕ, List, [], ◌∷◌, ◌+◌, ◌&&◌, sum, map, if◌then◌else◌, Option, Some, None}
use Rattle.model_tree.specs.declared.acl.Cred.{Cred}
use Rattle.model_tree.specs.declared.node.NodeKind.{NodeKind}
use Rattle.model_tree.specs.declared.node.NodeKind.TheVariants as kind
use Rattle.model_tree.specs.Rights.Acl.{meets, granted, read_data, write_data, append_data, execute, delete_child}
use Rattle.model.specs.Operations.Answer.{Answer, AccessAnswer}
use Rattle.model.specs.Operations.Definition.{Definition, on_current, needs_nothing}
use Rattle.model.specs.Operations.State.{current, answered}
use Rattle.model_tree.specs.Trees.Keyed.{at}
use Rattle.model_tree.specs.Trees.Tree.{Node, kind_of}

-- ACCESS4_READ 1, LOOKUP 2, MODIFY 4, EXTEND 8, DELETE 0x10, EXECUTE 0x20, those that a kind has,
-- each with the mask that it needs
abbrev pub access_masks : NodeKind → List (ℕ × ℕ)
access_masks kind.File = (1, read_data) ∷ (4, write_data) ∷ (8, write_data) ∷ (0x20, execute) ∷ []
access_masks kind.Directory =
    (1, read_data) ∷ (2, execute) ∷ (4, write_data + append_data + delete_child)
    ∷ (8, write_data + append_data) ∷ (0x10, delete_child) ∷ []

-- the bits of these that are asked for, and those of them that are granted

abbrev pub asked_bits : (asked : ℕ) → List (ℕ × ℕ) → ℕ
asked_bits asked masks = sum (map (λ (bit : ℕ × ℕ). if meets asked bit.0 then bit.0 else 0) masks)

abbrev pub granted_bits : Node → Cred → (asked : ℕ) → List (ℕ × ℕ) → ℕ
granted_bits node cred asked masks =
    sum (map (λ (bit : ℕ × ℕ).
    if meets asked bit.0 && granted node.acl node.owner node.group cred bit.1 then bit.0 else 0)
    masks)

abbrev pub access_of : Option Node → Cred → (asked : ℕ) → AccessAnswer
access_of None cred asked = record { supported = 0; access = 0 }
access_of (Some node) cred asked = record {
  supported = asked_bits asked (access_masks (kind_of node.content));
  access = granted_bits node cred asked (access_masks (kind_of node.content));
}

-- ACCESS (section 18.1)
abbrev pub ACCESS : (rights : ℕ) → Definition
ACCESS rights = on_current needs_nothing (λ limits state now. answered state
    (Answer.Access (access_of (at (current state) state.tree) state.context.cred rights)))
