-- Rights on nodes, as an operation needs them: RFC 8881, section 6.2.1.3.1 (which operations a mask
-- bit permits). Each requirement is a list of alternatives, one of which must be granted.
use Rattle.std.specs.Prelude.{ℕ, Bool, true, false, List, [], ◌∷◌, Option, Some, None}
use Rattle.std.specs.List.{list_any, list_all}
use Rattle.model_tree.specs.declared.acl.Cred.{Cred}
use Rattle.model.specs.Operations.Context.{Context, current_number}
use Rattle.model_tree.specs.Rights.Acl.{granted}
use Rattle.model_tree.specs.Trees.Keyed.{at}
use Rattle.model_tree.specs.Trees.Tree.{Tree, Node}

-- a mask on the node of this number
pub record Right : Type 0 where
  pub number : ℕ
  pub mask : ℕ

abbrev pub granted_on : Option Node → Cred → (mask : ℕ) → Bool
granted_on None cred mask = false
granted_on (Some node) cred mask = granted node.acl node.owner node.group cred mask

abbrev pub is_granted : Tree → Cred → Right → Bool
is_granted tree cred right = granted_on (at right.number tree) cred right.mask

-- one requirement, only on the current node
abbrev pub here : Context → (mask : ℕ) → List (List Right)
here context mask = (record { number = current_number context; mask = mask } ∷ []) ∷ []

-- a requirement only if the test holds
abbrev pub right_if : Bool → (number mask : ℕ) → List (List Right)
right_if true number mask = (record { number = number; mask = mask } ∷ []) ∷ []
right_if false number mask = []

-- whether all of them are granted
abbrev pub are_granted : Tree → Context → List (List Right) → Bool
are_granted tree context rights = list_all (list_any (is_granted tree context.cred)) rights
