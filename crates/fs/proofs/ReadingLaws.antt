-- LOOKUPP, ACCESS and GETATTR, one test after the other.
use Rattle.std.proofs.Common.{ℕ, true, false, ◌≡◌, ◌==◌, List, refl, ap, ◌∙◌}
use Rattle.std.specs.Prelude.{Option, Some, None}
use Rattle.model_tree.specs.declared.acl.Cred.{Cred}
use Rattle.model_tree.specs.declared.limits.Limits.{Limits}
use Rattle.model_tree.specs.declared.status.Status.TheVariants as status
use Rattle.model.specs.Operations.Access.{access_of}
use Rattle.model_tree.specs.Rights.Acl.{execute, read_acl}
use Rattle.model_tree.specs.Trees.Ancestors.{parent_of}
use Rattle.model.specs.Operations.Answer.{Answer}
use Rattle.model_tree.specs.Trees.Keyed.{at}
use Rattle.model.specs.Operations.Need.{granted_on}
use Rattle.model.specs.Attributes.NodeAttributes.{node_attributes}
use Rattle.model.specs.Operations.Operation.{Argument}
use Rattle.model.specs.Operations.SetAttr.{asks_acls}
use Rattle.model.specs.Operations.Step.{State, current, refusals, effect, does, refused, answered, moved_to}
use Rattle.model_tree.specs.Trees.Tree.{Tree, Node, is_directory, root}
use Rattle.fs.specs.OnTree.{IsState}

module _ (limits : Limits) (tree : Tree) (cred : Cred) (number : ℕ) (state : State) (now : ℕ)
    (is : IsState tree cred number state) where
  node_is : (found : Option Node) → at number tree ≡ found → at (current state) state.tree ≡ found
  node_is found there = ap (λ n. at n state.tree) is.current_is ∙ (ap (at number) is.tree_is ∙ there)

  pub access_gone : (asked : ℕ) → at number tree ≡ None
      → does limits state now (Argument.Access asked) ≡ refused state (Argument.Access asked) status.Stale
  unfolding does refusals effect
  access_gone asked gone = (let here = node_is None gone in rw (is.has_current, here) refl)

  pub access_told : (asked : ℕ) (node : Node) → at number tree ≡ Some node
      → does limits state now (Argument.Access asked) ≡ answered state (Answer.Access (access_of (Some node) cred asked))
  unfolding does refusals effect
  access_told asked node there = (let here = node_is (Some node) there in rw (is.has_current, here, is.cred_is) refl)

  module _ (bitmap : List ℕ) where
    pub attributes_gone : at number tree ≡ None
        → does limits state now (Argument.GetAttr bitmap) ≡ refused state (Argument.GetAttr bitmap) status.Stale
    unfolding does refusals effect
    attributes_gone gone = (let here = node_is None gone in rw (is.has_current, here) refl)

    module _ (node : Node) (there : at number tree ≡ Some node) where
      pub attributes_denied : asks_acls bitmap ≡ true → granted_on (Some node) cred read_acl ≡ false
          → does limits state now (Argument.GetAttr bitmap) ≡ refused state (Argument.GetAttr bitmap) status.Access
      unfolding does refusals effect
      attributes_denied asked denied = (let here = node_is (Some node) there in rw (is.has_current, asked, here, is.cred_is, denied) refl)

      pub attributes_unlisted : asks_acls bitmap ≡ false
          → does limits state now (Argument.GetAttr bitmap) ≡ answered state (Answer.GetAttr (node_attributes limits bitmap number node))
      unfolding does refusals effect
      attributes_unlisted asked = (let here = node_is (Some node) there in rw (is.has_current, asked, here, is.current_is) refl)

      pub attributes_granted : asks_acls bitmap ≡ true → granted_on (Some node) cred read_acl ≡ true
          → does limits state now (Argument.GetAttr bitmap) ≡ answered state (Answer.GetAttr (node_attributes limits bitmap number node))
      unfolding does refusals effect
      attributes_granted asked allowed = (let here = node_is (Some node) there in rw (is.has_current, asked, here, is.cred_is, allowed, is.current_is) refl)

  pub parent_gone : at number tree ≡ None → does limits state now Argument.LookupParent ≡ refused state Argument.LookupParent status.Stale
  unfolding does refusals effect
  parent_gone gone = (let here = node_is None gone in rw (is.has_current, here) refl)

  module _ (node : Node) (there : at number tree ≡ Some node) where
    pub parent_of_file : is_directory node.content ≡ false → does limits state now Argument.LookupParent ≡ refused state Argument.LookupParent status.NotDir
    unfolding does refusals effect
    parent_of_file file = (let here = node_is (Some node) there in rw (is.has_current, here, file) refl)

    module _ (directory : is_directory node.content ≡ true) where
      pub parent_denied : granted_on (Some node) cred execute ≡ false
          → does limits state now Argument.LookupParent ≡ refused state Argument.LookupParent status.Access
      unfolding does refusals effect
      parent_denied denied = (let here = node_is (Some node) there in rw (is.has_current, here, is.cred_is, directory, denied) refl)

      pub parent_of_root : granted_on (Some node) cred execute ≡ true → (number == root) ≡ true
          → does limits state now Argument.LookupParent ≡ refused state Argument.LookupParent status.NoEnt
      unfolding does refusals effect
      parent_of_root allowed top = (let here = node_is (Some node) there in rw (is.has_current, here, is.cred_is, directory, allowed, is.current_is, top) refl)

      pub parent_found : granted_on (Some node) cred execute ≡ true → (number == root) ≡ false
          → does limits state now Argument.LookupParent ≡ answered (moved_to state (parent_of tree number)) Answer.LookupParent
      unfolding does refusals effect
      parent_found allowed below = (let here = node_is (Some node) there in rw (is.has_current, here, is.cred_is, directory, allowed, is.current_is, below, is.tree_is) refl)
