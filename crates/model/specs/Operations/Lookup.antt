-- LOOKUP and LOOKUPP: RFC 8881, sections 18.13 and 18.14.
use Rattle.std.specs.Prelude.{ℕ, List, [], ◌∷◌, ◌++◌, ◌==◌, not}
use Rattle.model_tree.specs.declared.status.Status.TheVariants as status
use Rattle.model.specs.Operations.Answer.{Answer}
use Rattle.model.specs.Operations.Definition.{Definition, on_current, needs}
use Rattle.model_tree.specs.Trees.Tree.{number_named, root, is_directory_at}
use Rattle.model.specs.Operations.State.{current, current_refusals, named_refusals, is_name_there, answered, moved_to}
use Rattle.model_tree.specs.Rights.Acl.{execute}
use Rattle.model_tree.specs.Trees.Ancestors.{parent_of}

-- LOOKUP (section 18.13)
abbrev pub LOOKUP : (name : List ℕ) → Definition
LOOKUP name = record (on_current (needs execute) (λ limits state now. answered
    (moved_to state (number_named state.tree (current state) name)) Answer.Lookup)) {
      early = λ limits state. current_refusals state ++ named_refusals limits state name;
      late = λ limits state. (not (is_name_there state name), status.NoEnt) ∷ [];
    }

-- LOOKUPP (section 18.14)
abbrev pub LOOKUPP : Definition
LOOKUPP = record (on_current (needs execute) (λ limits state now. answered
    (moved_to state (parent_of state.tree (current state))) Answer.LookupParent)) {
      early = λ limits state. current_refusals state
          ++ ((not (is_directory_at state.tree (current state)), status.NotDir) ∷ []);
      late = λ limits state. (current state == root, status.NoEnt) ∷ [];
    }
