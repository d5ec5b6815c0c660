-- CREATE: RFC 8881, section 18.4. It makes only directories.
use Rattle.std.specs.Prelude.{ℕ, true, List, [], ◌∷◌, ◌++◌}
use Rattle.model_tree.specs.declared.node.NodeKind.TheVariants as kind
use Rattle.model_tree.specs.declared.status.Status.TheVariants as status
use Rattle.model.specs.Attributes.Attribute.{trimmed, attribute_refusals, settable_at_creation}
use Rattle.model.specs.Operations.Answer.{Answer}
use Rattle.model.specs.Operations.Definition.{Definition, on_current, needs}
use Rattle.model.specs.Operations.Directory.{change_of, new_directory}
use Rattle.model_tree.specs.Trees.Changes.{acl_of, made_edits}
use Rattle.model.specs.Operations.Operation.{Argument, Attributes, CreateArguments, NewDirectory, OtherType}
use Rattle.model_tree.specs.Refusals.Refusal.{Refusals}
use Rattle.model.specs.Operations.State.{State, Stepped, current, stamp_of, current_refusals, named_refusals, is_name_there, answered, refused, moved_to, changed}
use Rattle.model_tree.specs.Rights.Acl.{append_data}
use Rattle.model_tree.specs.Trees.Keyed.{at}
use Rattle.model_tree.specs.declared.limits.Limits.{Limits}

-- Tests before the caller's rights, and after them

abbrev pub create_refusals : Limits → State → CreateArguments → Refusals
create_refusals limits state (NewDirectory name given) =
    named_refusals limits state name
    ++ attribute_refusals limits kind.Directory settable_at_creation given
create_refusals limits state (OtherType number) = (true, status.BadType) ∷ []

abbrev pub late_at_create : State → CreateArguments → Refusals
late_at_create state (NewDirectory name given) = (is_name_there state name, status.Exist) ∷ []
late_at_create state (OtherType number) = []

-- What it does

-- the directory has one more name, and the new directory is the current one
abbrev pub made : State → (now : ℕ) → (name : List ℕ) → Attributes → State
made state now name given = moved_to (changed state (made_edits state.tree (current state) name
    (new_directory state.context.cred (acl_of (at (current state) state.tree)) given
    (stamp_of state) now) (stamp_of state) now)) (stamp_of state)

abbrev pub create : State → (now : ℕ) → CreateArguments → Stepped
create state now (NewDirectory name given) =
    answered (made state now name given) (Answer.Create (record {
      change =
          record {
            is_atomic = true;
            before = change_of (at (current state) state.tree);
            after = stamp_of state;
          };
      was_set = trimmed given.bitmap;
    }))
create state now (OtherType number) =
    refused state (Argument.Create (OtherType number)) status.BadType

-- CREATE (section 18.4)
abbrev pub CREATE : CreateArguments → Definition
CREATE arguments = record (on_current (needs append_data)
    (λ limits state now. create state now arguments)) {
      early = λ limits state. current_refusals state ++ create_refusals limits state arguments;
      late = λ limits state. late_at_create state arguments;
      alters = λ state. true;
    }
