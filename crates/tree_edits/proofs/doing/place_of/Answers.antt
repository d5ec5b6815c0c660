use Rattle.std.proofs.Common.{Option, Some, None, refl}
use Rattle.std.specs.Prelude.{IfNone, IsSome}
use Rattle.tree_edits.proofs.PlaceLaws.{no_number, none_key}
use Rattle.tree_edits.specs.Outlines.{tree_without_data}
use Rattle.model_tree.specs.Trees.Keyed.{at}
use Rattle.tree_edits.proofs.doing.place_of.Goals as goal

some_or : {A : Type 0} {P : Type 0} (found : Option A) → IfNone found P → (P → ⊥) → IsSome found
some_or None none never = absurd (never none)
some_or (Some it) none never = refl

pub unwrap-requires : goal.unwrap-requires
unwrap-requires c = some_or c.find.result c.find.ensures.none
    (λ lacks. none_key (at c.args.number (tree_without_data c.args.transaction.now.cached_nodes.cached_nodes)) (no_number c.args.transaction.now.cached_nodes.cached_nodes c.args.number lacks) c.requires)
