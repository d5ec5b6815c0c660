use Rattle.extent_tree.specs.Held.{entries_by}
use Rattle.extent_tree.proofs.Changes.{none_distinct}
use Rattle.extent_tree.proofs.Shapes.{IsRoot-none, none_if_ok}
use Rattle.extent_tree.proofs.tree.ExtentTree.new.Goals as goal

pub from_parts-requires-clause-root : goal.from_parts-requires-clause-root
from_parts-requires-clause-root c = IsRoot-none _ c.in_ok-root.root.items (c.in_ok-root.ensures.items_if_clones_equal (λ y h. h))

pub from_parts-requires-clause-once : goal.from_parts-requires-clause-once
from_parts-requires-clause-once c = none_distinct (entries_by (λ rc. rc.value.items) c.new.result) c.in_ok-root.root.items (c.in_ok-root.ensures.items_if_clones_equal (λ y h. h))

pub returns : goal.returns
returns c = none_if_ok c.from_parts.result (entries_by (λ rc. rc.value.items) c.new.result) c.in_ok-root.root.items (c.in_ok-root.ensures.items_if_clones_equal (λ y h. h)) c.from_parts.ensures
