use Rattle.std.proofs.Common.{◌≡◌, take, filter, map}
use Rattle.model_tree.specs.Rights.Inherit.{as_inherited, is_inherited_by}
use Rattle.acl_set.proofs.inheritance.inherit.Given as goal

abbrev pub invariant-loop-ace : goal.invariant-loop-ace
invariant-loop-ace l = l.list ≡ map (as_inherited l.kind) (filter (is_inherited_by l.kind) (take l.ace-index l.parent))
