use Rattle.std.proofs.Common.{◌≡◌, ◌++◌, take, filter, map}
use Rattle.model_tree.specs.Rights.Mode.{is_handed_down, not_counting, has_rights}
use Rattle.acl_set.proofs.modes.push_handed_down.Given as goal

abbrev pub invariant-loop-ace : goal.invariant-loop-ace
invariant-loop-ace l =
    l.list ≡ l.initial.list ++ filter has_rights (map not_counting (filter is_handed_down (take l.ace-index l.acl)))
