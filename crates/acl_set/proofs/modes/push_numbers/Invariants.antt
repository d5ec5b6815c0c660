use Rattle.std.proofs.Common.{◌≡◌, ◌&&◌, ◌++◌, not, take, filter, map}
use Rattle.model_tree.specs.Rights.Acl.{counts, is_special}
use Rattle.model_tree.specs.Rights.Mode.{limited, has_rights}
use Rattle.acl_set.proofs.modes.push_numbers.Given as goal

abbrev pub invariant-loop-ace : goal.invariant-loop-ace
invariant-loop-ace l =
    l.list
    ≡ l.initial.list ++ filter has_rights (map (limited l.fn.kind l.mode) (filter (λ ace. counts ace && not (is_special ace.who)) (take l.ace-index l.acl)))
