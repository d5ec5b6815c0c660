use Rattle.std.proofs.Common.{◌≡◌, ◌&&◌, drop, filter}
use Rattle.model_tree.specs.Rights.Acl.{counts}
use Rattle.model_tree.specs.Rights.Mode.{allows_right}
use Rattle.acl_set.specs.Class.{named_by}
use Rattle.acl_set.proofs.modes.allows.Given as goal

abbrev pub invariant-loop-ace : goal.invariant-loop-ace
invariant-loop-ace l =
    allows_right (filter (λ ace. counts ace && named_by l.class ace.who) (drop l.ace-index l.acl)) l.right.0
    ≡ allows_right (filter (λ ace. counts ace && named_by l.class ace.who) l.acl) l.right.0
