use Rattle.std.proofs.Common.{◌≡◌, drop}
use Rattle.model_tree.specs.Rights.Acl.{granted, matches}
use Rattle.acl_eval.proofs.Decided.{allow_all}
use Rattle.acl_eval.proofs.granted.Given as goal

abbrev pub invariant-loop-ace : goal.invariant-loop-ace
invariant-loop-ace l =
    allow_all (λ name. matches name l.owner l.group l.cred) (drop l.ace-index l.acl) l.undecided
    ≡ granted l.acl l.owner l.group l.cred l.fn.mask.0
