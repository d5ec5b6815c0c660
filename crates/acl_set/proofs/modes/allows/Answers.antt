use Rattle.std.proofs.Common.{◌∙◌, ◌+◌, ◌&&◌, sym, drop, filter, arith}
use Rattle.std.proofs.lemmas.List.{at_drop_more, at_drop_all}
use Rattle.model_tree.specs.Rights.Acl.{counts, first_of}
use Rattle.model_tree.specs.Rights.Mode.{allows_right}
use Rattle.model_tree.specs.declared.acl.Ace.{Ace}
use Rattle.acl_set.specs.Class.{named_by}
use Rattle.acl_set.proofs.Kept.{allows_right-decided, allows_right-passed}
use Rattle.acl_set.proofs.modes.allows.Goals as goal

pub returns-then-decides : goal.returns-then-decides
returns-then-decides c =
    let acl = c.args.acl.now in
    let i = c.loop-ace.ace-index in
    let right = c.args.right.0 in
    let step = at_drop_more (λ rest. allows_right (filter (λ (ace : Ace). counts ace && named_by c.args.class ace.who) rest) right) acl i _ c.loop-ace-test.true in
    let decided = allows_right-decided (named_by c.args.class) _ (drop (i + 1) acl) right (sym c.decides.ensures ∙ c.if-decides.true) in
    c.is_allow.ensures ∙ sym (step ∙ decided) ∙ c.loop-ace.invariant

pub loop-ace-preserved : goal.loop-ace-preserved
loop-ace-preserved c =
    let acl = c.args.acl.now in
    let i = c.loop-ace.ace-index in
    let right = c.args.right.0 in
    let step = at_drop_more (λ rest. allows_right (filter (λ (ace : Ace). counts ace && named_by c.args.class ace.who) rest) right) acl i _ c.loop-ace-test.true in
    let passed = allows_right-passed (named_by c.args.class) _ (drop (i + 1) acl) right (sym c.decides.ensures ∙ c.if-decides.false) in
    sym (step ∙ passed) ∙ c.loop-ace.invariant

pub returns : goal.returns
unfolding first_of
returns c =
    let right = c.args.right.0 in
    sym (at_drop_all (λ rest. allows_right (filter (λ (ace : Ace). counts ace && named_by c.args.class ace.who) rest) right) c.args.acl.now c.loop-ace.ace-index (omega arith))
    ∙ c.loop-ace.invariant
