use Rattle.std.proofs.Common.{◌∙◌, sym, ap, ◌+◌, Bool, drop, arith}
use Rattle.std.proofs.lemmas.Bool.{eq-eqb, ne_eqb}
use Rattle.std.proofs.lemmas.List.{at_drop_more, at_drop_all}
use Rattle.model_tree.specs.Rights.Acl.{is_allow, matches}
use Rattle.model_tree.specs.declared.acl.Who.{Who}
use Rattle.acl_eval.proofs.Decided.{allow_all, allow_all-nil, allow_all-skipped, allow_all-allowed, allow_all-passed, allow_all-denied, granted-owner, granted-other}
use Rattle.acl_eval.proofs.granted.Goals as goal
use Rattle.acl_eval.proofs.granted.Goals.{then-cred-owner, else-cred-owner, in-Allow, in-Deny+else-is_denied}

pub loop-ace-init : goal.loop-ace-init
loop-ace-init c =
    elim c.if-cred-owner.branch [
      | then-cred-owner w ↦
          rw (w.undecided-is, w.bits-undecided.ensures tt, w.difference.ensures tt, w.owners_rights.ensures) (sym (granted-owner c.args.acl.now c.args.owner c.args.group c.args.cred.now c.args.mask.0 (eq-eqb _ _ w.if-cred-owner.true)))
      | else-cred-owner w ↦
          rw (w.undecided-is, c.bits-asked.ensures tt) (sym (granted-other c.args.acl.now c.args.owner c.args.group c.args.cred.now c.args.mask.0 (ne_eqb _ _ w.if-cred-owner.false)))
    ]

pub loop-ace-preserved-then-not-concerns : goal.loop-ace-preserved-then-not-concerns
loop-ace-preserved-then-not-concerns c =
    let names : Who → Bool = λ name. matches name c.args.owner c.args.group c.args.cred.now in
    let acl = c.args.acl.now in
    let i = c.loop-ace.ace-index in
    let step = at_drop_more (λ rest. allow_all names rest c.loop-ace.undecided) acl i _ c.loop-ace-test.true in
    sym (step ∙ allow_all-skipped names _ (drop (i + 1) acl) c.loop-ace.undecided (sym c.concerns.ensures ∙ c.if-not-concerns.true)) ∙ c.loop-ace.invariant

pub returns-then-is_denied : goal.returns-then-is_denied
returns-then-is_denied c =
    let names : Who → Bool = λ name. matches name c.args.owner c.args.group c.args.cred.now in
    let acl = c.args.acl.now in
    let i = c.loop-ace.ace-index in
    let step = at_drop_more (λ rest. allow_all names rest c.loop-ace.undecided) acl i _ c.loop-ace-test.true in
    let meet = rw (c.bits-named.ensures tt) at c.if-is_denied.true in
    sym (allow_all-denied names _ (drop (i + 1) acl) c.loop-ace.undecided (sym c.concerns.ensures ∙ c.if-not-concerns.false) (ap is_allow c.in-Deny.is) (omega arith) meet)
    ∙ sym step ∙ c.loop-ace.invariant

pub loop-ace-preserved : goal.loop-ace-preserved
loop-ace-preserved c =
    let names : Who → Bool = λ name. matches name c.args.owner c.args.group c.args.cred.now in
    let acl = c.args.acl.now in
    let i = c.loop-ace.ace-index in
    let step = at_drop_more (λ rest. allow_all names rest c.loop-ace.undecided) acl i _ c.loop-ace-test.true in
    let concerned = sym c.concerns.ensures ∙ c.if-not-concerns.false in
    let fits = rw (c.bits-named.ensures tt) at c.bits-named.type_inv in
    elim c.match-ace.branch [
      | in-Allow w ↦
          rw (w.undecided-is, c.bits-named.ensures tt) (sym (step ∙ allow_all-allowed names _ (drop (i + 1) acl) c.loop-ace.undecided concerned (ap is_allow w.in-Allow.is) fits) ∙ c.loop-ace.invariant)
      | in-Deny+else-is_denied w ↦
          let apart = rw (c.bits-named.ensures tt) at w.if-is_denied.false in
          rw (w.undecided-is) (sym (step ∙ allow_all-passed names _ (drop (i + 1) acl) c.loop-ace.undecided concerned apart) ∙ c.loop-ace.invariant)
    ]

pub returns : goal.returns
returns c =
    let names : Who → Bool = λ name. matches name c.args.owner c.args.group c.args.cred.now in
    sym (allow_all-nil names c.loop-ace.undecided (omega arith))
    ∙ sym (at_drop_all (λ rest. allow_all names rest c.loop-ace.undecided) c.args.acl.now c.loop-ace.ace-index (omega arith))
    ∙ c.loop-ace.invariant
