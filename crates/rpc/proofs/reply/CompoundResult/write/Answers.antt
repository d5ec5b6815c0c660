use Rattle.std.proofs.Common.{◌≡◌, ◌+◌, ◌<◌, ◌++◌, List, ℕ, length, ap, sym, subst, ◌∙◌, append_assoc, length-append, arith}
use Rattle.std.specs.Prelude.{IfOk}
use Rattle.rpc.specs.Views.{compound_prefix}
use Rattle.rpc.proofs.Replies.{compound_parts, err_more, err_any}
use Rattle.rpc.proofs.reply.CompoundResult.write.Goals as goal

pub returns-in_err-write_compound_head-clause-full : goal.returns-in_err-write_compound_head-clause-full
returns-in_err-write_compound_head-clause-full c =
    let self = c.args.self.now in
    let prefix = compound_prefix self.status self.tag.bytes.now self.count in
    let parts = compound_parts self.status self.tag.bytes.now self.count self.results.now in
    let full : c.args.out.capacity < length c.args.out.bytes + length prefix = c.in_err-write_compound_head.ensures.full in
    err_any c.from_residual.result _ (omega (arith, ap length parts, length-append prefix self.results.now))

pub returns-clause-ok : goal.returns-clause-ok
returns-clause-ok c =
    let self = c.args.self.now in
    let prefix = compound_prefix self.status self.tag.bytes.now self.count in
    subst (λ (text : List ℕ). IfOk c.append_to.result (λ bytes. bytes.items ≡ text))
    (ap (λ (before : List ℕ). before ++ self.results.now) c.in_ok-write_compound_head.ensures.ok
    ∙ append_assoc c.args.out.bytes prefix self.results.now
    ∙ ap (λ (text : List ℕ). c.args.out.bytes ++ text) (sym (compound_parts self.status self.tag.bytes.now self.count self.results.now)))
    c.append_to.ensures.ok

pub returns-clause-full : goal.returns-clause-full
returns-clause-full c =
    let self = c.args.self.now in
    let prefix = compound_prefix self.status self.tag.bytes.now self.count in
    let parts = compound_parts self.status self.tag.bytes.now self.count self.results.now in
    let wrote = c.in_ok-write_compound_head.ensures in
    let keeps = wrote.keeps in
    err_more c.append_to.result _ _
    (λ h. omega (arith, ap length parts, length-append prefix self.results.now, ap length wrote.ok, length-append c.args.out.bytes prefix)) c.append_to.ensures.full
