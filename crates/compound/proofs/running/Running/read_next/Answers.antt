use Rattle.std.proofs.Common.{◌≡◌, ℕ, ◌-◌, List, Result, true, false, not, ◌&&◌, length, drop, ap, sym, subst, ◌∙◌, arith}
use Rattle.model.specs.Wire.Rpc.{is_empty}
use Rattle.model.specs.Server.Served.{looks_no_further}
use Rattle.model.specs.Server.World.{is_last}
use Rattle.xdr.specs.Grammar.{◌>>=◌}
use Rattle.xdr.specs.declared.refusal.Refusal.{Refusal}
use Rattle.model.specs.Wire.WireArguments.{arguments_at}
use Rattle.wire.specs.ArgumentView.{argument_view}
use Rattle.compound.specs.Views.{in_progress_of, next_view}
use Rattle.compound.proofs.Rests.{rest_short, drop_rest, by_read, by_much}
use Rattle.compound.proofs.running.Running.read_next.Goals as goal

pub overflow_sub-position : goal.overflow_sub-position
unfolding in_progress_of
overflow_sub-position c =
    let short = rest_short c.args.self.now.compound.operations.now c.args.self.now.progress.position _ c.read_numbered.new.r (sym c.requires ∙ c.in-Ok.ensures.accepts.1) in
    omega (arith, short)

pub returns-clause-ok : goal.returns-clause-ok
unfolding in_progress_of
returns-clause-ok c = λ bytes e.
    let behind = drop_rest c.args.self.now.compound.operations.now c.args.self.now.progress.position _ c.read_numbered.new.r (sym c.requires ∙ c.in-Ok.ensures.accepts.1) in
    by_read (in_progress_of c.args.self.now) c.args.number (arguments_at c.args.number bytes) (argument_view c.in-Ok.argument) c.read_numbered.new.r _
    (sym (ap (λ (r : Result (ℕ × List ℕ) Refusal). r >>= λ n. arguments_at n.0 n.1) e) ∙ c.in-Ok.ensures.reads)
    (subst (λ (r : List ℕ). (is_last (in_progress_of c.args.self.now) && (not (looks_no_further (argument_view c.in-Ok.argument)) && not (is_empty r))) ≡ false)
    c.rest.ensures (sym c.has_too_much.ensures ∙ c.if-has_too_much.false))
    (ap (λ (n : ℕ). drop (length c.args.self.now.compound.operations.now - n) c.args.self.now.compound.operations.now) c.len.ensures ∙ behind)

pub returns-then-has_too_much-clause-ok : goal.returns-then-has_too_much-clause-ok
unfolding in_progress_of
returns-then-has_too_much-clause-ok c = λ bytes e.
    by_much (in_progress_of c.args.self.now) c.args.number (arguments_at c.args.number bytes) (argument_view c.in-Ok.argument) c.read_numbered.new.r
    (sym (ap (λ (r : Result (ℕ × List ℕ) Refusal). r >>= λ n. arguments_at n.0 n.1) e) ∙ c.in-Ok.ensures.reads)
    (subst (λ (r : List ℕ). (is_last (in_progress_of c.args.self.now) && (not (looks_no_further (argument_view c.in-Ok.argument)) && not (is_empty r))) ≡ true)
    c.rest.ensures (sym c.has_too_much.ensures ∙ c.if-has_too_much.true))
    ∙ ap (next_view c.args.self.now.compound.operations.now) (sym c.bad_arguments-then-has_too_much.ensures)
