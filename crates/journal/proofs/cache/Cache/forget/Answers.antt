use Rattle.std.proofs.Common.{ℕ, sym, subst, arith}
use Rattle.std.specs.List.{Contains}
use Rattle.journal.proofs.Cachings.{more_gone, all_gone}
use Rattle.journal.proofs.cache.Cache.forget.Goals as goal

pub loop-update-preserved : goal.loop-update-preserved
loop-update-preserved c = record {
  among = λ entry there. c.loop-update.invariant.among entry (c.forget_one.ensures.among entry there);
  gone = λ n content there.
      let now = c.forget_one.new.self.sectors.entries in
      more_gone c.args.updates.now c.loop-update.update-index n (omega arith)
      (c.loop-update.invariant.gone n content (c.forget_one.ensures.among (n, content) there))
      (λ e. let P : ℕ → Type 0 = λ m. Contains now (m, content) in c.forget_one.ensures.gone content (subst P (sym e) there));
}

pub returns-clause-gone : goal.returns-clause-gone
returns-clause-gone c = λ n content there.
    all_gone c.args.updates.now c.loop-update.update-index n (omega arith) (c.loop-update.invariant.gone n content there)
