use Rattle.std.proofs.Common.{◌≡◌, ℕ, ◌∙◌, sym}
use borrow.Author.Count.{below_more}
use Rattle.tree_transaction.specs.Updates.{target_of}
use Rattle.tree_transaction.proofs.UpdateLaws.{target_of-at}
use Rattle.tree_transaction.proofs.updates.place_of.Goals as goal

pub returns-then-update-target-clause-some : goal.returns-then-update-target-clause-some
returns-then-update-target-clause-some c = record {
  within = c.loop-i-test.true;
  there = target_of-at c.args.updates.now c.loop-i.i _ c.loop-i-test.true ∙ c.if-update-target.true;
  before = c.loop-i.invariant;
}

pub loop-i-preserved : goal.loop-i-preserved
loop-i-preserved c = below_more (λ (k : ℕ). target_of c.args.updates.now k ≡ c.args.target → ⊥) c.loop-i.i c.loop-i.invariant (λ e. c.if-update-target.false (sym (target_of-at c.args.updates.now c.loop-i.i _ c.loop-i-test.true) ∙ e))
