use Rattle.std.proofs.Common.{ap, sym, ◌∙◌, arith, List, ℕ, Option}
use Rattle.std.specs.Prelude.{unwrap_or}
use Rattle.journal.proofs.Lists.{newer_same, newer_other}
use Rattle.journal.proofs.list.newer.Goals as goal
use Rattle.journal.proofs.list.newer.Goals.{then-update-n, else-update-n}

pub loop-update-preserved : goal.loop-update-preserved
loop-update-preserved c = λ image base e. elim c.if-update-n.branch [
  | then-update-n w ↦ newer_same c.args.updates.now c.loop-update.update-index c.args.n image (omega arith) w.if-update-n.true
      ∙ ap (λ (found : Option (List ℕ)). unwrap_or found (base c.args.n)) (sym w.found-is)
  | else-update-n w ↦ newer_other c.args.updates.now c.loop-update.update-index c.args.n image (omega arith) w.if-update-n.false
      ∙ c.loop-update.invariant image base e
      ∙ ap (λ (found : Option (List ℕ)). unwrap_or found (base c.args.n)) (sym w.found-is)
]
