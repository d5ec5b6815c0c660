use Rattle.std.proofs.Common.{List, ap}
use Rattle.disk.specs.declared.update.Update.{Update}
use Rattle.journal.specs.Journal.{log_of, listed}
use Rattle.journal.proofs.Prefixes.{moved_all}
use Rattle.journal.proofs.journal.Journal.flush.Goals as goal

pub returns-clause-moved : goal.returns-clause-moved
unfolding log_of
returns-clause-moved g c = λ k up.
    moved_all (log_of c.args.self.now) (log_of c.flush_pending.new.self) (c.in_ok-flush_pending.ensures.flushed.ok k)
    (ap (λ (us : List Update). listed us) c.in_ok-flush_pending.ensures.emptied)
