use Rattle.std.proofs.Common.{◌≡◌, map}
use Rattle.journal.specs.Journal.{log_of, journal_failures}
use Rattle.migration.specs.Commits.{AreTransactions}
use Rattle.migration.specs.Migrations.{Rests}
use Rattle.migration.proofs.Committing.{Going}
use Rattle.migration.proofs.commit.commit_all.Given as goal

abbrev pub invariant-loop-updates : goal.invariant-loop-updates
invariant-loop-updates g l = record {
  rests : Rests (log_of l.journal);
  takes : AreTransactions (log_of l.journal).area.end (map (λ updates. updates.items) l.updates-iterator.rest.items);
  going : Going g.D.Device.keeps_word (map (λ updates. updates.items) l.fn.transactions.items) (map (λ updates. updates.items) l.updates-iterator.rest.items)
      (log_of l.fn.journal) (log_of l.journal);
  failures : journal_failures l.journal ≡ journal_failures l.fn.journal;
}
