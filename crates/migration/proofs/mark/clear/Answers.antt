use Rattle.std.proofs.Common.{◌∷◌, [], List, subst}
use Rattle.std.proofs.lemmas.Result.{on_ok_weaker}
use Rattle.disk.specs.declared.update.Update.{Update}
use Rattle.journal.specs.Journal.{log_of}
use Rattle.migration.specs.Commits.{Commits, HasCommitted}
use Rattle.migration.proofs.Migrating.{clears_safely, has_cleared}
use Rattle.migration.proofs.mark.clear.Goals as goal

pub returns-clause-moments : goal.returns-clause-moments
returns-clause-moments g c =
    clears_safely g.D.Device.keeps_word (log_of c.args.journal.now) (log_of c.commit.new.journal)
    (subst (λ (us : List Update). Commits g.D.Device.keeps_word (us ∷ []) (log_of c.args.journal.now) (log_of c.commit.new.journal)) c.requires.clearing c.commit.ensures.commits)

pub returns-clause-ok : goal.returns-clause-ok
returns-clause-ok g c = λ word. on_ok_weaker c.commit.result
    (λ (has : HasCommitted g.D.Device.keeps_word (c.args.updates.items ∷ []) (log_of c.args.journal.now) (log_of c.commit.new.journal)).
    has_cleared g.D.Device.keeps_word (log_of c.args.journal.now) (log_of c.commit.new.journal) c.requires.rests.whole
    (subst (λ (us : List Update). HasCommitted g.D.Device.keeps_word (us ∷ []) (log_of c.args.journal.now) (log_of c.commit.new.journal)) c.requires.clearing has) word)
    c.commit.ensures.ok
