use Rattle.std.proofs.Common.{◌≡◌, List, ap, arith, subst, sym}
use Rattle.disk.specs.declared.update.Update.{Update}
use Rattle.disk.specs.Moments.{moment}
use Rattle.journal.specs.Journal.{log_of}
use Rattle.journal.specs.Log.{Log}
use Rattle.migration.specs.Commits.{AreTransactions, Commits, HasCommitted}
use Rattle.migration.specs.Migrations.{StaysInPlace}
use Rattle.migration.specs.Plans.{plan}
use Rattle.migration.proofs.Committing.{first_moments, then_moments, then_brief, then_committed, whole_stays}
use Rattle.migration.proofs.Migrating.{plan_takes, moves_safely, has_moved_all}
use Rattle.migration.proofs.nodes.migrate.Goals as goal
use Rattle.migration.proofs.nodes.migrate.Given.{Over}
use Rattle.migration.proofs.nodes.migrate.Goals.{In_ok-rewrite_record}

pub commit_all-requires-clause-takes : goal.commit_all-requires-clause-takes
commit_all-requires-clause-takes g c =
    let old : Log = log_of c.args.journal.now in
    let mid : Log = log_of c.rewrite_record.new.self in
    let whole : mid.area.end ≡ mid.size = whole_stays old mid (record { area = c.in_ok-rewrite_record.ensures.safe.area; size = c.in_ok-rewrite_record.ensures.safe.size }) c.requires.rests.whole in
    subst (AreTransactions mid.area.end) (sym c.in_ok-transactions.ensures)
    (plan_takes mid.area.end c.args.table.now _ (omega (arith, c.requires.room, c.in_ok-rewrite_record.ensures.safe.size, whole)) (omega arith))

pub returns-in_err-rewrite_record-clause-moments : goal.returns-in_err-rewrite_record-clause-moments
returns-in_err-rewrite_record-clause-moments g c =
    moves_safely g.D.Device.keeps_word c.args.moved c.args.table.now (log_of c.args.journal.now) (log_of c.rewrite_record.new.self) c.requires.within
    (first_moments g.D.Device.keeps_word (plan c.args.table.now c.args.moved) (log_of c.args.journal.now) (log_of c.rewrite_record.new.self) c.requires.rests.listed c.in_err-rewrite_record.ensures.safe)
    (λ k. let few = c.in_err-rewrite_record.ensures.brief k in omega (arith, few))

-- the record was written again, and the log stayed in its place
place : (g : Over) (c : In_ok-rewrite_record g) → StaysInPlace (log_of c.args.journal.now) (log_of c.rewrite_record.new.self)
place g c = record { area = c.in_ok-rewrite_record.ensures.safe.area; size = c.in_ok-rewrite_record.ensures.safe.size }

-- and the base did not change
base : (g : Over) (c : In_ok-rewrite_record g) → g.D.Device.keeps_word → (log_of c.rewrite_record.new.self).base ≡ (log_of c.args.journal.now).base
base g c k = ap (λ (log : Log). log.base) (c.in_ok-rewrite_record.ensures.ok k)

pub returns-in_err-commit_all-clause-moments : goal.returns-in_err-commit_all-clause-moments
returns-in_err-commit_all-clause-moments g c =
    let at = (goal.at.returns-in_err-commit_all-clause-moments g c).In_ok-rewrite_record in
    let old : Log = log_of c.args.journal.now in
    let mid : Log = log_of c.rewrite_record.new.self in
    let all = plan c.args.table.now c.args.moved in
    let commits = subst (λ (l : List (List Update)). Commits g.D.Device.keeps_word l mid (log_of c.commit_all.new.journal)) c.in_ok-transactions.ensures c.in_err-commit_all.ensures.commits in
    moves_safely g.D.Device.keeps_word c.args.moved c.args.table.now old (log_of c.commit_all.new.journal) c.requires.within
    (then_moments g.D.Device.keeps_word all old mid (log_of c.commit_all.new.journal) (base g at) (place g at) c.requires.rests.listed c.in_ok-rewrite_record.ensures.safe commits)
    (λ k. then_brief g.D.Device.keeps_word all old mid (log_of c.commit_all.new.journal) (base g at) (place g at) (c.in_ok-rewrite_record.ensures.brief k) commits k)

pub returns-clause-moments : goal.returns-clause-moments
returns-clause-moments g c =
    let at = (goal.at.returns-clause-moments g c).In_ok-rewrite_record in
    let old : Log = log_of c.args.journal.now in
    let mid : Log = log_of c.rewrite_record.new.self in
    let all = plan c.args.table.now c.args.moved in
    let commits = subst (λ (l : List (List Update)). Commits g.D.Device.keeps_word l mid (log_of c.commit_all.new.journal)) c.in_ok-transactions.ensures c.in_ok-commit_all.ensures.commits in
    moves_safely g.D.Device.keeps_word c.args.moved c.args.table.now old (log_of c.commit_all.new.journal) c.requires.within
    (then_moments g.D.Device.keeps_word all old mid (log_of c.commit_all.new.journal) (base g at) (place g at) c.requires.rests.listed c.in_ok-rewrite_record.ensures.safe commits)
    (λ k. then_brief g.D.Device.keeps_word all old mid (log_of c.commit_all.new.journal) (base g at) (place g at) (c.in_ok-rewrite_record.ensures.brief k) commits k)

pub returns-clause-ok : goal.returns-clause-ok
returns-clause-ok g c =
    let at = (goal.at.returns-clause-ok g c).In_ok-rewrite_record in
    let old : Log = log_of c.args.journal.now in
    let mid : Log = log_of c.rewrite_record.new.self in
    has_moved_all g.D.Device.keeps_word c.args.moved c.args.table.now old (log_of c.commit_all.new.journal) c.requires.within c.requires.rests.whole
    (then_committed g.D.Device.keeps_word (plan c.args.table.now c.args.moved) old mid (log_of c.commit_all.new.journal) (base g at) (place g at)
    (subst (λ (l : List (List Update)). HasCommitted g.D.Device.keeps_word l mid (log_of c.commit_all.new.journal)) c.in_ok-transactions.ensures c.in_ok-commit_all.ensures.ok))

pub returns-clause-steps : goal.returns-clause-steps
returns-clause-steps g c = λ k.
    let mid : Log = log_of c.rewrite_record.new.self in
    omega (arith, ap (λ (log : Log). moment log.history) (c.in_ok-rewrite_record.ensures.ok k), (c.in_ok-commit_all.ensures.commits.moments k).later)
