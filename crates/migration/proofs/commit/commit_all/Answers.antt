use Rattle.std.proofs.Common.{◌∙◌, List, Vec, Global, map, refl, sym, ap, subst}
use Rattle.disk.specs.declared.update.Update.{Update}
use Rattle.journal.specs.declared.layout.LogArea.{LogArea}
use Rattle.journal.specs.Journal.{log_of}
use Rattle.migration.specs.Commits.{AreTransactions}
use Rattle.migration.proofs.Committing.{Going, going_starts, going_on, going_stops}
use Rattle.migration.proofs.commit.commit_all.Goals as goal

abbrev items : Vec Update Global → List Update
items updates = updates.items

pub loop-updates-init : goal.loop-updates-init
loop-updates-init g c =
    let same = ap (map items) (sym c.into_iter-updates-iterator.ensures.into_iter_gives.0) in
    let log = log_of c.args.journal.now in
    let all = map items c.args.transactions.items in
    record {
      rests = c.requires.rests;
      takes = subst (AreTransactions log.area.end) same c.requires.takes;
      going = subst (λ (rest : List (List Update)). Going g.D.Device.keeps_word all rest log log) same (going_starts g.D.Device.keeps_word all log);
      failures = refl;
    }

pub commit-requires-clause-takes : goal.commit-requires-clause-takes
commit-requires-clause-takes g c =
    (subst (AreTransactions (log_of c.loop-updates.journal).area.end) (ap (map items) c.in-Some.ensures.steps.0) c.loop-updates.invariant.takes).0

pub loop-updates-preserved : goal.loop-updates-preserved
loop-updates-preserved g c =
    let same = ap (map items) c.in-Some.ensures.steps.0 in
    let all = map items c.args.transactions.items in
    let first = log_of c.args.journal.now in
    let now = log_of c.loop-updates.journal in
    let new = log_of c.commit.new.journal in
    let going = subst (λ (rest : List (List Update)). Going g.D.Device.keeps_word all rest first now) same c.loop-updates.invariant.going in
    let takes = subst (AreTransactions now.area.end) same c.loop-updates.invariant.takes in
    record {
      rests = c.in_ok-commit.ensures.ok.rests;
      takes = subst (λ (area : LogArea). AreTransactions area.end (map items c.next.new.self.rest.items)) (sym c.in_ok-commit.ensures.commits.place.area) takes.1;
      going = going_on g.D.Device.keeps_word all (map items c.next.new.self.rest.items) c.in-Some.updates.items first now new going
          c.in_ok-commit.ensures.commits c.in_ok-commit.ensures.ok;
      failures = c.in_ok-commit.ensures.failures.ok ∙ c.loop-updates.invariant.failures;
    }

pub returns-in_err-commit-clause-commits : goal.returns-in_err-commit-clause-commits
returns-in_err-commit-clause-commits g c =
    going_stops g.D.Device.keeps_word (map items c.args.transactions.items) (map items c.next.new.self.rest.items) c.in-Some.updates.items (log_of c.args.journal.now) (log_of c.loop-updates.journal) (log_of c.commit.new.journal)
    (subst (λ (rest : List (List Update)). Going g.D.Device.keeps_word (map items c.args.transactions.items) rest (log_of c.args.journal.now) (log_of c.loop-updates.journal))
    (ap (map items) c.in-Some.ensures.steps.0) c.loop-updates.invariant.going)
    c.in_err-commit.ensures.commits
