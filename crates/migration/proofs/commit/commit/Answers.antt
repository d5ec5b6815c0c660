use Rattle.std.proofs.Common.{◌≡◌, ◌∙◌, true, false, Err, ap, arith, refl, sym}
use Rattle.journal.specs.declared.fault.JournalFault.TheVariants as faults
use Rattle.journal.specs.Journal.{log_of}
use Rattle.journal.proofs.Answerings.{is_told, told_counted}
use Rattle.journal.proofs.Journals.{takes_enough}
use Rattle.migration.proofs.Committing.{first_commits, only_fault}
use Rattle.migration.proofs.commit.commit.Goals as goal
use Rattle.migration.proofs.commit.commit.Given.{Over}
use Rattle.migration.proofs.commit.commit.Goals.{In_err-apply}

-- the transaction is short enough for each journal, and this one is up
is_fault : (g : Over) (c : In_err-apply g) → c.in_err-apply.field-0.0 ≡ faults.Fault
is_fault g c =
    let failed = c.in_err-apply.ensures in
    only_fault c.in_err-apply.field-0.0
    (λ many. (let bound = (failed.too_many c.requires.rests.up).0 (ap (λ x. Err x) many) in omega (arith, bound, c.requires.takes.few, takes_enough c.args.journal.now)))
    (λ down. (let never : false ≡ true = sym c.requires.rests.up ∙ failed.answers.down.0 (ap (λ x. Err x) down) in absurd (cc)))
    failed.refuses

pub returns-in_err-apply-clause-commits : goal.returns-in_err-apply-clause-commits
returns-in_err-apply-clause-commits g c =
    first_commits g.D.Device.keeps_word c.args.updates.items (log_of c.args.journal.now) (log_of c.apply.new.self) c.requires.rests.listed
    c.in_err-apply.ensures.safe

pub returns-in_err-apply-clause-failures : goal.returns-in_err-apply-clause-failures
returns-in_err-apply-clause-failures g c =
    let fault = c.in_err-apply.field-0.0 in
    let answers = c.in_err-apply.ensures.answers in
    told_counted _ _ _ c.from_residual.result fault (is_told c.from_residual.result fault c.from_residual.ensures.1) refl answers.later
    (answers.counted (ap (λ x. Err x) (is_fault g (goal.at.returns-in_err-apply-clause-failures g c).In_err-apply)))

pub returns-in_err-apply-clause-refuses : goal.returns-in_err-apply-clause-refuses
returns-in_err-apply-clause-refuses g c =
    rw (is_told c.from_residual.result c.in_err-apply.field-0.0 c.from_residual.ensures.1)
    (is_fault g (goal.at.returns-in_err-apply-clause-refuses g c).In_err-apply)
