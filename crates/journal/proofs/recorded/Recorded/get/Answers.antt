use Rattle.std.proofs.Common.{◌∙◌, ap, refl, sym, arith, List, ℕ}
use Rattle.std.proofs.lemmas.List.{get_or_default}
use Rattle.disk.specs.declared.update.Update.{Update}
use Rattle.journal.specs.Layout.{targets}
use Rattle.journal.specs.Transactions.{has}
use Rattle.journal.proofs.Lists.{IsLastUpdate, last_update, applied_last, no_update}
use Rattle.journal.proofs.recorded.Recorded.get.Goals as goal
use Rattle.journal.proofs.recorded.Recorded.get.Goals.{In-Some}

found : (c : In-Some) → IsLastUpdate c.args.self.now.updates.items c.args.n c.in-Some.place
found c = last_update c.args.self.now.updates.items (targets c.args.self.now.updates.items) c.args.n c.in-Some.place
    refl (c.in-Some.ensures.found (targets c.args.self.now.updates.items) c.requires.indexed)

pub index-requires : goal.index-requires
index-requires c = omega (arith, (found (goal.at.index-requires c).In-Some).there, c.args.self.now.updates.ok)

pub returns-in-Some-clause-found : goal.returns-in-Some-clause-found
returns-in-Some-clause-found c = λ yes image.
    let last = found (goal.at.returns-in-Some-clause-found c).In-Some in
    let items = c.args.self.now.updates.items in
    ap (λ (u : Update). u.content) (c.index.ensures ∙ get_or_default items c.in-Some.place c.index.result.now no_update last.there)
    ∙ sym (applied_last items c.in-Some.place c.args.n image last.there last.is last.last)

pub returns-in-None-clause-missing : goal.returns-in-None-clause-missing
returns-in-None-clause-missing c = λ no. (
  ap (λ (ts : List ℕ). has ts c.args.n) (sym c.requires.named) ∙ c.in-None.ensures.none (targets c.args.self.now.updates.items) c.requires.indexed,
  refl,
)
