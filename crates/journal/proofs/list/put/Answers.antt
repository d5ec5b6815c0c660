use Rattle.std.proofs.Common.{◌≡◌, ◌∙◌, ◌++◌, ◌∷◌, [], ℕ, List, ap, sym, arith, length, get_or, set, false}
use Rattle.std.proofs.lemmas.List.{length-append, get_or_default}
use Rattle.disk.specs.declared.update.Update.{Update}
use Rattle.disk.specs.Moments.{Image, applied}
use Rattle.journal.specs.Layout.{targets}
use Rattle.journal.specs.Transactions.{has}
use Rattle.journal.proofs.Images.{length-targets}
use Rattle.journal.proofs.Lists.{no_update, IsLastUpdate, last_update, not_named, has-update, applied_set, applied-push, targets_set, targets-push, gathered_old, gathered_new}
use Rattle.journal.proofs.list.put.Goals as goal
use Rattle.journal.proofs.list.put.Goals.{In-Some, In-None}

found : (c : In-Some) → IsLastUpdate c.args.pending.now.items c.args.update.now.target c.in-Some.place
found c = last_update c.args.pending.now.items c.args.pending_sectors.now.sectors.items c.args.update.now.target c.in-Some.place
    c.requires.sectors_are c.in-Some.ensures.found

missing : (c : In-None) → has (targets c.args.pending.now.items) c.args.update.now.target ≡ false
missing c = not_named c.args.pending.now.items c.args.pending_sectors.now.sectors.items c.args.update.now.target
    c.requires.sectors_are c.in-None.ensures.none

-- the place is that of the update's sector
replaced : (us : List Update) (n place : ℕ) (was : Update) → was ≡ get_or us place was → IsLastUpdate us n place → was.target ≡ n
replaced us n place was e last = ap (λ (u : Update). u.target) (e ∙ get_or_default us place was no_update last.there) ∙ last.is

pub index_mut-requires : goal.index_mut-requires
index_mut-requires c = omega (arith, (found (goal.at.index_mut-requires c).In-Some).there, c.args.pending.now.ok)

pub push_reserved-requires : goal.push_reserved-requires
push_reserved-requires c =
    let none = missing (goal.at.push_reserved-requires c).In-None in
    let pending_sectors = c.args.pending_sectors.now.sectors.items in
    let t = c.args.update.now.target in
    omega (
      arith,
      ap (λ (xs : List ℕ). length xs) (gathered_new pending_sectors t (ap (λ (xs : List ℕ). has xs t) c.requires.sectors_are ∙ none)),
      length-append pending_sectors (t ∷ []),
      ap (λ (xs : List ℕ). length xs) c.requires.sectors_are,
      length-targets c.args.pending.now.items,
      c.args.pending.now.ok,
      c.requires.room,
    )

pub returns-in-Some-clause-applied : goal.returns-in-Some-clause-applied
returns-in-Some-clause-applied c = λ image n.
    let last = found (goal.at.returns-in-Some-clause-applied c).In-Some in
    let at : c.index_mut.result.now.target ≡ c.args.update.now.target =
    replaced c.args.pending.now.items c.args.update.now.target c.in-Some.place c.index_mut.result.now c.index_mut.ensures.value last in
    ap (λ (t : ℕ). let u : Update = record { target = t; content = c.args.update.now.content } in applied (set c.args.pending.now.items c.in-Some.place u) image n) at
    ∙ applied_set c.args.pending.now.items c.in-Some.place c.args.update.now image n last.there last.is last.last

pub returns-in-Some-clause-targets : goal.returns-in-Some-clause-targets
returns-in-Some-clause-targets c =
    let last = found (goal.at.returns-in-Some-clause-targets c).In-Some in
    let at : c.index_mut.result.now.target ≡ c.args.update.now.target =
    replaced c.args.pending.now.items c.args.update.now.target c.in-Some.place c.index_mut.result.now c.index_mut.ensures.value last in
    ap (λ (t : ℕ). let u : Update = record { target = t; content = c.args.update.now.content } in targets (set c.args.pending.now.items c.in-Some.place u)) at
    ∙ targets_set c.args.pending.now.items c.in-Some.place c.args.update.now last.there last.is
    ∙ sym (gathered_old (targets c.args.pending.now.items) c.args.update.now.target (has-update c.args.pending.now.items c.args.update.now.target c.in-Some.place last))

pub returns-in-Some-clause-sectors_are : goal.returns-in-Some-clause-sectors_are
returns-in-Some-clause-sectors_are c =
    let last = found (goal.at.returns-in-Some-clause-sectors_are c).In-Some in
    let at : c.index_mut.result.now.target ≡ c.args.update.now.target =
    replaced c.args.pending.now.items c.args.update.now.target c.in-Some.place c.index_mut.result.now c.index_mut.ensures.value last in
    c.requires.sectors_are
    ∙ sym (ap (λ (t : ℕ). let u : Update = record { target = t; content = c.args.update.now.content } in targets (set c.args.pending.now.items c.in-Some.place u)) at
    ∙ targets_set c.args.pending.now.items c.in-Some.place c.args.update.now last.there last.is)

pub returns-in-None-clause-applied : goal.returns-in-None-clause-applied
returns-in-None-clause-applied c = λ image n.
    ap (λ (xs : List Update). applied xs image n) c.push_reserved.ensures.items
    ∙ ap (λ (f : Image). f n) (applied-push c.args.pending.now.items c.args.update.now image)

pub returns-in-None-clause-targets : goal.returns-in-None-clause-targets
returns-in-None-clause-targets c =
    ap (λ (xs : List Update). targets xs) c.push_reserved.ensures.items
    ∙ targets-push c.args.pending.now.items c.args.update.now
    ∙ sym (gathered_new (targets c.args.pending.now.items) c.args.update.now.target (missing (goal.at.returns-in-None-clause-targets c).In-None))

pub returns-in-None-clause-sectors_are : goal.returns-in-None-clause-sectors_are
returns-in-None-clause-sectors_are c =
    c.push.ensures.items
    ∙ ap (λ (xs : List ℕ). xs ++ c.args.update.now.target ∷ []) c.requires.sectors_are
    ∙ sym (targets-push c.args.pending.now.items c.args.update.now)
    ∙ sym (ap (λ (xs : List Update). targets xs) c.push_reserved.ensures.items)
