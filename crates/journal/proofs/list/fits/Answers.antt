use Rattle.std.proofs.Common.{◌≡◌, ◌∙◌, sym, arith, take, rules, get_or}
use Rattle.std.proofs.lemmas.List.{length-take}
use Rattle.journal.specs.Layout.{targets}
use Rattle.journal.specs.Transactions.{has}
use Rattle.journal.proofs.Images.{length-targets}
use Rattle.journal.proofs.Lists.{no_update, fresh_few, fresh_more_new, fresh_more_old, fresh_all, Apart-of}
use Rattle.journal.proofs.list.fits.Goals as goal
use Rattle.journal.proofs.list.fits.Goals.{After-contains, then-not-contains, else-not-contains}

pub overflow_add-fresh : goal.overflow_add-fresh
overflow_add-fresh c =
    omega (
      arith,
      c.loop-update.invariant,
      fresh_few c.args.pending_sectors.now.sectors.items
          (targets (take c.loop-update.update-index c.args.updates.now)),
      length-targets (take c.loop-update.update-index c.args.updates.now),
      length-take c.loop-update.update-index c.args.updates.now,
      c.requires.short,
    )

looked : (c : After-contains) → has c.args.pending_sectors.now.sectors.items (get_or c.args.updates.now c.loop-update.update-index no_update).target ≡ c.contains.result
looked c = sym c.contains.ensures

pub loop-update-preserved : goal.loop-update-preserved
loop-update-preserved c =
    let at = (goal.at.loop-update-preserved c).After-contains in
    elim c.if-not-contains.branch [
      | then-not-contains w ↦ w.fresh-is
          ∙ fresh_more_new c.args.pending_sectors.now.sectors.items c.args.updates.now c.loop-update.update-index c.loop-update.fresh (omega arith) c.loop-update.invariant
          (looked at ∙ w.if-not-contains.true)
      | else-not-contains w ↦ w.fresh-is
          ∙ fresh_more_old c.args.pending_sectors.now.sectors.items c.args.updates.now c.loop-update.update-index c.loop-update.fresh (omega arith) c.loop-update.invariant
          (looked at ∙ w.if-not-contains.false)
    ]

pub overflow_add-result : goal.overflow_add-result
overflow_add-result c =
    omega (
      arith,
      c.loop-update.invariant,
      fresh_few c.args.pending_sectors.now.sectors.items
          (targets (take c.loop-update.update-index c.args.updates.now)),
      length-targets (take c.loop-update.update-index c.args.updates.now),
      length-take c.loop-update.update-index c.args.updates.now,
      c.requires.short,
      c.requires.few,
    )

pub returns : goal.returns
returns c =
    let all = fresh_all c.args.pending_sectors.now.sectors.items c.args.updates.now c.loop-update.update-index c.loop-update.fresh c.loop-update-test.false
    (Apart-of (targets c.args.updates.now) c.requires.apart) c.loop-update.invariant in
    rw all (search rules)
