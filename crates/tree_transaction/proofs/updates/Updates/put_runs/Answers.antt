use Rattle.std.proofs.Common.{◌≡◌, ◌≤◌, ◌+◌, ◌∙◌, ap, arith, length, sym, subst, List}
use Rattle.disk.specs.Moments.{applied, put}
use Rattle.disk.specs.declared.update.Update.{Update}
use Rattle.extents.specs.Sector.{run_sector}
use Rattle.tree_transaction.specs.Updates.{UpdatesApart, updated, encoded}
use Rattle.tree_transaction.proofs.UpdateLaws.{apart-updated, filled, image-updated, length-updated}
use Rattle.tree_transaction.proofs.updates.Updates.put_runs.Goals as goal

module _ (c : goal.After-fill_runs) where
  update : Update
  update = record { target = c.args.target; content = run_sector c.args.runs.now }

  before : List Update
  before = encoded c.self.inside.list.items c.self.inside.pending.items

  list : encoded c.fill_runs.new.list.items c.fill_runs.new.pending.items ≡ updated before update
  unfolding update before
  list = filled before (encoded c.place_for.new.list.items c.place_for.new.pending.items) (encoded c.fill_runs.new.list.items c.fill_runs.new.pending.items) update c.in_ok-place.place c.in_ok-place.ensures.there
      (c.in_ok-place.ensures.put (run_sector c.args.runs.now)) c.fill_runs.ensures.put

pub invariant_of-self-2 : goal.invariant_of-self-2
unfolding before
invariant_of-self-2 c = (c.fill_runs.ensures.whole, subst UpdatesApart (sym (list c)) (apart-updated (before c) (update c) c.self.invariant.1))

pub returns-clause-image : goal.returns-clause-image
unfolding update before
returns-clause-image c = λ image. ap (λ (us : List Update). applied us image) (list c) ∙ image-updated (before c) (update c) image c.self.invariant.1
    ∙ ap (λ (us : List Update). put (applied us image) (update c)) c.self.view_is

pub returns-clause-count : goal.returns-clause-count
unfolding before
returns-clause-count c =
    let now : length (before c) ≡ length c.args.self.now = ap (λ (us : List Update). length us) c.self.view_is in
    let more : length (updated (before c) (update c)) ≤ length c.args.self.now + 1 = omega (arith, now, length-updated (before c) (update c)) in
    subst (λ (us : List Update). length us ≤ length c.args.self.now + 1) (sym (list c)) more
