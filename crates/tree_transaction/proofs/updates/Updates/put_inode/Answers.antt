use Rattle.std.proofs.Common.{◌≡◌, ◌≤◌, ◌+◌, ◌∙◌, ap, arith, length, set, sym, subst, List, ℕ, Option}
use Rattle.disk.specs.Moments.{applied, put}
use Rattle.disk.specs.declared.update.Update.{Update}
use Rattle.inode.specs.Fields.{fields_of}
use Rattle.inode.specs.Encoding.{inode_sector}
use Rattle.std.proofs.lemmas.List.{length-set}
use Rattle.tree_transaction.specs.Updates.{UpdatesApart, encoded, target_of, updated}
use Rattle.tree_transaction.proofs.PendingLaws.{encoded-pending}
use Rattle.tree_transaction.proofs.UpdateLaws.{apart-updated, filled, image-updated, length-updated}
use Rattle.tree_transaction.proofs.updates.Updates.put_inode.Goals as goal

module _ (c : goal.After-keep) where
  update : Update
  update = record { target = c.args.target; content = inode_sector c.args.form (fields_of c.args.inode.now) }

  before : List Update
  before = encoded c.self.inside.list.items c.self.inside.pending.items

  list : encoded c.place_for.new.list.items c.keep.new.pending.items ≡ updated before update
  unfolding update before
  list =
      let us = c.place_for.new.list.items in
      let ps = c.place_for.new.pending.items in
      let place = c.in_ok-place.place in
      filled before (encoded us ps) (encoded us c.keep.new.pending.items) update place c.in_ok-place.ensures.there (c.in_ok-place.ensures.put (inode_sector c.args.form (fields_of c.args.inode.now)))
      (ap (encoded us) c.keep.ensures ∙ encoded-pending us ps place c.in_ok-copy.copy c.in_ok-place.ensures.whole c.in_ok-place.ensures.within
      ∙ ap (λ (content : List ℕ). set (encoded us ps) place (record { target = target_of (encoded us ps) place; content = content })) c.in_ok-copy.ensures)

pub invariant_of-self-2 : goal.invariant_of-self-2
unfolding before
invariant_of-self-2 c = (
  ap (λ (ps : List (Option (List ℕ))). length ps) c.keep.ensures ∙ length-set c.place_for.new.pending.items c.in_ok-place.place _ ∙ c.in_ok-place.ensures.whole,
  subst UpdatesApart (sym (list c)) (apart-updated (before c) (update c) c.self.invariant.1),
)

pub returns-clause-image : goal.returns-clause-image
unfolding update before
returns-clause-image c = λ image. ap (λ (us : List Update). applied us image) (list c) ∙ image-updated (before c) (update c) image c.self.invariant.1
    ∙ ap (λ (us : List Update). put (applied us image) (update c)) c.self.view_is

pub returns-clause-count : goal.returns-clause-count
unfolding before
returns-clause-count c =
    let now : length (before c) ≡ length c.args.self.now = ap (λ (us : List Update). length us) c.self.view_is in
    let more : length (updated (before c) (update c)) ≤ length c.args.self.now + 1 = omega (arith, now, length-updated (before c) (update c)) in
    subst (λ (us : List Update). length us ≤ length c.args.self.now + 1) (sym (list c)) more
