use Rattle.std.proofs.Common.{◌≡◌, ◌≤◌, ◌<◌, ◌∙◌, ◌++◌, ◌∷◌, [], ap, refl, sym, subst, arith, length, ℕ, List, ⊎_elim}
use Rattle.std.proofs.lemmas.Bool.{cases_lt}
use Rattle.disk.specs.declared.update.Update.{Update}
use Rattle.disk.specs.Moments.{Image, seen, applied}
use Rattle.journal.specs.Journal.{journal_failures, log_of, listed}
use Rattle.journal.specs.declared.layout.LogArea.{LogArea}
use Rattle.journal.specs.Layout.{AreTargets, targets, through}
use Rattle.journal.specs.Log.{Log, IsJoined, Moved, ListTakes}
use Rattle.journal.specs.Transactions.{FitTogether, gathered, sectors_of}
use Rattle.journal.proofs.Answerings.{answers_down, answers_up, is_fault}
use Rattle.journal.proofs.Parts.{part_failed, part_is_safe, stays_safe}
use Rattle.journal.proofs.Cachings.{copies_applied}
use Rattle.journal.proofs.Prefixes.{joined_as_one, listed_sectors, moved_flushed, moved_takes, put_alone, put_does}
use Rattle.journal.proofs.Images.{Fit, length-targets}
use Rattle.journal.proofs.Joins.{pushed_contents}
use Rattle.journal.proofs.Lists.{Fit-gathered, targets_of-Fit}
use Rattle.journal.proofs.Stages.{Fit-of}
use Rattle.journal.proofs.journal.Journal.apply.Goals as goal
use Rattle.journal.proofs.journal.Journal.apply.Given.{Over}
use Rattle.journal.proofs.journal.Journal.apply.Goals.{After-merge_into}

-- what waits then
all_put : (g : Over) (c : After-merge_into g) (image : Image) (n : ℕ)
    → applied c.merge_into.new.pending.items image n ≡ applied c.args.updates.items (applied c.flush_if_full.new.self.pending.items image) n
all_put g c image n =
    c.merge_into.ensures.applied image n
    ∙ ap (λ (us : List Update). applied us (applied c.flush_if_full.new.self.pending.items image) n) c.deref-3.ensures.value

targets_put : (g : Over) (c : After-merge_into g)
    → targets c.merge_into.new.pending.items ≡ gathered (targets c.flush_if_full.new.self.pending.items) (targets c.args.updates.items)
targets_put g c =
    c.merge_into.ensures.targets
    ∙ ap (λ (us : List Update). gathered (targets c.flush_if_full.new.self.pending.items) (targets us)) c.deref-3.ensures.value

-- the log after the call
after : (g : Over) (c : After-merge_into g) → Log
after g c = record {
  base = through c.flush_if_full.new.self.area c.flush_if_full.new.self.recorded.targets.items (seen (g.D.Device.history c.flush_if_full.new.self.device).now);
  list = listed c.merge_into.new.pending.items;
  is_down = c.flush_if_full.new.self.is_down;
  area = c.flush_if_full.new.self.area;
  size = g.D.Device.size c.flush_if_full.new.self.device;
  history = g.D.Device.history c.flush_if_full.new.self.device;
}

taken : (g : Over) (c : After-merge_into g) → FitTogether (log_of c.args.self.now).area ((log_of c.args.self.now).list ++ c.args.updates.items ∷ [])
    → ListTakes c.args.updates.items (log_of c.args.self.now) (after g c)
unfolding log_of after
taken g c fit =
    let was = c.args.self.now.pending.items in
    let us = c.args.updates.items in
    let P : List Update → Type 0 = λ vs. FitTogether c.args.self.now.area (listed was ++ vs ∷ []) in
    let kept = c.flush_if_full.ensures.kept (subst P (sym c.deref.ensures.value) fit) in
    record {
      list = joined_as_one (listed was ++ us ∷ []) c.merge_into.new.pending.items (put_does was us c.merge_into.new.pending.items
          (λ image n. all_put g c image n ∙ ap (λ (xs : List Update). applied us (applied xs image) n) kept.1));
      only = ap (λ (log : Log). let next : Log = record log { list = listed c.merge_into.new.pending.items } in next) kept.0;
    }

alone : (g : Over) (c : After-merge_into g) → (FitTogether (log_of c.args.self.now).area ((log_of c.args.self.now).list ++ c.args.updates.items ∷ []) → ⊥)
    → IsJoined (c.args.updates.items ∷ []) (after g c).list
unfolding log_of after
alone g c over =
    let was = c.args.self.now.pending.items in
    let us = c.args.updates.items in
    let P : List Update → Type 0 = λ vs. FitTogether c.args.self.now.area (listed was ++ vs ∷ []) in
    joined_as_one (us ∷ []) c.merge_into.new.pending.items (put_alone c.flush_if_full.new.self.pending.items us c.merge_into.new.pending.items
    (c.in_ok-flush_if_full.ensures.emptied (λ fit. over (subst P c.deref.ensures.value fit))) (all_put g c))

moved : (g : Over) (c : After-merge_into g) → g.D.Device.keeps_word
    → Moved ((log_of c.args.self.now).list ++ c.args.updates.items ∷ []) (log_of c.args.self.now) (after g c)
unfolding log_of after
moved g c k =
    let was = c.args.self.now.pending.items in
    let us = c.args.updates.items in
    let P : List Update → Type 0 = λ vs. FitTogether c.args.self.now.area (listed was ++ vs ∷ []) in
    ⊎_elim
    (λ (above : c.args.self.now.area.sectors < length (gathered [] (sectors_of (listed was ++ us ∷ [])))).
    let over : FitTogether (log_of c.args.self.now).area (listed was ++ us ∷ []) → ⊥ = λ fit. omega (arith, above, fit) in
    moved_flushed (log_of c.args.self.now) (after g c) us ((c.in_ok-flush_if_full.ensures.flushed (λ fit. over (subst P c.deref.ensures.value fit))).ok k) (alone g c over))
    (λ (fit : length (gathered [] (sectors_of (listed was ++ us ∷ []))) ≤ c.args.self.now.area.sectors). moved_takes (log_of c.args.self.now) (after g c) us (taken g c fit))
    (cases_lt c.args.self.now.area.sectors (length (gathered [] (sectors_of (listed was ++ us ∷ [])))))

pub returns-then-self-clause-bounded : goal.returns-then-self-clause-bounded
unfolding log_of
returns-then-self-clause-bounded g c = omega (arith, listed_sectors c.args.self.now.pending.items, c.args.self.now.few)

pub returns-then-len-max_updates-clause-bounded : goal.returns-then-len-max_updates-clause-bounded
unfolding log_of
returns-then-len-max_updates-clause-bounded g c = omega (arith, listed_sectors c.args.self.now.pending.items, c.args.self.now.few)

pub returns-in_err-flush_if_full-clause-bounded : goal.returns-in_err-flush_if_full-clause-bounded
unfolding log_of
returns-in_err-flush_if_full-clause-bounded g c = omega (arith, listed_sectors c.flush_if_full.new.self.pending.items, c.flush_if_full.new.self.few)

few : (g : Over) (c : After-merge_into g) → length c.merge_into.new.pending.items ≤ c.flush_if_full.new.self.area.sectors
unfolding log_of
few g c = omega (
  arith,
  length-targets c.merge_into.new.pending.items,
  ap (λ (ts : List ℕ). length ts) (targets_put g c),
  ap (λ (ts : List ℕ). length (gathered ts (targets c.args.updates.items))) c.flush_if_full.new.self.sectors_are,
  ap (λ (us : List Update). length (gathered c.flush_if_full.new.self.pending_sectors.sectors.items (targets us))) c.deref.ensures.value,
  c.in_ok-flush_if_full.ensures.room,
  ap (λ (a : LogArea). a.sectors) c.flush_if_full.ensures.part.area,
)

pub invariant_of-self-clause-few : goal.invariant_of-self-clause-few
invariant_of-self-clause-few g c = few g (goal.at.invariant_of-self-clause-few g c).After-merge_into

pub invariant_of-self-clause-fit : goal.invariant_of-self-clause-fit
unfolding log_of
invariant_of-self-clause-fit g c =
    let mid = c.flush_if_full.new.self in
    let size = mid.area.end in
    let us = c.args.updates.items in
    let P : List ℕ → Type 0 = λ ts. Fit size ts in
    targets_of-Fit size (targets c.merge_into.new.pending.items)
    (subst P (sym (targets_put g (goal.at.invariant_of-self-clause-fit g c).After-merge_into))
    (Fit-gathered size (targets mid.pending.items) (targets us) (Fit-of size (targets mid.pending.items) mid.fit)
    (Fit-of size (targets us) (subst (λ (a : LogArea). AreTargets a.end (targets us)) (sym c.flush_if_full.ensures.part.area) c.requires))))

pub returns-clause-bounded : goal.returns-clause-bounded
unfolding log_of
returns-clause-bounded g c = omega (arith, listed_sectors c.merge_into.new.pending.items, few g (goal.at.returns-clause-bounded g c).After-merge_into)

pub returns-clause-ok : goal.returns-clause-ok
unfolding log_of after
returns-clause-ok g c =
    let at = (goal.at.returns-clause-ok g c).After-merge_into in
    record {
      kept = λ fit. taken g at fit;
      flushed = λ over. alone g at over;
      moved = λ k. moved g at k;
      contents = λ k. pushed_contents c.args.updates.items (log_of c.args.self.now) (after g at) (moved g at k);
    }

pub returns-then-self-clause-safe : goal.returns-then-self-clause-safe
returns-then-self-clause-safe g c = stays_safe c.args.self.now

pub returns-then-self-clause-answers : goal.returns-then-self-clause-answers
unfolding log_of journal_failures
returns-then-self-clause-answers g c = answers_down _ _ c.if-self.true

pub returns-then-len-max_updates-clause-safe : goal.returns-then-len-max_updates-clause-safe
returns-then-len-max_updates-clause-safe g c = stays_safe c.args.self.now

pub returns-then-len-max_updates-clause-answers : goal.returns-then-len-max_updates-clause-answers
unfolding log_of journal_failures
returns-then-len-max_updates-clause-answers g c = answers_up _ _ _ _ _ (λ e. cc) (λ e. cc) c.if-self.false c.if-self.false refl

pub returns-in_err-flush_if_full-clause-safe : goal.returns-in_err-flush_if_full-clause-safe
returns-in_err-flush_if_full-clause-safe g c =
    part_is_safe _ _ _ _ _ c.in_err-flush_if_full.ensures.part

pub returns-in_err-flush_if_full-clause-answers : goal.returns-in_err-flush_if_full-clause-answers
unfolding log_of journal_failures
returns-in_err-flush_if_full-clause-answers g c = rw (is_fault _ c.from_residual.ensures.1) (part_failed _ _ _ _ _ c.if-self.false c.in_err-flush_if_full.ensures.part)

pub returns-clause-safe : goal.returns-clause-safe
unfolding log_of
returns-clause-safe g c =
    let safe = part_is_safe c.args.self.now c.flush_if_full.new.self _ _ _ c.in_ok-flush_if_full.ensures.part in
    record { area = safe.area; size = safe.size; moments = safe.moments; brief = safe.brief; settled = safe.settled }

pub returns-clause-answers : goal.returns-clause-answers
unfolding log_of journal_failures
returns-clause-answers g c =
    let part = c.in_ok-flush_if_full.ensures.part in
    answers_up _ _ _ _ _ (λ e. cc) (λ e. cc) c.if-self.false part.is_down part.failures.ok

pub invariant_of-self-clause-cached : goal.invariant_of-self-clause-cached
unfolding log_of
invariant_of-self-clause-cached g c = λ k up.
    let mid = c.flush_if_full.new.self in
    let image = through mid.area mid.recorded.targets.items (seen (g.D.Device.history mid.device).now) in
    copies_applied mid.area.end c.args.updates.items c.deref-2.result.now (applied mid.pending.items image) (applied c.merge_into.new.pending.items image)
    mid.cache.sectors.entries c.forget.new.self.sectors.entries (mid.cached k up) c.forget.ensures.among c.forget.ensures.gone c.deref-2.ensures.value
    (λ n. all_put g (goal.at.invariant_of-self-clause-cached g c).After-merge_into image n)
