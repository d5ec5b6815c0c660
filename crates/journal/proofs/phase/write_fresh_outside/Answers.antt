use Rattle.std.proofs.Common.{◌≡◌, ◌≤◌, ℕ, true, List, length, arith, sym, ◌∙◌, ap, refl}
use Rattle.std.specs.Prelude.{unwrap_or}
use Rattle.disk.specs.declared.update.Update.{Update}
use Rattle.disk.specs.Moments.{applied}
use Rattle.disk.specs.Calls.{zero_sector}
use Rattle.journal.specs.Format.{fresh_at, fresh_outside, is_written}
use Rattle.journal.proofs.Moments.{wrote_all}
use Rattle.journal.proofs.Outside.{below_moments, next_failed, passed, wrote_below, wrote_next}
use Rattle.journal.proofs.Phases.{alone_brief, failed_brief, synced_brief, synced_moments, synced_fixes}
use Rattle.journal.proofs.phase.write_fresh_outside.Goals as goal
use Rattle.journal.proofs.phase.write_fresh_outside.Given.{Over}
use Rattle.journal.proofs.phase.write_fresh_outside.Goals.{After-write}

content_is : (g : Over) (c : After-write g) → c.unwrap_or-content.result ≡ applied c.args.updates.now (λ _. zero_sector) c.loop-n.n
content_is g c =
    c.unwrap_or-content.ensures ∙ ap (λ (bytes : List ℕ). unwrap_or c.newer.result bytes) c.zeros.ensures
    ∙ sym (c.newer.ensures (λ _. zero_sector) (λ _. zero_sector) refl)

update_is : (g : Over) (c : After-write g) → (let u : Update = record { target = c.loop-n.n; content = c.unwrap_or-content.result } in u ≡ fresh_at c.args.updates.now c.loop-n.n)
update_is g c = ap (λ (bytes : List ℕ). let v : Update = record { target = c.loop-n.n; content = bytes } in v) (content_is g c)

written_here : (g : Over) (c : After-write g) → is_written c.args.area c.args.unread.now c.loop-n.n ≡ true
written_here g c = c.behind_unread-next.ensures.written (omega (arith, c.behind_unread-next.ensures.later))

pub loop-n-preserved-then-next-n : goal.loop-n-preserved-then-next-n
loop-n-preserved-then-next-n g c = record {
  begun = omega (arith, c.behind_unread-next.ensures.later, c.loop-n.invariant.begun);
  within = c.behind_unread-next.ensures.within c.sectors-size.result c.loop-n.invariant.within (omega (arith, c.requires.unread, c.sectors-size.ensures)) (omega (arith, c.requires.large, c.sectors-size.ensures));
  wrote = λ k. c.loop-n.invariant.wrote k
      ∙ ap (λ (us : List Update). wrote_all us (g.D.Device.history c.args.device.now))
      (sym (passed c.args.area c.args.unread.now c.args.updates.now c.loop-n.n c.behind_unread-next.result c.loop-n.invariant.begun c.behind_unread-next.ensures.later c.behind_unread-next.ensures.passed));
  size_is = c.loop-n.invariant.size_is;
  none = c.loop-n.invariant.none;
}

pub loop-n-preserved : goal.loop-n-preserved
loop-n-preserved g c =
    let a = (goal.at.loop-n-preserved g c).After-write in
    record {
      begun = omega arith;
      within = omega arith;
      wrote = λ k. wrote_next c.args.area c.args.unread.now c.args.updates.now c.loop-n.n _ (g.D.Device.history c.args.device.now) (g.D.Device.history c.loop-n.device)
          (g.D.Device.history c.write.new.self) c.loop-n.invariant.begun (written_here g a) (update_is g a) (c.loop-n.invariant.wrote k) (c.in_ok-write.ensures.ok k);
      size_is = c.in_ok-write.ensures.size ∙ c.loop-n.invariant.size_is;
      none = c.in_ok-write.ensures.cause.ok ∙ c.loop-n.invariant.none;
    }

pub returns-in_err-write-clause-moments : goal.returns-in_err-write-clause-moments
returns-in_err-write-clause-moments g c = λ k.
    let a = (goal.at.returns-in_err-write-clause-moments g c).After-write in
    next_failed c.args.area c.args.unread.now c.args.updates.now c.loop-n.n (g.D.Device.size c.args.device.now) _ (g.D.Device.history c.args.device.now) (g.D.Device.history c.loop-n.device)
    (g.D.Device.history c.write.new.self) c.loop-n.invariant.begun (omega (arith, c.sectors-size.ensures)) (written_here g a) (update_is g a) (c.loop-n.invariant.wrote k) (c.in_err-write.ensures.err k)

pub returns-in_err-write-clause-brief : goal.returns-in_err-write-clause-brief
returns-in_err-write-clause-brief g c = λ k.
    let below : ℕ → List Update = λ n. fresh_outside c.args.area c.args.unread.now n c.args.updates.now in
    failed_brief (below (g.D.Device.size c.args.device.now)) (length (below c.loop-n.n)) _ (g.D.Device.history c.args.device.now) (g.D.Device.history c.loop-n.device) (g.D.Device.history c.write.new.self) refl
    (wrote_below c.args.area c.args.unread.now c.args.updates.now c.loop-n.n (g.D.Device.size c.args.device.now) (g.D.Device.history c.args.device.now) (g.D.Device.history c.loop-n.device)
    c.loop-n.invariant.begun (omega (arith, c.sectors-size.ensures, c.loop-n.invariant.within)) (c.loop-n.invariant.wrote k)) _ (c.in_err-write.ensures.err k)

pub returns-in_err-sync-clause-moments : goal.returns-in_err-sync-clause-moments
returns-in_err-sync-clause-moments g c = λ k.
    below_moments c.args.area c.args.unread.now c.args.updates.now c.loop-n.n (g.D.Device.size c.args.device.now) (g.D.Device.history c.args.device.now) (g.D.Device.history c.sync.new.self)
    c.loop-n.invariant.begun (omega (arith, c.sectors-size.ensures, c.loop-n.invariant.within)) (c.in_err-sync.ensures.err k ∙ c.loop-n.invariant.wrote k)

pub returns-in_err-sync-clause-brief : goal.returns-in_err-sync-clause-brief
returns-in_err-sync-clause-brief g c = λ k.
    let below : ℕ → List Update = λ n. fresh_outside c.args.area c.args.unread.now n c.args.updates.now in
    alone_brief (below (g.D.Device.size c.args.device.now)) (length (below c.loop-n.n)) _ (g.D.Device.history c.args.device.now) (g.D.Device.history c.loop-n.device) (g.D.Device.history c.sync.new.self) refl
    (wrote_below c.args.area c.args.unread.now c.args.updates.now c.loop-n.n (g.D.Device.size c.args.device.now) (g.D.Device.history c.args.device.now) (g.D.Device.history c.loop-n.device)
    c.loop-n.invariant.begun (omega (arith, c.sectors-size.ensures, c.loop-n.invariant.within)) (c.loop-n.invariant.wrote k)) (c.in_err-sync.ensures.err k)

pub returns-clause-moments : goal.returns-clause-moments
returns-clause-moments g c = λ k.
    let below : ℕ → List Update = λ n. fresh_outside c.args.area c.args.unread.now n c.args.updates.now in
    synced_moments (below (g.D.Device.size c.args.device.now)) (length (below c.loop-n.n)) (g.D.Device.history c.args.device.now) (g.D.Device.history c.loop-n.device) (g.D.Device.history c.sync.new.self)
    (wrote_below c.args.area c.args.unread.now c.args.updates.now c.loop-n.n (g.D.Device.size c.args.device.now) (g.D.Device.history c.args.device.now) (g.D.Device.history c.loop-n.device)
    c.loop-n.invariant.begun (omega (arith, c.sectors-size.ensures, c.loop-n.invariant.within)) (c.loop-n.invariant.wrote k)) (c.in_ok-sync.ensures.ok k)

pub returns-clause-brief : goal.returns-clause-brief
returns-clause-brief g c = λ k.
    let below : ℕ → List Update = λ n. fresh_outside c.args.area c.args.unread.now n c.args.updates.now in
    synced_brief (below (g.D.Device.size c.args.device.now)) (length (below c.loop-n.n)) _ (g.D.Device.history c.args.device.now) (g.D.Device.history c.loop-n.device) (g.D.Device.history c.sync.new.self) refl
    (wrote_below c.args.area c.args.unread.now c.args.updates.now c.loop-n.n (g.D.Device.size c.args.device.now) (g.D.Device.history c.args.device.now) (g.D.Device.history c.loop-n.device)
    c.loop-n.invariant.begun (omega (arith, c.sectors-size.ensures, c.loop-n.invariant.within)) (c.loop-n.invariant.wrote k)) (c.in_ok-sync.ensures.ok k)

pub returns-clause-ok : goal.returns-clause-ok
returns-clause-ok g c = λ k.
    let below : ℕ → List Update = λ n. fresh_outside c.args.area c.args.unread.now n c.args.updates.now in
    let whole : c.loop-n.n ≡ g.D.Device.size c.args.device.now = omega (arith, c.sectors-size.ensures, c.loop-n.invariant.within, c.loop-n-test.false) in
    let most : length (below (g.D.Device.size c.args.device.now)) ≤ length (below c.loop-n.n) = omega (arith, ap (λ (n : ℕ). length (below n)) whole) in
    synced_fixes (below (g.D.Device.size c.args.device.now)) (length (below c.loop-n.n)) (g.D.Device.history c.args.device.now) (g.D.Device.history c.loop-n.device) (g.D.Device.history c.sync.new.self) most
    (wrote_below c.args.area c.args.unread.now c.args.updates.now c.loop-n.n (g.D.Device.size c.args.device.now) (g.D.Device.history c.args.device.now) (g.D.Device.history c.loop-n.device)
    c.loop-n.invariant.begun (omega (arith, c.sectors-size.ensures, c.loop-n.invariant.within)) (c.loop-n.invariant.wrote k)) (c.in_ok-sync.ensures.ok k)
