use Rattle.std.proofs.Common.{◌≡◌, ◌<◌, ◌+◌, ◌-◌, ℕ, List, length, get_or, take, arith, sym, ◌∙◌, ap, refl}
use Rattle.std.specs.Prelude.{unwrap_or}
use Rattle.disk.specs.declared.update.Update.{Update}
use Rattle.disk.specs.Moments.{applied}
use Rattle.disk.specs.Calls.{zero_sector}
use Rattle.journal.specs.Format.{fresh}
use Rattle.journal.proofs.Moments.{wrote_all}
use Rattle.journal.proofs.Formats.{length-fresh, get_or-fresh}
use Rattle.journal.proofs.Phases.{write_failed, left_alone, synced_moments, synced_fixes, wrote_more}
use Rattle.journal.proofs.phase.write_fresh.Goals as goal
use Rattle.journal.proofs.phase.write_fresh.Given.{Over}
use Rattle.journal.proofs.phase.write_fresh.Goals.{After-write}

size_is : (g : Over) (c : After-write g) → c.sectors-n-end.result ≡ g.D.Device.size c.args.device.now
size_is g c = c.sectors-n-end.ensures

content_is : (g : Over) (c : After-write g) → c.unwrap_or-content.result ≡ applied c.args.updates.now (λ _. zero_sector) c.loop-n.n
content_is g c =
    c.unwrap_or-content.ensures ∙ ap (λ (bytes : List ℕ). unwrap_or c.newer.result bytes) c.zeros.ensures
    ∙ sym (c.newer.ensures (λ _. zero_sector) (λ _. zero_sector) refl)

written : (g : Over) (c : After-write g) → (let u : Update = record { target = c.loop-n.n; content = c.unwrap_or-content.result } in
    get_or (fresh (g.D.Device.size c.args.device.now) c.args.updates.now) (c.loop-n.n - 1) u ≡ u)
written g c =
    let u : Update = record { target = c.loop-n.n; content = c.unwrap_or-content.result } in
    get_or-fresh (g.D.Device.size c.args.device.now) c.args.updates.now c.loop-n.n u (omega arith) (omega (arith, size_is g c))
    ∙ ap (λ (bytes : List ℕ). let v : Update = record { target = c.loop-n.n; content = bytes } in v) (sym (content_is g c))

within : (g : Over) (c : After-write g) → c.loop-n.n - 1 < length (fresh (g.D.Device.size c.args.device.now) c.args.updates.now)
within g c = omega (arith, length-fresh (g.D.Device.size c.args.device.now) c.args.updates.now, size_is g c)

pub returns-in_err-write-clause-moments : goal.returns-in_err-write-clause-moments
returns-in_err-write-clause-moments g c = λ k.
    let a = (goal.at.returns-in_err-write-clause-moments g c).After-write in
    write_failed (fresh (g.D.Device.size c.args.device.now) c.args.updates.now) (c.loop-n.n - 1) _ (g.D.Device.history c.args.device.now)
    (g.D.Device.history c.loop-n.device) (g.D.Device.history c.write.new.self) (within g a) (written g a)
    (c.loop-n.invariant.wrote k) (c.in_err-write.ensures.err k)

pub loop-n-preserved : goal.loop-n-preserved
loop-n-preserved g c =
    let a = (goal.at.loop-n-preserved g c).After-write in
    let all : List Update = fresh (g.D.Device.size c.args.device.now) c.args.updates.now in
    record {
      wrote = λ k. wrote_more all (c.loop-n.n - 1) _ (g.D.Device.history c.args.device.now)
          (g.D.Device.history c.loop-n.device) (g.D.Device.history c.write.new.self) (within g a) (written g a)
          (c.loop-n.invariant.wrote k) (c.in_ok-write.ensures.ok k)
          ∙ ap (λ (i : ℕ). wrote_all (take i all) (g.D.Device.history c.args.device.now)) (let q : c.loop-n.n - 1 + 1 ≡ c.loop-n.n + 1 - 1 = omega arith in q);
      size = c.in_ok-write.ensures.size ∙ c.loop-n.invariant.size;
      none = c.in_ok-write.ensures.cause.ok ∙ c.loop-n.invariant.none;
    }

pub returns-in_err-sync-clause-moments : goal.returns-in_err-sync-clause-moments
returns-in_err-sync-clause-moments g c = λ k.
    left_alone (fresh (g.D.Device.size c.args.device.now) c.args.updates.now) (c.loop-n.n - 1) (g.D.Device.history c.args.device.now)
    (g.D.Device.history c.loop-n.device) (g.D.Device.history c.sync.new.self) (c.loop-n.invariant.wrote k) (c.in_err-sync.ensures.err k)

pub returns-clause-moments : goal.returns-clause-moments
returns-clause-moments g c = λ k.
    synced_moments (fresh (g.D.Device.size c.args.device.now) c.args.updates.now) (c.loop-n.n - 1) (g.D.Device.history c.args.device.now)
    (g.D.Device.history c.loop-n.device) (g.D.Device.history c.sync.new.self) (c.loop-n.invariant.wrote k) (c.in_ok-sync.ensures.ok k)

pub returns-clause-ok : goal.returns-clause-ok
returns-clause-ok g c = λ k.
    let size_is : c.sectors-n-end.result ≡ g.D.Device.size c.args.device.now = c.sectors-n-end.ensures in
    synced_fixes (fresh (g.D.Device.size c.args.device.now) c.args.updates.now) (c.loop-n.n - 1) (g.D.Device.history c.args.device.now)
    (g.D.Device.history c.loop-n.device) (g.D.Device.history c.sync.new.self)
    (omega (arith, length-fresh (g.D.Device.size c.args.device.now) c.args.updates.now, size_is)) (c.loop-n.invariant.wrote k) (c.in_ok-sync.ensures.ok k)
