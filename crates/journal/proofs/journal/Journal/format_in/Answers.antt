use Rattle.std.proofs.Common.{◌≡◌, ◌∙◌, ◌∷◌, ℕ, List, [], arith, refl}
use Rattle.disk.specs.declared.update.Update.{Update}
use Rattle.disk.specs.Moments.{Image, applied}
use Rattle.journal.specs.Settled.{Settles}
use Rattle.journal.specs.Format.{formatted, fresh}
use Rattle.journal.specs.Phase.{AddsUpdates, IsFixedAs}
use Rattle.journal.proofs.Areas.{end_within, large_for}
use Rattle.journal.proofs.Answerings.{fails_after, is_fault, never_fails}
use Rattle.journal.proofs.Formats.{zero_update, format_fresh, format_last, format_done, erased_at, erased_fixed, fresh_moments_at, fresh_fixed_at, fresh_made, fresh_out, length-fresh}
use Rattle.journal.proofs.journal.Journal.format_in.Goals as goal
use Rattle.journal.proofs.journal.Journal.format_in.Given.{Over}
use Rattle.journal.proofs.journal.Journal.format_in.Goals.{In_ok-write_sector, In_ok-write_fresh}

-- the writes between the two of sector 0, and the images that there are after them
abbrev every : (g : Over) (c : In_ok-write_sector g) → List Update
every g c = fresh (g.D.Device.size c.args.device.now) c.args.updates.now

abbrev Settled : (g : Over) (c : In_ok-write_sector g) → Image → Type 0
Settled g c image = Settles c.args.area image (formatted c.args.sector0.now c.args.updates.now)

made : (g : Over) (c : In_ok-write_sector g) (base image : Image) → image 0 ≡ c.args.sector0.now → ((n : ℕ) → (n ≡ 0 → ⊥) → image n ≡ applied (every g c) base n) → Settled g c image
made g c = fresh_made c.args.area (g.D.Device.size c.args.device.now) c.args.sector0.now c.args.updates.now
    (omega (arith, large_for c.args.area (g.D.Device.size c.args.device.now) c.requires.area c.requires.large)) (end_within c.args.area (g.D.Device.size c.args.device.now) c.requires.large) c.requires.fit

erased : (g : Over) (c : In_ok-write_sector g) → g.D.Device.keeps_word → AddsUpdates (zero_update ∷ []) (g.D.Device.history c.args.device.now) (g.D.Device.history c.write_sector.new.device)
erased g c k = erased_at c.zeros.result _ _ c.zeros.ensures (c.in_ok-write_sector.ensures.moments k)

fixed : (g : Over) (c : In_ok-write_sector g) → g.D.Device.keeps_word → IsFixedAs (zero_update ∷ []) (g.D.Device.history c.args.device.now) (g.D.Device.history c.write_sector.new.device)
fixed g c k = erased_fixed c.zeros.result _ _ c.zeros.ensures (c.in_ok-write_sector.ensures.ok k)

fresh_moments : (g : Over) (c : In_ok-write_fresh g) → g.D.Device.keeps_word
    → AddsUpdates (fresh (g.D.Device.size c.args.device.now) c.args.updates.now) (g.D.Device.history c.write_sector.new.device) (g.D.Device.history c.write_fresh.new.device)
fresh_moments g c k = fresh_moments_at _ _ c.args.updates.now _ _ c.in_ok-write_sector.ensures.size (c.in_ok-write_fresh.ensures.moments k)

fresh_fixed : (g : Over) (c : In_ok-write_fresh g) → g.D.Device.keeps_word
    → IsFixedAs (fresh (g.D.Device.size c.args.device.now) c.args.updates.now) (g.D.Device.history c.write_sector.new.device) (g.D.Device.history c.write_fresh.new.device)
fresh_fixed g c k = fresh_fixed_at _ _ c.args.updates.now _ _ c.in_ok-write_sector.ensures.size (c.in_ok-write_fresh.ensures.ok k)

pub returns-in_err-write_fresh : goal.returns-in_err-write_fresh
returns-in_err-write_fresh g c =
    let first = (goal.at.returns-in_err-write_fresh g c).In_ok-write_sector in
    rw (is_fault _ c.from_residual-in_err-write_fresh.ensures.1) (record {
      moments = λ k. format_fresh (every g first) (Settled g first) c.args.sector0.now _ (fresh_out (g.D.Device.size c.args.device.now) c.args.updates.now) (made g first) _ _ (erased g first k) (fixed g first k)
          (fresh_moments_at _ _ c.args.updates.now _ _ c.in_ok-write_sector.ensures.size (c.in_err-write_fresh.ensures.moments k));
      ok = λ k. tt;
      cost = λ k. tt;
      size = c.in_err-write_fresh.ensures.size ∙ c.in_ok-write_sector.ensures.size;
      failures = fails_after _ _ _ _ _ c.in_ok-write_sector.ensures.failures.ok c.in_err-write_fresh.ensures.failures;
      refuses = refl;
    })

pub returns-in_err-write_sector-2 : goal.returns-in_err-write_sector-2
returns-in_err-write_sector-2 g c =
    let first = (goal.at.returns-in_err-write_sector-2 g c).In_ok-write_sector in
    let second = (goal.at.returns-in_err-write_sector-2 g c).In_ok-write_fresh in
    rw (is_fault _ c.from_residual-in_err-write_sector-2.ensures.1) (record {
      moments = λ k. format_last (every g first) (Settled g first) c.args.sector0.now _ (fresh_out (g.D.Device.size c.args.device.now) c.args.updates.now) (made g first) _ _ _ (erased g first k) (fixed g first k)
          (fresh_moments g second k) (fresh_fixed g second k) (c.in_err-write_sector-2.ensures.moments k);
      ok = λ k. tt;
      cost = λ k. tt;
      size = c.in_err-write_sector-2.ensures.size ∙ c.in_ok-write_fresh.ensures.size ∙ c.in_ok-write_sector.ensures.size;
      failures = fails_after _ _ _ _ _ (c.in_ok-write_fresh.ensures.failures.ok ∙ c.in_ok-write_sector.ensures.failures.ok) c.in_err-write_sector-2.ensures.failures;
      refuses = refl;
    })

pub returns : goal.returns
returns g c =
    let first = (goal.at.returns g c).In_ok-write_sector in
    let second = (goal.at.returns g c).In_ok-write_fresh in
    record {
      moments = λ k. format_last (every g first) (Settled g first) c.args.sector0.now _ (fresh_out (g.D.Device.size c.args.device.now) c.args.updates.now) (made g first) _ _ _ (erased g first k) (fixed g first k)
          (fresh_moments g second k) (fresh_fixed g second k) (c.in_ok-write_sector-2.ensures.moments k);
      ok = λ k. format_done (every g first) (Settled g first) c.args.sector0.now (g.D.Device.history c.args.device.now) (fresh_out (g.D.Device.size c.args.device.now) c.args.updates.now) (made g first) _ _ _ (fresh_fixed g second k) (c.in_ok-write_sector-2.ensures.ok k);
      cost = λ k. omega (
        arith,
        (c.in_ok-write_sector.ensures.ok k).cost,
        (c.in_ok-write_fresh.ensures.ok k).cost,
        (c.in_ok-write_sector-2.ensures.ok k).cost,
        length-fresh (g.D.Device.size c.write_sector.new.device) c.args.updates.now,
        c.in_ok-write_sector.ensures.size,
        large_for c.args.area (g.D.Device.size c.args.device.now) c.requires.area c.requires.large,
      );
      size = c.in_ok-write_sector-2.ensures.size ∙ c.in_ok-write_fresh.ensures.size ∙ c.in_ok-write_sector.ensures.size;
      failures = never_fails _ _ _ (c.in_ok-write_sector-2.ensures.failures.ok ∙ c.in_ok-write_fresh.ensures.failures.ok ∙ c.in_ok-write_sector.ensures.failures.ok);
      refuses = tt;
    }
