use Rattle.std.proofs.Common.{◌∙◌, ◌∷◌, [], arith, refl}
use Rattle.journal.specs.Format.{fresh_outside}
use Rattle.journal.specs.Phase.{AddsUpdates, IsFixedAs}
use Rattle.journal.proofs.Answerings.{fails_after, is_fault, never_fails}
use Rattle.journal.proofs.Formats.{zero_update, erased_at, erased_fixed}
use Rattle.journal.proofs.Outside.{outside_brief_at, outside_done, outside_erased, outside_few, outside_fixed_at, outside_fresh, outside_last, outside_moments_at}
use Rattle.journal.proofs.journal.Journal.format_without.Goals as goal
use Rattle.journal.proofs.journal.Journal.format_without.Given.{Over}
use Rattle.journal.proofs.journal.Journal.format_without.Goals.{In_ok-write_sector, In_ok-write_fresh_outside}

erased : (g : Over) (c : In_ok-write_sector g) → g.D.Device.keeps_word → AddsUpdates (zero_update ∷ []) (g.D.Device.history c.args.device.now) (g.D.Device.history c.write_sector.new.device)
erased g c k = erased_at c.zeros-zeros.result _ _ c.zeros-zeros.ensures (c.in_ok-write_sector.ensures.moments k)

fixed : (g : Over) (c : In_ok-write_sector g) → g.D.Device.keeps_word → IsFixedAs (zero_update ∷ []) (g.D.Device.history c.args.device.now) (g.D.Device.history c.write_sector.new.device)
fixed g c k = erased_fixed c.zeros-zeros.result _ _ c.zeros-zeros.ensures (c.in_ok-write_sector.ensures.ok k)

fresh_moments : (g : Over) (c : In_ok-write_fresh_outside g) → g.D.Device.keeps_word
    → AddsUpdates (fresh_outside c.args.area c.args.unread (g.D.Device.size c.args.device.now) c.args.updates.now) (g.D.Device.history c.write_sector.new.device) (g.D.Device.history c.write_fresh_outside.new.device)
fresh_moments g c k = outside_moments_at c.args.area c.args.unread _ _ c.args.updates.now _ _ c.in_ok-write_sector.ensures.size (c.in_ok-write_fresh_outside.ensures.moments k)

fresh_fixed : (g : Over) (c : In_ok-write_fresh_outside g) → g.D.Device.keeps_word
    → IsFixedAs (fresh_outside c.args.area c.args.unread (g.D.Device.size c.args.device.now) c.args.updates.now) (g.D.Device.history c.write_sector.new.device) (g.D.Device.history c.write_fresh_outside.new.device)
fresh_fixed g c k = outside_fixed_at c.args.area c.args.unread _ _ c.args.updates.now _ _ c.in_ok-write_sector.ensures.size (c.in_ok-write_fresh_outside.ensures.ok k)

pub returns-in_err-write_sector : goal.returns-in_err-write_sector
returns-in_err-write_sector g c =
    rw (is_fault _ c.from_residual.ensures.1) (record {
      moments = λ k. outside_erased c.args.area c.args.unread (g.D.Device.size c.args.device.now) c.args.sector0.now c.args.updates.now c.requires.place.0 c.requires.place.1 c.requires.unread c.requires.fit (g.D.Device.history c.args.device.now) _
          (erased_at c.zeros-zeros.result _ _ c.zeros-zeros.ensures (c.in_err-write_sector.ensures.moments k));
      ok = λ k. tt;
      cost = λ k. record { brief = omega (arith, c.in_err-write_sector.ensures.brief k); ok = tt };
      size = c.in_err-write_sector.ensures.size;
      failures = fails_after _ _ _ _ _ refl c.in_err-write_sector.ensures.failures;
      refuses = refl;
    })

pub returns-in_err-write_fresh_outside : goal.returns-in_err-write_fresh_outside
returns-in_err-write_fresh_outside g c =
    let first = (goal.at.returns-in_err-write_fresh_outside g c).In_ok-write_sector in
    rw (is_fault _ c.from_residual-in_err-write_fresh_outside.ensures.1) (record {
      moments = λ k. outside_fresh c.args.area c.args.unread (g.D.Device.size c.args.device.now) c.args.sector0.now c.args.updates.now c.requires.place.0 c.requires.place.1 c.requires.unread c.requires.fit (g.D.Device.history c.args.device.now) _ _
          (erased g first k) (fixed g first k)
          (outside_moments_at c.args.area c.args.unread _ _ c.args.updates.now _ _ c.in_ok-write_sector.ensures.size (c.in_err-write_fresh_outside.ensures.moments k));
      ok = λ k. tt;
      cost = λ k. record {
        brief = omega (
          arith,
          (c.in_ok-write_sector.ensures.ok k).cost,
          outside_brief_at c.args.area c.args.unread (g.D.Device.size c.args.device.now) (g.D.Device.size c.write_sector.new.device) c.args.updates.now (g.D.Device.history c.write_sector.new.device) (g.D.Device.history c.write_fresh_outside.new.device) c.in_ok-write_sector.ensures.size (c.in_err-write_fresh_outside.ensures.brief k),
          outside_few c.args.area c.args.unread (g.D.Device.size c.args.device.now) c.args.sector0.now c.args.updates.now c.requires.place.0 c.requires.place.1 c.requires.unread c.requires.fit,
        );
        ok = tt;
      };
      size = c.in_err-write_fresh_outside.ensures.size ∙ c.in_ok-write_sector.ensures.size;
      failures = fails_after _ _ _ _ _ c.in_ok-write_sector.ensures.failures.ok c.in_err-write_fresh_outside.ensures.failures;
      refuses = refl;
    })

pub returns-in_err-write_sector-2 : goal.returns-in_err-write_sector-2
returns-in_err-write_sector-2 g c =
    let first = (goal.at.returns-in_err-write_sector-2 g c).In_ok-write_sector in
    let second = (goal.at.returns-in_err-write_sector-2 g c).In_ok-write_fresh_outside in
    rw (is_fault _ c.from_residual-in_err-write_sector-2.ensures.1) (record {
      moments = λ k. outside_last c.args.area c.args.unread (g.D.Device.size c.args.device.now) c.args.sector0.now c.args.updates.now c.requires.place.0 c.requires.place.1 c.requires.unread c.requires.fit (g.D.Device.history c.args.device.now) _ _ _
          (erased g first k) (fixed g first k) (fresh_moments g second k) (fresh_fixed g second k) (c.in_err-write_sector-2.ensures.moments k);
      ok = λ k. tt;
      cost = λ k. record {
        brief = omega (
          arith,
          (c.in_ok-write_sector.ensures.ok k).cost,
          (fresh_fixed g second k).cost,
          c.in_err-write_sector-2.ensures.brief k,
          outside_few c.args.area c.args.unread (g.D.Device.size c.args.device.now) c.args.sector0.now c.args.updates.now c.requires.place.0 c.requires.place.1 c.requires.unread c.requires.fit,
        );
        ok = tt;
      };
      size = c.in_err-write_sector-2.ensures.size ∙ c.in_ok-write_fresh_outside.ensures.size ∙ c.in_ok-write_sector.ensures.size;
      failures = fails_after _ _ _ _ _ (c.in_ok-write_fresh_outside.ensures.failures.ok ∙ c.in_ok-write_sector.ensures.failures.ok) c.in_err-write_sector-2.ensures.failures;
      refuses = refl;
    })

pub returns : goal.returns
returns g c =
    let first = (goal.at.returns g c).In_ok-write_sector in
    let second = (goal.at.returns g c).In_ok-write_fresh_outside in
    record {
      moments = λ k. outside_last c.args.area c.args.unread (g.D.Device.size c.args.device.now) c.args.sector0.now c.args.updates.now c.requires.place.0 c.requires.place.1 c.requires.unread c.requires.fit (g.D.Device.history c.args.device.now) _ _ _
          (erased g first k) (fixed g first k) (fresh_moments g second k) (fresh_fixed g second k) (c.in_ok-write_sector-2.ensures.moments k);
      ok = λ k. outside_done c.args.area c.args.unread (g.D.Device.size c.args.device.now) c.args.sector0.now c.args.updates.now c.requires.place.0 c.requires.place.1 c.requires.unread c.requires.fit (g.D.Device.history c.args.device.now) _ _ _
          (fresh_fixed g second k) (c.in_ok-write_sector-2.ensures.ok k);
      cost = λ k. record {
        brief = omega (
          arith,
          (c.in_ok-write_sector.ensures.ok k).cost,
          (fresh_fixed g second k).cost,
          (c.in_ok-write_sector-2.ensures.ok k).cost,
          outside_few c.args.area c.args.unread (g.D.Device.size c.args.device.now) c.args.sector0.now c.args.updates.now c.requires.place.0 c.requires.place.1 c.requires.unread c.requires.fit,
        );
        ok = omega (arith, (c.in_ok-write_sector.ensures.ok k).cost, (fresh_fixed g second k).cost, (c.in_ok-write_sector-2.ensures.ok k).cost);
      };
      size = c.in_ok-write_sector-2.ensures.size ∙ c.in_ok-write_fresh_outside.ensures.size ∙ c.in_ok-write_sector.ensures.size;
      failures = never_fails _ _ _ (c.in_ok-write_sector-2.ensures.failures.ok ∙ c.in_ok-write_fresh_outside.ensures.failures.ok ∙ c.in_ok-write_sector.ensures.failures.ok);
      refuses = tt;
    }
