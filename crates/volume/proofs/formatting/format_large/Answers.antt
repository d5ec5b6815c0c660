use Rattle.std.proofs.Common.{rules, ℕ, [], ◌∷◌, ◌≡◌, ◌∙◌, ap, ap₂, sym}
use Rattle.std.specs.Prelude.{length}
use Rattle.std.specs.declared.ops.Range.{Range}
use Rattle.disk.specs.declared.update.Update.{Update}
use Rattle.volume.proofs.FormatLaws.{adds_fresh, always_brief, few_writes, is_superblock, leaves_fresh, on_ok}
use Rattle.volume.proofs.formatting.format_large.Goals as goal

abbrev range : (start end : ℕ) → Range ℕ
range start end = record { start = start; end = end }

pub returns-then-is_err-clause-moments : goal.returns-then-is_err-clause-moments
returns-then-is_err-clause-moments g c = λ k.
    let there = c.fits_device.ensures.0 c.if-not-fits_device.false in
    let s = c.args.superblock.now in
    let sixteen : length s.identity ≡ 16 = search rules in
    adds_fresh s (is_superblock s there.fits sixteen) c.log_area.result _ _ _ (g.D.Device.size c.args.device.now)
    c.log_area.ensures.value (ap₂ range c.data_start.ensures c.data_end.ensures) c.encode-first.ensures
    (c.from_ref-updates.ensures.value ∙ ap (λ (u : Update). u ∷ []) c.in_ok-update.ensures) (there.sectors ∙ c.sectors.ensures)
    (g.D.Device.history c.args.device.now) (g.D.Device.history c.format_without.new.device) (c.format_without.ensures.moments k)

pub returns-clause-moments : goal.returns-clause-moments
returns-clause-moments g c = λ k.
    let there = c.fits_device.ensures.0 c.if-not-fits_device.false in
    let s = c.args.superblock.now in
    let sixteen : length s.identity ≡ 16 = search rules in
    adds_fresh s (is_superblock s there.fits sixteen) c.log_area.result _ _ _ (g.D.Device.size c.args.device.now)
    c.log_area.ensures.value (ap₂ range c.data_start.ensures c.data_end.ensures) c.encode-first.ensures
    (c.from_ref-updates.ensures.value ∙ ap (λ (u : Update). u ∷ []) c.in_ok-update.ensures) (there.sectors ∙ c.sectors.ensures)
    (g.D.Device.history c.args.device.now) (g.D.Device.history c.format_without.new.device) (c.format_without.ensures.moments k)

pub returns-clause-ok : goal.returns-clause-ok
returns-clause-ok g c = λ k.
    let there = c.fits_device.ensures.0 c.if-not-fits_device.false in
    let s = c.args.superblock.now in
    let sixteen : length s.identity ≡ 16 = search rules in
    leaves_fresh s (is_superblock s there.fits sixteen) c.log_area.result _ _ _ (g.D.Device.size c.args.device.now)
    c.log_area.ensures.value (ap₂ range c.data_start.ensures c.data_end.ensures) c.encode-first.ensures
    (c.from_ref-updates.ensures.value ∙ ap (λ (u : Update). u ∷ []) c.in_ok-update.ensures) (there.sectors ∙ c.sectors.ensures)
    (g.D.Device.history c.format_without.new.device)
    (on_ok c.format_without.result _ (sym c.is_err.ensures.value ∙ c.if-is_err.false) (c.format_without.ensures.ok k))

pub returns-clause-brief : goal.returns-clause-brief
returns-clause-brief g c = λ k.
    let there = c.fits_device.ensures.0 c.if-not-fits_device.false in
    let s = c.args.superblock.now in
    let unread = ap₂ range c.data_start.ensures c.data_end.ensures in
    let old = g.D.Device.history c.args.device.now in
    let new = g.D.Device.history c.format_without.new.device in
    let cost = c.format_without.ensures.cost k in
    record {
      brief = always_brief c.log_area.result _ _ s.geometry there.fits (there.sectors ∙ c.sectors.ensures) c.log_area.ensures.value unread old new cost.brief;
      ok = few_writes c.log_area.result _ _ s.geometry there.fits (there.sectors ∙ c.sectors.ensures) c.log_area.ensures.value unread old new c.from_ref-updates.result.now
          (on_ok c.format_without.result _ (sym c.is_err.ensures.value ∙ c.if-is_err.false) cost.ok);
    }
