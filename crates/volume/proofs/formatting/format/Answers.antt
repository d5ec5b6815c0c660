use Rattle.std.proofs.Common.{ℕ, List, [], ◌∷◌, ◌∙◌, ap, sym, subst}
use Rattle.std.specs.Prelude.{IsTrue}
use Rattle.disk.specs.declared.update.Update.{Update}
use Rattle.journal.specs.Format.{AddsFormats, IsFormatted}
use Rattle.journal.specs.Layout.{AreTargets, log_at_start, targets}
use Rattle.layout.specs.Superblock.{is_size}
use Rattle.layout.specs.declared.versions.VersionNumber.TheVariants.{Two}
use Rattle.volume.specs.Superblock.{superblock}
use Rattle.volume.proofs.FormatLaws.{root_fits, format_moments, format_stands, on_ok}
use Rattle.volume.proofs.formatting.format.Goals as goal

pub format-requires-clause-fit : goal.format-requires-clause-fit
format-requires-clause-fit g c =
    let size = g.D.Device.size c.args.device.now in
    let sized : IsTrue (is_size size c.args.nodes) = ap (λ (n : ℕ). is_size n c.args.nodes) (sym c.sectors-sectors.ensures) ∙ (sym c.is_volume_size.ensures ∙ c.if-not-is_volume_size.false) in
    subst (λ (us : List Update). AreTargets size (targets us))
    (sym (c.from_ref.ensures.value ∙ ap (λ (u : Update). u ∷ []) c.in_ok-update.ensures)) (root_fits size c.args.nodes sized)

pub returns-then-is_err-clause-moments : goal.returns-then-is_err-clause-moments
returns-then-is_err-clause-moments g c = λ k.
    let D = g.D.Device in
    let size = D.size c.args.device.now in
    let sized : IsTrue (is_size size c.args.nodes) = ap (λ (n : ℕ). is_size n c.args.nodes) (sym c.sectors-sectors.ensures) ∙ (sym c.is_volume_size.ensures ∙ c.if-not-is_volume_size.false) in
    format_moments size c.args.nodes sized (D.history c.args.device.now) (D.history c.format.new.device)
    (subst (λ (us : List Update). AddsFormats (log_at_start size) (superblock Two size c.args.nodes 0) us (D.history c.args.device.now) (D.history c.format.new.device))
    (c.from_ref.ensures.value ∙ ap (λ (u : Update). u ∷ []) c.in_ok-update.ensures)
    (subst (λ (first : List ℕ). AddsFormats (log_at_start size) first c.from_ref.result.now (D.history c.args.device.now) (D.history c.format.new.device))
    (c.superblock_of-first.ensures ∙ ap (λ (n : ℕ). superblock Two n c.args.nodes 0) c.sectors-sectors.ensures) (c.format.ensures.moments k)))

pub returns-clause-moments : goal.returns-clause-moments
returns-clause-moments g c = λ k.
    let D = g.D.Device in
    let size = D.size c.args.device.now in
    let sized : IsTrue (is_size size c.args.nodes) = ap (λ (n : ℕ). is_size n c.args.nodes) (sym c.sectors-sectors.ensures) ∙ (sym c.is_volume_size.ensures ∙ c.if-not-is_volume_size.false) in
    format_moments size c.args.nodes sized (D.history c.args.device.now) (D.history c.format.new.device)
    (subst (λ (us : List Update). AddsFormats (log_at_start size) (superblock Two size c.args.nodes 0) us (D.history c.args.device.now) (D.history c.format.new.device))
    (c.from_ref.ensures.value ∙ ap (λ (u : Update). u ∷ []) c.in_ok-update.ensures)
    (subst (λ (first : List ℕ). AddsFormats (log_at_start size) first c.from_ref.result.now (D.history c.args.device.now) (D.history c.format.new.device))
    (c.superblock_of-first.ensures ∙ ap (λ (n : ℕ). superblock Two n c.args.nodes 0) c.sectors-sectors.ensures) (c.format.ensures.moments k)))

pub returns-clause-ok : goal.returns-clause-ok
returns-clause-ok g c = λ k.
    let D = g.D.Device in
    let size = D.size c.args.device.now in
    let sized : IsTrue (is_size size c.args.nodes) = ap (λ (n : ℕ). is_size n c.args.nodes) (sym c.sectors-sectors.ensures) ∙ (sym c.is_volume_size.ensures ∙ c.if-not-is_volume_size.false) in
    format_stands size c.args.nodes sized (D.history c.format.new.device)
    (subst (λ (us : List Update). IsFormatted (log_at_start size) (superblock Two size c.args.nodes 0) us (D.history c.format.new.device))
    (c.from_ref.ensures.value ∙ ap (λ (u : Update). u ∷ []) c.in_ok-update.ensures)
    (subst (λ (first : List ℕ). IsFormatted (log_at_start size) first c.from_ref.result.now (D.history c.format.new.device))
    (c.superblock_of-first.ensures ∙ ap (λ (n : ℕ). superblock Two n c.args.nodes 0) c.sectors-sectors.ensures)
    (on_ok c.format.result _ (sym c.is_err.ensures.value ∙ c.if-is_err.false) (c.format.ensures.ok k))))
