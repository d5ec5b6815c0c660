use Rattle.std.proofs.Common.{◌≡◌, ◌≤◌, ◌∙◌, ℕ, sym, ap, subst, arith, inl, inr}
use Rattle.std.proofs.lemmas.Bool.{false≢true, cases_lt}
use Rattle.disk.specs.Calls.{zero_sector}
use Rattle.volume_load.proofs.SectorLaws.{zero-is, zero-all}
use Rattle.volume_load.proofs.volume.check_spare.Goals as goal

pub returns-then-not-is_zero_from-clause-damaged : goal.returns-then-not-is_zero_from-clause-damaged
returns-then-not-is_zero_from-clause-damaged g c = λ word is spare.
    let inv = c.loop-n.invariant in
    let low : c.args.first ≤ c.loop-n.n = c.loop-n.auto.n in
    let there = subst (λ kept. g.S.Sectors.image kept c.loop-n.n ≡ zero_sector) (sym inv.kept) (spare c.loop-n.n low c.loop-n-test.true) in
    false≢true (sym c.if-not-is_zero_from.true ∙ c.is_zero_from.ensures.zero.1 (zero-all c.in_ok-content.content 0 (c.in_ok-content.ensures.content word ∙ there)))

pub loop-n-preserved : goal.loop-n-preserved
loop-n-preserved g c =
    let inv = c.loop-n.invariant in
    let n = c.loop-n.n in
    record {
      zero = λ word k low high. elim (cases_lt k n) [
        | inl below ↦ inv.zero word k low below
        | inr at ↦
            let e : k ≡ n = omega arith in
            let zeros : c.in_ok-content.content ≡ zero_sector = zero-is c.in_ok-content.content c.is_zero_from.ensures.whole (c.is_zero_from.ensures.zero.0 c.if-not-is_zero_from.false) in
            ap (λ (m : ℕ). g.S.Sectors.image (g.S.Sectors.kept c.args.sectors.now) m) e ∙ subst (λ kept. g.S.Sectors.image kept n ≡ zero_sector) inv.kept (sym (c.in_ok-content.ensures.content word) ∙ zeros)
      ];
      kept = c.fetch.ensures.kept ∙ inv.kept;
      health = c.in_ok-content.ensures.health.stays (λ e. cc) ∙ inv.health;
    }
