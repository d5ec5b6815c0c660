use Rattle.std.proofs.Common.{◌≡◌, ◌∙◌, ap, arith, refl, sym, subst, length, List, ℕ, false, true}
use Rattle.disk.specs.Moments.{AddsOnly, History, seen}
use Rattle.journal.specs.Commit.{KeepsShown, rewritten}
use Rattle.journal.specs.Journal.{log_of, recorded_sectors, listed}
use Rattle.journal.specs.declared.layout.LogArea.{LogArea}
use Rattle.journal.specs.Layout.{through}
use Rattle.journal.specs.Log.{StandsForPrefix}
use Rattle.journal.specs.Phase.{IsGated}
use Rattle.journal.proofs.Prefixes.{prefixes_base, settled_of}
use Rattle.journal.proofs.Journals.{gated_of, on_ok}
use Rattle.journal.proofs.Rewrites.{cached_again, gated_again, log_again, payload_again}
use Rattle.journal.proofs.journal.Journal.rewrite_record.Goals as goal
use Rattle.journal.proofs.journal.Journal.rewrite_record.Given.{Over}
use Rattle.journal.proofs.journal.Journal.rewrite_record.Goals.{After-is_err}

gated : (g : Over) (c : After-is_err g) → g.D.Device.keeps_word → IsGated c.args.self.now.recorded.targets.items (g.D.Device.history c.args.self.now.device)
gated g c k = gated_of c.args.self.now.recorded.targets.items (g.D.Device.history c.args.self.now.device) (c.args.self.now.rests k c.if-self.false) (c.args.self.now.gate_is k c.if-self.false)

-- the record was written as it was
again : (g : Over) (c : After-is_err g) → c.is_err.result ≡ false → g.D.Device.keeps_word
    → g.D.Device.history c.rewrite.new.device ≡ rewritten c.args.self.now.recorded.targets.items (g.D.Device.history c.args.self.now.device)
again g c e k = on_ok c.rewrite.result (sym c.is_err.ensures.value ∙ e) (c.rewrite.ensures.ok k)
    ∙ ap (λ (to : List ℕ). rewritten to (g.D.Device.history c.args.self.now.device)) c.deref.ensures.value

shown_is : (area : LogArea) (shown to : List ℕ) (h h1 : History) → shown ≡ to → IsGated to h → (IsGated shown h → KeepsShown area shown h h1) → KeepsShown area to h h1
shown_is area shown to h h1 is gated keeps = subst (λ (ts : List ℕ). IsGated ts h → KeepsShown area ts h h1) is keeps gated

moments : (g : Over) (c : After-is_err g) → g.D.Device.keeps_word
    → AddsOnly (StandsForPrefix c.args.self.now.area (through c.args.self.now.area c.args.self.now.recorded.targets.items (seen (g.D.Device.history c.args.self.now.device).now)) (listed c.args.self.now.pending.items))
    (g.D.Device.history c.args.self.now.device) (g.D.Device.history c.rewrite.new.device)
moments g c k = prefixes_base c.args.self.now.area (listed c.args.self.now.pending.items)
    (through c.args.self.now.area c.args.self.now.recorded.targets.items (seen (g.D.Device.history c.args.self.now.device).now))
    (g.D.Device.history c.args.self.now.device) (g.D.Device.history c.rewrite.new.device)
    (shown_is _ _ _ _ _ c.deref.ensures.value (gated g c k) (c.rewrite.ensures.moments k))

pub returns-then-is_err-clause-safe : goal.returns-then-is_err-clause-safe
unfolding log_of
returns-then-is_err-clause-safe g c = record {
  area = refl;
  size = c.rewrite.ensures.size;
  moments = λ k. moments g (goal.at.returns-then-is_err-clause-safe g c).After-is_err k;
  brief = λ k. omega (arith, c.rewrite.ensures.brief k);
  settled = λ k up. absurd (let never : true ≡ false = up in cc);
}

pub returns-clause-safe : goal.returns-clause-safe
unfolding log_of
returns-clause-safe g c =
    let at = (goal.at.returns-clause-safe g c).After-is_err in
    let was = c.args.self.now in
    record {
      area = refl;
      size = c.rewrite.ensures.size;
      moments = λ k. moments g at k;
      brief = λ k. omega (arith, c.rewrite.ensures.brief k);
      settled = λ k up. settled_of was.area was.is_area was.recorded.targets.items (g.D.Device.history c.rewrite.new.device)
          was.shown_has.fits.few was.shown_has.fits.fit
          (gated_again c.args.self.now.area _ _ _ (again g at c.if-is_err.false k) (gated g at k).gate_is);
    }

pub returns-clause-ok : goal.returns-clause-ok
unfolding log_of recorded_sectors
returns-clause-ok g c = λ k.
    let at = (goal.at.returns-clause-ok g c).After-is_err in
    let was = c.args.self.now in
    log_again was.area was.recorded.targets.items (g.D.Device.history was.device) (g.D.Device.history c.rewrite.new.device) (again g at c.if-is_err.false k) (gated g at k).gate_is
    (listed was.pending.items) was.is_down false (g.D.Device.size was.device) (g.D.Device.size c.rewrite.new.device) c.if-self.false c.rewrite.ensures.size

pub invariant_of-self-2-clause-gate_is : goal.invariant_of-self-2-clause-gate_is
invariant_of-self-2-clause-gate_is g c = λ k up.
    let at = (goal.at.invariant_of-self-2-clause-gate_is g c).After-is_err in
    (gated_again c.args.self.now.area _ _ _ (again g at c.if-is_err.false k) (gated g at k).gate_is).gate_is

pub invariant_of-self-2-clause-rests : goal.invariant_of-self-2-clause-rests
invariant_of-self-2-clause-rests g c = λ k up.
    let at = (goal.at.invariant_of-self-2-clause-rests g c).After-is_err in
    ap (λ xs. length xs) (gated_again c.args.self.now.area _ _ _ (again g at c.if-is_err.false k) (gated g at k).gate_is).rests

pub invariant_of-self-2-clause-payload : goal.invariant_of-self-2-clause-payload
invariant_of-self-2-clause-payload g c = λ k up.
    let at = (goal.at.invariant_of-self-2-clause-payload g c).After-is_err in
    payload_again c.args.self.now.area _ _ _ (again g at c.if-is_err.false k) (gated g at k).gate_is ∙ c.args.self.now.payload k c.if-self.false

pub invariant_of-self-2-clause-cached : goal.invariant_of-self-2-clause-cached
invariant_of-self-2-clause-cached g c = λ k up.
    let at = (goal.at.invariant_of-self-2-clause-cached g c).After-is_err in
    let was = c.args.self.now in
    cached_again c.args.self.now.area _ _ _ (again g at c.if-is_err.false k) (gated g at k).gate_is was.pending.items
    was.cache.sectors.entries (was.cached k c.if-self.false)
