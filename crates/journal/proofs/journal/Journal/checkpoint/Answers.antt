use Rattle.std.proofs.Common.{◌≡◌, ◌∙◌, ◌+◌, ap, arith, refl, sym, [], ℕ, List, false, true}
use Rattle.disk.specs.declared.update.Update.{Update}
use Rattle.disk.specs.Moments.{AddsOnly, seen, moment}
use Rattle.journal.specs.Commit.{IsCopiedHome}
use Rattle.journal.specs.Layout.{copies, targets, through}
use Rattle.journal.specs.Recorded.{IsStored}
use Rattle.journal.specs.Journal.{log_of, recorded_sectors, listed}
use Rattle.journal.specs.Log.{StandsForPrefix}
use Rattle.journal.specs.Settled.{AreSame}
use Rattle.journal.proofs.Cachings.{copies_home}
use Rattle.journal.proofs.Prefixes.{all_keep, prefixes_base, checkpoint_cost_is}
use Rattle.journal.proofs.Journals.{stored_of, on_ok}
use Rattle.journal.proofs.Recovers.{not_empty}
use Rattle.journal.proofs.journal.Journal.checkpoint.Goals as goal
use Rattle.journal.proofs.journal.Journal.checkpoint.Given.{Over}
use Rattle.journal.proofs.journal.Journal.checkpoint.Goals.{After-is_err}

stored : (g : Over) (c : After-is_err g) → g.D.Device.keeps_word → IsStored c.args.self.now.area c.args.self.now.recorded (g.D.Device.history c.args.self.now.device)
stored g c k = stored_of c.args.self.now.area c.args.self.now.recorded (g.D.Device.history c.args.self.now.device) (c.args.self.now.rests k c.if-self.false)
    (c.args.self.now.gate_is k c.if-self.false) (c.args.self.now.payload k c.if-self.false)

done : (g : Over) (c : After-is_err g) → c.is_err.result ≡ false → g.D.Device.keeps_word
    → IsCopiedHome c.args.self.now.area c.args.self.now.recorded.targets.items (g.D.Device.history c.args.self.now.device) (g.D.Device.history c.close.new.device)
done g c e k = on_ok c.close.result (sym c.is_err.ensures.value ∙ e) (c.close.ensures.ok k (stored g c k))

moments : (g : Over) (c : After-is_err g) → g.D.Device.keeps_word
    → AddsOnly (StandsForPrefix c.args.self.now.area (through c.args.self.now.area c.args.self.now.recorded.targets.items (seen (g.D.Device.history c.args.self.now.device).now)) (listed c.args.self.now.pending.items))
    (g.D.Device.history c.args.self.now.device) (g.D.Device.history c.close.new.device)
moments g c k = prefixes_base c.args.self.now.area (listed c.args.self.now.pending.items)
    (through c.args.self.now.area c.args.self.now.recorded.targets.items (seen (g.D.Device.history c.args.self.now.device).now))
    (g.D.Device.history c.args.self.now.device) (g.D.Device.history c.close.new.device) (c.close.ensures.moments k (stored g c k))

-- the base is as it was
base : (g : Over) (c : After-is_err g) → c.is_err.result ≡ false → c.close.new.recorded.targets.items ≡ [] → g.D.Device.keeps_word
    → AreSame c.args.self.now.area.end (through c.args.self.now.area c.args.self.now.recorded.targets.items (seen (g.D.Device.history c.args.self.now.device).now))
    (through c.args.self.now.area c.close.new.recorded.targets.items (seen (g.D.Device.history c.close.new.device).now))
base g c e none k n kept =
    (done g c e k).same n kept ∙ ap (λ (to : List ℕ). through c.args.self.now.area to (seen (g.D.Device.history c.close.new.device).now) n) (sym none)

none_shown : (g : Over) (c : After-is_err g) → c.is_err.result ≡ false → c.close.new.recorded.targets.items ≡ []
none_shown g c e = (on_ok c.close.result (sym c.is_err.ensures.value ∙ e) c.close.ensures.shown).0

none_kept : (g : Over) (c : After-is_err g) → c.is_err.result ≡ false → c.close.new.recorded.updates.items ≡ []
none_kept g c e = (on_ok c.close.result (sym c.is_err.ensures.value ∙ e) c.close.ensures.shown).1

pub returns-then-is_err-clause-safe : goal.returns-then-is_err-clause-safe
unfolding log_of
returns-then-is_err-clause-safe g c = record {
  area = refl;
  size = c.close.ensures.size;
  moments = λ k. moments g (goal.at.returns-then-is_err-clause-safe g c).After-is_err k;
  brief = λ k. omega (arith, c.close.ensures.brief k);
  settled = λ k up. absurd (let never : true ≡ false = up in cc);
}

pub invariant_of-self-2-clause-cached : goal.invariant_of-self-2-clause-cached
invariant_of-self-2-clause-cached g c = λ k up.
    let at = (goal.at.invariant_of-self-2-clause-cached g c).After-is_err in
    let was = c.args.self.now in
    copies_home was.area.end was.pending.items
    (through was.area was.recorded.targets.items (seen (g.D.Device.history was.device).now)) (through c.args.self.now.area c.close.new.recorded.targets.items (seen (g.D.Device.history c.close.new.device).now))
    was.cache.sectors.entries (base g at c.if-is_err.false (none_shown g at c.if-is_err.false) k) (was.cached k c.if-self.false)

pub returns-clause-ok : goal.returns-clause-ok
unfolding log_of recorded_sectors
returns-clause-ok g c =
    let at = (goal.at.returns-clause-ok g c).After-is_err in
    let was = c.args.self.now in
    let same = base g at c.if-is_err.false (none_shown g at c.if-is_err.false) in
    record {
      base = same;
      contents = λ k. all_keep was.area.end (listed was.pending.items) _ _ (same k);
      cost = λ k. (done g at c.if-is_err.false k).cost
          ∙ ap (λ (n : ℕ). moment (g.D.Device.history was.device) + n) (sym (checkpoint_cost_is was.recorded.targets.items
          (λ none. not_empty _ _ c.is_empty.ensures c.if-is_empty.false (was.recorded.targets.ok.0 ∙ none))));
    }

pub close-requires-clause-fits : goal.close-requires-clause-fits
close-requires-clause-fits g c = record { has = c.args.self.now.shown_has; named = c.args.self.now.named c.if-self.false }

pub invariant_of-self-2-clause-named : goal.invariant_of-self-2-clause-named
invariant_of-self-2-clause-named g c = λ up.
    let at = (goal.at.invariant_of-self-2-clause-named g c).After-is_err in
    ap (λ (us : List Update). targets us) (none_kept g at c.if-is_err.false) ∙ sym (none_shown g at c.if-is_err.false)

pub invariant_of-self-2-clause-payload : goal.invariant_of-self-2-clause-payload
invariant_of-self-2-clause-payload g c = λ k up.
    let at = (goal.at.invariant_of-self-2-clause-payload g c).After-is_err in
    ap (λ (to : List ℕ). copies (seen (g.D.Device.history c.close.new.device).now) c.args.self.now.area.first to) (none_shown g at c.if-is_err.false)
    ∙ sym (none_kept g at c.if-is_err.false)
