use Rattle.std.proofs.Common.{◌≡◌, ◌≤◌, ◌∙◌, ◌+◌, ◌++◌, ap, sym, ℕ, List, length, false, rules, arith}
use Rattle.std.proofs.lemmas.List.{length-append}
use Rattle.std.specs.Global.{Vec}
use Rattle.disk.specs.Moments.{AddsOnly, applied, seen, moment}
use Rattle.journal.specs.Behind.{way_for}
use Rattle.journal.specs.Commit.{IsCommitted}
use Rattle.journal.specs.Journal.{log_of, journal_failures, recorded_sectors, listed}
use Rattle.journal.specs.Layout.{copies, targets, through}
use Rattle.journal.specs.Log.{StandsForPrefix}
use Rattle.journal.specs.Recorded.{IsStored}
use Rattle.journal.specs.Settled.{AreSame}
use Rattle.journal.specs.Transactions.{sectors_of}
use Rattle.journal.proofs.Cachings.{copies_flushed}
use Rattle.journal.proofs.Prefixes.{prefixes_either, listed_sectors_are, listed_cost}
use Rattle.journal.proofs.Images.{length-targets}
use Rattle.journal.proofs.Journals.{stored_of, on_ok, committed_at, either_at, taken_named}
use Rattle.journal.proofs.Recovers.{not_empty}
use Rattle.journal.proofs.journal.Journal.flush_pending.Goals as goal
use Rattle.journal.proofs.journal.Journal.flush_pending.Given.{Over}
use Rattle.journal.proofs.journal.Journal.flush_pending.Goals.{After-is_err, After-take_over}

stored : (g : Over) (c : After-is_err g) → g.D.Device.keeps_word → IsStored c.args.self.now.area c.args.self.now.recorded (g.D.Device.history c.args.self.now.device)
unfolding log_of
stored g c k = stored_of c.args.self.now.area c.args.self.now.recorded (g.D.Device.history c.args.self.now.device) (c.args.self.now.rests k c.requires)
    (c.args.self.now.gate_is k c.requires) (c.args.self.now.payload k c.requires)

done : (g : Over) (c : After-is_err g) → c.is_err.result ≡ false → g.D.Device.keeps_word
    → IsCommitted c.args.self.now.area c.args.self.now.pending.items c.args.self.now.recorded.targets.items c.commit.new.recorded.targets.items c.commit.new.recorded.updates.items
    (g.D.Device.history c.args.self.now.device) (g.D.Device.history c.commit.new.device)
done g c e k = committed_at c.commit.result c.args.self.now.area c.deref-2.result.now c.args.self.now.pending.items
    c.args.self.now.recorded.targets.items c.commit.new.recorded.targets.items c.commit.new.recorded.updates.items
    (g.D.Device.history c.args.self.now.device) (g.D.Device.history c.commit.new.device)
    (sym c.is_err.ensures.value ∙ e) c.deref-2.ensures.value (c.commit.ensures.ok k (stored g c k))

-- which sectors are named then, and of which of them the updates are kept
shown : (g : Over) (c : After-is_err g) → c.is_err.result ≡ false
    → (c.commit.new.recorded.targets.items ≡ way_for c.args.self.now.area c.args.self.now.recorded.targets.items c.deref.result.now ++ c.deref.result.now)
    × (targets c.commit.new.recorded.updates.items ≡ way_for c.args.self.now.area c.args.self.now.recorded.targets.items c.deref.result.now)
shown g c e = on_ok c.commit.result (sym c.is_err.ensures.value ∙ e) c.commit.ensures.shown

same : (g : Over) (c : After-take_over g)
    → AreSame c.args.self.now.area.end
    (applied c.args.self.now.pending.items (through c.args.self.now.area c.args.self.now.recorded.targets.items (seen (g.D.Device.history c.args.self.now.device).now)))
    (through c.args.self.now.area c.commit.new.recorded.targets.items (seen (g.D.Device.history c.commit.new.device).now))
    → AreSame c.args.self.now.area.end
    (applied c.args.self.now.pending.items (through c.args.self.now.area c.args.self.now.recorded.targets.items (seen (g.D.Device.history c.args.self.now.device).now)))
    (through c.args.self.now.area c.take_over.new.self.targets.items (seen (g.D.Device.history c.commit.new.device).now))
same g c before n kept =
    before n kept
    ∙ ap (λ (to : Vec ℕ). through c.args.self.now.area to.items (seen (g.D.Device.history c.commit.new.device).now) n) (sym c.take_over.ensures.targets)

moments : (g : Over) (c : After-is_err g) → g.D.Device.keeps_word
    → AddsOnly (StandsForPrefix c.args.self.now.area (through c.args.self.now.area c.args.self.now.recorded.targets.items (seen (g.D.Device.history c.args.self.now.device).now)) (listed c.args.self.now.pending.items))
    (g.D.Device.history c.args.self.now.device) (g.D.Device.history c.commit.new.device)
unfolding log_of
moments g c k =
    let area = c.args.self.now.area in
    let h = g.D.Device.history c.args.self.now.device in
    let h1 = g.D.Device.history c.commit.new.device in
    let base = through c.args.self.now.area c.args.self.now.recorded.targets.items (seen h.now) in
    prefixes_either area c.args.self.now.pending.items base h h1
    (either_at area c.deref-2.result.now c.args.self.now.pending.items base h h1 c.deref-2.ensures.value
    (c.commit.ensures.moments k (stored g c k)))

pub returns-then-is_err-clause-part : goal.returns-then-is_err-clause-part
unfolding log_of journal_failures
returns-then-is_err-clause-part g c = record {
  moments = λ k. moments g (goal.at.returns-then-is_err-clause-part g c).After-is_err k;
  brief = λ k. c.commit.ensures.brief k;
  area = search rules;
  size = search rules;
  is_down = search rules;
  failures = search rules;
}

pub returns-clause-part : goal.returns-clause-part
unfolding log_of journal_failures
returns-clause-part g c = record {
  moments = λ k. moments g (goal.at.returns-clause-part g c).After-is_err k;
  brief = λ k. c.commit.ensures.brief k;
  area = search rules;
  size = search rules;
  is_down = search rules;
  failures = search rules;
}

pub returns-clause-gate : goal.returns-clause-gate
unfolding log_of recorded_sectors
returns-clause-gate g c =
    let at = (goal.at.returns-clause-gate g c).After-is_err in
    let was = c.args.self.now in
    let named : c.deref.result.now ≡ sectors_of (listed was.pending.items) =
    c.deref.ensures.value ∙ was.sectors_are ∙ sym (listed_sectors_are was.pending.items) in
    record {
      shown = ap (λ (to : Vec ℕ). to.items) c.take_over.ensures.targets ∙ (shown g at c.if-is_err.false).0
          ∙ ap (λ (ts : List ℕ). way_for was.area was.recorded.targets.items ts ++ ts) named;
      cost = λ k. (done g at c.if-is_err.false k).cost
          ∙ ap (λ (n : ℕ). moment (g.D.Device.history was.device) + n) (sym (listed_cost was.area was.recorded.targets.items was.pending.items
          (λ none. not_empty _ _ c.is_empty.ensures c.if-is_empty.false
          (was.pending.ok.0 ∙ none))));
    }

pub invariant_of-self-3-clause-cached : goal.invariant_of-self-3-clause-cached
unfolding log_of
invariant_of-self-3-clause-cached g c = λ k up.
    let at = (goal.at.invariant_of-self-3-clause-cached g c).After-is_err in
    let was = c.args.self.now in
    copies_flushed was.area.end was.pending.items c.take_over.new.updates.items
    (through was.area was.recorded.targets.items (seen (g.D.Device.history was.device).now)) (through c.args.self.now.area c.take_over.new.self.targets.items (seen (g.D.Device.history c.commit.new.device).now))
    was.cache.sectors.entries c.take_over.ensures.emptied (same g (goal.at.invariant_of-self-3-clause-cached g c).After-take_over (done g at c.if-is_err.false k).same) (was.cached k c.requires)

-- what is recorded then is what the gate names
few : (g : Over) (c : After-is_err g) → c.is_err.result ≡ false
    → length c.commit.new.recorded.updates.items + length c.args.self.now.pending.items ≤ c.args.self.now.area.sectors
few g c e = omega (
  arith,
  c.commit.ensures.kept.fits.few,
  ap (λ (ts : List ℕ). length ts) (shown g c e).0,
  length-append (way_for c.args.self.now.area c.args.self.now.recorded.targets.items c.deref.result.now) c.deref.result.now,
  ap (λ (ts : List ℕ). length ts) (shown g c e).1,
  length-targets c.commit.new.recorded.updates.items,
  ap (λ (ts : List ℕ). length ts) (c.deref.ensures.value ∙ c.args.self.now.sectors_are),
  length-targets c.args.self.now.pending.items,
)

pub take_over-requires-clause-room : goal.take_over-requires-clause-room
take_over-requires-clause-room g c =
    let most = few g (goal.at.take_over-requires-clause-room g c).After-is_err c.if-is_err.false in
    omega (arith, most, c.commit.ensures.kept.updates_room, c.commit.ensures.kept.index_room)

pub take_over-requires-clause-few : goal.take_over-requires-clause-few
take_over-requires-clause-few g c =
    omega (arith, few g (goal.at.take_over-requires-clause-few g c).After-is_err c.if-is_err.false, c.args.self.now.is_area.few)

pub invariant_of-self-3-clause-named : goal.invariant_of-self-3-clause-named
invariant_of-self-3-clause-named g c = λ up.
    let kept = (shown g (goal.at.invariant_of-self-3-clause-named g c).After-is_err c.if-is_err.false) in
    taken_named c.commit.new.recorded.updates.items c.args.self.now.pending.items c.take_over.new.self.updates.items _ c.deref.result.now
    kept.1 (c.deref.ensures.value ∙ c.args.self.now.sectors_are) c.take_over.ensures.items
    ∙ sym kept.0 ∙ ap (λ (to : Vec ℕ). to.items) (sym c.take_over.ensures.targets)

pub invariant_of-self-3-clause-payload : goal.invariant_of-self-3-clause-payload
unfolding log_of
invariant_of-self-3-clause-payload g c = λ k up.
    let at = (goal.at.invariant_of-self-3-clause-payload g c).After-is_err in
    ap (λ (to : Vec ℕ). copies (seen (g.D.Device.history c.commit.new.device).now) c.args.self.now.area.first to.items) c.take_over.ensures.targets
    ∙ (done g at c.if-is_err.false k).payload
    ∙ sym c.take_over.ensures.items
