use Rattle.std.proofs.Common.{◌≡◌, ◌≤◌, ℕ, List, [], length, arith, sym, subst, ◌∙◌, refl, ap, vec_len, inr}
use Rattle.std.proofs.lemmas.Bool.{eqb-true}
use Rattle.disk.specs.declared.update.Update.{Update}
use Rattle.disk.specs.Moments.{History, moment, seen, synced}
use Rattle.journal.specs.Behind.{FitsGate}
use Rattle.journal.specs.Commit.{KeepsShown, rewritten}
use Rattle.journal.specs.declared.layout.LogArea.{LogArea}
use Rattle.journal.specs.Index.{IsIndexOf}
use Rattle.journal.specs.Layout.{NamesTargets, copies, targets}
use Rattle.journal.specs.Phase.{IsGated}
use Rattle.journal.specs.Recover.{IsClosed}
use Rattle.journal.proofs.Images.{length-targets}
use Rattle.journal.proofs.Indexes.{index_empty}
use Rattle.journal.proofs.Answerings.{is_fault, is_told}
use Rattle.journal.proofs.Recovers.{counted_after, synced_moments, recover_moments, gated_after, closed_none, fault_counted, no_elements, none_counted, not_empty, recovers_closed, recovers_copied}
use Rattle.journal.proofs.Rewrites.{gated_again, shown_again}
use Rattle.journal.proofs.recover.replay.Goals as goal
use Rattle.journal.proofs.recover.replay.Given.{Over}
use Rattle.journal.proofs.recover.replay.Goals.{In_ok-read_gate, In_ok-rewrite, In_ok-read_payload}

same_moment : {h h1 : History} → h1 ≡ h → moment h1 ≡ moment h
same_moment e = ap (λ (h : History). moment h) e

pub returns-in_err-read_gate : goal.returns-in_err-read_gate
returns-in_err-read_gate g c =
    let fault = c.in_err-read_gate.field-0.0 in
    rw (is_told _ fault c.from_residual.ensures.1) (record {
      replays = λ k before e. record {
        brief = omega (arith, same_moment e, same_moment c.in_err-read_gate.ensures.reads.0);
        moments = synced_moments _ _ _ _ c.in_err-read_gate.ensures.reads.0 e;
        ok = tt;
        closed = λ closed. record { ok = tt; err = inr (c.in_err-read_gate.ensures.reads.0 ∙ e) };
        damaged = λ is. record {
          formless = λ settled s. c.in_err-read_gate.ensures.damaged k is s.to (record {
            few = s.few;
            fit = s.fit;
            gate_is = ap (λ (h : History). seen h.now 1) e ∙ s.gate_is;
          });
          only_synced = c.in_err-read_gate.ensures.reads.0 ∙ e;
        };
      };
      none = tt;
      room = tt;
      size = c.in_err-read_gate.ensures.reads.1;
      failures = counted_after _ _ _ _ refl c.in_err-read_gate.ensures.failures;
    })

resynced : (g : Over) (c : In_ok-read_gate g) (before : History) → g.D.Device.history c.args.device.now ≡ synced before
    → g.D.Device.history c.read_gate.new.device ≡ synced before
resynced g c before e = c.in_ok-read_gate.ensures.reads.0 ∙ e

-- the gate names what was read
named_by : (g : Over) (c : In_ok-read_gate g) → g.D.Device.keeps_word
    → NamesTargets c.args.area (seen (g.D.Device.history c.args.device.now).now 1) c.read_gate.new.named.items
named_by g c k = record {
  few = c.in_ok-read_gate.ensures.named.0;
  fit = c.in_ok-read_gate.ensures.named.1;
  gate_is = c.in_ok-read_gate.ensures.gate_is k;
}

gated : (g : Over) (c : In_ok-read_gate g) → g.D.Device.keeps_word → (before : History) → g.D.Device.history c.args.device.now ≡ synced before
    → IsGated c.read_gate.new.named.items (g.D.Device.history c.read_gate.new.device)
gated g c k before e = gated_after before _ _ _ c.in_ok-read_gate.ensures.reads.0 e (c.in_ok-read_gate.ensures.gate_is k)

-- the read did not fail
unfailed : (g : Over) (c : In_ok-read_gate g) → g.D.Device.failed c.read_gate.new.device ≡ g.D.Device.failed c.args.device.now
unfailed g c = c.in_ok-read_gate.ensures.failures.none (λ e. cc)

pub returns-then-is_empty : goal.returns-then-is_empty
returns-then-is_empty g c =
    let read = (goal.at.returns-then-is_empty g c).In_ok-read_gate in
    let none : vec_len c.read_gate.new.named ≡ 0 = eqb-true (vec_len c.read_gate.new.named) 0 (sym c.is_empty.ensures ∙ c.if-is_empty.true) in
    let no_items : length c.read_gate.new.named.items ≡ 0 = sym c.read_gate.new.named.ok.0 ∙ none in
    record {
      replays = λ k before e. record {
        brief = omega (arith, same_moment e, same_moment c.in_ok-read_gate.ensures.reads.0);
        moments = synced_moments _ _ _ _ c.in_ok-read_gate.ensures.reads.0 e;
        ok = recovers_closed c.args.area _ _ _ (resynced g read before e) no_items (gated g read k before e);
        closed = λ closed. record { ok = resynced g read before e; err = tt };
        damaged = λ is. absurd (cc);
      };
      none = (no_elements _ no_items, c.requires.empty.0);
      room = record {
        fits = record { few = c.in_ok-read_gate.ensures.named.0; fit = c.in_ok-read_gate.ensures.named.1 };
        room = omega (arith, c.in_ok-read_gate.ensures.capacity, c.requires.room.0);
        updates_room = c.requires.room.1;
        index_room = c.requires.room.2;
        indexed = index_empty c.args.recorded.now.index.entries.items (targets c.args.recorded.now.updates.items) c.requires.empty.1 (ap (λ (us : List Update). targets us) c.requires.empty.0);
      };
      size = c.in_ok-read_gate.ensures.reads.1;
      failures = counted_after _ _ _ _ refl c.in_ok-read_gate.ensures.failures;
    }

-- a cleared commit record names nothing
none_named : (g : Over) (c : In_ok-read_gate g) → g.D.Device.keeps_word → (before : History) → g.D.Device.history c.args.device.now ≡ synced before
    → IsClosed before → vec_len c.read_gate.new.named ≡ 0
none_named g c k before e closed =
    let read = ap (λ (h : History). seen h.now 1) e ∙ closed in
    let none = closed_none c.args.area c.requires.area _ _ c.in_ok-read_gate.ensures.small (named_by g c k) read in
    omega (arith, ap (λ (xs : List ℕ). length xs) none, c.read_gate.new.named.ok)

-- the record was written again for what was read
again : (g : Over) (c : In_ok-rewrite g) → c.deref.result.now ≡ c.read_gate.new.named.items → g.D.Device.keeps_word
    → g.D.Device.history c.rewrite.new.device ≡ rewritten c.read_gate.new.named.items (g.D.Device.history c.read_gate.new.device)
again g c to k = c.in_ok-rewrite.ensures.ok k ∙ ap (λ (ts : List ℕ). rewritten ts (g.D.Device.history c.read_gate.new.device)) to

-- and a crash within that leaves what it names
kept_again : (area : LogArea) (shown to : List ℕ) (h h1 : History) → shown ≡ to → IsGated to h
    → (IsGated shown h → KeepsShown area shown h h1) → KeepsShown area to h h1
kept_again area shown to h h1 is gated keeps = subst (λ (ts : List ℕ). IsGated ts h → KeepsShown area ts h h1) is keeps gated

read_past : (area : LogArea) (to : List ℕ) (h h1 h2 : History) → h2 ≡ h1 → KeepsShown area to h h1 → KeepsShown area to h h2
read_past area to h h1 h2 same keeps = subst (λ (k : History). KeepsShown area to h k) (sym same) keeps

-- it was written again, and the payload was read
past : (g : Over) (c : In_ok-read_payload g) → c.deref.result.now ≡ c.read_gate.new.named.items → g.D.Device.keeps_word
    → g.D.Device.history c.rewrite.new.device ≡ rewritten c.read_gate.new.named.items (g.D.Device.history c.read_gate.new.device)
    → g.D.Device.history c.read_payload.new.device ≡ rewritten c.read_gate.new.named.items (g.D.Device.history c.read_gate.new.device)
past g c to k written = c.in_ok-read_payload.ensures.reads.0 ∙ written

size_past : (g : Over) (c : In_ok-read_payload g) → g.D.Device.size c.rewrite.new.device ≡ g.D.Device.size c.read_gate.new.device
    → g.D.Device.size c.read_gate.new.device ≡ g.D.Device.size c.args.device.now
    → g.D.Device.size c.read_payload.new.device ≡ g.D.Device.size c.args.device.now
size_past g c written read = c.in_ok-read_payload.ensures.reads.1 ∙ (written ∙ read)

-- what was read is what the device has
payload_past : (g : Over) (c : In_ok-read_payload g) → c.deref-2.result.now ≡ c.read_gate.new.named.items → g.D.Device.keeps_word
    → copies (seen (g.D.Device.history c.read_payload.new.device).now) c.args.area.first c.read_gate.new.named.items ≡ c.read_payload.new.updates.items
payload_past g c to k =
    ap (λ (h : History). copies (seen h.now) c.args.area.first c.read_gate.new.named.items) c.in_ok-read_payload.ensures.reads.0
    ∙ ap (λ (ts : List ℕ). copies (seen (g.D.Device.history c.rewrite.new.device).now) c.args.area.first ts) (sym to)
    ∙ c.in_ok-read_payload.ensures.ok k

-- and no more than one gate names
read_few : (g : Over) (c : In_ok-read_payload g) → length c.read_gate.new.named.items ≤ c.args.area.sectors → c.deref-2.result.now ≡ c.read_gate.new.named.items
    → length c.read_payload.new.updates.items ≤ c.args.area.sectors
read_few g c few to = omega (arith, few, ap (λ (ts : List ℕ). length ts) to, ap (λ (ts : List ℕ). length ts) c.in_ok-read_payload.ensures.named, length-targets c.read_payload.new.updates.items)

pub rewrite-requires-clause-fits : goal.rewrite-requires-clause-fits
rewrite-requires-clause-fits g c =
    subst (FitsGate c.args.area) (sym c.deref.ensures.value) (record { few = c.in_ok-read_gate.ensures.named.0; fit = c.in_ok-read_gate.ensures.named.1 })

pub returns-in_err-rewrite : goal.returns-in_err-rewrite
returns-in_err-rewrite g c =
    let read = (goal.at.returns-in_err-rewrite g c).In_ok-read_gate in
    rw (is_fault _ c.from_residual-in_err-rewrite.ensures.1) (record {
      replays = λ k before e.
          let set = gated g read k before e in
          record {
            brief = omega (arith, same_moment e, same_moment c.in_ok-read_gate.ensures.reads.0, c.in_err-rewrite.ensures.brief k);
            moments = recover_moments c.args.area c.requires.area _ _ _ _ (resynced g read before e) c.in_ok-read_gate.ensures.small (named_by g read k).few (named_by g read k).fit set
                (kept_again c.args.area _ c.read_gate.new.named.items _ _ c.deref.ensures.value set (c.in_err-rewrite.ensures.moments k));
            ok = tt;
            closed = λ closed. absurd (not_empty _ _ c.is_empty.ensures c.if-is_empty.false (none_named g read k before e closed));
            damaged = λ is. absurd (cc);
          };
      none = tt;
      room = tt;
      size = c.in_err-rewrite.ensures.size ∙ c.in_ok-read_gate.ensures.reads.1;
      failures = fault_counted _ _ _ (unfailed g read) c.in_err-rewrite.ensures.failures.counted;
    })

pub returns-in_err-read_payload : goal.returns-in_err-read_payload
returns-in_err-read_payload g c =
    let read = (goal.at.returns-in_err-read_payload g c).In_ok-read_gate in
    rw (is_fault _ c.from_residual-in_err-read_payload.ensures.1) (record {
      replays = λ k before e.
          let set = gated g read k before e in
          let shown = kept_again c.args.area _ c.read_gate.new.named.items _ _ c.deref.ensures.value set (c.in_ok-rewrite.ensures.moments k) in
          record {
            brief = omega (arith, same_moment e, same_moment c.in_ok-read_gate.ensures.reads.0, c.in_ok-rewrite.ensures.brief k, same_moment c.in_err-read_payload.ensures.reads.0);
            moments = recover_moments c.args.area c.requires.area _ _ _ _ (resynced g read before e) c.in_ok-read_gate.ensures.small (named_by g read k).few (named_by g read k).fit set
                (read_past c.args.area c.read_gate.new.named.items _ _ _ c.in_err-read_payload.ensures.reads.0 shown);
            ok = tt;
            closed = λ closed. absurd (not_empty _ _ c.is_empty.ensures c.if-is_empty.false (none_named g read k before e closed));
            damaged = λ is. absurd (cc);
          };
      none = tt;
      room = tt;
      size = c.in_err-read_payload.ensures.reads.1 ∙ (c.in_ok-rewrite.ensures.size ∙ c.in_ok-read_gate.ensures.reads.1);
      failures = fault_counted _ _ _ (c.in_ok-rewrite.ensures.failures.ok ∙ unfailed g read) c.in_err-read_payload.ensures.failures.counted;
    })

pub read_payload-requires-clause-few : goal.read_payload-requires-clause-few
read_payload-requires-clause-few g c = omega (arith, ap (λ (ts : List ℕ). length ts) c.deref-2.ensures.value, c.in_ok-read_gate.ensures.named.0)

pub put_all-requires-clause-room : goal.put_all-requires-clause-room
put_all-requires-clause-room g c = omega (arith, read_few g (goal.at.put_all-requires-clause-room g c).In_ok-read_payload c.in_ok-read_gate.ensures.named.0 c.deref-2.ensures.value, ap (λ (us : List Update). length us) c.deref-3.ensures.value, c.requires.room.2)

pub put_all-requires-clause-small : goal.put_all-requires-clause-small
put_all-requires-clause-small g c = omega (arith, read_few g (goal.at.put_all-requires-clause-small g c).In_ok-read_payload c.in_ok-read_gate.ensures.named.0 c.deref-2.ensures.value, ap (λ (us : List Update). length us) c.deref-3.ensures.value, c.requires.area.few)

pub close-requires-clause-fits : goal.close-requires-clause-fits
close-requires-clause-fits g c = record {
  has = record {
    fits = record { few = c.in_ok-read_gate.ensures.named.0; fit = c.in_ok-read_gate.ensures.named.1 };
    room = omega (arith, c.in_ok-read_gate.ensures.capacity, c.requires.room.0);
    updates_room = omega (arith, c.in_ok-read_payload.ensures.capacity, c.requires.room.1);
    index_room = omega (arith, c.put_all.ensures.capacity, c.requires.room.2);
    indexed = subst (λ (us : List Update). IsIndexOf c.put_all.new.self.entries.items (targets us)) c.deref-3.ensures.value
        (c.put_all.ensures.indexed [] (index_empty c.args.recorded.now.index.entries.items [] c.requires.empty.1 refl) refl);
  };
  named = c.in_ok-read_payload.ensures.named ∙ c.deref-2.ensures.value;
}

pub returns-in_err-close : goal.returns-in_err-close
returns-in_err-close g c =
    let read = (goal.at.returns-in_err-close g c).In_ok-read_gate in
    let before_it = (goal.at.returns-in_err-close g c).In_ok-rewrite in
    let paid = (goal.at.returns-in_err-close g c).In_ok-read_payload in
    let size_is = size_past g paid c.in_ok-rewrite.ensures.size c.in_ok-read_gate.ensures.reads.1 in
    rw (is_fault _ c.from_residual-in_err-close.ensures.1) (record {
      replays = λ k before e.
          let set = gated g read k before e in
          let written = past g paid c.deref.ensures.value k (again g before_it c.deref.ensures.value k) in
          let set_again = gated_again c.args.area _ _ _ written set.gate_is in
          let first = read_past c.args.area c.read_gate.new.named.items _ _ _ c.in_ok-read_payload.ensures.reads.0
          (kept_again c.args.area _ c.read_gate.new.named.items _ _ c.deref.ensures.value set (c.in_ok-rewrite.ensures.moments k)) in
          let shown = shown_again c.args.area c.read_gate.new.named.items _ _ written set.gate_is _ first
          (c.in_err-close.ensures.moments k (record { gated = set_again; payload = payload_past g paid c.deref-2.ensures.value k })) in
          record {
            brief = omega (arith, same_moment e, same_moment c.in_ok-read_gate.ensures.reads.0, c.in_ok-rewrite.ensures.brief k, same_moment c.in_ok-read_payload.ensures.reads.0, c.in_err-close.ensures.brief k);
            moments = recover_moments c.args.area c.requires.area _ _ _ _ (resynced g read before e) c.in_ok-read_gate.ensures.small (named_by g read k).few (named_by g read k).fit set shown;
            ok = tt;
            closed = λ closed. absurd (not_empty _ _ c.is_empty.ensures c.if-is_empty.false (none_named g read k before e closed));
            damaged = λ is. absurd (cc);
          };
      none = tt;
      room = tt;
      size = c.in_err-close.ensures.size ∙ size_is;
      failures = fault_counted _ _ _ (c.in_ok-read_payload.ensures.failures.ok ∙ (c.in_ok-rewrite.ensures.failures.ok ∙ unfailed g read)) c.in_err-close.ensures.failures.counted;
    })

pub returns : goal.returns
returns g c =
    let read = (goal.at.returns g c).In_ok-read_gate in
    let before_it = (goal.at.returns g c).In_ok-rewrite in
    let paid = (goal.at.returns g c).In_ok-read_payload in
    let size_is = size_past g paid c.in_ok-rewrite.ensures.size c.in_ok-read_gate.ensures.reads.1 in
    record {
      replays = λ k before e.
          let set = gated g read k before e in
          let written = past g paid c.deref.ensures.value k (again g before_it c.deref.ensures.value k) in
          let set_again = gated_again c.args.area _ _ _ written set.gate_is in
          let first = read_past c.args.area c.read_gate.new.named.items _ _ _ c.in_ok-read_payload.ensures.reads.0
          (kept_again c.args.area _ c.read_gate.new.named.items _ _ c.deref.ensures.value set (c.in_ok-rewrite.ensures.moments k)) in
          let shown = shown_again c.args.area c.read_gate.new.named.items _ _ written set.gate_is _ first
          (c.in_ok-close.ensures.moments k (record { gated = set_again; payload = payload_past g paid c.deref-2.ensures.value k })) in
          record {
            brief = omega (arith, same_moment e, same_moment c.in_ok-read_gate.ensures.reads.0, c.in_ok-rewrite.ensures.brief k, same_moment c.in_ok-read_payload.ensures.reads.0, c.in_ok-close.ensures.brief k);
            moments = recover_moments c.args.area c.requires.area _ _ _ _ (resynced g read before e) c.in_ok-read_gate.ensures.small (named_by g read k).few (named_by g read k).fit set shown;
            ok = recovers_copied c.args.area c.requires.area _ _ _ _ _
                (λ none. not_empty _ _ c.is_empty.ensures c.if-is_empty.false (c.read_gate.new.named.ok.0 ∙ ap (λ (ts : List ℕ). length ts) none))
                (resynced g read before e) c.in_ok-read_gate.ensures.small (named_by g read k).few (named_by g read k).fit set written shown
                (c.in_ok-close.ensures.ok k (record { gated = set_again; payload = payload_past g paid c.deref-2.ensures.value k }));
            closed = λ closed. absurd (not_empty _ _ c.is_empty.ensures c.if-is_empty.false (none_named g read k before e closed));
            damaged = λ is. absurd (cc);
          };
      none = c.in_ok-close.ensures.shown;
      room = c.in_ok-close.ensures.kept;
      size = c.in_ok-close.ensures.size ∙ size_is;
      failures = none_counted _ _ _ (c.in_ok-close.ensures.failures.ok ∙ (c.in_ok-read_payload.ensures.failures.ok ∙ (c.in_ok-rewrite.ensures.failures.ok ∙ unfailed g read)));
    }
