use Rattle.std.proofs.Common.{◌≡◌, ◌∙◌, ◌+◌, ◌≤◌, ◌++◌, ap, ℕ, List, length, arith, refl, subst}
use Rattle.std.proofs.lemmas.List.{length-append}
use Rattle.journal.specs.Layout.{AreNamed, gate, targets, placed}
use Rattle.journal.specs.Phase.{AddsUpdates, IsFixedAs}
use Rattle.journal.proofs.Behinds.{prefix_fits}
use Rattle.journal.proofs.Images.{length-targets}
use Rattle.journal.proofs.Commits.{payload_moments, gate_moments, recorded, AddsUpdates-gate, IsFixedAs-gate, IsRecorded-at, payload_moments_at, payload_fixed_at}
use Rattle.journal.proofs.commit.write_commit_record.Goals as goal
use Rattle.journal.proofs.commit.write_commit_record.Given.{Over}
use Rattle.journal.proofs.commit.write_commit_record.Goals.{After-len, In_ok-write_payload}
use Rattle.journal.proofs.commit.write_commit_record.Goals.{After-encode}

-- how many sectors the gate names
counted : (g : Over) (c : After-len g) → c.len.result ≡ length c.args.shown.now.items
counted g c = c.len.ensures ∙ c.args.shown.now.ok.0

few : (g : Over) (c : After-len g) → length c.args.shown.now.items + length c.args.updates.now ≤ c.args.area.sectors
few g c = omega (
  arith,
  c.requires.fits.few,
  length-append c.args.shown.now.items c.args.to.now,
  ap (λ (ts : List ℕ). length ts) c.requires.taken.named,
  length-targets c.args.updates.now,
)

fit : (g : Over) (c : After-len g) → AreNamed c.args.area (c.args.shown.now.items ++ targets c.args.updates.now)
fit g c =
    let P : List ℕ → Type 0 = λ ts. AreNamed c.args.area (c.args.shown.now.items ++ ts) in
    subst P c.requires.taken.named c.requires.fits.fit

paid : (g : Over) (c : In_ok-write_payload g) → c.len.result ≡ length c.args.shown.now.items → g.D.Device.keeps_word
    → AddsUpdates (placed (c.args.area.first + length c.args.shown.now.items) c.args.updates.now) (g.D.Device.history c.args.device.now) (g.D.Device.history c.write_payload.new.device)
paid g c count k = payload_moments_at c.args.area c.len.result _ c.args.updates.now _ _ count (c.in_ok-write_payload.ensures.moments k)

fixed : (g : Over) (c : In_ok-write_payload g) → c.len.result ≡ length c.args.shown.now.items → g.D.Device.keeps_word
    → IsFixedAs (placed (c.args.area.first + length c.args.shown.now.items) c.args.updates.now) (g.D.Device.history c.args.device.now) (g.D.Device.history c.write_payload.new.device)
fixed g c count k = payload_fixed_at c.args.area c.len.result _ c.args.updates.now _ _ count (c.in_ok-write_payload.ensures.ok k)

-- the gate that is written
encoded : (g : Over) (c : After-encode g) → c.encode.result ≡ gate (c.args.shown.now.items ++ targets c.args.updates.now)
encoded g c = c.encode.ensures ∙ ap (λ (ts : List ℕ). gate ts) (c.deref.ensures.value ∙ c.name_all.ensures.items
    ∙ ap (λ (ts : List ℕ). c.args.shown.now.items ++ ts) c.requires.taken.named)

pub write_payload-requires-clause-few : goal.write_payload-requires-clause-few
write_payload-requires-clause-few g c = omega (arith, counted g c, few g c)

pub returns-in_err-write_payload-clause-moments : goal.returns-in_err-write_payload-clause-moments
returns-in_err-write_payload-clause-moments g c = λ k gated.
    let at = (goal.at.returns-in_err-write_payload-clause-moments g c).After-len in
    payload_moments c.args.area c.requires.area c.args.shown.now.items c.args.updates.now (g.D.Device.history c.args.device.now) (few g at) (fit g at) gated
    (g.D.Device.history c.write_payload.new.device)
    (payload_moments_at c.args.area c.len.result _ c.args.updates.now _ _ (counted g at) (c.in_err-write_payload.ensures.moments k))

pub returns-in_err-write_payload-clause-kept : goal.returns-in_err-write_payload-clause-kept
returns-in_err-write_payload-clause-kept g c = record {
  fits = prefix_fits c.args.area c.args.shown.now.items c.args.to.now c.requires.fits;
  capacity = refl;
}

pub returns-in_err-write_sector-clause-moments : goal.returns-in_err-write_sector-clause-moments
returns-in_err-write_sector-clause-moments g c = λ k gated.
    let at = (goal.at.returns-in_err-write_sector-clause-moments g c).After-len in
    let here = (goal.at.returns-in_err-write_sector-clause-moments g c).In_ok-write_payload in
    gate_moments c.args.area c.requires.area c.args.shown.now.items c.args.updates.now (g.D.Device.history c.args.device.now) (few g at) (fit g at) gated
    (g.D.Device.history c.write_payload.new.device) (g.D.Device.history c.write_sector.new.device) (paid g here (counted g at) k) (fixed g here (counted g at) k)
    (AddsUpdates-gate c.encode.result _ _ _ (encoded g (goal.at.returns-in_err-write_sector-clause-moments g c).After-encode) (c.in_err-write_sector.ensures.moments k))

pub returns-clause-moments : goal.returns-clause-moments
returns-clause-moments g c = λ k gated.
    let at = (goal.at.returns-clause-moments g c).After-len in
    let here = (goal.at.returns-clause-moments g c).In_ok-write_payload in
    gate_moments c.args.area c.requires.area c.args.shown.now.items c.args.updates.now (g.D.Device.history c.args.device.now) (few g at) (fit g at) gated
    (g.D.Device.history c.write_payload.new.device) (g.D.Device.history c.write_sector.new.device) (paid g here (counted g at) k) (fixed g here (counted g at) k)
    (AddsUpdates-gate c.encode.result _ _ _ (encoded g (goal.at.returns-clause-moments g c).After-encode) (c.in_ok-write_sector.ensures.moments k))

pub returns-clause-ok : goal.returns-clause-ok
returns-clause-ok g c = λ k gated.
    let at = (goal.at.returns-clause-ok g c).After-len in
    let here = (goal.at.returns-clause-ok g c).In_ok-write_payload in
    IsRecorded-at c.args.area c.args.updates.now c.args.shown.now.items _ c.name_all.new.named.items _ _
    (c.name_all.ensures.items ∙ ap (λ (ts : List ℕ). c.args.shown.now.items ++ ts) c.requires.taken.named)
    (recorded c.args.area c.requires.area c.args.shown.now.items c.args.updates.now (g.D.Device.history c.args.device.now) (few g at) (fit g at) gated
    (g.D.Device.history c.write_payload.new.device) (g.D.Device.history c.write_sector.new.device) (fixed g here (counted g at) k)
    (IsFixedAs-gate c.encode.result _ _ _ (encoded g (goal.at.returns-clause-ok g c).After-encode) (c.in_ok-write_sector.ensures.ok k)))
