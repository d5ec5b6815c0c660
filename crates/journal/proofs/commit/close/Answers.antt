use Rattle.std.proofs.Common.{All, ◌≡◌, ◌<◌, ◌≤◌, ◌∙◌, [], List, length, ap, arith, sym, subst, ℕ}
use Rattle.disk.specs.declared.update.Update.{Update}
use Rattle.disk.specs.Moments.{seen}
use Rattle.journal.specs.Layout.{copies, targets}
use Rattle.journal.specs.Phase.{AddsUpdates, IsFixedAs}
use Rattle.journal.specs.Recorded.{IsStored}
use Rattle.journal.proofs.Commits.{homes_moments, closing_moments, copied_home, AddsUpdates-at, AddsUpdates-gate, IsFixedAs-at, IsFixedAs-gate}
use Rattle.journal.proofs.Images.{length-targets}
use Rattle.journal.proofs.Areas.{below_device}
use Rattle.journal.proofs.commit.close.Goals as goal
use Rattle.journal.proofs.commit.close.Given.{Over}
use Rattle.journal.proofs.commit.close.Goals.{After-deref, In_ok-write_homes}

-- what is written home is what the payload has
homes : (g : Over) (c : After-deref g) → IsStored c.args.area c.args.recorded.now (g.D.Device.history c.args.device.now)
    → c.deref.result.now ≡ copies (seen (g.D.Device.history c.args.device.now).now) c.args.area.first c.args.recorded.now.targets.items
homes g c stored = c.deref.ensures.value ∙ sym stored.payload

pub write_homes-requires : goal.write_homes-requires
write_homes-requires g c =
    let size = g.D.Device.size c.args.device.now in
    let P : List ℕ → Type 0 = λ to. All (λ t. t < size) to in
    subst P (sym (ap (λ (us : List Update). targets us) c.deref.ensures.value ∙ c.requires.fits.named))
    (below_device c.args.area size c.args.recorded.now.targets.items c.requires.large c.requires.fits.has.fits.fit)

pub returns-in_err-write_homes-clause-moments : goal.returns-in_err-write_homes-clause-moments
returns-in_err-write_homes-clause-moments g c = λ k stored.
    let at = (goal.at.returns-in_err-write_homes-clause-moments g c).After-deref in
    homes_moments c.args.area c.requires.area c.args.recorded.now.targets.items (g.D.Device.history c.args.device.now)
    c.requires.fits.has.fits.few c.requires.fits.has.fits.fit stored.gated (g.D.Device.history c.write_homes.new.device)
    (AddsUpdates-at _ _ _ _ (homes g at stored) (c.in_err-write_homes.ensures.moments k))

-- the homes' phase
written : (g : Over) (c : In_ok-write_homes g) → c.deref.result.now ≡ copies (seen (g.D.Device.history c.args.device.now).now) c.args.area.first c.args.recorded.now.targets.items
    → g.D.Device.keeps_word
    → AddsUpdates (copies (seen (g.D.Device.history c.args.device.now).now) c.args.area.first c.args.recorded.now.targets.items)
    (g.D.Device.history c.args.device.now) (g.D.Device.history c.write_homes.new.device)
written g c same k = AddsUpdates-at _ _ _ _ same (c.in_ok-write_homes.ensures.moments k)

fixed : (g : Over) (c : In_ok-write_homes g) → c.deref.result.now ≡ copies (seen (g.D.Device.history c.args.device.now).now) c.args.area.first c.args.recorded.now.targets.items
    → g.D.Device.keeps_word
    → IsFixedAs (copies (seen (g.D.Device.history c.args.device.now).now) c.args.area.first c.args.recorded.now.targets.items)
    (g.D.Device.history c.args.device.now) (g.D.Device.history c.write_homes.new.device)
fixed g c same k = IsFixedAs-at _ _ _ _ same (c.in_ok-write_homes.ensures.ok k)

pub returns-in_err-write_sector-clause-moments : goal.returns-in_err-write_sector-clause-moments
returns-in_err-write_sector-clause-moments g c = λ k stored.
    let same = homes g (goal.at.returns-in_err-write_sector-clause-moments g c).After-deref stored in
    let here = (goal.at.returns-in_err-write_sector-clause-moments g c).In_ok-write_homes in
    closing_moments c.args.area c.requires.area c.args.recorded.now.targets.items (g.D.Device.history c.args.device.now)
    c.requires.fits.has.fits.few c.requires.fits.has.fits.fit stored.gated
    (g.D.Device.history c.write_homes.new.device) (g.D.Device.history c.write_sector.new.device)
    (written g here same k) (fixed g here same k)
    (AddsUpdates-gate c.closed.result [] _ _ c.closed.ensures (c.in_err-write_sector.ensures.moments k))

pub returns-clause-moments : goal.returns-clause-moments
returns-clause-moments g c = λ k stored.
    let same = homes g (goal.at.returns-clause-moments g c).After-deref stored in
    let here = (goal.at.returns-clause-moments g c).In_ok-write_homes in
    closing_moments c.args.area c.requires.area c.args.recorded.now.targets.items (g.D.Device.history c.args.device.now)
    c.requires.fits.has.fits.few c.requires.fits.has.fits.fit stored.gated
    (g.D.Device.history c.write_homes.new.device) (g.D.Device.history c.write_sector.new.device)
    (written g here same k) (fixed g here same k)
    (AddsUpdates-gate c.closed.result [] _ _ c.closed.ensures (c.in_ok-write_sector.ensures.moments k))

pub returns-clause-ok : goal.returns-clause-ok
returns-clause-ok g c = λ k stored.
    let same = homes g (goal.at.returns-clause-ok g c).After-deref stored in
    let here = (goal.at.returns-clause-ok g c).In_ok-write_homes in
    copied_home c.args.area c.requires.area c.args.recorded.now.targets.items (g.D.Device.history c.args.device.now)
    c.requires.fits.has.fits.few c.requires.fits.has.fits.fit stored.gated
    (g.D.Device.history c.write_homes.new.device) (g.D.Device.history c.write_sector.new.device)
    (fixed g here same k)
    (IsFixedAs-gate c.closed.result [] _ _ c.closed.ensures (c.in_ok-write_sector.ensures.ok k))

-- at most as many are written home as one gate names
few : (g : Over) (c : After-deref g) → length c.deref.result.now ≤ c.args.area.sectors
few g c = omega (
  arith,
  ap (λ (us : List Update). length us) c.deref.ensures.value,
  length-targets c.args.recorded.now.updates.items,
  ap (λ (ts : List ℕ). length ts) c.requires.fits.named,
  c.requires.fits.has.fits.few,
)

pub returns-in_err-write_homes-clause-brief : goal.returns-in_err-write_homes-clause-brief
returns-in_err-write_homes-clause-brief g c = λ k.
    omega (arith, few g (goal.at.returns-in_err-write_homes-clause-brief g c).After-deref, c.in_err-write_homes.ensures.brief k)

pub returns-in_err-write_sector-clause-brief : goal.returns-in_err-write_sector-clause-brief
returns-in_err-write_sector-clause-brief g c = λ k. omega (
  arith,
  few g (goal.at.returns-in_err-write_sector-clause-brief g c).After-deref,
  c.in_ok-write_homes.ensures.brief k,
  c.in_err-write_sector.ensures.brief k,
)

pub returns-clause-brief : goal.returns-clause-brief
returns-clause-brief g c = λ k. omega (
  arith,
  few g (goal.at.returns-clause-brief g c).After-deref,
  c.in_ok-write_homes.ensures.brief k,
  c.in_ok-write_sector.ensures.brief k,
)
