use Rattle.std.proofs.Common.{◌∙◌, ◌++◌, ap, ℕ, List, length, arith, sym, subst}
use Rattle.journal.specs.Behind.{FitsGate}
use Rattle.journal.specs.Layout.{AreNamed, targets}
use Rattle.journal.proofs.Behinds.{way_fits}
use Rattle.journal.proofs.Images.{length-targets, of_targets}
use Rattle.journal.proofs.Commits.{committed_moments, committed}
use Rattle.journal.proofs.commit.commit.Goals as goal

pub make_way-requires-clause-few : goal.make_way-requires-clause-few
make_way-requires-clause-few g c = omega (arith, c.requires.taken.few, ap (λ (ts : List ℕ). length ts) c.requires.taken.named, length-targets c.args.updates.now)

pub write_commit_record-requires-clause-fits : goal.write_commit_record-requires-clause-fits
write_commit_record-requires-clause-fits g c =
    let area = c.args.area in
    let to = c.args.to.now in
    let P : List ℕ → Type 0 = λ ts. AreNamed area ts in
    let Q : List ℕ → Type 0 = λ ts. FitsGate area (ts ++ to) in
    subst Q (sym c.in_ok-make_way.ensures.shown.0)
    (way_fits area c.args.recorded.now.targets.items to c.requires.fits.has.fits
    (omega (arith, c.requires.taken.few, ap (λ (ts : List ℕ). length ts) c.requires.taken.named, length-targets c.args.updates.now))
    (subst P (sym c.requires.taken.named) (of_targets area (targets c.args.updates.now) c.requires.taken.fit)))

pub returns-in_err-write_commit_record-clause-moments : goal.returns-in_err-write_commit_record-clause-moments
returns-in_err-write_commit_record-clause-moments g c = λ k stored.
    let way = c.in_ok-make_way.ensures.ok k stored in
    committed_moments c.args.area c.args.to.now c.args.updates.now
    c.args.recorded.now.targets.items c.make_way.new.recorded.targets.items
    (g.D.Device.history c.args.device.now) (g.D.Device.history c.make_way.new.device) (c.in_ok-make_way.ensures.moments k stored) way
    (g.D.Device.history c.write_commit_record.new.device)
    (c.in_err-write_commit_record.ensures.moments k way.gated)

pub returns-clause-moments : goal.returns-clause-moments
returns-clause-moments g c = λ k stored.
    let way = c.in_ok-make_way.ensures.ok k stored in
    committed_moments c.args.area c.args.to.now c.args.updates.now
    c.args.recorded.now.targets.items c.make_way.new.recorded.targets.items
    (g.D.Device.history c.args.device.now) (g.D.Device.history c.make_way.new.device) (c.in_ok-make_way.ensures.moments k stored) way
    (g.D.Device.history c.write_commit_record.new.device)
    (c.in_ok-write_commit_record.ensures.moments k way.gated)

pub returns-clause-ok : goal.returns-clause-ok
returns-clause-ok g c = λ k stored.
    let way = c.in_ok-make_way.ensures.ok k stored in
    committed c.args.area c.args.to.now c.args.updates.now
    c.args.recorded.now.targets.items c.make_way.new.recorded.targets.items
    (g.D.Device.history c.args.device.now) (g.D.Device.history c.make_way.new.device) (c.in_ok-make_way.ensures.moments k stored) way
    (g.D.Device.history c.write_commit_record.new.device) c.write_commit_record.new.shown.items c.make_way.new.recorded.updates.items c.requires.taken.named
    (c.in_ok-make_way.ensures.stored k stored).payload (c.in_ok-write_commit_record.ensures.ok k way.gated)

pub returns-clause-shown : goal.returns-clause-shown
returns-clause-shown g c = (
  c.in_ok-write_commit_record.ensures.shown ∙ ap (λ (ts : List ℕ). ts ++ c.args.to.now) c.in_ok-make_way.ensures.shown.0,
  c.in_ok-make_way.ensures.shown.1 ∙ c.in_ok-make_way.ensures.shown.0,
)
