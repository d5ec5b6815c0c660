use Rattle.std.proofs.Common.{◌≡◌, ◌++◌, ◌∷◌, [], ap, arith, length, ℕ, List, false, true}
use Rattle.journal.specs.Journal.{log_of, listed}
use Rattle.journal.specs.Layout.{targets}
use Rattle.journal.specs.Transactions.{gathered, sectors_of}
use Rattle.journal.proofs.Areas.{updates_fit}
use Rattle.journal.proofs.Prefixes.{together}
use Rattle.journal.proofs.Images.{length-targets}
use Rattle.journal.proofs.Lists.{Apart-Fit, gathered_short}
use Rattle.journal.proofs.Stages.{Fit-of}
use Rattle.journal.proofs.journal.Journal.flush_if_full.Goals as goal
use Rattle.journal.proofs.journal.Journal.flush_if_full.Given.{Over}
use Rattle.journal.proofs.journal.Journal.flush_if_full.Goals.{After-fits}

-- what is named is gathered with the updates as the list with one more
same : (g : Over) (c : After-fits g) → length (gathered c.args.self.now.pending_sectors.sectors.items (targets c.args.updates.now))
    ≡ length (gathered [] (sectors_of (listed c.args.self.now.pending.items ++ c.args.updates.now ∷ [])))
same g c =
    let was = c.args.self.now in
    ap (λ (ts : List ℕ). length ts) (together was.pending.items c.args.updates.now c.args.self.now.pending_sectors.sectors.items was.sectors_are
    (Apart-Fit was.area.end (targets was.pending.items) (Fit-of was.area.end (targets was.pending.items) was.fit)))

pub fits-requires-clause-few : goal.fits-requires-clause-few
fits-requires-clause-few g c = omega (
  arith,
  ap (λ (xs : List ℕ). length xs) c.args.self.now.sectors_are,
  length-targets c.args.self.now.pending.items,
  c.args.self.now.few,
)

pub fits-requires-clause-short : goal.fits-requires-clause-short
unfolding log_of
fits-requires-clause-short g c = omega (
  arith,
  c.requires.short,
  updates_fit c.args.self.now.area c.args.self.now.is_area,
  c.args.self.now.is_area.few,
)

pub returns-then-fits-clause-emptied : goal.returns-then-fits-clause-emptied
unfolding log_of
returns-then-fits-clause-emptied g c = λ over.
    let at = (goal.at.returns-then-fits-clause-emptied g c).After-fits in
    absurd (over (omega (arith, same g at, c.fits.ensures.0 c.if-fits.true)))

pub returns-then-fits-clause-flushed : goal.returns-then-fits-clause-flushed
unfolding log_of
returns-then-fits-clause-flushed g c = λ over.
    let at = (goal.at.returns-then-fits-clause-flushed g c).After-fits in
    absurd (over (omega (arith, same g at, c.fits.ensures.0 c.if-fits.true)))

pub returns-then-fits-clause-gate : goal.returns-then-fits-clause-gate
unfolding log_of
returns-then-fits-clause-gate g c = λ over.
    let at = (goal.at.returns-then-fits-clause-gate g c).After-fits in
    absurd (over (omega (arith, same g at, c.fits.ensures.0 c.if-fits.true)))

pub returns-in_err-flush_pending-clause-kept : goal.returns-in_err-flush_pending-clause-kept
unfolding log_of
returns-in_err-flush_pending-clause-kept g c = λ fit.
    let at = (goal.at.returns-in_err-flush_pending-clause-kept g c).After-fits in
    let yes : c.fits.result ≡ true = c.fits.ensures.1 (omega (arith, same g at, fit)) in
    absurd (let over : c.fits.result ≡ false = c.if-fits.false in cc)

pub returns-clause-kept : goal.returns-clause-kept
unfolding log_of
returns-clause-kept g c = λ fit.
    let at = (goal.at.returns-clause-kept g c).After-fits in
    let yes : c.fits.result ≡ true = c.fits.ensures.1 (omega (arith, same g at, fit)) in
    absurd (let over : c.fits.result ≡ false = c.if-fits.false in cc)

pub returns-clause-room : goal.returns-clause-room
unfolding log_of
returns-clause-room g c =
    let now = c.flush_pending.new.self in
    omega (
      arith,
      gathered_short now.pending_sectors.sectors.items (targets c.args.updates.now),
      ap (λ (xs : List ℕ). length xs) now.sectors_are,
      ap (λ us. length (targets us)) c.in_ok-flush_pending.ensures.emptied,
      length-targets c.args.updates.now,
      c.requires.short,
      updates_fit c.args.self.now.area c.args.self.now.is_area,
    )
