use Rattle.std.proofs.Common.{◌≡◌, ◌⊎◌, ◌∙◌, ap, sym, refl, inl, inr, arith, ℕ, Bool, true, false}
use Rattle.std.proofs.lemmas.List.{get_or_default}
use Rattle.disk.specs.declared.update.Update.{Update}
use Rattle.disk.specs.Moments.{Image, applied, seen}
use Rattle.journal.specs.Journal.{log_of}
use Rattle.journal.specs.Layout.{targets, through}
use Rattle.journal.proofs.Commits.{recorded_at}
use Rattle.journal.proofs.Prefixes.{listed_applied}
use Rattle.journal.proofs.Images.{applied_out, home_of_out}
use Rattle.journal.proofs.Lists.{IsLastUpdate, last_update, not_named, not_has-out, applied_last, no_update}
use Rattle.journal.proofs.journal.Journal.put_newer.Goals as goal
use Rattle.journal.proofs.journal.Journal.put_newer.Given.{Over}
use Rattle.journal.proofs.journal.Journal.put_newer.Goals.{In-Some, In_default}

found : (g : Over) (c : In-Some g) → IsLastUpdate c.args.self.now.pending.items c.args.n c.in-Some.place
found g c = last_update c.args.self.now.pending.items c.args.self.now.pending_sectors.sectors.items c.args.n c.in-Some.place
    c.args.self.now.sectors_are c.in-Some.ensures.found

pub index-requires : goal.index-requires
index-requires g c = omega (arith, (found g (goal.at.index-requires g c).In-Some).there, c.args.self.now.pending.ok)

pub returns-in-Some : goal.returns-in-Some
unfolding log_of
returns-in-Some g c = λ k is.
    let last = found g (goal.at.returns-in-Some g c).In-Some in
    let base = through c.args.self.now.area c.args.self.now.recorded.targets.items (seen (g.D.Device.history c.args.self.now.device).now) in
    let items = c.args.self.now.pending.items in
    ap (λ (u : Update). u.content) (c.index.ensures ∙ get_or_default items c.in-Some.place c.index.result.now no_update last.there)
    ∙ sym (applied_last items c.in-Some.place c.args.n base last.there last.is last.last)
    ∙ ap (λ (f : Image). f c.args.n) (sym (listed_applied items base))

either : (b : Bool) → (b ≡ true) ⊎ (b ≡ false)
either true = inl refl
either false = inr refl

-- no update waits for the sector
alone : (g : Over) (c : In_default g) → (image : Image) → applied c.args.self.now.pending.items image c.args.n ≡ image c.args.n
alone g c image =
    let none = not_named c.args.self.now.pending.items c.args.self.now.pending_sectors.sectors.items c.args.n
    c.args.self.now.sectors_are c.in_default.ensures.none in
    let items = c.args.self.now.pending.items in
    applied_out items image c.args.n (not_has-out (targets items) c.args.n none)

pub returns : goal.returns
unfolding log_of
returns g c = λ k is.
    let was = c.args.self.now in
    let h = g.D.Device.history was.device in
    let to = was.recorded.targets.items in
    let base = through was.area to (seen h.now) in
    let here : c.get.new.content ≡ base c.args.n = elim (either c.get.result) [
      | inl is_there ↦ c.get.ensures.found is_there (seen h.now)
          ∙ recorded_at was.area was.is_area to was.recorded.updates.items h c.args.n
          was.shown_has.fits.few was.shown_has.fits.fit (was.gate_is k c.requires) (was.payload k c.requires)
      | inr is_not ↦ (c.get.ensures.missing is_not).1 ∙ is
          ∙ ap (λ (place : ℕ). seen h.now place) (sym (home_of_out to was.area.first c.args.n (not_has-out to c.args.n (c.get.ensures.missing is_not).0)))
    ] in
    here
    ∙ sym (alone g (goal.at.returns g c).In_default base)
    ∙ ap (λ (f : Image). f c.args.n) (sym (listed_applied was.pending.items base))
