use Rattle.std.proofs.Common.{◌≡◌, ◌∙◌, ap, sym, arith, ℕ, false}
use Rattle.std.proofs.lemmas.List.{get_or_default}
use Rattle.disk.specs.declared.update.Update.{Update}
use Rattle.disk.specs.Moments.{History, Image, applied, seen}
use Rattle.journal.specs.Journal.{log_of}
use Rattle.journal.specs.Layout.{copies, targets, through}
use Rattle.journal.proofs.Cachings.{copies_among, copies_more}
use Rattle.journal.proofs.Commits.{recorded_at}
use Rattle.journal.proofs.Prefixes.{listed_applied}
use Rattle.journal.proofs.Images.{applied_out, home_of_out}
use Rattle.journal.proofs.Journals.{on_ok}
use Rattle.journal.proofs.Lists.{IsLastUpdate, last_update, not_named, not_has-out, applied_last, no_update}
use Rattle.journal.proofs.journal.Journal.read.Goals as goal
use Rattle.journal.proofs.journal.Journal.read.Given.{Over}
use Rattle.journal.proofs.journal.Journal.read.Goals.{In-Some, In_default, After-is_err}

found : (g : Over) (c : In-Some g) → IsLastUpdate c.args.self.now.pending.items c.args.n c.in-Some.place
found g c = last_update c.args.self.now.pending.items c.args.self.now.pending_sectors.sectors.items c.args.n c.in-Some.place
    c.args.self.now.sectors_are c.in-Some.ensures.found

pub index-requires : goal.index-requires
index-requires g c = omega (arith, (found g (goal.at.index-requires g c).In-Some).there, c.args.self.now.pending.ok)

pub returns-in-Some-clause-ok : goal.returns-in-Some-clause-ok
unfolding log_of
returns-in-Some-clause-ok g c = λ k.
    let last = found g (goal.at.returns-in-Some-clause-ok g c).In-Some in
    let base = through c.args.self.now.area c.args.self.now.recorded.targets.items (seen (g.D.Device.history c.args.self.now.device).now) in
    let items = c.args.self.now.pending.items in
    ap (λ (u : Update). u.content) (c.index.ensures ∙ get_or_default items c.in-Some.place c.index.result.now no_update last.there)
    ∙ sym (applied_last items c.in-Some.place c.args.n base last.there last.is last.last)
    ∙ ap (λ (f : Image). f c.args.n) (sym (listed_applied items base))

-- no update waits for the sector
alone : (g : Over) (c : In_default g) → (image : Image) → applied c.args.self.now.pending.items image c.args.n ≡ image c.args.n
alone g c image =
    let none = not_named c.args.self.now.pending.items c.args.self.now.pending_sectors.sectors.items c.args.n
    c.args.self.now.sectors_are c.in_default.ensures.none in
    let items = c.args.self.now.pending.items in
    applied_out items image c.args.n (not_has-out (targets items) c.args.n none)

pub returns-then-get-2-clause-ok : goal.returns-then-get-2-clause-ok
unfolding log_of
returns-then-get-2-clause-ok g c = λ k.
    let was = c.args.self.now in
    let h = g.D.Device.history was.device in
    let base = through was.area was.recorded.targets.items (seen h.now) in
    c.get-2.ensures.found c.if-get-2.true (seen h.now)
    ∙ recorded_at was.area was.is_area was.recorded.targets.items was.recorded.updates.items h c.args.n
    was.shown_has.fits.few was.shown_has.fits.fit (was.gate_is k c.if-self.false) (was.payload k c.if-self.false)
    ∙ sym (alone g (goal.at.returns-then-get-2-clause-ok g c).In_default base)
    ∙ ap (λ (f : Image). f c.args.n) (sym (listed_applied was.pending.items base))

pub invariant_of-self-then-get-2-clause-cached : goal.invariant_of-self-then-get-2-clause-cached
unfolding log_of
invariant_of-self-then-get-2-clause-cached g c = λ k up. copies_among _ _ _ _ (c.args.self.now.cached k up) c.get.ensures.among

pub invariant_of-self-2-clause-payload : goal.invariant_of-self-2-clause-payload
invariant_of-self-2-clause-payload g c = λ k up.
    ap (λ (h : History). copies (seen h.now) c.args.self.now.area.first c.args.self.now.recorded.targets.items) c.read.ensures.history
    ∙ c.args.self.now.payload k c.if-self.false

-- what was read is what the base has
found_there : (g : Over) (c : After-is_err g) → c.is_err.result ≡ false → g.D.Device.keeps_word
    → c.read.new.content ≡ through c.args.self.now.area c.args.self.now.recorded.targets.items (seen (g.D.Device.history c.args.self.now.device).now) c.args.n
found_there g c up k =
    let to = c.args.self.now.recorded.targets.items in
    let none = (c.get-2.ensures.missing c.if-get-2.false).0 in
    on_ok c.read.result (sym c.is_err.ensures.value ∙ up) (c.read.ensures.ok k)
    ∙ ap (λ (place : ℕ). seen (g.D.Device.history c.args.self.now.device).now place) (sym (home_of_out to c.args.self.now.area.first c.args.n (not_has-out to c.args.n none)))

pub returns-clause-ok : goal.returns-clause-ok
unfolding log_of
returns-clause-ok g c = λ k.
    let base = through c.args.self.now.area c.args.self.now.recorded.targets.items (seen (g.D.Device.history c.args.self.now.device).now) in
    let items = c.args.self.now.pending.items in
    found_there g (goal.at.returns-clause-ok g c).After-is_err c.if-is_err.false k
    ∙ sym (alone g (goal.at.returns-clause-ok g c).In_default base)
    ∙ ap (λ (f : Image). f c.args.n) (sym (listed_applied items base))

pub returns-then-get-clause-ok : goal.returns-then-get-clause-ok
unfolding log_of
returns-then-get-clause-ok g c = λ k.
    let base = through c.args.self.now.area c.args.self.now.recorded.targets.items (seen (g.D.Device.history c.args.self.now.device).now) in
    let items = c.args.self.now.pending.items in
    ((c.args.self.now.cached k c.if-self.false).each c.args.n c.get.new.content (c.get.ensures.found c.if-get.true)).2
    ∙ ap (λ (f : Image). f c.args.n) (sym (listed_applied items base))

pub invariant_of-self-clause-cached : goal.invariant_of-self-clause-cached
unfolding log_of
invariant_of-self-clause-cached g c = λ k up. copies_among _ _ _ _ (c.args.self.now.cached k up) c.get.ensures.among

pub invariant_of-self-2-clause-cached : goal.invariant_of-self-2-clause-cached
unfolding log_of
invariant_of-self-2-clause-cached g c = λ k up.
    let was = c.args.self.now in
    let base = through was.area was.recorded.targets.items (seen (g.D.Device.history was.device).now) in
    copies_more was.area c.args.n was.pending.items was.recorded.targets.items
    (g.D.Device.history was.device) (g.D.Device.history c.read.new.self) c.read.new.content c.get.new.self.sectors.entries c.keep.new.self.sectors.entries
    c.read.ensures.history
    (copies_among _ _ _ _ (was.cached k c.if-self.false) c.get.ensures.among) c.keep.ensures
    (found_there g (goal.at.invariant_of-self-2-clause-cached g c).After-is_err c.if-is_err.false k
    ∙ sym (alone g (goal.at.invariant_of-self-2-clause-cached g c).In_default base))
