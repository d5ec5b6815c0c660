use Rattle.std.proofs.Common.{◌≡◌, ◌∙◌, ap, sym, [], ◌∷◌, false}
use Rattle.disk.specs.declared.update.Update.{Update}
use Rattle.disk.specs.Moments.{Image, put, seen}
use Rattle.journal.specs.Layout.{targets, through}
use Rattle.journal.specs.Settled.{AreSame}
use Rattle.journal.specs.Phase.{IsGated, IsFixedAs}
use Rattle.journal.specs.Journal.{log_of}
use Rattle.journal.proofs.Cachings.{copies_beside}
use Rattle.journal.proofs.Prefixes.{listed_applied, settled_of}
use Rattle.journal.proofs.Journals.{gated_of, on_ok}
use Rattle.journal.proofs.Stages.{Fit-of}
use Rattle.journal.proofs.Superblocks.{superblock_moments, superblock_base, superblock_contents, superblock_gated, superblock_payload}
use Rattle.journal.proofs.journal.Journal.superblock.Goals as goal
use Rattle.journal.proofs.journal.Journal.superblock.Given.{Over}
use Rattle.journal.proofs.journal.Journal.superblock.Goals.{After-is_err}

gated : (g : Over) (c : After-is_err g) → g.D.Device.keeps_word → IsGated c.args.self.now.recorded.targets.items (g.D.Device.history c.args.self.now.device)
gated g c k = gated_of c.args.self.now.recorded.targets.items (g.D.Device.history c.args.self.now.device) (c.args.self.now.rests k c.if-self.false) (c.args.self.now.gate_is k c.if-self.false)

fixed : (g : Over) (c : After-is_err g) → c.is_err.result ≡ false → g.D.Device.keeps_word
    → (let u : Update = record { target = 0; content = c.args.content.now } in
    IsFixedAs (u ∷ []) (g.D.Device.history c.args.self.now.device) (g.D.Device.history c.write_sector.new.device))
fixed g c e k = on_ok c.write_sector.result (sym c.is_err.ensures.value ∙ e) (c.write_sector.ensures.ok k)

pub returns-then-is_err-clause-moments : goal.returns-then-is_err-clause-moments
unfolding log_of
returns-then-is_err-clause-moments g c = λ k.
    superblock_moments c.args.self.now.area c.args.self.now.is_area c.args.self.now.recorded.targets.items c.args.content.now
    (g.D.Device.history c.args.self.now.device) (g.D.Device.history c.write_sector.new.device) c.args.self.now.shown_has.fits.few c.args.self.now.shown_has.fits.fit
    (gated g (goal.at.returns-then-is_err-clause-moments g c).After-is_err k) (c.write_sector.ensures.moments k)

pub returns-clause-moments : goal.returns-clause-moments
unfolding log_of
returns-clause-moments g c = λ k.
    superblock_moments c.args.self.now.area c.args.self.now.is_area c.args.self.now.recorded.targets.items c.args.content.now
    (g.D.Device.history c.args.self.now.device) (g.D.Device.history c.write_sector.new.device) c.args.self.now.shown_has.fits.few c.args.self.now.shown_has.fits.fit
    (gated g (goal.at.returns-clause-moments g c).After-is_err k) (c.write_sector.ensures.moments k)

base : (g : Over) (c : After-is_err g) → c.is_err.result ≡ false → g.D.Device.keeps_word
    → (let u : Update = record { target = 0; content = c.args.content.now } in
    AreSame c.args.self.now.area.end (put (through c.args.self.now.area c.args.self.now.recorded.targets.items (seen (g.D.Device.history c.args.self.now.device).now)) u)
    (through c.args.self.now.area c.args.self.now.recorded.targets.items (seen (g.D.Device.history c.write_sector.new.device).now)))
base g c e k =
    superblock_base c.args.self.now.area c.args.self.now.is_area c.args.self.now.recorded.targets.items c.args.content.now
    (g.D.Device.history c.args.self.now.device) (g.D.Device.history c.write_sector.new.device) c.args.self.now.shown_has.fits.few c.args.self.now.shown_has.fits.fit
    (gated g c k) (fixed g c e k)

pub returns-clause-ok : goal.returns-clause-ok
unfolding log_of
returns-clause-ok g c =
    let at = (goal.at.returns-clause-ok g c).After-is_err in
    let area = c.args.self.now.area in
    let list = c.args.self.now.pending.items in
    let was = through area c.args.self.now.recorded.targets.items (seen (g.D.Device.history c.args.self.now.device).now) in
    let now = through area c.args.self.now.recorded.targets.items (seen (g.D.Device.history c.write_sector.new.device).now) in
    record {
      ok = λ k. base g at c.if-is_err.false k;
      contents = λ k n kept.
          let u : Update = record { target = 0; content = c.args.content.now } in
          ap (λ (f : Image). put f u n) (listed_applied list was)
          ∙ superblock_contents area.end list was now c.args.content.now (Fit-of area.end (targets list) c.args.self.now.fit) (base g at c.if-is_err.false k) n kept
          ∙ ap (λ (f : Image). f n) (sym (listed_applied list now));
      settled = λ k. settled_of area c.args.self.now.is_area c.args.self.now.recorded.targets.items (g.D.Device.history c.write_sector.new.device)
          c.args.self.now.shown_has.fits.few c.args.self.now.shown_has.fits.fit
          (superblock_gated area c.args.self.now.is_area c.args.self.now.recorded.targets.items c.args.content.now (g.D.Device.history c.args.self.now.device) (g.D.Device.history c.write_sector.new.device)
          c.args.self.now.shown_has.fits.few c.args.self.now.shown_has.fits.fit (gated g at k) (fixed g at c.if-is_err.false k));
      cost = λ k. (fixed g at c.if-is_err.false k).cost;
    }

pub invariant_of-self-2-clause-cached : goal.invariant_of-self-2-clause-cached
unfolding log_of
invariant_of-self-2-clause-cached g c = λ k up.
    let at = (goal.at.invariant_of-self-2-clause-cached g c).After-is_err in
    copies_beside c.args.self.now.area.end c.args.self.now.pending.items
    (through c.args.self.now.area c.args.self.now.recorded.targets.items (seen (g.D.Device.history c.args.self.now.device).now))
    (through c.args.self.now.area c.args.self.now.recorded.targets.items (seen (g.D.Device.history c.write_sector.new.device).now))
    c.args.content.now c.args.self.now.cache.sectors.entries (base g at c.if-is_err.false k) (c.args.self.now.cached k c.if-self.false)

pub invariant_of-self-2-clause-payload : goal.invariant_of-self-2-clause-payload
unfolding log_of
invariant_of-self-2-clause-payload g c = λ k up.
    let at = (goal.at.invariant_of-self-2-clause-payload g c).After-is_err in
    superblock_payload c.args.self.now.area c.args.self.now.is_area c.args.self.now.recorded.targets.items c.args.content.now
    (g.D.Device.history c.args.self.now.device) (g.D.Device.history c.write_sector.new.device)
    c.args.self.now.shown_has.fits.few c.args.self.now.shown_has.fits.fit (gated g at k) (fixed g at c.if-is_err.false k)
    ∙ c.args.self.now.payload k c.if-self.false
