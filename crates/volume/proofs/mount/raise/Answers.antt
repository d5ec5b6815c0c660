use Rattle.std.proofs.Common.{ℕ, List, [], ◌∷◌, ◌≡◌, ◌+◌, ◌∙◌, ap, subst, sym}
use Rattle.std.specs.Prelude.{IsTrue}
use Rattle.disk.specs.declared.update.Update.{Update}
use Rattle.disk.specs.Moments.{History, put}
use Rattle.journal.specs.declared.layout.LogArea.{LogArea}
use Rattle.journal.specs.Commit.{AddsEither}
use Rattle.journal.specs.Journal.{log_of}
use Rattle.journal.specs.Log.{Log}
use Rattle.journal.specs.Settled.{AreSame}
use Rattle.layout.specs.Stands.{log_by, served}
use Rattle.layout.specs.declared.versions.VersionNumber.{VersionNumber}
use Rattle.volume.specs.Superblock.{HasSizes, superblock}
use Rattle.volume.specs.declared.mount.Superblock.{Superblock}
use Rattle.volume.proofs.MountLaws.{first_update, has_sizes, raise_moments, raised_base, same_size}
use Rattle.volume.proofs.StandLaws.{is_number, is_served}
use Rattle.volume.proofs.mount.raise.Goals as goal

pub superblock_of-sector-requires : goal.superblock_of-sector-requires
superblock_of-sector-requires g c =
    let found = c.args.found in
    subst (λ (v : VersionNumber). HasSizes v found.sectors found.nodes) (sym c.served.ensures)
    (has_sizes (served found.version) found.sectors found.nodes (is_number (served found.version) (is_served found.version c.requires.volume.number))
    (subst IsTrue (sym (same_size found.version found.sectors found.nodes)) c.requires.volume.sized))

-- the sector that is written
written : (found : Superblock) (version : VersionNumber) (sector : List ℕ) → sector ≡ superblock version found.sectors found.nodes (found.run + 1) → version ≡ served found.version
    → sector ≡ superblock (served found.version) found.sectors found.nodes (found.run + 1)
written found version sector is same = is ∙ ap (λ (v : VersionNumber). superblock v found.sectors found.nodes (found.run + 1)) same

abbrev at_first : List ℕ → Update
at_first content = record { target = 0; content = content }

-- what the journal says of it
adds : (found : Superblock) (old : Log) (sector : List ℕ) (new : History) → old.area ≡ log_by found.version old.size → found.sectors ≡ old.size
    → sector ≡ superblock (served found.version) found.sectors found.nodes (found.run + 1) → AddsEither old.area (at_first sector ∷ []) old.base old.history new
    → AddsEither (log_by found.version found.sectors) (first_update (served found.version) found.sectors found.nodes (found.run + 1) ∷ []) old.base old.history new
adds found old sector new placed size is moments =
    subst (λ (a : LogArea). AddsEither a (first_update (served found.version) found.sectors found.nodes (found.run + 1) ∷ []) old.base old.history new) (placed ∙ ap (log_by found.version) (sym size))
    (subst (λ (content : List ℕ). AddsEither old.area (at_first content ∷ []) old.base old.history new) is moments)

pub returns-in_err-superblock-clause-moments : goal.returns-in_err-superblock-clause-moments
returns-in_err-superblock-clause-moments g c = λ k.
    let found = c.args.found in
    let old : Log = log_of c.args.journal.now in
    let history = (log_of c.superblock.new.self).history in
    let is = written found c.served.result c.superblock_of-sector.result c.superblock_of-sector.ensures c.served.ensures in
    record {
      moments = λ mark kept moved stands. raise_moments found old.base c.requires.volume.number c.requires.volume.counted mark kept moved stands old.history history
          (adds found old c.superblock_of-sector.result history c.requires.rests.placed c.requires.volume.size is (c.in_err-superblock.ensures.moments k));
      brief = c.in_err-superblock.ensures.brief k;
    }

pub returns-clause-moments : goal.returns-clause-moments
returns-clause-moments g c = λ k.
    let found = c.args.found in
    let old : Log = log_of c.args.journal.now in
    let history = (log_of c.superblock.new.self).history in
    let is = written found c.served.result c.superblock_of-sector.result c.superblock_of-sector.ensures c.served.ensures in
    record {
      moments = λ mark kept moved stands. raise_moments found old.base c.requires.volume.number c.requires.volume.counted mark kept moved stands old.history history
          (adds found old c.superblock_of-sector.result history c.requires.rests.placed c.requires.volume.size is (c.in_ok-superblock.ensures.moments k));
      brief = c.in_ok-superblock.ensures.brief k;
    }

pub returns-clause-raised : goal.returns-clause-raised
returns-clause-raised g c =
    let found = c.args.found in
    let old : Log = log_of c.args.journal.now in
    let after = (log_of c.superblock.new.self).base in
    let is = written found c.served.result c.superblock_of-sector.result c.superblock_of-sector.ensures c.served.ensures in
    let same : g.D.Device.keeps_word → AreSame (log_by found.version found.sectors).end (put old.base (first_update (served found.version) found.sectors found.nodes (found.run + 1))) after =
    λ k. subst (λ (a : LogArea). AreSame a.end (put old.base (first_update (served found.version) found.sectors found.nodes (found.run + 1))) after)
    (c.requires.rests.placed ∙ ap (log_by found.version) (sym c.requires.volume.size))
    (subst (λ (content : List ℕ). AreSame old.area.end (put old.base (at_first content)) after) is (c.in_ok-superblock.ensures.ok.ok k)) in
    record {
      still_up = c.in_ok-superblock.ensures.answers.stays_up c.requires.rests.up (λ e. absurd (cc));
      stands = λ k mark kept moved stands. raised_base found old.base c.requires.volume.number c.requires.volume.counted mark kept moved stands after (same k);
      settled = c.in_ok-superblock.ensures.ok.settled;
      cost = c.in_ok-superblock.ensures.ok.cost;
    }
