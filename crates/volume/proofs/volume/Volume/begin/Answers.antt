use Rattle.std.proofs.Common.{◌≡◌, None, ◌+◌, ◌∙◌, ℕ, refl, sym, ap, ap₂, subst, arith}
use Rattle.std.specs.Prelude.{IsTrue, Err}
use Rattle.tree_edits.specs.Outlines.{tree_without_data}
use Rattle.journal.specs.Journal.{log_of}
use Rattle.journal.specs.Log.{Log, contents}
use Rattle.layout.specs.Stands.{HasRegion, Kept, data_end_by, limits_by, log_by, seats_at, served, size_by, version_by}
use Rattle.layout.specs.Versions.{IsServed}
use Rattle.layout.specs.declared.versions.VersionNumber.{VersionNumber}
use Rattle.layout.proofs.SeatLaws.{version_region}
use Rattle.model_tree.specs.Seats.SeatViews.{seats_view}
use Rattle.model_tree.specs.Seats.Seats.{no_seats}
use Rattle.model_tree.specs.declared.limits.Limits.{Limits}
use Rattle.model_tree.specs.Trees.Stamp.{stamp}
use Rattle.disk.specs.Moments.{Image, moment}
use Rattle.volume.specs.Known.{AreKnownNodes, IsServing}
use Rattle.volume.specs.Loads.{AreLoaded, HoldsVolume}
use Rattle.volume.specs.Mounts.{HasBegun, IsVolumeOf, StandsOn}
use Rattle.volume.specs.Views.{volume_state, volume_state_by}
use Rattle.volume.specs.declared.mount.Superblock.{Superblock}
use Rattle.volume.proofs.BeginLaws.{begun_bounded, begun_brief, begun_current, begun_holds, begun_serving, begun_stood, not_loaded, not_started, kept_read, raised_from, same_seats}
use Rattle.volume.proofs.FormedLaws.{formed_later, loaded_formed, tree_formed}
use Rattle.volume.proofs.MountLaws.{same_data_end, same_limits, same_size}
use Rattle.volume.proofs.StandLaws.{is_served}
use Rattle.volume.proofs.volume.Volume.begin.Goals as goal

pub start-requires-clause-base : goal.start-requires-clause-base
start-requires-clause-base g c = λ k.
    let found = c.args.found in
    let same = c.in-Ok.ensures.loads.only in
    let held : HoldsVolume found (log_of c.args.journal).size (log_of c.args.journal).base = c.requires.base k in
    subst (λ (log : Log). HoldsVolume found log.size log.base) (sym same) held

pub start-requires-clause-loaded : goal.start-requires-clause-loaded
start-requires-clause-loaded g c =
    let loaded = c.in-Ok.loaded in
    subst (λ (image : Image). AreLoaded g.D.Device.keeps_word c.args.found image loaded.mark loaded.table (seats_view loaded.seats) loaded.places)
    (sym (ap (λ (log : Log). log.base) c.in-Ok.ensures.loads.only)) c.in-Ok.ensures.loaded

-- the parts of the volume that was found
found_region : (found : Superblock) (size : ℕ) → IsVolumeOf size found → HasRegion (version_by found.version None no_seats) found.sectors found.nodes
found_region found size volume = version_region found.version None no_seats found.sectors found.nodes volume.number volume.sized

pub limits-requires-clause-within : goal.limits-requires-clause-within
limits-requires-clause-within g c =
    let region = found_region c.args.found (log_of c.args.journal).size c.requires.volume in
    omega (arith, region.behind, region.inside, region.within)

pub limits-requires-clause-region : goal.limits-requires-clause-region
limits-requires-clause-region g c = (found_region c.args.found (log_of c.args.journal).size c.requires.volume).behind

-- What it says of its sizes, it says in the version in which it is served
module _ (found : Superblock) (version : VersionNumber) (limits : Limits) (size : ℕ) (is : version ≡ served found.version) (same : found.sectors ≡ size) (limited : limits ≡ limits_by found.version found.sectors found.nodes) where
  nodes_are : limits.nodes ≡ found.nodes
  nodes_are = ap (λ (l : Limits). l.nodes) limited

  sized_served : size_by found.version found.sectors found.nodes ≡ size_by version size limits.nodes
  sized_served = sym (same_size found.version found.sectors found.nodes)
      ∙ (ap (λ (v : VersionNumber). size_by v found.sectors found.nodes) (sym is) ∙ ap₂ (size_by version) same (sym nodes_are))

  limited_served : limits ≡ limits_by version size limits.nodes
  limited_served = limited
      ∙ (sym (same_limits found.version found.sectors found.nodes)
      ∙ (ap (λ (v : VersionNumber). limits_by v found.sectors found.nodes) (sym is) ∙ ap₂ (limits_by version) same (sym nodes_are)))

  ends_served : data_end_by found.version found.sectors ≡ data_end_by version size
  ends_served = sym (same_data_end found.version found.sectors)
      ∙ (ap (λ (v : VersionNumber). data_end_by v found.sectors) (sym is) ∙ ap (data_end_by version) same)

pub invariant_of-result : goal.invariant_of-result
invariant_of-result g c =
    let word = g.D.Device.keeps_word in
    let found = c.args.found in
    let version = c.served.result in
    let limits = c.limits.result in
    let old : Log = log_of c.args.journal in
    let mid : Log = log_of c.load.new.store.journal in
    let new : Log = log_of c.start.new.journal in
    let loaded = c.in-Ok.loaded in
    let cached_nodes = loaded.table in
    let size : found.sectors ≡ new.size = c.requires.volume.size ∙ sym (ap (λ (log : Log). log.size) c.in-Ok.ensures.loads.only) ∙ sym c.start.ensures.size in
    let nodes : limits.nodes ≡ found.nodes = nodes_are found version limits new.size c.served.ensures size c.limits.ensures in
    record {
      bounded = c.requires.volume.counted;
      served = subst IsServed (sym c.served.ensures) (is_served found.version c.requires.volume.number);
      sized = subst IsTrue (sized_served found version limits new.size c.served.ensures size c.limits.ensures) c.requires.volume.sized;
      limited = limited_served found version limits new.size c.served.ensures size c.limits.ensures;
      formed = formed_later limits (stamp (found.run + 1) 0) (stamp (found.run + 1 + 1) 0) (tree_without_data cached_nodes) (omega arith)
          (loaded_formed word found old loaded.mark cached_nodes (seats_view loaded.seats) loaded.places c.in-Ok.ensures.loaded limits c.limits.ensures);
      known = subst (λ (n : ℕ). AreKnownNodes n limits.nodes cached_nodes loaded.places) (ends_served found version limits new.size c.served.ensures size c.limits.ensures)
          (subst (λ (n : ℕ). AreKnownNodes (data_end_by found.version found.sectors) n cached_nodes loaded.places) (sym nodes) c.in-Ok.ensures.loaded.known);
      named = c.in-Ok.ensures.parents;
      placed = c.in-Ok-start.ensures.started.rests.placed ∙ ap (λ (v : VersionNumber). log_by v new.size) (sym c.served.ensures);
      serves = λ k up. subst (λ (v : VersionNumber). ∥ IsServing v new limits.nodes (found.run + 1) cached_nodes ∥₁) (sym c.served.ensures)
          (subst (λ (n : ℕ). ∥ IsServing (served found.version) new n (found.run + 1) cached_nodes ∥₁) (sym nodes)
          (begun_serving word found old mid new loaded.mark cached_nodes (seats_view loaded.seats) loaded.places c.in-Ok.ensures.loaded c.in-Ok-start.ensures.started c.in-Ok.ensures.loads.only
          (sym c.requires.volume.size) c.requires.volume.number c.start.ensures.size k));
    }

pub returns-in-Ok-start-clause-begun : goal.returns-in-Ok-start-clause-begun
unfolding volume_state
returns-in-Ok-start-clause-begun g c = λ k.
    let word = g.D.Device.keeps_word in
    let found = c.args.found in
    let old : Log = log_of c.args.journal in
    let mid : Log = log_of c.load.new.store.journal in
    let new : Log = log_of c.start.new.journal in
    let loaded = c.in-Ok.loaded in
    let cached_nodes = loaded.table in
    let limits = c.limits.result in
    let nodes : limits.nodes ≡ found.nodes = ap (λ (l : Limits). l.nodes) c.limits.ensures in
    let are = c.in-Ok.ensures.loaded in
    let started = c.in-Ok-start.ensures.started in
    let only = c.in-Ok.ensures.loads.only in
    let size = sym c.requires.volume.size in
    let number = c.requires.volume.number in
    subst (λ (v : VersionNumber). HasBegun found old.base old.history (volume_state_by v limits (found.run + 1) cached_nodes new)) (sym c.served.ensures) (record {
      version = refl;
      run = refl;
      nodes = nodes;
      stood = subst (λ (kept : Kept). ∥ StandsOn found old.base kept ∥₁)
          (sym (kept_read word found old mid new loaded.mark cached_nodes (seats_view loaded.seats) loaded.places are started only size number c.start.ensures.size k))
          (begun_stood word found old mid new loaded.mark cached_nodes (seats_view loaded.seats) loaded.places are started only size number c.start.ensures.size k);
      moments = raised_from found old mid new.history only (c.start.ensures.safe k).moments;
      brief = begun_brief found old.base loaded.mark old.history mid.history new.history number c.requires.volume.sized are.marked (are.marks k)
          (ap (λ (log : Log). log.history) only) (c.start.ensures.safe k).brief;
      bounded = begun_bounded found old.history mid.history new.history (ap (λ (log : Log). log.history) only) (c.start.ensures.safe k).bounded;
      steps = omega (arith, started.steps k, ap (λ (log : Log). moment log.history) only);
      current = begun_current word found old mid new loaded.mark cached_nodes (seats_view loaded.seats) loaded.places are started only size number c.start.ensures.size limits nodes k;
      holds = begun_holds word found old mid new loaded.mark cached_nodes (seats_view loaded.seats) loaded.places are started only size number c.start.ensures.size limits nodes k;
    })

pub returns-in-Ok-start-clause-new : goal.returns-in-Ok-start-clause-new
unfolding volume_state
returns-in-Ok-start-clause-new g c =
    let word = g.D.Device.keeps_word in
    let found = c.args.found in
    let old : Log = log_of c.args.journal in
    let new : Log = log_of c.start.new.journal in
    let loaded = c.in-Ok.loaded in
    record {
      is_up = c.in-Ok-start.ensures.started.rests.up;
      on_device = c.start.ensures.size ∙ ap (λ (log : Log). log.size) c.in-Ok.ensures.loads.only;
      served = subst IsServed (sym c.served.ensures) (is_served found.version c.requires.volume.number);
      limits = limited_served found c.served.result c.limits.result old.size c.served.ensures c.requires.volume.size c.limits.ensures;
      formed = tree_formed c.limits.result (stamp (found.run + 1) 0) (contents new) loaded.table
          (loaded_formed word found old loaded.mark loaded.table (seats_view loaded.seats) loaded.places c.in-Ok.ensures.loaded c.limits.result c.limits.ensures);
    }

pub returns-in-Ok-start-clause-seats : goal.returns-in-Ok-start-clause-seats
unfolding volume_state
returns-in-Ok-start-clause-seats g c =
    let word = g.D.Device.keeps_word in
    let found = c.args.found in
    let old : Log = log_of c.args.journal in
    let mid : Log = log_of c.load.new.store.journal in
    let new : Log = log_of c.start.new.journal in
    let loaded = c.in-Ok.loaded in
    let are = c.in-Ok.ensures.loaded in
    record {
      count = found.run;
      counted = refl;
      of_runs = are.keeps.of_runs;
      are = λ k. sym (ap (λ (v : VersionNumber). seats_at v (contents new)) c.served.ensures
          ∙ same_seats word found old mid new loaded.mark loaded.table (seats_view loaded.seats) loaded.places are c.in-Ok-start.ensures.started c.in-Ok.ensures.loads.only
          (sym c.requires.volume.size) c.requires.volume.number c.start.ensures.size k);
    }

pub returns-in-Err-clause-refused : goal.returns-in-Err-clause-refused
returns-in-Err-clause-refused g c = λ k.
    not_loaded c.args.found (log_of c.args.journal) (log_of c.load.new.store.journal) _ c.in-Err.fault c.in-Err.ensures.loads.only c.into_device.ensures.history
    (λ is. c.in-Err.ensures.damaged k (ap (λ x. Err x) is)) c.in-Err.ensures.only

pub returns-in-Err-start-clause-refused : goal.returns-in-Err-start-clause-refused
returns-in-Err-start-clause-refused g c = λ k.
    let found = c.args.found in
    let old : Log = log_of c.args.journal in
    let mid : Log = log_of c.load.new.store.journal in
    let new : Log = log_of c.start.new.journal in
    let are = c.in-Ok.ensures.loaded in
    let only = c.in-Ok.ensures.loads.only in
    let starts = c.start.ensures.safe k in
    not_started found old mid new _ c.in-Err-start.fault only
    c.into_device-in-Err-start.ensures.history starts.moments c.in-Err-start.ensures.only
    (λ is. c.in-Err-start.ensures.memory (ap (λ x. Err x) is))
    (begun_brief found old.base c.in-Ok.loaded.mark old.history mid.history new.history c.requires.volume.number c.requires.volume.sized are.marked (are.marks k)
    (ap (λ (log : Log). log.history) only) starts.brief)
    (begun_bounded found old.history mid.history new.history (ap (λ (log : Log). log.history) only) starts.bounded)
