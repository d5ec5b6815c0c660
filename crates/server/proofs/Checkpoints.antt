-- A checkpoint between two calls: the machine is as it was, and a crash leaves what it might have left.
use Rattle.std.proofs.Common.{◌≡◌, ◌⊎◌, ℕ, Bool, List, [], ◌∷◌, Result, Ok, Err, refl, sym, ap, ap₂, ◌∙◌, subst, inl, inr, true, false, true≢false, ⊎_elim}
use Rattle.std.specs.List.{IsAmong}
use Rattle.std.specs.Prelude.{map}
use Rattle.disk.specs.Moments.{History, AddsOnly}
use Rattle.disk.proofs.MomentLemmas.{AddsOnly-weaken}
use Rattle.compound.specs.States.{Agrees, shared}
use Rattle.fs.specs.Changes.{FsChanges, FsFlushes, fs_ending}
use Rattle.fs.specs.FileSystem.{FileSystem}
use Rattle.fs.specs.declared.fault.FsFault.{FsFault}
use Rattle.fs.specs.declared.fault.FsFault.TheVariants as faults
use Rattle.volume.proofs.PrefixLaws.{among_more}
use Rattle.layout.specs.Stands.{Kept}
use Rattle.volume.specs.Changes.{Stays, LeavesKept, LeavesOnCrash}
use Rattle.volume.specs.VolumeState.{VolumeState, MakesAtMost, call_cost, IsSameVolume, IsRecent, KeepsRecent, AddsKept, StandsForOne, MayAdd, kept_of}
use Rattle.model_tree.specs.Trees.Keyed.{Keyed}
use Rattle.model.specs.Sessions.Opens.{Opens}
use Rattle.model.specs.Server.Runs.{Serving, Event, Left}
use Rattle.model_tree.specs.Seats.Seats.{Seats}
use Rattle.model.specs.Sessions.Session.{Table}
use Rattle.model_tree.specs.Trees.Tree.{Tree}
use Rattle.model.specs.Server.World.{World, Connection}
use Rattle.server.specs.Seen.{Seen, MayKeepDuring, IsReady, kept_by, left_of, Checkpoints, Breaks, FlushesAll}
use Rattle.server.specs.Views.{world_by, serving_by}
use Rattle.server.proofs.Pairs.{among_kept, among_left, recent_left}
use Rattle.server.proofs.Moves.{broken_leaves, leaves_now}
use Rattle.server.proofs.ServedTurns.{broken}
use Rattle.server.proofs.Turning.{agrees_on}

-- whichever event it is taken for
keeping_moments : (world : World) (waits : Bool) (held : VolumeState) (recent : List Left) (new : History) → IsRecent held (map kept_by recent) → AddsKept held (kept_of held) new → (event : Event)
    → AddsOnly (StandsForOne held (MayKeepDuring (serving_by world recent held.is_down waits) event)) held.history new
keeping_moments world waits held recent new is adds event = AddsOnly-weaken
    (StandsForOne held (MayAdd (map kept_by recent) (kept_of held))) (StandsForOne held (MayKeepDuring (serving_by world recent held.is_down waits) event)) held.history new
    (λ image found. (
      found.0,
      inl (⊎_elim
          (λ (stays : IsAmong (map kept_by recent) found.0). among_left recent found.0 stays)
          (λ (same : found.0 ≡ kept_of held). subst (λ (kept : Kept). IsAmong recent (left_of kept)) (sym same) (among_left recent (kept_of held) is.newest))
          found.1),
      found.2,
    ))
    (adds (map kept_by recent) is)

-- The table agrees with the volume, as before, unless that is down

pub agrees_still : {T : Type 0} (keeps_word : Type 0) (old new : FileSystem) (before after : ℕ) (table : Table) (result : Result T FsFault)
    → FsChanges keeps_word (Stays old.volume) old new before after (fs_ending result) → keeps_word → Agrees old table → new.volume.is_down ≡ false → Agrees new table
agrees_still keeps_word old new before after table (Ok done) changes keeps agrees up =
    agrees_on old new table changes.volume_changes.same.run (changes.volume_changes.ends.seats keeps (kept_of old.volume) false (false, (refl, refl), refl)) agrees
agrees_still keeps_word old new before after table (Err faults.Device) changes keeps agrees up =
    absurd (true≢false (sym changes.volume_changes.ends.down ∙ up))
agrees_still keeps_word old new before after table (Err fault) changes keeps agrees up = agrees_on old new table changes.volume_changes.same.run (ap (λ (h : VolumeState). h.seats) changes.volume_changes.ends) agrees

module _ (old new : FileSystem) (table : Table) (opens : Opens) (connections : Keyed Connection)
    (same : IsSameVolume old.volume new.volume) (changes : new.changes ≡ old.changes) where
  -- all except the tree
  pub keeps_world : (tree : Tree) → (let with_tree : FileSystem → World = λ files. record (world_by (shared files table opens) connections) { tree = tree } in with_tree new ≡ with_tree old)
  keeps_world tree = broken (shared old table opens) (shared new table opens) connections connections same changes refl refl tree

  pub kept_world : new.volume.tree ≡ old.volume.tree → world_by (shared new table opens) connections ≡ world_by (shared old table opens) connections
  kept_world trees = keeps_world new.volume.tree ∙ ap (λ (tree : Tree). record (world_by (shared old table opens) connections) { tree = tree }) trees

module _ (old new : FileSystem) (table : Table) (opens : Opens) (connections : Keyed Connection)
    (same : IsSameVolume old.volume new.volume) (changes : new.changes ≡ old.changes) (waits_same : new.waits ≡ old.waits) where
  abbrev serving_of : FileSystem → List Left → Serving
  serving_of files recent = serving_by (world_by (shared files table opens) connections) recent files.volume.is_down files.waits

  abbrev Keeps : (recent left : List Left) → Type 0
  Keeps recent left =
      Checkpoints (record { serving = serving_of old recent; volume = old.volume }) (record { serving = serving_of new left; volume = new.volume })

  -- if it is done
  pub checkpointed : new.volume.tree ≡ old.volume.tree → old.volume.is_down ≡ false → new.volume.is_down ≡ false → KeepsRecent old.volume new.volume
      → AddsKept old.volume (kept_of old.volume) new.volume.history → MakesAtMost (call_cost old.volume) old.volume new.volume → (recent : List Left) → IsReady old.volume recent → Keeps recent recent
  checkpointed trees up still_up keeps adds brief recent ready = record {
    serving =
        ap (λ (world : World). serving_by world recent new.volume.is_down new.waits) (kept_world old new table opens connections same changes trees)
        ∙ ap₂ (serving_by (world_by (shared old table opens) connections) recent) (still_up ∙ sym up) waits_same;
    moves = λ event. record {
      moments = keeping_moments (world_by (shared old table opens) connections) old.waits old.volume recent new.volume.history ready adds event;
      leaves = leaves_now new.volume recent (keeps (map kept_by recent) ready).leaves;
      same = same;
      brief = brief;
    };
    ready = keeps (map kept_by recent) ready;
  }

  -- if the device fails in it
  pub checkpoint_fails : old.volume.is_down ≡ false → new.volume.is_down ≡ true → AddsKept old.volume (kept_of old.volume) new.volume.history → MakesAtMost (call_cost old.volume) old.volume new.volume
      → (event : Event) (recent : List Left) → IsReady old.volume recent → (left : List Left)
      × Breaks (record { serving = serving_of old recent; volume = old.volume }) event (record {
        serving = serving_by (record (world_by (shared new table opens) connections) { tree = old.volume.tree }) left new.volume.is_down new.waits;
        volume = new.volume;
      })
  checkpoint_fails up down adds brief event recent ready = (
    left_of (kept_of old.volume) ∷ recent,
    record {
      fails = record {
        up = up;
        world = keeps_world old new table opens connections same changes old.volume.tree;
        down = down;
        waits = waits_same;
        no_others = λ one among. inl (⊎_elim
            (λ (first : one ≡ left_of (kept_of old.volume)). subst (IsAmong recent) (sym first) (among_left recent (kept_of old.volume) ready.newest))
            (λ (rest : IsAmong recent one). rest)
            (among_more (left_of (kept_of old.volume)) recent one among));
      };
      moves = record {
        moments = keeping_moments (world_by (shared old table opens) connections) old.waits old.volume recent new.volume.history ready adds event;
        leaves = broken_leaves old.volume new.volume (kept_of old.volume) recent ready adds same;
        same = same;
        brief = brief;
      };
    },
  )

-- A flush of what waits

pub agrees_flushed : (keeps_word : Type 0) (old new : FileSystem) (before after : ℕ) (table : Table) (result : Result (Unit {0}) FsFault)
    → FsFlushes keeps_word old new before after result → keeps_word → Agrees old table → new.volume.is_down ≡ false → Agrees new table
agrees_flushed keeps_word old new before after table (Ok done) flushes keeps agrees up =
    agrees_on old new table flushes.volume_changes.same.run (flushes.volume_changes.ends.seats keeps (kept_of old.volume) true refl) agrees
agrees_flushed keeps_word old new before after table (Err faults.Device) flushes keeps agrees up =
    absurd (true≢false (sym flushes.volume_changes.ends.down ∙ up))
agrees_flushed keeps_word old new before after table (Err fault) flushes keeps agrees up =
    agrees_on old new table flushes.volume_changes.same.run (ap (λ (h : VolumeState). h.seats) flushes.volume_changes.ends) agrees

module _ (old new : FileSystem) (table : Table) (opens : Opens) (connections : Keyed Connection)
    (same : IsSameVolume old.volume new.volume) (changes : new.changes ≡ old.changes) where
  abbrev seen_of : FileSystem → List Left → Seen
  seen_of files recent = record {
    serving = serving_by (world_by (shared files table opens) connections) recent files.volume.is_down files.waits;
    volume = files.volume;
  }

  -- if it is done
  pub flushed_all : new.volume.tree ≡ old.volume.tree → table.seats ≡ old.volume.seats → old.volume.is_down ≡ false → new.volume.is_down ≡ false → new.waits ≡ false
      → AddsKept old.volume (kept_of old.volume) new.volume.history → MakesAtMost (call_cost old.volume) old.volume new.volume → LeavesKept old.volume new.volume (kept_of old.volume) true
      → (recent : List Left) → IsReady old.volume recent → (after : List Left) × FlushesAll (seen_of old recent) (seen_of new after)
  flushed_all trees seated up still_up none_waits adds brief leaves recent ready =
      let left = leaves (map kept_by recent) ready in (
        map left_of left.0,
        record {
          flushes = record {
            up = up;
            world = kept_world old new table opens connections same changes trees;
            still_up = still_up;
            none_waits = none_waits;
            newest = λ one among. ap left_of (only left.0 left.1 one among)
                ∙ ap (λ (s : Seats). let l : Left = record { tree = old.volume.tree; seats = s } in l) (sym seated);
          };
          moves = λ event. record {
            moments = keeping_moments (world_by (shared old table opens) connections) old.waits old.volume recent new.volume.history ready adds event;
            leaves = leaves_now new.volume (map left_of left.0) (recent_left new.volume left.0 left.1.ready).leaves;
            same = same;
            brief = brief;
          };
          ready = recent_left new.volume left.0 left.1.ready;
        },
      )
    where
      only : (left : List Kept) → LeavesOnCrash new.volume (kept_of old.volume) true (map kept_by recent) left → (one : Left) → IsAmong (map left_of left) one → kept_by one ≡ kept_of old.volume
      only left leaves_it one among = leaves_it.durable refl (kept_by one) (among_kept left one among)

-- a volume that was up is refused for the device
pub only_device : (fault : FsFault) → (fault ≡ faults.Device) ⊎ (fault ≡ faults.Down) → (fault ≡ faults.Down → ⊥) → fault ≡ faults.Device
only_device fault (inl device) up = device
only_device fault (inr down) up = absurd (up down)
