-- A call that only reads lets nothing wait.
use Rattle.std.proofs.Common.{◌≡◌, ℕ, refl, sym, subst, ◌∙◌}
use Rattle.std.specs.Prelude.{Err}
use Rattle.model_tree.specs.Trees.Tree.{Tree}
use Rattle.fs.specs.Changes.{FsChanges, deferred}
use Rattle.fs.specs.FileSystem.{FileSystem}
use Rattle.fs.specs.Reading.{reading_ending}
use Rattle.fs.specs.Refusals.{volume_fault}
use Rattle.fs.proofs.ChangeLaws.{volume_by}
use Rattle.volume.specs.Changes.{Ending, Done, Nothing, IsTree, VolumeChanges}
use Rattle.volume.specs.Reading.{ending_of_reading}
use Rattle.volume.specs.declared.fault.VolumeFault.{VolumeFault}
use Rattle.volume.specs.declared.fault.VolumeFault.TheVariants as volumes

same_reading : (fault : VolumeFault) → reading_ending {T = Unit {0}} (Err (volume_fault fault)) ≡ ending_of_reading {T = Unit {0}} (Err fault)
same_reading volumes.NoSpace = refl
same_reading volumes.Memory = refl
same_reading volumes.Device = refl
same_reading volumes.Down = refl

never_done : (fault : VolumeFault) → ending_of_reading {T = Unit {0}} (Err fault) ≡ Done → ⊥
never_done volumes.NoSpace is = cc
never_done volumes.Memory is = cc
never_done volumes.Device is = cc
never_done volumes.Down is = cc

nothing_done : Nothing ≡ Done → ⊥
nothing_done is = cc

only_reads : (keeps_word : Type 0) (old new : FileSystem) (before after : ℕ) (tree : Tree) (ending : Ending) → (ending ≡ Done → ⊥) → new.changes ≡ old.changes
    → new.defers ≡ old.defers → new.waits ≡ old.waits → VolumeChanges keeps_word (IsTree old.volume tree) old.volume new.volume before after ending
    → FsChanges keeps_word (IsTree old.volume tree) old new before after ending
only_reads keeps_word old new before after tree ending not_done counts mode same changes = record {
  volume_changes = volume_by keeps_word (IsTree old.volume tree) (deferred old.defers (IsTree old.volume tree))
      (λ kept lasting is. is.1) old.volume new.volume before after ending changes;
  no_count = λ failed. counts;
  lets_wait = record {
    mode = mode;
    waits_on = λ waits. same ∙ waits;
    at_once = λ at. same;
    failed = λ failed. same;
    waits = λ keeps done defers kept is. absurd (not_done done);
  };
}

pub reading_fails : (keeps_word : Type 0) (old new : FileSystem) (before after : ℕ) (tree : Tree) (fault : VolumeFault) → new.changes ≡ old.changes
    → new.defers ≡ old.defers → new.waits ≡ old.waits → VolumeChanges keeps_word (IsTree old.volume tree) old.volume new.volume before after (ending_of_reading {T = Unit {0}} (Err fault))
    → FsChanges keeps_word (IsTree old.volume tree) old new before after (reading_ending {T = Unit {0}} (Err (volume_fault fault)))
reading_fails keeps_word old new before after tree fault counts mode same changes =
    subst (FsChanges keeps_word (IsTree old.volume tree) old new before after) (sym (same_reading fault))
    (only_reads keeps_word old new before after tree _ (never_done fault) counts mode same changes)

pub reading_goes : (keeps_word : Type 0) (old new : FileSystem) (before after : ℕ) (tree : Tree) → new.changes ≡ old.changes
    → new.defers ≡ old.defers → new.waits ≡ old.waits → VolumeChanges keeps_word (IsTree old.volume tree) old.volume new.volume before after Nothing
    → FsChanges keeps_word (IsTree old.volume tree) old new before after Nothing
reading_goes keeps_word old new before after tree counts mode same changes =
    only_reads keeps_word old new before after tree Nothing nothing_done counts mode same changes
