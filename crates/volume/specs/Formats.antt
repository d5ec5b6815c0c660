-- What making a new volume leaves.
use Rattle.std.specs.Prelude.{ℕ, None, Result, OnOk, ◌≡◌, ◌≤◌, ◌+◌, ◌-◌, ◌⊎◌}
use Rattle.disk.specs.Calls.{zero_sector}
use Rattle.disk.specs.declared.update.Update.{Update}
use Rattle.disk.specs.Moments.{Image, History, AddsOnly, Left, moment}
use Rattle.inode.specs.declared.node.Form.TheVariants.{Two}
use Rattle.inode.specs.Encoding.{inode_sector}
use Rattle.layout.specs.FreshLaws.{root_fields}
use Rattle.layout.specs.CachedNodes.{node_sector}
use Rattle.journal.specs.Settled.{Settles}
use Rattle.geometry.specs.Places.{Fits, data_sectors}
use Rattle.geometry.specs.declared.geometry.Geometry.{Geometry}
use Rattle.layout.specs.Stands.{TreeStands, log_by, version_by, free_seats}
use Rattle.layout.specs.declared.versions.VersionNumber.{VersionNumber}
use Rattle.model_tree.specs.Trees.Fresh.{fresh_tree}

-- the root at place 0, the only place of a new volume that is not zero
abbrev pub root_update : Update
root_update = record { target = node_sector 0; content = inode_sector Two root_fields }

-- the new volume, of this version: it has an empty root and was never mounted
abbrev pub IsFresh : VersionNumber → (sectors nodes : ℕ) → Image → Type 0
IsFresh version sectors nodes image =
    ∥ ((base : Image) × Settles (log_by version sectors) image base
    × TreeStands (version_by version None (free_seats version)) sectors nodes base 0
    fresh_tree) ∥₁

-- what a format adds to what a crash may leave: no volume, or the new one
abbrev pub AddsFresh : VersionNumber → (sectors nodes : ℕ) → (old new : History) → Type 0
AddsFresh version sectors nodes old new =
    AddsOnly (λ image. (image 0 ≡ zero_sector) ⊎ IsFresh version sectors nodes image) old new

-- a crash leaves the new volume, and nothing else
abbrev pub LeavesFresh : VersionNumber → (sectors nodes : ℕ) → History → Type 0
LeavesFresh version sectors nodes history =
    (image : Image) → Left history.now image → IsFresh version sectors nodes image

-- In version 3: a volume of this geometry may be on a device of this size
pub record FitsDevice (size : ℕ) (g : Geometry) : Type 0 where
  pub sectors : g.sectors ≡ size
  pub fits : Fits g

-- What a format costs then, however it ends: at most one write of each sector outside of the data
-- region, a second one of sector 0, and three syncs. If it succeeds: the same without the sectors of
-- the log.
pub record IsBrief {T E : Type 0} (g : Geometry) (old new : History) (result : Result T E)
    : Type 0 where
  pub brief : moment new ≤ moment old + (g.sectors - data_sectors g + 4)
  pub ok : OnOk result (moment new ≤ moment old + (g.sectors - data_sectors g - g.log + 4))
