-- What an image that a crash leaves represents: what the journal makes of it is the volume.
use Rattle.std.specs.Prelude.{ℕ, ◌≡◌}
use Rattle.disk.specs.Moments.{Image}
use Rattle.journal.specs.Settled.{Settles}
use Rattle.layout.specs.Stands.{Kept, StandsAs}

-- the sectors of a volume that was mounted `run` times
abbrev pub VolumeStands : (sectors nodes : ℕ) → Image → (run : ℕ) → Kept → Type 0
VolumeStands sectors nodes image run kept = StandsAs sectors nodes image run kept

-- what an image settles to, and what that holds
pub record IsBase (sectors nodes run : ℕ) (kept : Kept) (image : Image) : Type 0 where
  pub base : Image
  pub stands : VolumeStands sectors nodes base run kept
  -- the log is where the version has it
  pub settles : Settles (stands.version.log sectors) image base

-- An image that a crash left represents this tree and these seats.
abbrev pub StandsFor : (sectors nodes run : ℕ) → Kept → Image → Type 0
StandsFor sectors nodes run kept image = ∥ IsBase sectors nodes run kept image ∥₁

-- and in the version of this number
abbrev pub StandsForIn : (number sectors nodes run : ℕ) → Kept → Image → Type 0
StandsForIn number sectors nodes run kept image =
    ∥ ((is : IsBase sectors nodes run kept image) × (is.stands.version.number ≡ number)) ∥₁

-- The law: an image represents one tree with its seats, one number of nodes and one restart count
pub record IsOne (nodes run other_nodes other_run : ℕ) (kept other : Kept) : Type 0 where
  pub kept_is : kept ≡ other
  pub nodes_are : nodes ≡ other_nodes
  pub run_is : run ≡ other_run

abbrev pub OneStands : Type 0
OneStands = (sectors nodes run other_nodes other_run : ℕ) (kept other : Kept) (image : Image)
    → StandsFor sectors nodes run kept image → StandsFor sectors other_nodes other_run other image
    → IsOne nodes run other_nodes other_run kept other
