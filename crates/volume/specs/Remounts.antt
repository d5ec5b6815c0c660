-- A volume between two runs of a server.
use Rattle.std.specs.Prelude.{ℕ, ◌∷◌, List, ◌≡◌, ◌<◌, ◌≤◌, ◌+◌, ◌⊎◌}
use Rattle.std.specs.List.{IsAmong}
use Rattle.disk.specs.Moments.{Image, Moment, History, LeftSince, AddsOnly, at_rest, moment, seen}
use Rattle.layout.specs.Stands.{Kept, served_number}
use Rattle.volume.specs.VolumeState.{VolumeState, kept_of}
use Rattle.volume.specs.Stands.{IsBase, StandsFor, StandsForIn}

-- What a mount adds to what a crash may leave, at each moment of it: the tree and the seats that
-- the device held, in the version in which it held them and with their restart count, or in the
-- version in which it is served and with the next count.
abbrev pub AddsMount : (sectors : ℕ) → (old new : History) → Type 0
AddsMount sectors old new =
    (nodes run : ℕ) (kept : Kept) (stood : IsBase sectors nodes run kept (seen old.now))
    → AddsOnly (λ image.
    StandsForIn stood.stands.version.number sectors nodes run kept image
    ⊎ StandsForIn (served_number stood.stands.version.number) sectors nodes (run + 1) kept image)
    old new

-- A mount serves the tree and the seats that the device held, and has raised their restart count.
pub record IsFound (sectors : ℕ) (old : History) (held : VolumeState) : Type 0 where
  pub run : ℕ
  pub raised : held.run ≡ run + 1
  pub stood : StandsFor sectors held.limits.nodes run (kept_of held) (seen old.now)

-- a device as it was at one of its moments
pub data IsMomentOf (device : History) : History → Type 0 where
  Now : IsMomentOf device device
  Before : {now before : Moment} {past : List Moment}
      → IsMomentOf device (record { now = now; past = before ∷ past })
      → IsMomentOf device (record { now = before; past = past })

-- What may have become of a device since one of its moments, and from which of its moments on a
-- crash of it counts. It stays on, with what is not synced, and mounts are begun on it, each of
-- which serves or is refused; it is abandoned in the middle of that, as by a process that ends; or
-- a crash leaves an image, and the power comes back to that.
pub data Remounts (sectors : ℕ) (first : History) (since : ℕ) : History → ℕ → Type 0 where
  Stays : Remounts sectors first since first since
  Mounts : {old new : History} {from : ℕ} → Remounts sectors first since old from
      → AddsMount sectors old new → Remounts sectors first since new from
  Ends : {old new : History} {from : ℕ} → Remounts sectors first since old from
      → IsMomentOf old new → from ≤ moment new → Remounts sectors first since new from
  Stops : {old : History} {image : Image} {from : ℕ} → Remounts sectors first since old from
      → LeftSince old from image → Remounts sectors first since (at_rest image) 0

-- the image represents one of these, under this count or a greater one
abbrev pub StandsForGood : (sectors nodes run : ℕ) → (good : Kept → Type 0) → Image → Type 0
StandsForGood sectors nodes run good image =
    ∥ ((kept : Kept) × good kept × (more : ℕ) × StandsFor sectors nodes (run + more) kept image) ∥₁

-- and so does each image that a crash of a device leaves from a moment on
pub record LeavesGood (sectors nodes run : ℕ) (good : Kept → Type 0) (device : History)
    (from : ℕ) : Type 0 where
  pub within : from ≤ moment device
  pub leaves : (image : Image) → LeftSince device from image
      → StandsForGood sectors nodes run good image

-- Then each does so however often the device is mounted since: there is always a tree for the next
-- mount to find, and no mount is refused as Damaged or NotVolume.
abbrev pub StillStands : Type 0
StillStands =
    (sectors nodes run : ℕ) (good : List Kept) (first : History) (since : ℕ) (device : History)
    (from : ℕ) → LeavesGood sectors nodes run (IsAmong good) first since
    → Remounts sectors first since device from
    → LeavesGood sectors nodes run (IsAmong good) device from

-- And the next mount that serves has such a tree and such seats, under a greater restart count.
pub record ServesGood (nodes run : ℕ) (good : Kept → Type 0) (held : VolumeState) : Type 0 where
  pub kept_is : ∥ good (kept_of held) ∥₁
  pub nodes_are : held.limits.nodes ≡ nodes
  pub greater : run < held.run

abbrev pub EveryRemount : Type 0
EveryRemount =
    (sectors nodes run : ℕ) (good : List Kept) (first : History) (since : ℕ) (device : History)
    (from : ℕ) (held : VolumeState) → LeavesGood sectors nodes run (IsAmong good) first since
    → Remounts sectors first since device from → IsFound sectors device held
    → ServesGood nodes run (IsAmong good) held
