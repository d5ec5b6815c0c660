-- What a device holds, and what a crash may leave of it.
--
-- A sector is never torn. After a crash each sector, by itself, holds what it held at the last
-- successful sync or any content written to it since. A crash within a write or a sync falls under
-- the same rule: it is one at the moment before the call or after it.
use Rattle.std.specs.Prelude.{◌≡◌, ◌≤◌, ◌<◌, ◌⊎◌, ◌==◌, ℕ, List, [], ◌∷◌, length, All, if◌then◌else◌}
use Rattle.disk.specs.declared.update.Update.{Update}

-- what a sector holds: 4,096 bytes
pub record IsSector (content : List ℕ) : Type 0 where
  pub whole : length content ≡ 4096
  pub bytes : All (λ byte. byte < 256) content

-- every sector's content by its number; past the end of a device nobody asks
abbrev pub Image : Type 0
Image = ℕ → List ℕ

-- the image with one sector changed
abbrev pub put : Image → Update → Image
put image update = λ n. if n == update.target then update.content else image n

-- the image with updates applied, the first of the list first
abbrev pub applied : List Update → Image → Image
applied [] image = image
applied (update ∷ updates) image = applied updates (put image update)

-- what is on the disk for good, and what was written since, the newest first
pub record Moment : Type 0 where
  pub fixed : Image
  pub unsynced : List Update

-- some update of the list gives sector n this content
abbrev pub Among : List Update → ℕ → List ℕ → Type 0
Among [] n content = ⊥
Among (update ∷ updates) n content =
    ((update.target ≡ n) × (update.content ≡ content)) ⊎ Among updates n content

-- the contents that the list gives sector n, in the list's order
abbrev pub written_to : ℕ → List Update → List (List ℕ)
written_to n [] = []
written_to n (update ∷ updates) =
    if n == update.target then update.content ∷ written_to n updates else written_to n updates

-- after a crash at this moment sector n may hold this
abbrev pub SectorMayHold : Moment → ℕ → List ℕ → Type 0
SectorMayHold m n content = (content ≡ m.fixed n) ⊎ Among m.unsynced n content

-- a crash at this moment may leave this image
abbrev pub Left : Moment → Image → Type 0
Left m image = (n : ℕ) → SectorMayHold m n (image n)

-- what a read gives: the newest content of each sector
abbrev pub newest : List Update → Image → Image
newest [] image = image
newest (update ∷ updates) image = put (newest updates image) update

abbrev pub seen : Moment → Image
seen m = newest m.unsynced m.fixed

-- the moments so far, the newest first; a past moment's number is how many were before it
pub record History : Type 0 where
  pub now : Moment
  pub past : List Moment

-- the number of the present moment
abbrev pub moment : History → ℕ
moment h = length h.past

-- a write makes a moment
abbrev pub wrote : Update → History → History
wrote update h = record {
  now = record { fixed = h.now.fixed; unsynced = update ∷ h.now.unsynced };
  past = h.now ∷ h.past;
}

-- a successful sync makes a moment, and fixes what a read gives
abbrev pub synced : History → History
synced h = record { now = record { fixed = seen h.now; unsynced = [] }; past = h.now ∷ h.past }

-- some past moment from number t on may leave this image
abbrev pub LeftWithin : List Moment → ℕ → Image → Type 0
LeftWithin [] t image = ⊥
LeftWithin (m ∷ ms) t image = ((t ≤ length ms) × Left m image) ⊎ LeftWithin ms t image

-- a crash at some moment from number t on may leave this image, or might have
abbrev pub LeftSince : History → ℕ → Image → Type 0
LeftSince h t image = Left h.now image ⊎ LeftWithin h.past t image

-- between two histories of a device the moments that came add only images with P
pub record AddsOnly (P : Image → Type 0) (old new : History) : Type 0 where
  pub later : moment old ≤ moment new
  pub added : (t : ℕ) (image : Image) → t ≤ moment old → LeftSince new t image
      → LeftSince old t image ⊎ P image

-- a device that was just made, or whose power came back: all that it holds is fixed
abbrev pub at_rest : Image → History
at_rest image = record { now = record { fixed = image; unsynced = [] }; past = [] }
