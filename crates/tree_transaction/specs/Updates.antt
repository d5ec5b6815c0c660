-- Updates of distinct sectors.
use Rattle.std.specs.Prelude.{◌≡◌, ◌≢◌, ◌≤◌, ◌<◌, ◌==◌, [], ◌∷◌, if◌then◌else◌}
use Rattle.std.specs.Prelude.{ℕ, zero, suc, List, length, set, Option, Some, None}
use Rattle.disk.specs.declared.update.Update.{Update}
use Rattle.disk.specs.Moments.{Image, applied}

-- the target of update i
abbrev pub target_of : List Update → ℕ → ℕ
target_of [] i = 0
target_of (update ∷ updates) zero = update.target
target_of (update ∷ updates) (suc i) = target_of updates i

-- and what it holds
abbrev pub content_of : List Update → ℕ → List ℕ
content_of [] i = []
content_of (update ∷ updates) zero = update.content
content_of (update ∷ updates) (suc i) = content_of updates i

abbrev pub HasNoUpdate : (target : ℕ) → List Update → Type 0
HasNoUpdate target updates = (i : ℕ) → i < length updates → target_of updates i ≢ target

-- the update at this place is the first one of the sector
pub record IsFirst (updates : List Update) (target place : ℕ) : Type 0 where
  pub within : place < length updates
  pub there : target_of updates place ≡ target
  pub before : (i : ℕ) → i < place → target_of updates i ≢ target

abbrev pub UpdatesApart : List Update → Type 0
UpdatesApart [] = Unit {0}
UpdatesApart (update ∷ updates) = HasNoUpdate update.target updates × UpdatesApart updates

-- with this update in place of the one of its sector, or after the others
abbrev pub updated : List Update → Update → List Update
updated [] update = update ∷ []
updated (first ∷ updates) update =
    if first.target == update.target then update ∷ updates else first ∷ updated updates update

-- each with the sector of the inode that it is to hold, if there is one
abbrev pub encoded : List Update → List (Option (List ℕ)) → List Update
encoded [] pending = []
encoded (update ∷ updates) [] = update ∷ updates
encoded (update ∷ updates) (None ∷ pending) = update ∷ encoded updates pending
encoded (update ∷ updates) (Some content ∷ pending) =
    record { target = update.target; content = content } ∷ encoded updates pending

-- with the sector of an inode in the update at a place, if there is one
abbrev pub with_sector : List Update → ℕ → Option (List ℕ) → List Update
with_sector updates i None = updates
with_sector updates i (Some content) =
    set updates i (record { target = target_of updates i; content = content })

-- each is of a sector from `first` on, and below `end`
abbrev pub AreBetween : (first end : ℕ) → List Update → Type 0
AreBetween first end updates = (i : ℕ) → i < length updates
    → (first ≤ target_of updates i) × (target_of updates i < end)

-- the updates of a whole transaction: of sectors after the journal's, below the volume's size, and
-- all distinct
pub record AreTreeUpdates (size : ℕ) (updates : List Update) : Type 0 where
  pub between : AreBetween 98 size updates
  pub apart : UpdatesApart updates

-- whatever is under the updates, only one sector has changed
abbrev pub ChangeOne : (old new : List Update) → (sector : ℕ) → Type 0
ChangeOne old new sector = (image : Image) (n : ℕ)
    → n ≢ sector → applied new image n ≡ applied old image n
