-- One sector.
use Rattle.std.specs.Prelude.{◌≡◌, ◌≤◌, ◌<◌, ◌+◌, ℕ, ⊤, Bool, List, slice_index}
use Rattle.disk.specs.Moments.{Image}
use Rattle.freemap.specs.Places.{ShowsPlaces, bit_of, mark_of}
use Rattle.disk.specs.Calls.{zero_sector}
use Rattle.layout.specs.declared.versions.Marking.{Marking}
use Rattle.layout.specs.declared.versions.Marking.TheVariants.{InSectors, AsNamed}
use Rattle.layout.specs.declared.versions.VersionNumber.{VersionNumber}
use Rattle.layout.specs.declared.versions.VersionNumber.TheVariants.{One, Two, Three}

abbrev pub AreZeroFrom : List ℕ → (from : ℕ) → Type 0
AreZeroFrom content from = (at : ℕ) → from ≤ at → slice_index content at ≡ 0

-- the first of the zero sectors before the mark of a migration: behind the seats or, in version 3,
-- which has them at its end, where the bitmap would be
abbrev pub zeros_from : VersionNumber → ℕ
zeros_from One = 145
zeros_from Two = 145
zeros_from (Three s) = 98

-- the sectors from `first` up to the mark are zero
abbrev pub AreSpare : (first : ℕ) → Image → Type 0
AreSpare first image = (n : ℕ) → first ≤ n → n < 147 → image n ≡ zero_sector

-- the bits of a sector are the places from `first` on
abbrev pub AreBits : List ℕ → List Bool → (first : ℕ) → Type 0
AreBits content places first = (i : ℕ) → i < 32768 → bit_of content i ≡ mark_of places (first + i)

-- sectors 98 and 99 have these places' bits, if they are to mark them
abbrev pub HaveBits : Marking → Image → List Bool → Type 0
HaveBits InSectors image places =
    AreBits (image 98) places 0 × AreBits (image 99) places 32768
HaveBits AsNamed image places = ⊤

-- and show them, and nothing else
abbrev pub ShowMarks : Marking → Image → List Bool → Type 0
ShowMarks InSectors image places =
    ShowsPlaces (image 98) places 0 × ShowsPlaces (image 99) places 32768
ShowMarks AsNamed image places = ⊤
