-- What an image represents: what a set commit record names counts as copied to its targets.
use Rattle.std.specs.Prelude.{◌≡◌, ◌≤◌, ◌<◌, ◌⊎◌, ℕ, List, length}
use Rattle.disk.specs.Moments.{Image}
use Rattle.journal.specs.declared.layout.LogArea.{LogArea}
use Rattle.journal.specs.Layout.{first_target, AreNamed, gate, through}

-- a sector that the journal keeps for its caller, below the end of what transactions write
abbrev pub IsOfCaller : ℕ → ℕ → Type 0
IsOfCaller end n = ((n ≡ 0) ⊎ (first_target ≤ n)) × (n < end)

-- two images with the same kept sectors
abbrev pub AreSame : ℕ → Image → Image → Type 0
AreSame end a b = (n : ℕ) → IsOfCaller end n → a n ≡ b n

-- the gate of an image has a form, and through it the image reads as this one
pub record Settles (area : LogArea) (image settled : Image) : Type 0 where
  pub to : List ℕ
  pub few : length to ≤ area.sectors
  pub fit : AreNamed area to
  pub gate_is : image 1 ≡ gate to
  pub same : AreSame area.end settled (through area to image)

-- an image settles to all that this one settles to
abbrev pub SettlesAs : LogArea → Image → Image → Type 0
SettlesAs area first image =
    (settled : Image) → Settles area first settled → Settles area image settled
