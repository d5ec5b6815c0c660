-- The place of the journal on a device, and the form of its gate.
--
--   sector 0                       the caller's, written by itself
--   sector 1                       the gate
--   from 98 to below area.end      the caller's, written by transactions
--   area.sectors from area.first   the payload, in front of these or behind them
use Rattle.std.specs.Prelude.{◌≡◌, ◌≢◌, ◌≤◌, ◌<◌, ◌==◌, ◌+◌, ◌*◌, ◌^◌, ◌-◌, ℕ, max, true, List, [], ◌∷◌, ◌++◌, length, replicate, flat_map, map, drop, All, AllPairs, if◌then◌else◌}
use Rattle.std.specs.List.{range_with_len}
use Rattle.byteorder.specs.Endian.{big_bytes, big_number}
use Rattle.disk.specs.declared.update.Update.{Update}
use Rattle.disk.specs.Moments.{Image}
use Rattle.disk.specs.Calls.{zero_sector}
use Rattle.journal.specs.declared.layout.LogArea.{LogArea}

-- the first sector that a transaction may write
abbrev pub first_target : ℕ
first_target = 98

-- how many sectors one transaction may write: as many as the payload has, or 48 if a gate names
-- each target once
abbrev pub max_updates : LogArea → ℕ
max_updates area = if area.once then 48 else area.sectors

-- the log between the gate and the sectors that transactions write, up to the device's end
abbrev pub log_at_start : ℕ → LogArea
log_at_start size = record { first = 2; sectors = 96; end = size; once = true }

-- A log is behind the gate, and has no sector that a transaction may write: it is behind their end,
-- or in front of the first of them. Its sectors have numbers, one gate can name them all, and they
-- are room for one transaction.
pub record IsArea (area : LogArea) : Type 0 where
  pub behind : 2 ≤ area.first
  pub beside : area.first < area.end → area.first + area.sectors ≤ first_target
  pub numbers : area.first + area.sectors < 2 ^ 32
  pub few : area.sectors ≤ 1022
  pub room : 48 ≤ area.sectors

-- how many sectors a device needs for it
abbrev pub area_end : LogArea → ℕ
area_end area = max area.end (area.first + area.sectors)

-- sectors that a transaction may write: from the first one on, below the end, and all different
pub record AreTargets (end : ℕ) (to : List ℕ) : Type 0 where
  pub from_first : All (λ t. first_target ≤ t) to
  pub on_device : All (λ t. t < end) to
  pub apart : AllPairs (λ a b. a ≢ b) to

-- sectors that a gate may name: the same, but one may occur more than once, unless each occurs once
pub record AreNamed (area : LogArea) (to : List ℕ) : Type 0 where
  pub from_first : All (λ t. first_target ≤ t) to
  pub on_device : All (λ t. t < area.end) to
  pub apart : area.once ≡ true → AllPairs (λ a b. a ≢ b) to

-- numbers one after the other, each in four bytes, the highest first
abbrev pub words : List ℕ → List ℕ
words numbers = flat_map (big_bytes 4) numbers

-- a gate's words: 1, how many targets, and the targets
abbrev pub gate_words : List ℕ → List ℕ
gate_words to = 1 ∷ length to ∷ to

-- the gate sector: closed, all zeros; open, its words and zeros after them
unfoldable pub gate : List ℕ → List ℕ
gate [] = zero_sector
gate (target ∷ targets) =
    words (gate_words (target ∷ targets))
    ++ replicate (4096 - 4 * length (gate_words (target ∷ targets))) 0

-- the place of sector n behind these targets, if it was at `found` in front of them: the last of
-- several counts
abbrev pub home_from : ℕ → List ℕ → ℕ → ℕ → ℕ
home_from found [] place n = found
home_from found (target ∷ targets) place n =
    home_from (if n == target then place else found) targets (place + 1) n

-- the place of sector n while the commit record is set: its content is in the payload if it is a
-- target
abbrev pub home : List ℕ → ℕ → ℕ → ℕ
home to place n = home_from n to place n

-- the image as it reads through the gate
abbrev pub through : LogArea → List ℕ → Image → Image
through area to image = λ n. image (home to area.first n)

-- the sectors that updates write
abbrev pub targets : List Update → List ℕ
targets [] = []
targets (update ∷ updates) = update.target ∷ targets updates

-- the updates' contents, as updates of the sectors from a place on
abbrev pub placed : ℕ → List Update → List Update
placed place [] = []
placed place (update ∷ updates) =
    (record { target = place; content = update.content }) ∷ placed (place + 1) updates

-- what copies an image's sectors from a place on to these targets
abbrev pub copies : Image → ℕ → List ℕ → List Update
copies image place [] = []
copies image place (target ∷ targets) =
    (record { target = target; content = image place }) ∷ copies image (place + 1) targets

-- a gate sector names these targets
pub record NamesTargets (area : LogArea) (sector : List ℕ) (to : List ℕ) : Type 0 where
  pub few : length to ≤ area.sectors
  pub fit : AreNamed area to
  pub gate_is : sector ≡ gate to

-- the targets that a gate sector's words encode: the second word's number of them, from the third
-- on
abbrev pub words_in : List ℕ → List ℕ
words_in sector = map (λ i. big_number 4 (drop (8 + 4 * i) sector))
    (range_with_len 0 (big_number 4 (drop 4 sector)))
