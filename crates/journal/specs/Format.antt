-- What a format writes.
use Rattle.std.specs.Prelude.{◌≡◌, ◌≤◌, ◌<◌, ◌⊎◌, ◌==◌, ◌+◌, ◌-◌, ◌&&◌, ℕ, Bool, List, map, filter, length, not, leb, ltb, Result, OnOk, if◌then◌else◌}
use Rattle.std.specs.List.{range_with_len}
use Rattle.std.specs.declared.ops.Range.{Range}
use Rattle.disk.specs.declared.update.Update.{Update}
use Rattle.disk.specs.Moments.{Image, History, AddsOnly, Left, applied, moment}
use Rattle.disk.specs.Calls.{zero_sector}
use Rattle.journal.specs.declared.layout.LogArea.{LogArea}
use Rattle.journal.specs.Settled.{Settles}

-- zeros, with this sector 0 and these updates
abbrev pub formatted : List ℕ → List Update → Image
formatted sector0 updates = applied updates (λ n. if n == 0 then sector0 else zero_sector)

-- sector n of zeros with the updates
abbrev pub fresh_at : List Update → ℕ → Update
fresh_at updates n = record { target = n; content = applied updates (λ _. zero_sector) n }

-- these at every sector but 0, by rising number
abbrev pub fresh : ℕ → List Update → List Update
fresh size updates = map (fresh_at updates) (range_with_len 1 (size - 1))

-- at every moment since, an image left is one left before, or has a sector 0 of zeros, or is
-- formatted
abbrev pub AddsFormats : LogArea → List ℕ → List Update → History → History → Type 0
AddsFormats area sector0 updates old new =
    AddsOnly (λ image. (image 0 ≡ zero_sector) ⊎ Settles area image (formatted sector0 updates))
    old new

-- every image that a crash leaves now is formatted
abbrev pub IsFormatted : LogArea → List ℕ → List Update → History → Type 0
IsFormatted area sector0 updates new = (image : Image) → Left new.now image
    → Settles area image (formatted sector0 updates)

-- whether a range has a number
abbrev pub is_in : Range ℕ → ℕ → Bool
is_in range n = leb range.start n && ltb n range.end

-- the sectors of the log
abbrev pub payload_of : LogArea → Range ℕ
payload_of area = record { start = area.first; end = area.first + area.sectors }

-- whether a format without a range writes a sector: neither the range nor the log has it
abbrev pub is_written : LogArea → Range ℕ → ℕ → Bool
is_written area unread n = not (is_in unread n) && not (is_in (payload_of area) n)

-- what it writes to every sector but 0, by rising number
abbrev pub fresh_outside : LogArea → Range ℕ → ℕ → List Update → List Update
fresh_outside area unread size updates =
    filter (λ update. is_written area unread update.target) (fresh size updates)

-- a range that a format may leave as it is: on the device, behind sector 0 and the commit record
pub record MayStayUnread (size : ℕ) (unread : Range ℕ) : Type 0 where
  pub behind : 2 ≤ unread.start
  pub on_device : unread.end ≤ size

-- every sector outside of the range is formatted
abbrev pub IsFormattedOutside : Range ℕ → List ℕ → List Update → Image → Type 0
IsFormattedOutside unread sector0 updates base = (n : ℕ)
    → (n < unread.start) ⊎ (unread.end ≤ n) → base n ≡ formatted sector0 updates n

-- an image settles to some base that is formatted outside of the range
pub record SettlesOutside (area : LogArea) (unread : Range ℕ) (sector0 : List ℕ)
    (updates : List Update) (image : Image) : Type 0 where
  pub base : Image
  pub is_formatted : IsFormattedOutside unread sector0 updates base
  pub settles : Settles area image base

-- at every moment since, an image left is one left before, or has a sector 0 of zeros, or settles
-- to a base that is formatted outside of the range
abbrev pub AddsFormatsOutside : LogArea → Range ℕ → List ℕ → List Update → History → History
    → Type 0
AddsFormatsOutside area unread sector0 updates old new =
    AddsOnly (λ image. (image 0 ≡ zero_sector)
    ⊎ SettlesOutside area unread sector0 updates image) old new

-- every image that a crash leaves now settles to such a base
abbrev pub LeavesFormattedOutside : LogArea → Range ℕ → List ℕ → List Update → History → Type 0
LeavesFormattedOutside area unread sector0 updates new = (image : Image) → Left new.now image
    → SettlesOutside area unread sector0 updates image

-- What such a format costs. However it ends: at most one write for each sector outside of the
-- range, a second one of sector 0, and three syncs. If it succeeds: two writes of sector 0, one of
-- each other sector that neither the range nor the log has, and three syncs.
pub record CostsOutside {T E : Type 0} (area : LogArea) (unread : Range ℕ) (size : ℕ)
    (updates : List Update) (old new : History) (result : Result T E) : Type 0 where
  pub brief : moment new ≤ moment old + (size - (unread.end - unread.start) + 4)
  pub ok : OnOk result
      (moment new ≡ moment old + (length (fresh_outside area unread size updates) + 5))
