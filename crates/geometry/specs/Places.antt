-- Where the parts of a volume of layout version 3 are, S the number of its sectors, N of its nodes,
-- L of the log's sectors, P of the seats, q of the slots of a seat, and Z = P (1 + 4 q):
--
--   0                            superblock
--   1                            commit record
--   2 to 147                     zero
--   148 to 147 + N               node table
--   148 + N to S - Z - L - 1     data region, 16 sectors or more
--   S - Z - L to S - L - 1       seats, 1 + 4 q sectors each
--   S - L to S - 1               log
use Rattle.std.specs.Prelude.{◌≡◌, ◌≤◌, ◌<◌, ◌+◌, ◌-◌, ◌*◌, ◌^◌, ◌==◌, ◌&&◌, ◌↔◌, ℕ, Bool, false, IsTrue, nat_le, nat_lt}
use Rattle.journal.specs.declared.layout.LogArea.{LogArea}
use Rattle.geometry.specs.declared.geometry.Geometry.{Geometry}

-- each number but that of the sectors is in its range
pub record IsWithinLimits (g : Geometry) : Type 0 where
  pub min_nodes : 2 ≤ g.nodes
  pub max_nodes : g.nodes ≤ 4194304
  pub min_log : 288 ≤ g.log
  pub max_log : g.log ≤ 1022
  pub min_seats : 1 ≤ g.seats
  pub max_seats : g.seats ≤ 64
  pub min_slots : 1 ≤ g.slots
  pub max_slots : g.slots ≤ 8
  pub min_names : 1 ≤ g.names
  pub max_names : g.names ≤ 1024
  pub min_file_bytes : 1 ≤ g.file_bytes
  pub max_file_bytes : g.file_bytes ≤ 2 ^ 24

-- the sectors of a seat, and of all of them
abbrev pub sectors_per_seat : Geometry → ℕ
sectors_per_seat g = 1 + 4 * g.slots

abbrev pub seats_sectors : Geometry → ℕ
seats_sectors g = g.seats * sectors_per_seat g

-- a volume may have this geometry: as a record, and as a test
pub record Fits (g : Geometry) : Type 0 where
  pub limits : IsWithinLimits g
  pub room : 164 + g.nodes + seats_sectors g + g.log ≤ g.sectors
  pub sectors : g.sectors < 2 ^ 32

abbrev pub is_within_limits : Geometry → Bool
is_within_limits g =
    nat_le 2 g.nodes && nat_le g.nodes 4194304 && nat_le 288 g.log && nat_le g.log 1022
    && nat_le 1 g.seats && nat_le g.seats 64 && nat_le 1 g.slots && nat_le g.slots 8
    && nat_le 1 g.names && nat_le g.names 1024 && nat_le 1 g.file_bytes
    && nat_le g.file_bytes (2 ^ 24)

unfoldable pub fits : Geometry → Bool
fits g =
    is_within_limits g && nat_le (164 + g.nodes + seats_sectors g + g.log) g.sectors
    && nat_lt g.sectors (2 ^ 32)

abbrev pub FitsIsTested : Type 0
FitsIsTested = (g : Geometry) → IsTrue (fits g) ↔ Fits g

abbrev pub data_start : Geometry → ℕ
data_start g = 148 + g.nodes

abbrev pub data_end : Geometry → ℕ
data_end g = g.sectors - seats_sectors g - g.log

abbrev pub data_sectors : Geometry → ℕ
data_sectors g = data_end g - data_start g

abbrev pub seats_start : Geometry → ℕ
seats_start g = g.sectors - seats_sectors g - g.log

abbrev pub seat_start : Geometry → (k : ℕ) → ℕ
seat_start g k = seats_start g + k * sectors_per_seat g

abbrev pub log_start : Geometry → ℕ
log_start g = g.sectors - g.log

-- for the journal: transactions write up to the log, and a commit record may name a target again
abbrev pub log_area : Geometry → LogArea
log_area g = record { first = log_start g; sectors = g.log; end = log_start g; once = false }

-- From the end of the node table to that of the volume each part begins where the one before it
-- ends, and so does each seat. So no two share a sector, and no sector is left out.
pub record LiesEndToEnd (g : Geometry) : Type 0 where
  pub nodes : 148 + g.nodes ≡ data_start g
  pub region : data_start g + data_sectors g ≡ data_end g
  pub room : 16 ≤ data_sectors g
  pub seats : data_end g ≡ seat_start g 0
  pub next : (k : ℕ) → seat_start g k + sectors_per_seat g ≡ seat_start g (k + 1)
  pub apart : (j k : ℕ) → j < k → seat_start g j + sectors_per_seat g ≤ seat_start g k
  pub log : seat_start g g.seats ≡ log_start g
  pub all : log_start g + g.log ≡ g.sectors

abbrev pub PartsLieEndToEnd : Type 0
PartsLieEndToEnd = (g : Geometry) → Fits g → LiesEndToEnd g
