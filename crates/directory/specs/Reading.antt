-- What a sector of a directory says, whatever its bytes. It does not say how many of its records
-- are used: the node's count of names does.
use Rattle.std.specs.Prelude.{◌≡◌, ℕ, List, length, take, drop, slice_index}
use Rattle.std.specs.List.{AllByRecursion}
use Rattle.std.specs.Int.{w64, from_be_bytes}
use Rattle.sector.specs.Records.{records_at_prefix}
use Rattle.directory.specs.Records.{Record, IsRecord, record_from}
use Rattle.directory.specs.Encoding.{directory_sector}

-- the record of these bytes
abbrev pub record_in : List ℕ → Record
record_in bytes =
    record_from (from_be_bytes w64 (drop 8 bytes)) (take (slice_index bytes 16) (drop 17 bytes))
    (from_be_bytes w64 bytes)

-- the first records of a sector
unfoldable pub records_in : (count : ℕ) → List ℕ → List Record
records_in count sector = records_at_prefix record_in 272 count sector

abbrev pub RecordsReadBack : Type 0
RecordsReadBack = (names : List Record) → AllByRecursion IsRecord names
    → records_in (length names) (directory_sector names) ≡ names
