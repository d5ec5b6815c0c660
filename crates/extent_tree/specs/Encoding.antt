-- Entries as a sector has them: eight bytes each, end to end.
use Rattle.std.specs.Prelude.{◌≡◌, ◌<◌, ◌^◌, ◌++◌, ℕ, List, length, drop}
use Rattle.std.specs.List.{flat_map, AllByRecursion}
use Rattle.std.specs.Int.{w32, to_be_bytes, from_be_bytes}
use Rattle.sector.specs.Records.{records_at_prefix}
use Rattle.extent_tree.specs.declared.entry.Entry.{Entry}

abbrev pub entry_bytes : Entry → List ℕ
entry_bytes entry = to_be_bytes w32 entry.sector ++ to_be_bytes w32 entry.length

-- an index sector, if there are 512 of them
abbrev pub entries_bytes : List Entry → List ℕ
entries_bytes entries = flat_map entry_bytes entries

-- the entry of these bytes, whatever they are
abbrev pub entry_in : List ℕ → Entry
entry_in bytes = record {
  sector = from_be_bytes w32 bytes;
  length = from_be_bytes w32 (drop 4 bytes);
}

unfoldable pub entries_in : (count : ℕ) → List ℕ → List Entry
entries_in count bytes = records_at_prefix entry_in 8 count bytes

-- the numbers of an entry fit
pub record IsEncodable (entry : Entry) : Type 0 where
  pub sector : entry.sector < 2 ^ 32
  pub length : entry.length < 2 ^ 32

-- decoding gives back the entries that were encoded, whatever follows them
abbrev pub EntriesReadBack : Type 0
EntriesReadBack =
    (entries : List Entry) (rest : List ℕ) → AllByRecursion IsEncodable entries
    → entries_in (length entries) (entries_bytes entries ++ rest) ≡ entries
