-- A directory sector: 15 records of 272 bytes (number, stamp, length of the name, name in 255 bytes
-- filled with zeros), and 16 zero bytes. Records that are not used are zero.
use Rattle.std.specs.Prelude.{◌-◌, ◌*◌, ◌++◌, ℕ, List, [], ◌∷◌, length, take, replicate}
use Rattle.std.specs.List.{flat_map}
use Rattle.std.specs.Int.{w64, to_be_bytes}
use Rattle.directory.specs.Records.{Record}

-- a name of up to 255 bytes, filled with zeros
unfoldable pub name_bytes : List ℕ → List ℕ
name_bytes name = take 255 (name ++ replicate 255 0)

abbrev pub record_bytes : Record → List ℕ
record_bytes entry =
    to_be_bytes w64 entry.1.number ++ to_be_bytes w64 entry.0 ++ (length entry.1.name ∷ [])
    ++ name_bytes entry.1.name

unfoldable pub directory_sector : List Record → List ℕ
directory_sector names = flat_map record_bytes names ++ replicate (4096 - 272 * length names) 0
