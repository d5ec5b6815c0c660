-- What is read from a directory's sector is what was encoded there.
use Rattle.std.proofs.Common.{◌≡◌, ◌≤◌, ◌-◌, ◌*◌, ◌++◌, ℕ, List, length, take, replicate, refl, ◌∙◌, arith}
use Rattle.std.proofs.lemmas.Nat.{from_be_bytes-to_be_bytes_8}
use Rattle.std.proofs.lemmas.List.{take_at, take-take, take-append-le}
use Rattle.sector.specs.Records as widths
use Rattle.directory.specs.Records.{Record, IsRecord, record_from}
use Rattle.directory.specs.Encoding.{directory_sector, record_bytes, name_bytes}
use Rattle.directory.specs.Reading.{record_in, records_in, RecordsReadBack}
use Rattle.directory.proofs.Sector.{records_wide, length-name_bytes}

name-back : (name rest : List ℕ) → length name ≤ 255 → take (length name) (name_bytes name ++ rest) ≡ name
unfolding name_bytes
name-back name rest few =
    take-append-le (length name) (name_bytes name) rest (omega (arith, length-name_bytes name))
    ∙ take-take (length name) 255 (name ++ replicate 255 0) few ∙ take_at name (replicate 255 0) (length name) refl

same_record : (stamp : ℕ) (name : List ℕ) (number : ℕ) (entry : Record) → stamp ≡ entry.0 → name ≡ entry.1.name → number ≡ entry.1.number → record_from stamp name number ≡ entry
same_record stamp name number entry a b c = rw (a, b, c) refl

record-back : (entry : Record) (rest : List ℕ) → IsRecord entry → record_in (record_bytes entry ++ rest) ≡ entry
record-back entry rest is =
    same_record _ _ _ entry (from_be_bytes-to_be_bytes_8 entry.0 is.stamp) (name-back entry.1.name rest is.few) (from_be_bytes-to_be_bytes_8 entry.1.number is.number)

pub records-back : RecordsReadBack
unfolding records_in directory_sector
records-back names all = widths.records-back record_bytes 272 records_wide record_in IsRecord record-back names (replicate (4096 - 272 * length names) 0) all
