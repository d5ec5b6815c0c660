-- What a sector says about an inode of form three, whatever its bytes: nothing is tested. If an
-- inode's fields are encoded in a sector, it says these fields: so a sector encodes at most one
-- inode of form three.
use Rattle.std.specs.Prelude.{◌≡◌, ◌==◌, ℕ, List, Option, Some, None, drop, take, replicate, slice_index, if◌then◌else◌}
use Rattle.std.specs.Int.{w16, w32, w64, from_be_bytes}
use Rattle.sector.specs.Records.{records_at_prefix}
use Rattle.inode.specs.declared.node.Form.{Form}
use Rattle.inode.specs.Fields as small
use Rattle.inode.specs.Encoding.{inode_sector}
use Rattle.inode.specs.Reading.{kind_of_byte, ace_in}
use Rattle.extent_tree.specs.Encoding.{entries_in}
use Rattle.large_inode.specs.Fields.{Fields, IsLargeInode}
use Rattle.large_inode.specs.Encoding.{large_inode_sector}

abbrev pub verifier_in : List ℕ → Option (List ℕ)
verifier_in sector = if slice_index sector 72 == 1 then Some (take 8 (drop 64 sector)) else None

unfoldable pub fields_in : List ℕ → Fields
fields_in sector = record {
  kind = kind_of_byte (slice_index sector 4);
  depth = slice_index sector 5;
  number = from_be_bytes w64 (drop 8 sector);
  owner = from_be_bytes w32 (drop 16 sector);
  group = from_be_bytes w32 (drop 20 sector);
  change = from_be_bytes w64 (drop 24 sector);
  time_modify = from_be_bytes w64 (drop 32 sector);
  size = from_be_bytes w64 (drop 40 sector);
  time_metadata = from_be_bytes w64 (drop 48 sector);
  time_create = from_be_bytes w64 (drop 56 sector);
  verifier = verifier_in sector;
  acl = records_at_prefix ace_in 16 (from_be_bytes w16 (drop 6 sector)) (drop 128 sector);
  extents = entries_in 256 (drop 1280 sector);
}

abbrev pub FieldsReadBack : Type 0
FieldsReadBack =
    (fields : Fields) → IsLargeInode fields → fields_in (large_inode_sector fields) ≡ fields

abbrev pub OneInode : Type 0
OneInode =
    (a b : Fields) → IsLargeInode a → IsLargeInode b
    → large_inode_sector a ≡ large_inode_sector b → a ≡ b

-- it is never the sector of an inode of form one or two
abbrev pub OtherForms : Type 0
OtherForms =
    (a : Fields) (form : Form) (b : small.Fields) → ¬ (large_inode_sector a ≡ inode_sector form b)

-- nor a free place
abbrev pub NeverFree : Type 0
NeverFree = (fields : Fields) → ¬ (large_inode_sector fields ≡ replicate 4096 0)
