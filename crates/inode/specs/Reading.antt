-- What a sector says about a node, whatever its bytes: nothing is tested. If a node's fields are
-- encoded in a sector, in whatever form, it says this form and these fields: so a sector encodes at
-- most one node, in one form.
use Rattle.std.specs.Prelude.{◌≡◌, ◌==◌, ◌+◌, ◌/◌, ℕ, List, drop, slice_index, if◌then◌else◌}
use Rattle.std.specs.Int.{w16, w32, w64, from_be_bytes}
use Rattle.model_tree.specs.declared.node.NodeKind.{NodeKind}
use Rattle.model_tree.specs.declared.node.NodeKind.TheVariants as node
use Rattle.model_tree.specs.declared.acl.Ace.{Ace}
use Rattle.model_tree.specs.declared.acl.AceKind.{AceKind}
use Rattle.model_tree.specs.declared.acl.AceKind.TheVariants as ace_kind
use Rattle.model_tree.specs.declared.acl.Who.{Who}
use Rattle.model_tree.specs.declared.acl.Who.TheVariants as who
use Rattle.sector.specs.Records.{records_at_prefix}
use Rattle.inode.specs.declared.node.Form.{Form}
use Rattle.inode.specs.declared.node.Form.TheVariants.{One, Two}
use Rattle.inode.specs.Fields.{Fields, IsInode}
use Rattle.inode.specs.Encoding.{inode_sector}

abbrev pub kind_of_byte : ℕ → NodeKind
kind_of_byte byte = if byte == 2 then node.Directory else node.File

abbrev pub ace_kind_of_byte : ℕ → AceKind
ace_kind_of_byte byte = if byte == 1 then ace_kind.Deny else ace_kind.Allow

abbrev pub who_of_byte : (byte id : ℕ) → Who
who_of_byte byte id =
    if byte == 0 then who.Owner
    else if byte == 1 then who.Group
    else if byte == 2 then who.Everyone
    else if byte == 3 then who.User id
    else who.NamedGroup id

-- the entry of these bytes
abbrev pub ace_in : List ℕ → Ace
ace_in bytes = record {
  kind = ace_kind_of_byte (slice_index bytes 0);
  flags = record { 0 = slice_index bytes 2 };
  mask = record { 0 = from_be_bytes w32 (drop 4 bytes) };
  who = who_of_byte (slice_index bytes 1) (from_be_bytes w32 (drop 8 bytes));
}

-- the form that a sector says by byte 3, the last one of its magic: 50 is `2`
abbrev pub form_in : List ℕ → Form
form_in sector = if slice_index sector 3 == 50 then Two else One

-- the number of entries in a sector of this form
abbrev pub count_in : Form → List ℕ → ℕ
count_in One sector = slice_index sector 5
count_in Two sector = from_be_bytes w16 (drop 84 sector)

abbrev pub run_sector_in : List ℕ → ℕ
run_sector_in bytes = from_be_bytes w32 bytes

unfoldable pub fields_in : List ℕ → Fields
fields_in sector = record {
  kind = kind_of_byte (slice_index sector 4);
  number = from_be_bytes w64 (drop 8 sector);
  owner = from_be_bytes w32 (drop 16 sector);
  group = from_be_bytes w32 (drop 20 sector);
  change = from_be_bytes w64 (drop 24 sector);
  time_modify = from_be_bytes w64 (drop 32 sector);
  size = from_be_bytes w64 (drop 40 sector);
  runs = from_be_bytes w16 (drop 6 sector);
  run_sectors =
      records_at_prefix run_sector_in 4 ((from_be_bytes w16 (drop 6 sector) + 499) / 500)
      (drop 48 sector);
  acl = records_at_prefix ace_in 16 (count_in (form_in sector) sector) (drop 128 sector);
}

abbrev pub FieldsReadBack : Type 0
FieldsReadBack =
    (form : Form) (fields : Fields) → IsInode form fields
    → fields_in (inode_sector form fields) ≡ fields

abbrev pub FormReadsBack : Type 0
FormReadsBack = (form : Form) (fields : Fields) → form_in (inode_sector form fields) ≡ form

abbrev pub OneNode : Type 0
OneNode =
    (one other : Form) (a b : Fields) → IsInode one a → IsInode other b
    → inode_sector one a ≡ inode_sector other b → (one ≡ other) × (a ≡ b)
