-- What is read from a node's sector is what was encoded there.
use Rattle.std.proofs.Common.{◌≡◌, ◌+◌, ◌/◌, ℕ, List, ◌++◌, length, drop, refl, sym, ap, ap₂, ◌∙◌, arith}
use Rattle.std.specs.Int.{w16, w32, from_be_bytes}
use Rattle.std.proofs.lemmas.Nat.{from_be_bytes-to_be_bytes_2, from_be_bytes-to_be_bytes_4, from_be_bytes-to_be_bytes_8}
use Rattle.model_tree.specs.declared.node.NodeKind.{NodeKind}
use Rattle.model_tree.specs.declared.node.NodeKind.TheVariants as node
use Rattle.model_tree.specs.declared.acl.Ace.{Ace}
use Rattle.model_tree.specs.declared.acl.AceKind.{AceKind}
use Rattle.model_tree.specs.declared.acl.AceKind.TheVariants as ace_kind
use Rattle.model_tree.specs.declared.acl.Who.{Who}
use Rattle.model_tree.specs.declared.acl.Who.TheVariants as who
use Rattle.sector.specs.Records.{records_at_prefix, records-back}
use Rattle.inode.specs.declared.node.Form.{Form}
use Rattle.inode.specs.declared.node.Form.TheVariants.{One, Two}
use Rattle.inode.specs.Fields.{Fields, IsInode, IsAce, IsRunSector, id_of}
use Rattle.inode.specs.Encoding.{inode_sector, kind_byte, ace_kind_byte, who_byte, number_bytes, ace_bytes}
use Rattle.inode.specs.Reading.{fields_in, form_in, count_in, kind_of_byte, ace_kind_of_byte, who_of_byte, ace_in, run_sector_in, FieldsReadBack, FormReadsBack, OneNode}
use Rattle.inode.proofs.Parts.{run_sectors_there, count_there, acl_there, rest_of_numbers, rest_of_acl, same_fields}
use Rattle.inode.proofs.EntryLemmas.{same_ace, aces_wide, numbers_wide}

kind-back : (kind : NodeKind) → kind_of_byte (kind_byte kind) ≡ kind
kind-back node.File = refl
kind-back node.Directory = refl

ace_kind-back : (kind : AceKind) → ace_kind_of_byte (ace_kind_byte kind) ≡ kind
ace_kind-back ace_kind.Allow = refl
ace_kind-back ace_kind.Deny = refl

who-back : (one : Who) → who_of_byte (who_byte one) (id_of one) ≡ one
who-back who.Owner = refl
who-back who.Group = refl
who-back who.Everyone = refl
who-back (who.User id) = refl
who-back (who.NamedGroup id) = refl

ace-back : (ace : Ace) (rest : List ℕ) → IsAce ace → ace_in (ace_bytes ace ++ rest) ≡ ace
ace-back ace rest is = same_ace (ace_kind_of_byte (ace_kind_byte ace.kind)) ace.flags.0 (from_be_bytes w32 (drop 4 (ace_bytes ace ++ rest)))
    (who_of_byte (who_byte ace.who) (from_be_bytes w32 (drop 8 (ace_bytes ace ++ rest)))) ace
    (ace_kind-back ace.kind) refl (from_be_bytes-to_be_bytes_4 ace.mask.0 is.mask)
    (ap (who_of_byte (who_byte ace.who)) (from_be_bytes-to_be_bytes_4 (id_of ace.who) is.id) ∙ who-back ace.who)

number-back : (number : ℕ) (rest : List ℕ) → IsRunSector number → run_sector_in (number_bytes number ++ rest) ≡ number
number-back number rest is = from_be_bytes-to_be_bytes_4 number is.fits

pub form-back : FormReadsBack
unfolding inode_sector
form-back One fields = refl
form-back Two fields = refl

runs_there : (form : Form) (fields : Fields) → IsInode form fields → from_be_bytes w16 (drop 6 (inode_sector form fields)) ≡ fields.runs
unfolding inode_sector
runs_there One fields is = from_be_bytes-to_be_bytes_2 fields.runs (omega (arith, is.runs))
runs_there Two fields is = from_be_bytes-to_be_bytes_2 fields.runs (omega (arith, is.runs))

module _ (form : Form) (fields : Fields) (is : IsInode form fields) where
  run_sectors-back : records_at_prefix run_sector_in 4 ((from_be_bytes w16 (drop 6 (inode_sector form fields)) + 499) / 500) (drop 48 (inode_sector form fields)) ≡ fields.run_sectors
  run_sectors-back =
      let counted : (from_be_bytes w16 (drop 6 (inode_sector form fields)) + 499) / 500 ≡ length fields.run_sectors = ap (λ (n : ℕ). (n + 499) / 500) (runs_there form fields is) ∙ sym is.run_sectors in
      ap₂ (records_at_prefix run_sector_in 4) counted (run_sectors_there form fields (inode_sector form fields) refl)
      ∙ records-back number_bytes 4 numbers_wide run_sector_in IsRunSector number-back fields.run_sectors (rest_of_numbers form fields) is.each_run_sector

  acl-back : records_at_prefix ace_in 16 (count_in (form_in (inode_sector form fields)) (inode_sector form fields)) (drop 128 (inode_sector form fields)) ≡ fields.acl
  acl-back =
      let counted : count_in (form_in (inode_sector form fields)) (inode_sector form fields) ≡ length fields.acl =
      ap (λ (one : Form). count_in one (inode_sector form fields)) (form-back form fields) ∙ count_there form fields (inode_sector form fields) refl is in
      ap₂ (records_at_prefix ace_in 16) counted (acl_there form fields (inode_sector form fields) refl is)
      ∙ records-back ace_bytes 16 aces_wide ace_in IsAce ace-back fields.acl (rest_of_acl fields) is.each_ace

pub fields-back : FieldsReadBack
unfolding fields_in inode_sector
fields-back One fields is =
    same_fields _ _ _ _ _ _ _ _ _ _ fields (kind-back fields.kind) (from_be_bytes-to_be_bytes_8 fields.number is.number) (from_be_bytes-to_be_bytes_4 fields.owner is.owner)
    (from_be_bytes-to_be_bytes_4 fields.group is.group) (from_be_bytes-to_be_bytes_8 fields.change is.change) (from_be_bytes-to_be_bytes_8 fields.time_modify is.time_modify)
    (from_be_bytes-to_be_bytes_8 fields.size is.size) (runs_there One fields is) (run_sectors-back One fields is) (acl-back One fields is)
fields-back Two fields is =
    same_fields _ _ _ _ _ _ _ _ _ _ fields (kind-back fields.kind) (from_be_bytes-to_be_bytes_8 fields.number is.number) (from_be_bytes-to_be_bytes_4 fields.owner is.owner)
    (from_be_bytes-to_be_bytes_4 fields.group is.group) (from_be_bytes-to_be_bytes_8 fields.change is.change) (from_be_bytes-to_be_bytes_8 fields.time_modify is.time_modify)
    (from_be_bytes-to_be_bytes_8 fields.size is.size) (runs_there Two fields is) (run_sectors-back Two fields is) (acl-back Two fields is)

pub one_node : OneNode
one_node one other a b is_one is_other same = (
  sym (form-back one a) ∙ ap form_in same ∙ form-back other b,
  sym (fields-back one a is_one) ∙ ap fields_in same ∙ fields-back other b is_other,
)
