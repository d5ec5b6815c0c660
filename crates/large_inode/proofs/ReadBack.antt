-- What is read from an inode's sector is what was encoded there.
use Rattle.std.proofs.Common.{◌≡◌, ◌==◌, ℕ, List, ◌++◌, Option, Some, None, length, get_or, drop, replicate, refl, sym, ap, ap₂, ◌∙◌, arith, if◌then◌else◌}
use Rattle.std.specs.Int.{w16, w32, from_be_bytes}
use Rattle.std.proofs.lemmas.Nat.{from_be_bytes-to_be_bytes_2, from_be_bytes-to_be_bytes_4, from_be_bytes-to_be_bytes_8}
use Rattle.model_tree.specs.declared.node.NodeKind.{NodeKind}
use Rattle.model_tree.specs.declared.node.NodeKind.TheVariants as node
use Rattle.model_tree.specs.declared.acl.Ace.{Ace}
use Rattle.model_tree.specs.declared.acl.AceKind.{AceKind}
use Rattle.model_tree.specs.declared.acl.AceKind.TheVariants as ace_kind
use Rattle.model_tree.specs.declared.acl.Who.{Who}
use Rattle.model_tree.specs.declared.acl.Who.TheVariants as who
use Rattle.sector.specs.Records.{records_at_prefix, records-back}
use Rattle.inode.specs.declared.node.Form.{Form}
use Rattle.inode.specs.declared.node.Form.TheVariants.{One, Two}
use Rattle.inode.specs.Fields as small
use Rattle.inode.specs.Fields.{IsAce, id_of}
use Rattle.inode.specs.Encoding.{inode_sector, kind_byte, ace_kind_byte, who_byte, ace_bytes}
use Rattle.inode.specs.Reading.{kind_of_byte, ace_kind_of_byte, who_of_byte, ace_in}
use Rattle.inode.proofs.EntryLemmas.{same_ace, aces_wide}
use Rattle.extent_tree.specs.Encoding.{entries_in}
use Rattle.extent_tree.proofs.Bytes.{entries-back}
use Rattle.large_inode.specs.Fields.{Fields, IsLargeInode}
use Rattle.large_inode.specs.Encoding.{large_inode_sector, verifier_bytes, verifier_flag}
use Rattle.large_inode.specs.Reading.{fields_in, verifier_in, FieldsReadBack, OneInode, OtherForms, NeverFree}
use Rattle.large_inode.proofs.Parts.{verifier_there, flag_there, acl_there, extents_there, rest_of_acl, rest_of_extents, same_fields}

kind-back : (kind : NodeKind) → kind_of_byte (kind_byte kind) ≡ kind
kind-back node.File = refl
kind-back node.Directory = refl

ace_kind-back : (kind : AceKind) → ace_kind_of_byte (ace_kind_byte kind) ≡ kind
ace_kind-back ace_kind.Allow = refl
ace_kind-back ace_kind.Deny = refl

who-back : (one : Who) → who_of_byte (who_byte one) (id_of one) ≡ one
who-back who.Owner = refl
who-back who.Group = refl
who-back who.Everyone = refl
who-back (who.User id) = refl
who-back (who.NamedGroup id) = refl

ace-back : (ace : Ace) (rest : List ℕ) → IsAce ace → ace_in (ace_bytes ace ++ rest) ≡ ace
ace-back ace rest is = same_ace (ace_kind_of_byte (ace_kind_byte ace.kind)) ace.flags.0 (from_be_bytes w32 (drop 4 (ace_bytes ace ++ rest)))
    (who_of_byte (who_byte ace.who) (from_be_bytes w32 (drop 8 (ace_bytes ace ++ rest)))) ace
    (ace_kind-back ace.kind) refl (from_be_bytes-to_be_bytes_4 ace.mask.0 is.mask)
    (ap (who_of_byte (who_byte ace.who)) (from_be_bytes-to_be_bytes_4 (id_of ace.who) is.id) ∙ who-back ace.who)

verifier_back : (flag : ℕ) (bytes : List ℕ) (verifier : Option (List ℕ)) → flag ≡ verifier_flag verifier → bytes ≡ verifier_bytes verifier → (if flag == 1 then Some bytes else None) ≡ verifier
verifier_back flag bytes None f b = rw f refl
verifier_back flag bytes (Some v) f b = rw (f, b) refl

-- the verifier in a sector that encodes an inode
pub verifier-there : (fields : Fields) (sector : List ℕ) → sector ≡ large_inode_sector fields → IsLargeInode fields → verifier_in sector ≡ fields.verifier
verifier-there fields sector e is = verifier_back _ _ fields.verifier (flag_there fields sector e is) (verifier_there fields sector e is)

module _ (fields : Fields) (is : IsLargeInode fields) where
  count_back : from_be_bytes w16 (drop 6 (large_inode_sector fields)) ≡ length fields.acl
  unfolding large_inode_sector
  count_back = from_be_bytes-to_be_bytes_2 (length fields.acl) (omega (arith, is.acl))

  acl-back : records_at_prefix ace_in 16 (from_be_bytes w16 (drop 6 (large_inode_sector fields))) (drop 128 (large_inode_sector fields)) ≡ fields.acl
  acl-back =
      ap₂ (records_at_prefix ace_in 16) count_back (acl_there fields (large_inode_sector fields) refl is)
      ∙ records-back ace_bytes 16 aces_wide ace_in IsAce ace-back fields.acl (rest_of_acl fields) is.each_ace

  extents-back : entries_in 256 (drop 1280 (large_inode_sector fields)) ≡ fields.extents
  extents-back =
      ap₂ entries_in (sym is.extents) (extents_there fields (large_inode_sector fields) refl is)
      ∙ entries-back fields.extents rest_of_extents is.each_extent

pub fields-back : FieldsReadBack
unfolding fields_in large_inode_sector
fields-back fields is =
    same_fields _ _ _ _ _ _ _ _ _ _ _ _ _ fields (kind-back fields.kind) refl (from_be_bytes-to_be_bytes_8 fields.number is.head.number) (from_be_bytes-to_be_bytes_4 fields.owner is.head.owner)
    (from_be_bytes-to_be_bytes_4 fields.group is.head.group) (from_be_bytes-to_be_bytes_8 fields.change is.head.change) (from_be_bytes-to_be_bytes_8 fields.time_modify is.head.time_modify)
    (from_be_bytes-to_be_bytes_8 fields.size is.head.size) (from_be_bytes-to_be_bytes_8 fields.time_metadata is.head.time_metadata) (from_be_bytes-to_be_bytes_8 fields.time_create is.head.time_create)
    (verifier-there fields (large_inode_sector fields) refl is) (acl-back fields is) (extents-back fields is)

pub one_inode : OneInode
one_inode a b is_a is_b same = sym (fields-back a is_a) ∙ ap fields_in same ∙ fields-back b is_b

-- byte 3 is `3`, and no other form's
form_byte : (a : Fields) → get_or (large_inode_sector a) 3 0 ≡ 51
unfolding large_inode_sector
form_byte a = refl

other_byte : (form : Form) (b : small.Fields) → get_or (inode_sector form b) 3 0 ≡ 51 → ⊥
unfolding inode_sector
other_byte One b e = omega (arith, e)
other_byte Two b e = omega (arith, e)

pub other_forms : OtherForms
other_forms a form b same = other_byte form b (ap (λ (s : List ℕ). get_or s 3 0) (sym same) ∙ form_byte a)

pub never_free : NeverFree
never_free fields same =
    let e : get_or (replicate {A = ℕ} 4096 0) 3 0 ≡ 51 = ap (λ (s : List ℕ). get_or s 3 0) (sym same) ∙ form_byte fields in omega (arith, e)
