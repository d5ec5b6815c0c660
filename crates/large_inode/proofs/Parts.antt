-- The parts of an inode's sector.
use Rattle.std.proofs.Common.{◌≡◌, ◌≤◌, ◌+◌, ◌-◌, ◌*◌, ℕ, List, [], ◌∷◌, ◌++◌, Option, Some, None, length, get_or, take, drop, replicate, refl, sym, ap, ◌∙◌, arith, append_assoc}
use Rattle.std.specs.List.{flat_map}
use Rattle.std.specs.Option.{ForSome}
use Rattle.std.proofs.lemmas.List.{length-append, length-replicate, drop-drop, drop_at, take_at, get_or-drop}
use Rattle.model_tree.specs.declared.node.NodeKind.{NodeKind}
use Rattle.model_tree.specs.declared.acl.Ace.{Ace}
use Rattle.sector.specs.Placed.{IsNumberAt}
use Rattle.sector.specs.Records.{length-records}
use Rattle.inode.specs.Encoding.{kind_byte, ace_bytes}
use Rattle.inode.proofs.EntryLemmas.{aces_wide}
use Rattle.extent_tree.specs.declared.entry.Entry.{Entry}
use Rattle.extent_tree.specs.Encoding.{entries_bytes}
use Rattle.large_inode.specs.Fields.{Fields, IsLargeInode}
use Rattle.large_inode.specs.Encoding.{large_inode_sector, verifier_bytes, verifier_flag, verifier_part, acl_part}

nested : (v f z a x y : List ℕ) → (v ++ f ++ z) ++ a ++ x ++ y ≡ v ++ (f ++ (z ++ (a ++ (x ++ y))))
nested v f z a x y = simp append_assoc

pub length-verifier : (verifier : Option (List ℕ)) → ForSome verifier (λ bytes. length bytes ≡ 8) → length (verifier_bytes verifier) ≡ 8
length-verifier None is = refl
length-verifier (Some bytes) is = is bytes refl

pub length-acl : (acl : List Ace) → length acl ≤ 72 → length (acl_part acl) ≡ 1152
length-acl acl few =
    let records : length (flat_map ace_bytes acl) ≡ 16 * length acl = length-records ace_bytes 16 aces_wide acl in
    let zeros : length (replicate {A = ℕ} (1152 - 16 * length acl) 0) ≡ 1152 - 16 * length acl = length-replicate (1152 - 16 * length acl) 0 in
    let whole : length (acl_part acl) ≡ length (flat_map ace_bytes acl) + length (replicate {A = ℕ} (1152 - 16 * length acl) 0) = length-append (flat_map ace_bytes acl) (replicate (1152 - 16 * length acl) 0) in
    omega arith

-- what follows the extents, the entries of the ACL, and the verifier
abbrev pub rest_of_extents : List ℕ
rest_of_extents = replicate 768 0

abbrev from_extents : Fields → List ℕ
from_extents fields = entries_bytes fields.extents ++ rest_of_extents

abbrev pub rest_of_acl : Fields → List ℕ
rest_of_acl fields = replicate (1152 - 16 * length fields.acl) 0 ++ from_extents fields

abbrev from_flag : Fields → List ℕ
from_flag fields = (verifier_flag fields.verifier ∷ []) ++ (replicate 55 0 ++ (acl_part fields.acl ++ from_extents fields))

module _ (fields : Fields) (sector : List ℕ) (e : sector ≡ large_inode_sector fields) where
  pub kind_there : get_or sector 4 0 ≡ kind_byte fields.kind
  unfolding large_inode_sector
  kind_there = ap (λ (s : List ℕ). get_or s 4 0) e

  pub depth_there : get_or sector 5 0 ≡ fields.depth
  unfolding large_inode_sector
  depth_there = ap (λ (s : List ℕ). get_or s 5 0) e

  behind_head : drop 64 sector ≡ verifier_part fields.verifier ++ acl_part fields.acl ++ entries_bytes fields.extents ++ replicate 768 0
  unfolding large_inode_sector
  behind_head = ap (drop 64) e

  from_verifier : drop 64 sector ≡ verifier_bytes fields.verifier ++ from_flag fields
  from_verifier =
      behind_head
      ∙ nested (verifier_bytes fields.verifier) (verifier_flag fields.verifier ∷ []) (replicate 55 0) (acl_part fields.acl) (entries_bytes fields.extents) (replicate 768 0)

module _ (fields : Fields) (sector : List ℕ) (e : sector ≡ large_inode_sector fields) (fits : IsLargeInode fields) where
  pub count_there : (n : ℕ) → IsNumberAt 2 sector 6 n → n ≡ length fields.acl
  unfolding large_inode_sector
  count_there n reads = reads (length fields.acl) (drop 8 (large_inode_sector fields)) (omega (arith, fits.acl)) (ap (drop 6) e)

  pub number_there : (n : ℕ) → IsNumberAt 8 sector 8 n → n ≡ fields.number
  unfolding large_inode_sector
  number_there n reads = reads fields.number (drop 16 (large_inode_sector fields)) fits.head.number (ap (drop 8) e)

  pub owner_there : (n : ℕ) → IsNumberAt 4 sector 16 n → n ≡ fields.owner
  unfolding large_inode_sector
  owner_there n reads = reads fields.owner (drop 20 (large_inode_sector fields)) fits.head.owner (ap (drop 16) e)

  pub group_there : (n : ℕ) → IsNumberAt 4 sector 20 n → n ≡ fields.group
  unfolding large_inode_sector
  group_there n reads = reads fields.group (drop 24 (large_inode_sector fields)) fits.head.group (ap (drop 20) e)

  pub change_there : (n : ℕ) → IsNumberAt 8 sector 24 n → n ≡ fields.change
  unfolding large_inode_sector
  change_there n reads = reads fields.change (drop 32 (large_inode_sector fields)) fits.head.change (ap (drop 24) e)

  pub modified_there : (n : ℕ) → IsNumberAt 8 sector 32 n → n ≡ fields.time_modify
  unfolding large_inode_sector
  modified_there n reads = reads fields.time_modify (drop 40 (large_inode_sector fields)) fits.head.time_modify (ap (drop 32) e)

  pub size_there : (n : ℕ) → IsNumberAt 8 sector 40 n → n ≡ fields.size
  unfolding large_inode_sector
  size_there n reads = reads fields.size (drop 48 (large_inode_sector fields)) fits.head.size (ap (drop 40) e)

  pub changed_there : (n : ℕ) → IsNumberAt 8 sector 48 n → n ≡ fields.time_metadata
  unfolding large_inode_sector
  changed_there n reads = reads fields.time_metadata (drop 56 (large_inode_sector fields)) fits.head.time_metadata (ap (drop 48) e)

  pub created_there : (n : ℕ) → IsNumberAt 8 sector 56 n → n ≡ fields.time_create
  unfolding large_inode_sector
  created_there n reads = reads fields.time_create (drop 64 (large_inode_sector fields)) fits.head.time_create (ap (drop 56) e)

  -- the verifier's bytes, its flag, and what follows
  pub verifier_there : take 8 (drop 64 sector) ≡ verifier_bytes fields.verifier
  verifier_there =
      ap (take 8) (from_verifier fields sector e)
      ∙ take_at (verifier_bytes fields.verifier) (from_flag fields) 8 (length-verifier fields.verifier fits.head.verifier)

  behind_verifier : drop 72 sector ≡ from_flag fields
  behind_verifier =
      sym (drop-drop 8 64 sector) ∙ ap (drop 8) (from_verifier fields sector e)
      ∙ drop_at (verifier_bytes fields.verifier) (from_flag fields) 8 (length-verifier fields.verifier fits.head.verifier)

  pub flag_there : get_or sector 72 0 ≡ verifier_flag fields.verifier
  flag_there = sym (get_or-drop 72 sector 0 0) ∙ ap (λ (s : List ℕ). get_or s 0 0) behind_verifier

  from_acl : drop 128 sector ≡ acl_part fields.acl ++ from_extents fields
  from_acl = sym (drop-drop 56 72 sector) ∙ ap (drop 56) behind_verifier

  pub acl_there : drop 128 sector ≡ flat_map ace_bytes fields.acl ++ rest_of_acl fields
  acl_there = from_acl ∙ append_assoc (flat_map ace_bytes fields.acl) (replicate (1152 - 16 * length fields.acl) 0) (from_extents fields)

  pub extents_there : drop 1280 sector ≡ entries_bytes fields.extents ++ rest_of_extents
  extents_there =
      sym (drop-drop 1152 128 sector) ∙ ap (drop 1152) from_acl
      ∙ drop_at (acl_part fields.acl) (from_extents fields) 1152 (length-acl fields.acl fits.acl)

-- fields are what they are made of
pub same_fields : (kind : NodeKind) (depth number owner group change time_modify size time_metadata time_create : ℕ) (verifier : Option (List ℕ)) (acl : List Ace) (extents : List Entry) (fields : Fields)
    → kind ≡ fields.kind → depth ≡ fields.depth → number ≡ fields.number → owner ≡ fields.owner → group ≡ fields.group → change ≡ fields.change → time_modify ≡ fields.time_modify → size ≡ fields.size
    → time_metadata ≡ fields.time_metadata → time_create ≡ fields.time_create → verifier ≡ fields.verifier → acl ≡ fields.acl → extents ≡ fields.extents
    → (let made : Fields = record {
      kind = kind;
      depth = depth;
      number = number;
      owner = owner;
      group = group;
      change = change;
      time_modify = time_modify;
      size = size;
      time_metadata = time_metadata;
      time_create = time_create;
      verifier = verifier;
      acl = acl;
      extents = extents;
    } in made ≡ fields)
same_fields kind depth number owner group change time_modify size time_metadata time_create verifier acl extents fields a b c d e f g h i j k l m = rw (a, b, c, d, e, f, g, h, i, j, k, l, m) refl
