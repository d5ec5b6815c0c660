-- What the sector of an inode of form three says, apart from how it lies in memory.
use Rattle.std.specs.Prelude.{◌≡◌, ◌<◌, ◌≤◌, ◌^◌, ℕ, List, Option, length}
use Rattle.std.specs.Option.{ForSome}
use Rattle.std.specs.List.{AllByRecursion}
use Rattle.model_tree.specs.declared.node.NodeKind.{NodeKind}
use Rattle.model_tree.specs.declared.acl.Ace.{Ace}
use Rattle.inode.specs.Fields.{IsAce}
use Rattle.extent_tree.specs.declared.entry.Entry.{Entry}
use Rattle.extent_tree.specs.Encoding.{IsEncodable}
use Rattle.large_inode.specs.declared.node.LargeInode.{LargeInode}

pub record Fields : Type 0 where
  pub kind : NodeKind
  pub depth : ℕ
  pub number : ℕ
  pub owner : ℕ
  pub group : ℕ
  pub change : ℕ
  pub time_modify : ℕ
  pub size : ℕ
  pub time_metadata : ℕ
  pub time_create : ℕ
  pub verifier : Option (List ℕ)
  pub acl : List Ace
  pub extents : List Entry

abbrev pub fields_of : LargeInode → Fields
fields_of inode = record {
  kind = inode.kind;
  depth = inode.depth;
  number = inode.number;
  owner = inode.owner;
  group = inode.group;
  change = inode.change;
  time_modify = inode.time_modify;
  size = inode.size;
  time_metadata = inode.time_metadata;
  time_create = inode.time_create;
  verifier = inode.verifier;
  acl = inode.acl;
  extents = inode.extents.items;
}

-- the fields of fixed width fit, and the inode has a number
pub record IsHead (fields : Fields) : Type 0 where
  pub depth : fields.depth ≤ 3
  pub some : 0 < fields.number
  pub number : fields.number < 2 ^ 64
  pub owner : fields.owner < 2 ^ 32
  pub group : fields.group < 2 ^ 32
  pub change : fields.change < 2 ^ 64
  pub time_modify : fields.time_modify < 2 ^ 64
  pub size : fields.size < 2 ^ 64
  pub time_metadata : fields.time_metadata < 2 ^ 64
  pub time_create : fields.time_create < 2 ^ 64
  pub verifier : ForSome fields.verifier (λ bytes. length bytes ≡ 8)

-- What can be encoded: fields that fit, at most 72 entries of an ACL, and 256 of extents. Whether
-- those are a tree is for `extent_tree` to say.
pub record IsLargeInode (fields : Fields) : Type 0 where
  pub head : IsHead fields
  pub acl : length fields.acl ≤ 72
  pub each_ace : AllByRecursion IsAce fields.acl
  pub extents : length fields.extents ≡ 256
  pub each_extent : AllByRecursion IsEncodable fields.extents
