-- What a node's sector says about it, apart from how it lies in memory.
use Rattle.std.specs.Prelude.{◌≡◌, ◌<◌, ◌≤◌, ◌+◌, ◌/◌, ◌^◌, ℕ, List, length}
use Rattle.std.specs.List.{AllByRecursion}
use Rattle.model_tree.specs.declared.node.NodeKind.{NodeKind}
use Rattle.model_tree.specs.declared.acl.Ace.{Ace}
use Rattle.model_tree.specs.declared.acl.Who.{Who}
use Rattle.model_tree.specs.declared.acl.Who.TheVariants as who
use Rattle.inode.specs.declared.node.Form.{Form}
use Rattle.inode.specs.declared.node.Form.TheVariants.{One, Two}
use Rattle.inode.specs.declared.node.Inode.{Inode}

pub record Fields : Type 0 where
  pub kind : NodeKind
  pub number : ℕ
  pub owner : ℕ
  pub group : ℕ
  pub change : ℕ
  pub time_modify : ℕ
  pub size : ℕ
  pub runs : ℕ
  pub run_sectors : List ℕ
  pub acl : List Ace

abbrev pub fields_of : Inode → Fields
fields_of inode = record {
  kind = inode.kind;
  number = inode.number;
  owner = inode.owner;
  group = inode.group;
  change = inode.change;
  time_modify = inode.time_modify;
  size = inode.size;
  runs = inode.runs;
  run_sectors = inode.run_sectors.items;
  acl = inode.acl;
}

-- the number of whom an entry speaks of; 0 of the special ones
abbrev pub id_of : Who → ℕ
id_of who.Owner = 0
id_of who.Group = 0
id_of who.Everyone = 0
id_of (who.User id) = id
id_of (who.NamedGroup id) = id

-- an entry that can be encoded: of its flags only the lowest four
pub record IsAce (ace : Ace) : Type 0 where
  pub flags : ace.flags.0 < 16
  pub mask : ace.mask.0 < 2 ^ 32
  pub id : id_of ace.who < 2 ^ 32

-- the number of a run sector
pub record IsRunSector (sector : ℕ) : Type 0 where
  pub some : 0 < sector
  pub fits : sector < 2 ^ 32

-- the most entries that a form has room for
abbrev pub most_entries : Form → ℕ
most_entries One = 40
most_entries Two = 72

-- What can be encoded in a form: numbers that fit, no more entries than the form has room for, and
-- one run sector for each 500 runs, rounded up, at most nine.
pub record IsInode (form : Form) (fields : Fields) : Type 0 where
  pub number : fields.number < 2 ^ 64
  pub owner : fields.owner < 2 ^ 32
  pub group : fields.group < 2 ^ 32
  pub change : fields.change < 2 ^ 64
  pub time_modify : fields.time_modify < 2 ^ 64
  pub size : fields.size < 2 ^ 64
  pub runs : fields.runs ≤ 4500
  pub run_sectors : length fields.run_sectors ≡ (fields.runs + 499) / 500
  pub each_run_sector : AllByRecursion IsRunSector fields.run_sectors
  pub acl : length fields.acl ≤ most_entries form
  pub each_ace : AllByRecursion IsAce fields.acl
