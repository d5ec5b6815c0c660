-- The limits of a volume and of what it stores: this server's profile. The definitions take them as
-- an argument.
use Rattle.std.specs.Prelude.{ℕ, ◌+◌, ◌-◌}
pub use Rattle.model_tree.specs.declared.limits.Limits.{Limits}

-- the limits of a volume of `sectors` sectors and `nodes` nodes: 148 sectors come before the node
-- table, which has one for each node
abbrev pub limits_of : (sectors nodes : ℕ) → Limits
limits_of sectors nodes = record {
  data_sectors = sectors - (148 + nodes);
  nodes = nodes;
  names = 1024;
  name_bytes = 255;
  file_bytes = 16777216;
  aces_set = 64;
  aces = 72;
  transfer_bytes = 8192;
  opens = 256;
}
