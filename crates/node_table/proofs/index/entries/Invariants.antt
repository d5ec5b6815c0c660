use Rattle.std.proofs.Common.{◌≡◌, ◌≤◌, length, take}
use Rattle.std.specs.Prelude.{vec_len, vec_capacity}
use Rattle.node_table.specs.Index.{entries_from}
use Rattle.node_table.proofs.index.entries.Given as goal

-- this many places have been looked at
abbrev pub invariant-loop-place : goal.invariant-loop-place
invariant-loop-place l = record {
  entries : l.index.items ≡ entries_from 0 (take l.place l.cached_nodes);
  few : vec_len l.index ≤ l.place;
  room : vec_capacity l.index ≡ length l.cached_nodes;
}
