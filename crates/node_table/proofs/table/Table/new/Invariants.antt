use Rattle.std.proofs.Common.{◌≡◌, ◌≤◌, None, replicate}
use Rattle.std.specs.Prelude.{vec_len, vec_capacity}
use Rattle.node_table.proofs.TableLaws.{AreFirst}
use Rattle.node_table.proofs.table.Table.new.Given as goal

-- this many places are free, and in the table
abbrev pub invariant-loop-place : goal.invariant-loop-place
invariant-loop-place l = record {
  within : l.place ≤ l.places;
  free : AreFirst l.place l.free.items;
  free_len : vec_len l.free ≡ l.place;
  cached_nodes : l.cached_nodes.items ≡ replicate l.place None;
  cached_nodes_len : vec_len l.cached_nodes ≡ l.place;
  free_room : vec_capacity l.free ≡ l.places;
  cached_nodes_room : vec_capacity l.cached_nodes ≡ l.places;
}
