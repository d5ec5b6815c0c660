use Rattle.std.proofs.Common.{◌≡◌, ◌+◌, ℕ, length, take}
use Rattle.std.specs.Prelude.{vec_len, vec_capacity}
use Rattle.layout.specs.Marks.{times}
use Rattle.node_table.specs.Tables.{count_of_all, vacant}
use Rattle.node_table.proofs.table.free_places.Given as goal

-- this many places have been looked at
abbrev pub invariant-loop-place : goal.invariant-loop-place
invariant-loop-place l = record {
  times : (n : ℕ) → times n l.free.items ≡ vacant n (take l.place l.cached_nodes);
  count : vec_len l.free + count_of_all (take l.place l.cached_nodes) ≡ l.place;
  room : vec_capacity l.free ≡ length l.cached_nodes;
}
