use Rattle.std.proofs.Common.{◌≡◌, ◌≤◌, ◌<◌, ◌+◌, ℕ, [], slice_index_or, unwrap_or}
use Rattle.disk.specs.Run.{newest_in}
use Rattle.disk.proofs.run.Run.copy_over.Given as goal

abbrev pub invariant-loop-i : goal.invariant-loop-i
invariant-loop-i l = record {
  copied : (i : ℕ) → i < l.i → slice_index_or l.contents i [] ≡ unwrap_or (newest_in l.self (l.first + i)) (slice_index_or l.initial.contents i []);
  rest : (i : ℕ) → l.i ≤ i → slice_index_or l.contents i [] ≡ slice_index_or l.initial.contents i [];
}
