use Rattle.std.proofs.Common.{◌≡◌, ◌≤◌, ◌<◌, ◌+◌, ℕ, [], slice_index_or}
use Rattle.disk.specs.Moments.{seen}
use Rattle.journal.specs.Journal.{log_of}
use Rattle.journal.specs.Log.{contents}
use Rattle.journal.proofs.journal.Journal.read_run.Given as goal

abbrev pub invariant-loop-i : goal.invariant-loop-i
invariant-loop-i g l = record {
  newest : g.D.Device.keeps_word → (i : ℕ) → i < l.i
      → slice_index_or l.run i [] ≡ contents (log_of l.self) (l.first + i);
  rest : g.D.Device.keeps_word → (i : ℕ) → l.i ≤ i → i < l.i-end
      → slice_index_or l.run i [] ≡ seen (g.D.Device.history l.self.device).now (l.first + i);
}
