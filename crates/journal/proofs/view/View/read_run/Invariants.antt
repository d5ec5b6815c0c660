use Rattle.std.proofs.Common.{◌≡◌, ◌≤◌, ◌<◌, ◌+◌, ℕ, [], false, slice_index_or}
use Rattle.disk.specs.Moments.{seen}
use Rattle.journal.specs.Views.{view_of, view_failures, name_of}
use Rattle.journal.proofs.view.View.read_run.Given as goal

abbrev pub invariant-loop-i : goal.invariant-loop-i
invariant-loop-i g l = record {
  at_home : g.D.Device.keeps_word → (i : ℕ) → i < l.i
      → slice_index_or l.run i [] ≡ (view_of l.fn.self).base (l.first + i);
  rest : g.D.Device.keeps_word → (i : ℕ) → l.i ≤ i → i < l.i-end
      → slice_index_or l.run i [] ≡ seen (view_of l.fn.self).history.now (l.first + i);
  view : view_of l.self ≡ view_of l.fn.self;
  up : (view_of l.fn.self).is_down ≡ false;
  same : name_of l.self ≡ name_of l.fn.self;
  none : view_failures l.self ≡ view_failures l.fn.self;
}
