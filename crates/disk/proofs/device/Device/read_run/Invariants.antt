use Rattle.std.proofs.Common.{◌≡◌, ◌<◌, ◌+◌, ℕ, [], slice_index_or}
use Rattle.disk.specs.Moments.{seen}
use Rattle.disk.proofs.device.Device.read_run.Given as goal

abbrev pub invariant-loop-i : goal.invariant-loop-i
invariant-loop-i g l = record {
  read : g.Self.Device.keeps_word → (i : ℕ) → i < l.i
      → slice_index_or l.contents i [] ≡ seen (g.Self.Device.history l.fn.self).now (l.fn.first + i);
  history : g.Self.Device.history l.self ≡ g.Self.Device.history l.fn.self;
  size : g.Self.Device.size l.self ≡ g.Self.Device.size l.fn.self;
  none : g.Self.Device.failed l.self ≡ g.Self.Device.failed l.fn.self;
}
