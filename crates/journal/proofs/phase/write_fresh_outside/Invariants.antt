use Rattle.std.proofs.Common.{◌≡◌, ◌≤◌, ◌-◌}
use Rattle.journal.specs.Format.{fresh_outside}
use Rattle.journal.proofs.Moments.{wrote_all}
use Rattle.journal.proofs.phase.write_fresh_outside.Given as goal

abbrev pub invariant-loop-n : goal.invariant-loop-n
invariant-loop-n g l = record {
  begun : 1 ≤ l.n;
  within : l.n ≤ l.size;
  wrote : g.D.Device.keeps_word
      → g.D.Device.history l.device ≡ wrote_all (fresh_outside l.area l.unread l.n l.updates) (g.D.Device.history l.fn.device);
  size_is : g.D.Device.size l.device ≡ g.D.Device.size l.fn.device;
  none : g.D.Device.failed l.device ≡ g.D.Device.failed l.fn.device;
}

abbrev pub decreases-loop-n : goal.decreases-loop-n
decreases-loop-n g l = l.size - l.n
