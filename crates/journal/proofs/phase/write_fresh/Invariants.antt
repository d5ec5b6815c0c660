use Rattle.std.proofs.Common.{◌≡◌, ◌-◌, take}
use Rattle.journal.specs.Format.{fresh}
use Rattle.journal.proofs.Moments.{wrote_all}
use Rattle.journal.proofs.phase.write_fresh.Given as goal

abbrev pub invariant-loop-n : goal.invariant-loop-n
invariant-loop-n g l = record {
  wrote : g.D.Device.keeps_word
      → g.D.Device.history l.device ≡ wrote_all (take (l.n - 1) (fresh (g.D.Device.size l.fn.device) l.updates)) (g.D.Device.history l.fn.device);
  size : g.D.Device.size l.device ≡ g.D.Device.size l.fn.device;
  none : g.D.Device.failed l.device ≡ g.D.Device.failed l.fn.device;
}
