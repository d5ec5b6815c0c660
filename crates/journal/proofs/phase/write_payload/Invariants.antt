use Rattle.std.proofs.Common.{◌≡◌, ◌+◌, take}
use Rattle.journal.specs.Layout.{placed}
use Rattle.journal.proofs.Moments.{wrote_all}
use Rattle.journal.proofs.phase.write_payload.Given as goal

abbrev pub invariant-loop-i : goal.invariant-loop-i
invariant-loop-i g l = record {
  wrote : g.D.Device.keeps_word
      → g.D.Device.history l.device ≡ wrote_all (take l.i (placed (l.fn.area.first + l.behind) l.updates)) (g.D.Device.history l.fn.device);
  size : g.D.Device.size l.device ≡ g.D.Device.size l.fn.device;
  none : g.D.Device.failed l.device ≡ g.D.Device.failed l.fn.device;
}
