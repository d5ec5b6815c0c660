use Rattle.std.proofs.Common.{◌≡◌, take, vec_capacity}
use Rattle.disk.specs.Moments.{seen}
use Rattle.journal.specs.Layout.{copies, targets}
use Rattle.journal.proofs.recover.read_payload.Given as goal

abbrev pub invariant-loop-i : goal.invariant-loop-i
invariant-loop-i g l = record {
  read : g.D.Device.keeps_word → l.updates.items ≡ take l.i (copies (seen (g.D.Device.history l.fn.device).now) l.fn.area.first l.to);
  named : targets l.updates.items ≡ take l.i l.to;
  capacity : vec_capacity l.updates ≡ vec_capacity l.fn.updates;
  history : g.D.Device.history l.device ≡ g.D.Device.history l.fn.device;
  size : g.D.Device.size l.device ≡ g.D.Device.size l.fn.device;
  none : g.D.Device.failed l.device ≡ g.D.Device.failed l.fn.device;
}
