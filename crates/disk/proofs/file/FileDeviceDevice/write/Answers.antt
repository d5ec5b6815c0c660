use Rattle.std.proofs.Common.{rules}
use Rattle.disk.proofs.file.FileDeviceDevice.write.Goals as goal
use Rattle.disk.proofs.file.FileDeviceDevice.write.Goals.{then-not-takes+in_ok-hand_over, else-not-takes}

pub put-requires : goal.put-requires
put-requires c = elim c.if-not-takes.branch [
  | then-not-takes+in_ok-hand_over w ↦ rw w.self-is (w.in_ok-hand_over.ensures.begins c.args.n)
  | else-not-takes w ↦ rw w.self-is (search (rules, c.takes.ensures, w.if-not-takes.false))
]
