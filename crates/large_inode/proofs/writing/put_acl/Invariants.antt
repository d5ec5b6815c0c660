use Rattle.sector.specs.Written.{AreWritten}
use Rattle.inode.specs.Encoding.{ace_bytes}
use Rattle.large_inode.proofs.writing.put_acl.Given as goal

abbrev pub invariant-loop-i : goal.invariant-loop-i
invariant-loop-i l = AreWritten ace_bytes 16 128 l.initial.sector l.sector l.aces l.i
