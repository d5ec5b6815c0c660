use Rattle.sector.specs.Written.{AreRead}
use Rattle.inode.specs.Fields.{IsAce}
use Rattle.inode.specs.Encoding.{ace_bytes}
use Rattle.large_inode.proofs.reading.acl_in.Given as goal

abbrev pub invariant-loop-i : goal.invariant-loop-i
invariant-loop-i l = AreRead ace_bytes IsAce 128 l.count l.sector l.acl l.i
