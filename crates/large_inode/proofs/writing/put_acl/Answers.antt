use Rattle.std.proofs.Common.{refl, arith}
use Rattle.large_inode.proofs.Written.{acl_written}
use Rattle.large_inode.proofs.writing.put_acl.Goals as goal

pub returns-clause-prefix : goal.returns-clause-prefix
returns-clause-prefix c = acl_written c.args.sector.now c.loop-i.sector c.put_zeros.new.sector c.args.aces.now _ _ c.loop-i.i c.loop-i.invariant (omega arith) c.requires.few refl refl c.put_zeros.ensures.prefix
