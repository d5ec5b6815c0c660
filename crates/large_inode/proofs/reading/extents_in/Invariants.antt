use Rattle.sector.specs.Written.{AreRead}
use Rattle.extent_tree.specs.Encoding.{entry_bytes, IsEncodable}
use Rattle.large_inode.proofs.reading.extents_in.Given as goal

abbrev pub invariant-loop-i : goal.invariant-loop-i
invariant-loop-i l = AreRead entry_bytes IsEncodable 1280 256 l.sector l.entries.items l.i
