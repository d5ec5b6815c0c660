use Rattle.std.proofs.Common.{arith}
use Rattle.extent_tree.proofs.Bytes.{index_written}
use Rattle.extent_tree.proofs.encoding.write_index.Goals as goal

pub returns : goal.returns
returns c = index_written c.args.sector.now c.put_entries.new.sector c.args.entries.now c.put_entries.ensures (omega arith) c.requires
