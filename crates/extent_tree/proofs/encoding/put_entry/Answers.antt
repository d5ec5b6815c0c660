use Rattle.std.proofs.Common.{arith, refl}
use Rattle.std.specs.Int.{w32, to_be_bytes}
use Rattle.extent_tree.proofs.Bytes.{Places-append}
use Rattle.extent_tree.proofs.encoding.put_entry.Goals as goal

pub returns : goal.returns
returns c =
    Places-append c.args.sector.now c.put_u32.new.sector c.put_u32-2.new.sector c.args.at _ (to_be_bytes w32 c.args.entry.sector) (to_be_bytes w32 c.args.entry.length) c.put_u32.ensures c.put_u32-2.ensures refl (omega arith)
