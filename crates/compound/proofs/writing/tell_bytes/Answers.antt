use Rattle.std.proofs.Math.Facts.{Fits-lt-pow}
use Rattle.fs.proofs.BytesLaws.{bytes_by}
use Rattle.compound.proofs.writing.tell_bytes.Goals as goal

pub returns : goal.returns
returns c = bytes_by c.args.data.now (λ i. Fits-lt-pow (c.type_inv.data i))
