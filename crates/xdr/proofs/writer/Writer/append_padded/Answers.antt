use Rattle.std.proofs.Common.{refl}
use Rattle.xdr.proofs.Writing.{wrote_padded}
use Rattle.xdr.proofs.writer.Writer.append_padded.Goals as goal

pub returns : goal.returns
returns c = wrote_padded c.pad_len-pad.result c.in_ok-append.ensures.wrote c.append-2.ensures.wrote refl c.pad_len-pad.ensures.value c.pad_len-pad.ensures.small
