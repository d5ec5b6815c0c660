use Rattle.xdr.specs.Forms.{bitmap, trimmed_bitmap}
use Rattle.xdr.proofs.Sequences.{one_encoding}
use Rattle.xdr.proofs.Arrays.{bitmap_exact, trimmed_exact}
use Rattle.xdr.proofs.laws.bitmaps_are_exact.Goals as goal

pub returns-clause-any : goal.returns-clause-any
returns-clause-any c = bitmap_exact

pub returns-clause-one_any : goal.returns-clause-one_any
returns-clause-one_any c = one_encoding bitmap bitmap_exact

pub returns-clause-trimmed : goal.returns-clause-trimmed
returns-clause-trimmed c = trimmed_exact

pub returns-clause-one_trimmed : goal.returns-clause-one_trimmed
returns-clause-one_trimmed c = one_encoding trimmed_bitmap trimmed_exact
