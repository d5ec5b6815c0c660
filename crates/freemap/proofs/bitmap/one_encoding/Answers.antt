use Rattle.freemap.proofs.Laws.{one_set, one_encoding}
use Rattle.freemap.proofs.bitmap.one_encoding.Goals as goal

pub returns-clause-set : goal.returns-clause-set
returns-clause-set c = one_set

pub returns-clause-sectors : goal.returns-clause-sectors
returns-clause-sectors c = one_encoding
