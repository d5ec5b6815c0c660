use Rattle.std.proofs.Common.{arith}
use Rattle.extent_tree.specs.Encoding.{entries_bytes}
use Rattle.extent_tree.proofs.Bytes.{index_read, index_there}
use Rattle.extent_tree.proofs.encoding.read_index.Goals as goal

pub returns-clause-found : goal.returns-clause-found
returns-clause-found c = index_read c.checked_at.result c.args.sector.now (omega arith) c.checked_at.ensures.found

pub returns-clause-not_entries : goal.returns-clause-not_entries
returns-clause-not_entries c = λ is entries len are e.
    c.checked_at.ensures.not_entries is entries len are (index_there (entries_bytes entries) c.args.sector.now (omega arith) e)
