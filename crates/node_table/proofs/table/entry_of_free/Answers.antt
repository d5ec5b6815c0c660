use Rattle.std.proofs.Common.{arith}
use Rattle.node_table.proofs.TableLaws.{times-off}
use Rattle.node_table.proofs.table.entry_of_free.Goals as goal

pub returns-clause-none : goal.returns-clause-none
returns-clause-none c = times-off c.args.place c.args.free.now (λ i h. c.loop-i.invariant.off i (omega arith) h)
