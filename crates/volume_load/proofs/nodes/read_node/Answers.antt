use Rattle.volume_load.proofs.SectorLaws.{finds-here}
use Rattle.volume_load.proofs.nodes.read_node.Goals as goal

pub returns-clause-damaged : goal.returns-clause-damaged
returns-clause-damaged g c = λ word is fields found.
    c.node_in.ensures.damaged is fields (finds-here g.S.Sectors.keeps_word c.args.form c.in_ok-content.content _ fields word (c.in_ok-content.ensures.content word) found)
