use Rattle.rpc.proofs.Places.{stands}
use Rattle.rpc.proofs.request.compound_of.Goals as goal

pub returns-then-head-ne0-clause-stands : goal.returns-then-head-ne0-clause-stands
returns-then-head-ne0-clause-stands c =
    stands c.new-at.result c.args.body.now _ c.read_head.new.r c.rest.result.now c.new-at.ensures c.rest.ensures c.in-Ok.ensures
