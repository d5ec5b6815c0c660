use Rattle.rpc.proofs.Feeds.{stands_empty}
use Rattle.rpc.proofs.assembler.Assembler.new.Goals as goal

pub invariant_of-result : goal.invariant_of-result
invariant_of-result c =
    let buffer = c.in_ok-with_capacity.field-0 in
    stands_empty buffer.items buffer.spare c.in_ok-with_capacity.ensures.items c.in_ok-with_capacity.ensures.spare
