use Rattle.std.proofs.Common.{arith}
use Rattle.rpc.proofs.Feeds.{stands_empty}
use Rattle.rpc.proofs.assembler.Assembler.release.Goals as goal

pub invariant_of-self : goal.invariant_of-self
invariant_of-self c =
    let left = c.clear.new.self in
    let room = c.self.invariant.room in
    let kept = c.clear.ensures.spare in
    stands_empty left.items left.spare c.clear.ensures.items (omega arith)
