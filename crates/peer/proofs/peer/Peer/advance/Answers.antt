use Rattle.std.proofs.Common.{refl}
use Rattle.peer.specs.Steps.{Dismissed}
use Rattle.peer.proofs.Carried.{ending_has_none, gives_on, made_has_none, quiet, reads_as, replying_has_none, sends_on, stuck_on_write}
use Rattle.peer.proofs.Tallies.{consumes_none}
use Rattle.peer.proofs.peer.Peer.advance.Goals as goal

pub returns-in-Gathers-clause-ends : goal.returns-in-Gathers-clause-ends
returns-in-Gathers-clause-ends g c = λ is. let was = c.gather.ensures.does.advances.carries.ends is in let never : ⊥ = cc in absurd never

pub returns-in-Runs-clause-does : goal.returns-in-Runs-clause-does
returns-in-Runs-clause-does g c =
    reads_as c.args.self.now c.run.new.self c.run.result (λ gathers. let was = c.in-Runs.is in let never : ⊥ = cc in never) c.run.ensures.does.advances

pub returns-in-Runs-clause-ends : goal.returns-in-Runs-clause-ends
returns-in-Runs-clause-ends g c = λ is. let was = c.run.ensures.does.advances.carries.ends is in let never : ⊥ = cc in absurd never

pub returns-in-Made-clause-does : goal.returns-in-Made-clause-does
returns-in-Made-clause-does g c =
    reads_as c.args.self.now c.take_reply.new.self c.take_reply.result (λ gathers. let was = c.in-Made.is in let never : ⊥ = cc in never)
    (gives_on c.args.self.now c.take_reply.new.self c.take_reply.result (made_has_none c.args.self.now c.in-Made.is) c.take_reply.ensures.does)

pub returns-in-Made-clause-ends : goal.returns-in-Made-clause-ends
returns-in-Made-clause-ends g c = λ is. let was = c.take_reply.ensures.does.carries.ends is in let never : ⊥ = cc in absurd never

pub returns-in-Replies-clause-asleep : goal.returns-in-Replies-clause-asleep
returns-in-Replies-clause-asleep g c = stuck_on_write c.args.server.now c.reply.new.self c.reply.result c.reply.ensures.asleep

pub returns-in-Replies-clause-does : goal.returns-in-Replies-clause-does
returns-in-Replies-clause-does g c =
    reads_as c.args.self.now c.reply.new.self c.reply.result (λ gathers. let was = c.in-Replies.is in let never : ⊥ = cc in never)
    (sends_on c.args.server.now c.args.self.now c.reply.new.self c.reply.result (replying_has_none c.args.self.now _ c.in-Replies.is) c.reply.ensures.does)

pub returns-in-Replies-clause-ends : goal.returns-in-Replies-clause-ends
returns-in-Replies-clause-ends g c = λ is. absurd (c.reply.ensures.does.stays is)

pub returns-in-Ends-clause-does : goal.returns-in-Ends-clause-does
returns-in-Ends-clause-does g c =
    quiet c.args.server.now c.args.self.now c.args.self.now _ (consumes_none _) refl refl refl refl (ending_has_none c.args.self.now c.in-Ends.is)
    (λ gathers. let was = c.in-Ends.is in let never : ⊥ = cc in absurd never) (λ is. let never : ⊥ = cc in absurd never) (Dismissed c.in-Ends.is)
