-- The turns of a hang-up.
use Rattle.std.proofs.Common.{◌≡◌, ◌<◌, ◌+◌, ◌-◌, ℕ, true, false, suc, Option, Some, None, sym, subst, arith}
use Rattle.slab.specs.Slab.{Slab}
use Rattle.model_tree.specs.Trees.Keyed.{at}
use Rattle.model_tree.specs.declared.status.Status.{Status}
use Rattle.model.specs.Server.Runs.{Turns}
use Rattle.model.specs.Server.World as world
use Rattle.model.specs.Server.World.{InProgress, Busy, is_busy}
use Rattle.rpc.specs.Assembly.{Assembly, Gathers, Holds, Refuses}
use Rattle.server.specs.declared.connection.Connection.{Connection}
use Rattle.server.specs.declared.stage.Stage.{Stage}
use Rattle.server.specs.declared.stage.Stage.TheVariants as stage
use Rattle.server.specs.Connections.{connection_view, connections_of, HasGoneOn}
use Rattle.server.specs.Stages.{stage_view, held_record, is_ready}
use Rattle.server.proofs.Resumptions.{some_more}
use Rattle.server.specs.Seen.{Seen, Said, Does, IsTurned, AreAtOnce, Stays, Goes_on}
use Rattle.server.proofs.SlabLaws.{stands_some}

pub turned_on : (connection now : ℕ) (old between new : Seen) (said : Said) → IsTurned connection now old between
    → is_busy (at connection between.serving.world.connections) ≡ true → Does between (Turns connection now) said new → IsTurned connection now old new
turned_on connection now old between new said Stays busy does = Goes_on busy does Stays
turned_on connection now old between new said (Goes_on was first more) busy does = Goes_on was first (turned_on connection now _ between new said more busy does)

pub once_on : (connection now : ℕ) (old between new : Seen) (said : Said) (turned : IsTurned connection now old between)
    (busy : is_busy (at connection between.serving.world.connections) ≡ true) (does : Does between (Turns connection now) said new)
    → AreAtOnce connection now old between turned → does.happens.defers ≡ false → AreAtOnce connection now old new (turned_on connection now old between new said turned busy does)
unfolding turned_on
once_on connection now old between new said Stays busy does all once = (once, tt)
once_on connection now old between new said (Goes_on {between = next} was first more) busy does all once = (all.0, once_on connection now next between new said more busy does all.1 once)

-- How many turns are left: one for each operation that is, and one for the reply

abbrev pub more_of : InProgress → Option Status → ℕ
more_of request None = request.count - request.answered
more_of request (Some last) = 0

abbrev pub turns_left : Option world.Connection → ℕ
turns_left (Some (Busy request)) = suc (more_of request request.ended)
turns_left _ = 0

more_in : (assembly : Assembly) (kind : Stage) (request : InProgress) → is_ready kind assembly ≡ true → stage_view assembly kind ≡ Busy request
    → request.ended ≡ None → request.answered < request.count
more_in (Gathers bytes) stage.Receiving request ready is = let never : ⊥ = cc in absurd never
more_in (Holds bytes) stage.Receiving request ready is = let never : ⊥ = cc in absurd never
more_in (Refuses fault) stage.Receiving request ready is = let never : ⊥ = cc in absurd never
more_in assembly (stage.Running begun) request ready is = some_more (held_record assembly) begun request ready is
more_in assembly (stage.Replied reply) request ready is = let never : ⊥ = cc in absurd never

-- a request that has not ended has fewer results than operations
has_more : (slab : Slab Connection) (n : ℕ) (request : InProgress) → at n (connections_of slab) ≡ Some (Busy request) → request.ended ≡ None → request.answered < request.count
unfolding connection_view
has_more slab n request is =
    let found = stands_some slab n (Busy request) is in
    more_in found.0.assembler found.0.stage request found.0.ready found.2

-- after a turn of one that had not
module _ (request after : InProgress) (more : request.answered < request.count) (further : (request.ended ≡ None) × (after.answered ≡ request.answered + 1) × (after.count ≡ request.count)) where
  fewer_of : (ended : Option Status) → more_of after ended < more_of request None
  fewer_of None = omega (arith, more, further.1, further.2)
  fewer_of (Some last) = omega (arith, more)

  fewer_more : suc (more_of after after.ended) < suc (more_of request request.ended)
  fewer_more =
      let less = subst (λ (e : Option Status). more_of after after.ended < more_of request e) (sym further.0) (fewer_of after.ended) in
      omega (arith, less)

fewer : (slab : Slab Connection) (n : ℕ) (request : InProgress) (left : Option world.Connection) → (request.ended ≡ None → request.answered < request.count) → HasGoneOn (Some (Busy request)) left
    → turns_left left < suc (more_of request request.ended)
fewer slab n request None more further = absurd further
fewer slab n request (Some (world.Quiet bytes)) more further = absurd further
fewer slab n request (Some (world.Waiting bytes)) more further = absurd further
fewer slab n request (Some (Busy after)) more further = fewer_more request after (more further.0) further
fewer slab n request (Some (world.Replied reply)) more further = omega arith
fewer slab n request (Some world.Closed) more further = absurd further

pub fewer_left : (slab : Slab Connection) (n : ℕ) (before : Option world.Connection) (left : Option world.Connection) → at n (connections_of slab) ≡ before → is_busy before ≡ true → HasGoneOn before left
    → turns_left left < turns_left before
fewer_left slab n None left is busy further = let never : ⊥ = cc in absurd never
fewer_left slab n (Some (world.Quiet bytes)) left is busy further = let never : ⊥ = cc in absurd never
fewer_left slab n (Some (world.Waiting bytes)) left is busy further = let never : ⊥ = cc in absurd never
fewer_left slab n (Some (Busy request)) left is busy further = fewer slab n request left (has_more slab n request is) further
fewer_left slab n (Some (world.Replied reply)) left is busy further = let never : ⊥ = cc in absurd never
fewer_left slab n (Some world.Closed) left is busy further = let never : ⊥ = cc in absurd never
