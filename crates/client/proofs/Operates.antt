-- A turn of a request that has not ended is its next operation.
use Rattle.std.proofs.Common.{◌≡◌, ℕ, Option, None, Some, ap}
use Rattle.std.proofs.lemmas.Option.{same_Some}
use Rattle.model_tree.specs.declared.status.Status.{Status}
use Rattle.model_tree.specs.Trees.Keyed.{at}
use Rattle.model.specs.Wire.Rpc.{CallRead, NoCall, OtherVersion, Calls, Request, Answers, Runs, read_call, request_of}
use Rattle.model.specs.Server.RuledOut.{request_at, request_in, request_by, with_operations}
use Rattle.model.specs.Server.World.{World, InProgress, Connection, Quiet, Waiting, Busy, Replied, Closed, next_operation, in_progress, operates, requested as request_runs, called, further, turned, one}

pub one_operates : (world : World) (number now : ℕ) (request : InProgress) → request_at world (at number world.connections) ≡ Some request
    → one world number now ≡ operates world number now request (next_operation request)
unfolding one
one_operates world number now request asks = by_connection (at number world.connections) asks
  where
    begins : (going : InProgress) → Some going ≡ Some request → operates world number now going (next_operation going) ≡ operates world number now request (next_operation request)
    begins going same = ap (λ (r : InProgress). operates world number now r (next_operation r)) (same_Some going request same)

    by_request : (xid : ℕ) (asked : Request) → request_by world xid asked ≡ Some request → request_runs world number now xid asked ≡ operates world number now request (next_operation request)
    by_request xid (Answers answer) same = let never : ⊥ = cc same in absurd never
    by_request xid (Runs cred compound) same = begins (in_progress world xid cred compound) same

    by_call : (read : CallRead) → request_in world read ≡ Some request → called world number now read ≡ operates world number now request (next_operation request)
    by_call NoCall same = let never : ⊥ = cc same in absurd never
    by_call (OtherVersion xid) same = let never : ⊥ = cc same in absurd never
    by_call (Calls one) same = by_request one.xid (request_of one) same

    by_ended : (going : InProgress) (ended : Option Status) → with_operations going ended ≡ Some request
        → further world number now going ended ≡ operates world number now request (next_operation request)
    by_ended going None same = begins going same
    by_ended going (Some last) same = let never : ⊥ = cc same in absurd never

    by_connection : (connection : Option Connection) → request_at world connection ≡ Some request → turned world number now connection ≡ operates world number now request (next_operation request)
    by_connection None same = let never : ⊥ = cc same in absurd never
    by_connection (Some (Quiet bytes)) same = let never : ⊥ = cc same in absurd never
    by_connection (Some (Waiting bytes)) same = by_call (read_call bytes) same
    by_connection (Some (Busy going)) same = by_ended going going.ended same
    by_connection (Some (Replied answer)) same = let never : ⊥ = cc same in absurd never
    by_connection (Some Closed) same = let never : ⊥ = cc same in absurd never
