-- What a turn may be: each law that is kept by turns is shown case by case of these.
use Rattle.std.proofs.Common.{◌≡◌, ◌≢◌, ℕ, Bool, true, false, cond, if◌then◌else◌, not, ◌==◌, List, ◌++◌, Option, None, Some, Result, Ok, Err, refl, sym, ◌∙◌}
use Rattle.std.proofs.lemmas.Bool.{true≢false, eq-eqb}
use Rattle.xdr.specs.declared.refusal.Refusal.{Refusal}
use Rattle.model_tree.specs.declared.acl.Cred.{Cred}
use Rattle.model_tree.specs.declared.status.Status.{Status}
use Rattle.model_tree.specs.declared.status.Status.TheVariants as status
use Rattle.model.specs.Operations.Answer.{Outcome, Done, Refused}
use Rattle.model_tree.specs.Trees.Keyed.{at}
use Rattle.model.specs.Operations.Operation.{Argument, operation_of}
use Rattle.model.specs.Wire.Record.{RecordLimits, Prefix, Partial, Refused as BadRecord, Whole, prefix, framed}
use Rattle.model.specs.Wire.Rpc.{CallRead, NoCall, OtherVersion, Calls, VersionRefused, read_call, is_call_read, Call, Request, Answers, Runs, request_of, by_head, by_cred, compound_request, is_empty, cred_of, compound_head, Compound, Reply, Success, reply_text}
use Rattle.model.specs.Server.World.{World, InProgress, Connection, Quiet, Waiting, Busy, Replied, Closed, HasRun, Gives, Replays, Next, Refuses, Reads, next_operation, run, has_room, in_room, Turned, Answered, idle, replies, behind, noting, has_run, operates, executed_entry, ends, further, in_progress, requested, called, turned, one, with_connection, arrived, arrives_at, without_reply}

-- the request that a turn of this connection goes on with: one that has begun, or that begins
pub data GoesWith (world : World) (here : ℕ) : InProgress → Type 0 where
  Begun : (request : InProgress) → at here world.connections ≡ Some (Busy request) → GoesWith world here request
  New : (bytes : List ℕ) (xid : ℕ) (cred : Cred) (compound : Compound) → at here world.connections ≡ Some (Waiting bytes) → compound.count ≢ 0
      → GoesWith world here (in_progress world xid cred compound)

abbrev pub read_of : InProgress → List ℕ → InProgress
read_of request rest = record request { rest = rest }

-- nothing; a reply without an operation; one made of a request that has ended; one refused before
-- it runs; one whose result has no room, or has it; a reply that a slot keeps
pub data IsTurn (world : World) (here now : ℕ) : Turned → Type 0 where
  Idles : IsTurn world here now (idle world)
  Says : (bytes : List ℕ) (xid : ℕ) (reply : Reply) → at here world.connections ≡ Some (Waiting bytes) → IsTurn world here now (replies world here xid reply)
  Closes : (request : InProgress) (last : Status) → at here world.connections ≡ Some (Busy request) → request.ended ≡ Some last
      → IsTurn world here now (ends world here request last true None)
  Unread : (request : InProgress) (operation : ℕ) (reason : Status) → GoesWith world here request
      → IsTurn world here now (behind world here request (Refused operation reason) None)
  TooBig : (request : InProgress) (operation : Argument) (rest : List ℕ) → GoesWith world here request → next_operation request ≡ Reads operation rest
      → IsTurn world here now (behind world here (noting world world operation (read_of request rest)) (Refused (operation_of operation) status.RepTooBig)
      (Some (executed_entry world (read_of request rest) operation (Refused (operation_of operation) status.RepTooBig) world)))
  Gave : (request : InProgress) (operation : Argument) (rest : List ℕ) (outcome : Outcome) (after : World) (left : InProgress) → GoesWith world here request
      → next_operation request ≡ Reads operation rest → run world (read_of request rest) now operation ≡ Gives outcome after left
      → IsTurn world here now (behind after here (noting world after operation left) outcome (Some (executed_entry world (read_of request rest) operation outcome after)))
  Repeats : (request : InProgress) (operation : Argument) (rest result session : List ℕ) (slot : ℕ) → GoesWith world here request
      → next_operation request ≡ Reads operation rest → run world (read_of request rest) now operation ≡ Replays result session slot
      → IsTurn world here now (record {
        turn = Answered;
        world = with_connection world here (Replied (framed (reply_text request.xid (Success result))));
        executed = None;
        keeps = None;
        holds = false;
        replays = Some (session, slot);
      })

module _ (world : World) (here now : ℕ) where
  ran : (request : InProgress) (operation : Argument) (rest : List ℕ) → GoesWith world here request → next_operation request ≡ Reads operation rest
      → (left : HasRun) → run world (read_of request rest) now operation ≡ left
      → IsTurn world here now (has_run world here (read_of request rest) operation (in_room world (read_of request rest) (operation_of operation) left))
  ran request operation rest goes reads (Gives (Refused number reason) after left) is = Gave request operation rest (Refused number reason) after left goes reads is
  ran request operation rest goes reads (Gives (Done answer) after left) is = by_room (has_room world (read_of request rest) (Done answer))
    where
      by_room : (room : Bool) → IsTurn world here now (has_run world here (read_of request rest) operation
          (cond room (Gives (Done answer) after left) (Gives (Refused (operation_of operation) status.RepTooBig) world (read_of request rest))))
      by_room true = Gave request operation rest (Done answer) after left goes reads is
      by_room false = TooBig request operation rest goes reads
  ran request operation rest goes reads (Replays result session slot) is = Repeats request operation rest result session slot goes reads is

  operates_is : (request : InProgress) → GoesWith world here request → (next : Next) → next_operation request ≡ next
      → IsTurn world here now (operates world here now request next)
  operates_is request goes (Refuses operation reason) is = Unread request operation reason goes
  operates_is request goes (Reads operation rest) is =
      ran request operation rest goes is (run world (read_of request rest) now operation) refl

  -- a COMPOUND that runs has an operation

  abbrev HasSome : Request → Type 0
  HasSome (Answers reply) = Unit {0}
  HasSome (Runs cred compound) = compound.count ≢ 0

  by_both : (b : Bool) (x y : Request) → (b ≡ true → HasSome x) → (b ≡ false → HasSome y) → HasSome (if b then x else y)
  by_both true x y first second = first refl
  by_both false x y first second = second refl

  head_some : (cred : Cred) (read : Result ((List ℕ × (ℕ × ℕ)) × List ℕ) Refusal) → HasSome (by_head cred read)
  head_some cred (Err fault) = tt
  head_some cred (Ok head) =
      by_both (not (head.0.1.0 == 1)) _ _ (λ minor. tt) (λ served.
      by_both (not (head.0.1.1 == 0)) _ _
      (λ some none. absurd (true≢false (sym some ∙ ap_not (head.0.1.1 == 0) (eq-eqb head.0.1.1 0 none))))
      (λ none. by_both (is_empty head.1) _ _ (λ empty. tt) (λ more. tt)))
    where
      ap_not : (b : Bool) → b ≡ true → not b ≡ false
      ap_not true is = refl
      ap_not false is = sym is

  cred_some : (call : Call) (cred : Option Cred) → HasSome (by_cred call cred)
  cred_some call None = tt
  cred_some call (Some cred) = head_some cred (compound_head.read call.body)

  compound_some : (call : Call) → HasSome (compound_request call)
  compound_some call =
      by_both (call.flavour == 0) _ _ (λ none. tt) (λ some.
      by_both (call.flavour == 1) _ _ (λ system. cred_some call (cred_of call.credential)) (λ other. tt))

  request_some : (call : Call) → HasSome (request_of call)
  unfolding request_of
  request_some call =
      by_both (not (call.program == 100003)) _ _ (λ other. tt) (λ program.
      by_both (not (call.version == 4)) _ _ (λ other. tt) (λ version.
      by_both (call.procedure == 0) _ _ (λ null. by_both (is_empty call.body) _ _ (λ empty. tt) (λ more. tt)) (λ some.
      by_both (call.procedure == 1) _ _ (λ compound. compound_some call) (λ other. tt))))

  requested_is : (bytes : List ℕ) → at here world.connections ≡ Some (Waiting bytes) → (xid : ℕ) (request : Request) → HasSome request
      → IsTurn world here now (requested world here now xid request)
  requested_is bytes waits xid (Answers reply) some = Says bytes xid reply waits
  requested_is bytes waits xid (Runs cred compound) some =
      operates_is (in_progress world xid cred compound) (New bytes xid cred compound waits some) (next_operation (in_progress world xid cred compound)) refl

  called_is : (bytes : List ℕ) → at here world.connections ≡ Some (Waiting bytes) → (read : CallRead) → IsTurn world here now (called world here now read)
  called_is bytes waits NoCall = Idles
  called_is bytes waits (OtherVersion xid) = Says bytes xid VersionRefused waits
  called_is bytes waits (Calls call) = requested_is bytes waits call.xid (request_of call) (request_some call)

  further_is : (request : InProgress) → at here world.connections ≡ Some (Busy request) → (ended : Option Status) → request.ended ≡ ended
      → IsTurn world here now (further world here now request ended)
  further_is request is None same = operates_is request (Begun request is) (next_operation request) refl
  further_is request is (Some last) same = Closes request last is same

  turned_is : (connection : Option Connection) → at here world.connections ≡ connection → IsTurn world here now (turned world here now connection)
  turned_is None is = Idles
  turned_is (Some (Quiet bytes)) is = Idles
  turned_is (Some (Waiting bytes)) is = called_is bytes is (read_call bytes)
  turned_is (Some (Busy request)) is = further_is request is request.ended refl
  turned_is (Some (Replied reply)) is = Idles
  turned_is (Some Closed) is = Idles

-- each turn is one of these
pub turn_is : (world : World) (here now : ℕ) → IsTurn world here now (one world here now)
unfolding one
turn_is world here now = turned_is world here now (at here world.connections) refl

-- What comes and what is taken: no request begins by it

arrived_quiet : (bytes : List ℕ) (f : Prefix) (request : InProgress) → arrived bytes f ≡ Busy request → ⊥
arrived_quiet bytes Partial request same = cc
arrived_quiet bytes (BadRecord fault) request same = cc
arrived_quiet bytes (Whole one rest) request same = by_call (is_call_read (read_call one)) same
  where
    by_call : (b : Bool) → cond b (Waiting one) Closed ≡ Busy request → ⊥
    by_call true same = cc
    by_call false same = cc

pub arrival_only : (limits : RecordLimits) (piece : List ℕ) (c : Connection) (request : InProgress) → arrives_at limits piece c ≡ Busy request → c ≡ Busy request
arrival_only limits piece (Quiet bytes) request same = absurd (arrived_quiet (bytes ++ piece) (prefix limits (bytes ++ piece)) request same)
arrival_only limits piece (Waiting record_of) request same = same
arrival_only limits piece (Busy other) request same = same
arrival_only limits piece (Replied reply) request same = same
arrival_only limits piece Closed request same = same

pub taking_only : (c : Connection) (request : InProgress) → without_reply c ≡ Busy request → c ≡ Busy request
taking_only (Quiet bytes) request same = same
taking_only (Waiting record_of) request same = same
taking_only (Busy other) request same = same
taking_only (Replied reply) request same = absurd (cc)
taking_only Closed request same = same
