-- A call gets its reply: by induction over what happens.
use Rattle.std.proofs.Common.{◌≡◌, ◌+◌, ◌<◌, ◌≤◌, inl, inr, ℕ, zero, suc, Bool, true, false, cond, not, ◌==◌, List, Option, None, Some, Result, Ok, Err, refl, sym, ap, ◌∙◌, subst, arith}
use Rattle.std.proofs.lemmas.Bool.{true≢false}
use Rattle.std.proofs.lemmas.Option.{same_Some}
use Rattle.xdr.specs.declared.refusal.Refusal.{Refusal}
use Rattle.model_tree.specs.declared.acl.Cred.{Cred}
use Rattle.model_tree.specs.declared.status.Status.{Status}
use Rattle.model_tree.specs.Trees.Keyed.{at}
use Rattle.model.specs.Wire.Rpc.{Call, CallRead, NoCall, OtherVersion, Calls, Request, Answers, Runs, read_call, is_call_read, request_of, by_head, by_cred, cred_of, compound_head, is_empty}
use Rattle.model.specs.Server.RuledOut.{IsOneFurther, request_at, request_in, request_by, with_operations}
use Rattle.model.specs.Server.Runs.{Event, effect_of}
use Rattle.model.specs.Server.World.{World, InProgress, Connection, Quiet, Waiting, Busy, Replied, Closed, in_progress, next_operation, Turned, turned, called, requested, one}
use Rattle.model_tree.proofs.Trees.KeyedLaws.{at-with_same}
use Rattle.model.proofs.Server.RuledOutLaws.{one_a_turn, ends_by_holding}
use Rattle.client.specs.Whole.{IsElsewhere}
use Rattle.client.specs.Progress.{HasTurns, Rests, Beside, Takes_turn, HasReply, operations_of, operations_by, EveryCallIsAnswered, EveryRequestIsAnswered}
use Rattle.client.proofs.Elsewhere.{IsAsked, connection_stays, reply_stays}

-- A COMPOUND that is run has an operation

abbrev HasSome : Request → Type 0
HasSome (Answers reply) = Unit {0}
HasSome (Runs cred compound) = 0 < compound.count

some_of : (b : Bool) (x y : Request) → HasSome x → HasSome y → HasSome (cond b x y)
some_of true x y first second = first
some_of false x y first second = second

some_unless : (b : Bool) (x y : Request) → (b ≡ false → HasSome x) → HasSome y → HasSome (cond (not b) x y)
some_unless true x y first second = second
some_unless false x y first second = first refl

above : (n : ℕ) → (n == 0) ≡ false → 0 < n
above zero is = absurd (true≢false is)
above (suc n) is = omega arith

head_some : (cred : Cred) (read : Result ((List ℕ × (ℕ × ℕ)) × List ℕ) Refusal) → HasSome (by_head cred read)
head_some cred (Err fault) = tt
head_some cred (Ok head) =
    some_of (not (head.0.1.0 == 1)) _ _ tt (some_unless (head.0.1.1 == 0) _ _ (above head.0.1.1) (some_of (is_empty head.1) _ _ tt tt))

cred_some : (call : Call) (cred : Option Cred) → HasSome (by_cred call cred)
cred_some call None = tt
cred_some call (Some cred) = head_some cred (compound_head.read call.body)

call_some : (call : Call) → HasSome (request_of call)
unfolding request_of
call_some call =
    some_of (not (call.program == 100003)) _ _ tt
    (some_of (not (call.version == 4)) _ _ tt
    (some_of (call.procedure == 0) _ _ (some_of (is_empty call.body) _ _ tt tt)
    (some_of (call.procedure == 1) _ _
    (some_of (call.flavour == 0) _ _ tt (some_of (call.flavour == 1) _ _ (cred_some call (cred_of call.credential)) tt)) tt)))

-- What is replied to without an operation

abbrev IsShort : Request → Type 0
IsShort (Answers reply) = Unit {0}
IsShort (Runs cred compound) = ⊥

abbrev IsShortCall : CallRead → Type 0
IsShortCall NoCall = ⊥
IsShortCall (OtherVersion xid) = Unit {0}
IsShortCall (Calls call) = IsShort (request_of call)

module _ (world : World) (number now : ℕ) where
  request_replied : (xid : ℕ) (request : Request) → IsShort request → HasReply (requested world number now xid request).world number
  request_replied xid (Answers reply) short = (_, at-with_same world.connections number _)
  request_replied xid (Runs cred compound) short = absurd short

  call_replied : (read : CallRead) → IsShortCall read → HasReply (called world number now read).world number
  call_replied NoCall short = absurd short
  call_replied (OtherVersion xid) short = (_, at-with_same world.connections number _)
  call_replied (Calls call) short = request_replied call.xid (request_of call) short

-- What is left of a request

-- turns enough for the operations that are left, and for the reply
record Soon (turns : ℕ) (request : InProgress) : Type 0 where
  more : request.answered < request.count
  enough : request.count + 1 ≤ request.answered + turns

abbrev Going : ℕ → Option InProgress → Type 0
Going turns going = (request : InProgress) × (going ≡ Some request) × Soon turns request

module _ (turns : ℕ) (old new : World) where
  begun_again : (other : ℕ) (asked : Request) → Going turns (request_by old other asked) → Going turns (request_by new other asked)
  begun_again other (Answers reply) goes = let never : ⊥ = cc goes.1 in absurd never
  begun_again other (Runs cred compound) goes =
      let soon = subst (Soon turns) (sym (same_Some (in_progress old other cred compound) goes.0 goes.1)) goes.2 in
      (in_progress new other cred compound, refl, record { more = soon.more; enough = soon.enough })

  read_again : (read : CallRead) → Going turns (request_in old read) → Going turns (request_in new read)
  read_again NoCall goes = let never : ⊥ = cc goes.1 in absurd never
  read_again (OtherVersion other) goes = let never : ⊥ = cc goes.1 in absurd never
  read_again (Calls call) goes = begun_again call.xid (request_of call) goes

  asked_again : (connection : Connection) → Going turns (request_at old (Some connection)) → Going turns (request_at new (Some connection)) × IsAsked connection
  asked_again (Quiet bytes) goes = let never : ⊥ = cc goes.1 in absurd never
  asked_again (Waiting bytes) goes = (read_again (read_call bytes) goes, tt)
  asked_again (Busy request) goes = (goes, tt)
  asked_again (Replied reply) goes = let never : ⊥ = cc goes.1 in absurd never
  asked_again Closed goes = let never : ⊥ = cc goes.1 in absurd never

module _ (number : ℕ) where
  -- operations are left; a call waits that has none; the reply is to be made; or it is there
  data Stands (turns : ℕ) (world : World) : Type 0 where
    Left : Going turns (request_at world (at number world.connections)) → Stands turns world
    Short : (bytes : List ℕ) → at number world.connections ≡ Some (Waiting bytes) → IsShortCall (read_call bytes) → 1 ≤ turns → Stands turns world
    Held : (request : InProgress) (last : Status) → at number world.connections ≡ Some (Busy request) → request.ended ≡ Some last → 1 ≤ turns → Stands turns world
    There : HasReply world number → Stands turns world

  left_beside : (turns : ℕ) (world : World) (event : Event) → IsElsewhere number event → (found : Option Connection) → at number world.connections ≡ found
      → Going turns (request_at world found) → Stands turns (effect_of world event)
  left_beside turns world event apart None is goes = let never : ⊥ = cc goes.1 in absurd never
  left_beside turns world event apart (Some connection) is goes =
      let again = asked_again turns world (effect_of world event) connection goes in
      Left (subst (λ (there : Option Connection). Going turns (request_at (effect_of world event) there))
      (sym (connection_stays world number connection event is again.1 apart)) again.0)

  beside : (turns : ℕ) (world : World) (event : Event) → IsElsewhere number event → Stands turns world → Stands turns (effect_of world event)
  beside turns world event apart (Left goes) = left_beside turns world event apart (at number world.connections) refl goes
  beside turns world event apart (Short bytes is short some) =
      Short bytes (connection_stays world number (Waiting bytes) event is tt apart) short some
  beside turns world event apart (Held request last is ended some) =
      Held request last (connection_stays world number (Busy request) event is tt apart) ended some
  beside turns world event apart (There reply) = There (reply.0, reply_stays world number reply.0 event reply.1 apart)

  module _ (turns : ℕ) (world : World) (now : ℕ) where
    abbrev after_it : World
    after_it = (one world number now).world

    further : (request : InProgress) → Soon (suc turns) request → (connection : Option Connection) → at number after_it.connections ≡ connection
        → IsOneFurther world request (next_operation request) (one world number now) connection → Stands turns after_it
    further request soon None is came = absurd came
    further request soon (Some (Quiet bytes)) is came = absurd came
    further request soon (Some (Waiting bytes)) is came = absurd came
    further request soon (Some Closed) is came = absurd came
    further request soon (Some (Replied reply)) is came = There (reply, is)
    further request soon (Some (Busy after)) is (inl one_more) =
        let more = soon.more in
        let enough = soon.enough in
        let answered = one_more.answered in
        let count = one_more.count in
        let others = one_more.others in
        Left (
          after,
          ap (request_at after_it) is ∙ ap (with_operations after) one_more.ended,
          record { more = omega (arith, more, answered, count, others); enough = omega (arith, enough, answered, count) },
        )
    further request soon (Some (Busy after)) is (inr last) =
        let more = soon.more in
        let enough = soon.enough in
        Held after _ is last.ended (omega (arith, more, enough))

    turn : Stands (suc turns) world → Stands turns after_it
    unfolding one
    turn (Left goes) = further goes.0 goes.2 (at number after_it.connections) refl (one_a_turn world number now goes.0 goes.1)
    turn (Short bytes is short some) =
        let reply = call_replied world number now (read_call bytes) short in
        There (reply.0, ap (λ (t : Turned). at number t.world.connections) (ap (turned world number now) is) ∙ reply.1)
    turn (Held request last is ended some) =
        There (_, ap (λ (t : Turned). at number t.world.connections) (ends_by_holding world number now request last is ended) ∙ at-with_same world.connections number _)
    turn (There reply) =
        There (reply.0, ap (λ (t : Turned). at number t.world.connections) (ap (turned world number now) reply.1) ∙ reply.1)

  at_last : (turns : ℕ) (world last : World) → Stands turns world → HasTurns number turns world last → HasReply last number
  at_last _ world _ (Left goes) Rests =
      let more = goes.2.more in
      let enough = goes.2.enough in
      absurd (omega (arith, more, enough))
  at_last _ world _ (Short bytes is short some) Rests = absurd (omega (arith, some))
  at_last _ world _ (Held request status is ended some) Rests = absurd (omega (arith, some))
  at_last _ world _ (There reply) Rests = reply
  at_last turns world last stands (Beside event apart more) = at_last turns (effect_of world event) last (beside turns world event apart stands) more
  at_last _ world last stands (Takes_turn {turns = turns} now more) = at_last turns (one world number now).world last (turn turns world now stands) more

  -- A call that has come

  module _ (turns : ℕ) (world : World) (bytes : List ℕ) (is : at number world.connections ≡ Some (Waiting bytes)) where
    abbrev ReadAs : CallRead → Type 0
    ReadAs read = read_call bytes ≡ read

    short : (read : CallRead) → ReadAs read → IsShortCall read → 1 ≤ turns → Stands turns world
    short read same is_short enough = Short bytes is (subst IsShortCall (sym same) is_short) enough

    asked : (call : Call) → ReadAs (Calls call) → (request : Request) → request_of call ≡ request → HasSome request → operations_by request + 1 ≤ turns → Stands turns world
    asked call same (Answers reply) answers some enough = short (Calls call) same (subst IsShort (sym answers) tt) (omega (arith, enough))
    asked call same (Runs cred compound) runs some enough =
        Left (
          in_progress world call.xid cred compound,
          ap (request_at world) is ∙ (ap (request_in world) same ∙ ap (request_by world call.xid) runs),
          record { more = some; enough = omega (arith, enough) },
        )

    come : (read : CallRead) → ReadAs read → is_call_read read ≡ true → operations_of read + 1 ≤ turns → Stands turns world
    come NoCall same is_call enough = absurd (true≢false (sym is_call))
    come (OtherVersion xid) same is_call enough = short (OtherVersion xid) same tt (omega (arith, enough))
    come (Calls call) same is_call enough = asked call same (request_of call) refl (call_some call) enough

pub every_call_is_answered : EveryCallIsAnswered
every_call_is_answered world last number turns bytes is is_call enough has =
    at_last number turns world last (come number turns world bytes is (read_call bytes) refl is_call enough) has

pub every_request_is_answered : EveryRequestIsAnswered
every_request_is_answered world last number turns request is more enough has =
    at_last number turns world last (Left (request, is, record { more = more; enough = enough })) has
