-- Which results have room in a reply, and what an operation comes to then.
use Rattle.std.proofs.Common.{◌≡◌, ◌≤◌, ℕ, Bool, true, false, if◌then◌else◌, [], length, nat_le, refl, sym, ap, ◌∙◌, arith, rules, tests}
use Rattle.model.specs.Operations.Answer.{Answer, Outcome, Done, Refused}
use Rattle.model.specs.Operations.Operation.{Argument, operation_of}
use Rattle.model.specs.Server.World.{World, InProgress, Gives, refuses, in_room, has_room, reply_with, outcome_text}
use Rattle.model_tree.specs.declared.status.Status.{Status}
use Rattle.model_tree.specs.declared.status.Status.TheVariants as status
use Rattle.compound.specs.Operates.{RunsTo, GivesIn}
use Rattle.compound.specs.Runs.{with_rest}
use Rattle.compound.specs.States.{SharedState, HasState, with_state}
use Rattle.compound.proofs.Replies.{room_length, tag_brief}

-- a world is itself with what it has
pub state_same : (world : World) (state : SharedState) → HasState world state → with_state world state ≡ world
state_same world state on = rw (sym on.tree, sym on.changes, sym on.table_is, sym on.opens) refl

pub has_room_by : (world : World) (state : SharedState) (request : InProgress) (outcome : Outcome) (room : Bool)
    → HasState world state → room ≡ nat_le (length (reply_with request outcome)) 16368 → has_room world request outcome ≡ room
has_room_by world state request outcome room on is = ap (nat_le (length (reply_with request outcome))) on.reply_bytes ∙ sym is

-- with room the operation gives what it comes to
pub gives_in_room : (now : ℕ) (old new : SharedState) (request left : InProgress) (kind : Argument) (answer : Answer)
    → true ≡ nat_le (length (reply_with request (Done answer))) 16368
    → RunsTo now old new request left kind (Done answer)
    → GivesIn now old new request left kind (Done answer)
gives_in_room now old new request left kind answer room runs = λ world rest on.
    ap (in_room world (with_rest request rest) (operation_of kind)) (runs world rest on)
    ∙ ap (λ (b : Bool). if b then Gives (Done answer) (with_state world new) (with_rest left rest) else refuses world (with_rest request rest) (operation_of kind) status.RepTooBig)
    (has_room_by world old (with_rest request rest) (Done answer) true on room)

-- without it the operation is refused
pub refused_in_room : (now : ℕ) (old new : SharedState) (request left : InProgress) (kind : Argument) (answer : Answer)
    → false ≡ nat_le (length (reply_with request (Done answer))) 16368
    → RunsTo now old new request left kind (Done answer)
    → GivesIn now old old request request kind (Refused (operation_of kind) status.RepTooBig)
refused_in_room now old new request left kind answer room runs = λ world rest on.
    ap (in_room world (with_rest request rest) (operation_of kind)) (runs world rest on)
    ∙ (ap (λ (b : Bool). if b then Gives (Done answer) (with_state world new) (with_rest left rest) else refuses world (with_rest request rest) (operation_of kind) status.RepTooBig)
    (has_room_by world old (with_rest request rest) (Done answer) false on room)
    ∙ ap (λ (after : World). refuses after (with_rest request rest) (operation_of kind) status.RepTooBig) (sym (state_same world old on)))

-- a refusal needs no room
pub gives_refusal : (now : ℕ) (old new : SharedState) (request : InProgress) (kind : Argument) (number : ℕ) (reason : Status)
    → RunsTo now old new request request kind (Refused number reason)
    → GivesIn now old new request request kind (Refused number reason)
gives_refusal now old new request kind number reason runs = λ world rest on.
    ap (in_room world (with_rest request rest) (operation_of kind)) (runs world rest on)

-- the first result has room, if it is short
pub first_room : (request : InProgress) (outcome : Outcome) → length request.tag ≤ 255 → request.results ≡ [] → length (outcome_text outcome) ≤ 256
    → length (reply_with request outcome) ≤ 16368
first_room request outcome short none brief = omega (arith, room_length request outcome, tag_brief request.tag short, ap length none)

pub room_true : (request : InProgress) (outcome : Outcome) → length (reply_with request outcome) ≤ 16368 → true ≡ nat_le (length (reply_with request outcome)) 16368
room_true request outcome short = search (rules, tests)
