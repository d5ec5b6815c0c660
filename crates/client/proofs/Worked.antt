-- The results of the definitions for the exchange that is worked out by hand.
use Rattle.std.proofs.Common.{◌≡◌, ◌<◌, ℕ, Bool, true, false, List, [], ◌∷◌, length, get_or, Some, None, inl, inr, refl, sym, ap, subst, cond, ◌∙◌, arith, nat_lt}
use Rattle.std.specs.List.{list_all}
use Rattle.std.proofs.lemmas.Bool.{cases_lt, ltb-true, true≢false}
use Rattle.std.proofs.lemmas.List.{get_or_past}
use Rattle.std.proofs.lemmas.List.Folds.{list_all_at}
use Rattle.xdr.specs.Forms.{padded, padded_at, counted, counted_at, each_at, elements, elements_at}
use Rattle.xdr.specs.Grammar.{number, number_at}
use Rattle.xdr.specs.Laws.{IsBytes}
use Rattle.model_tree.specs.declared.status.Status.TheVariants as status
use Rattle.model.specs.Operations.Answer.{Answer, Outcome}
use Rattle.model_tree.specs.Trees.Keyed.{at}
use Rattle.model.specs.Operations.Operation.{Argument, SequenceArguments, operation_of}
use Rattle.model.specs.Wire.Record.{framed}
use Rattle.model.specs.Wire.Rpc.{Success, words, reply_text, compound_text}
use Rattle.model.specs.Wire.RpcGrammar.{read_reply}
use Rattle.model.specs.Server.RuledOut.{IsOutcome, request_at}
use Rattle.model.specs.Server.Runs.{Connects}
use Rattle.model.specs.Sessions.Session.{Running, session_id, begin, started}
use Rattle.model.specs.Operations.Step.{refusals, effect, does}
use Rattle.model.specs.Wire.WireAnswers.{outcome_at}
use Rattle.model.specs.Wire.WireArguments.{arguments_at}
use Rattle.model.specs.Server.World.{World, InProgress, Quiet, Waiting, Replied, Gives, Next, Reads, Turned, next_operation, run, in_progress, outcome_text, one, arrives, connects, with_connection, with_result, result_of, state_of, has_room, in_room, refuses, executed_entry, goes_on, ends, behind, noting, has_run, operates}
use Rattle.client.specs.ExchangeExample.{ExchangeExample, caller, session, asking, client, operations, call, table, world, outcomes, reply}
use Rattle.client.specs.Joined.{CanBeSent, IsWhole, IsWithin, compound_sent}
use Rattle.client.specs.Replies.{Gives as Tells, message_of, reply_read, reply_to}
use Rattle.client.specs.Requests.{head_text, operations_text, call_text, credential_text, record_text, requested}
use Rattle.client.specs.Whole.{IsAnsweredBy, Elsewhere, Goes_on, Ends, IsExchange}
use Rattle.client.proofs.JoinedLaws.{text, waits, after_is}
use Rattle.client.proofs.Operates.{one_operates}

all_bytes : (bytes : List ℕ) → list_all (λ b. nat_lt b 256) bytes ≡ true → IsBytes bytes
all_bytes bytes all i = elim (cases_lt i (length bytes)) [
  | inl within ↦ by_test within (nat_lt (get_or bytes i 0) 256) refl
  | inr past ↦ rw (get_or_past bytes i 0 past) (omega arith)
]
  where
    by_test : i < length bytes → (b : Bool) → nat_lt (get_or bytes i 0) 256 ≡ b → get_or bytes i 0 < 256
    by_test within true is = ltb-true (get_or bytes i 0) 256 is
    by_test within false is = absurd (true≢false (sym all ∙ list_all_at (λ b. nat_lt b 256) bytes i 0 within is))

-- the call, and its record

text_is : call_text 5 (credential_text caller) [] operations ≡ call
unfolding call_text head_text operations_text number padded counted elements
text_is = refl

can_be_sent : CanBeSent 5 caller [] operations
unfolding number padded counted elements
can_be_sent =
    let credential : length (credential_text caller) ≡ 20 = refl in
    record {
      xid_fits = omega arith;
      cred_fits = (omega arith, (omega arith, (omega arith, (omega arith, (omega arith, tt)))));
      cred_short = omega (arith, credential);
      cred_bytes = all_bytes (credential_text caller) refl;
      tag_short = omega arith;
      some = omega arith;
      counted = omega arith;
      bytes = subst IsBytes (sym text_is) (all_bytes call refl);
    }

within : IsWithin world (call_text 5 (credential_text caller) [] operations)
unfolding number
within =
    let size : length call ≡ 112 = refl in
    subst (IsWithin world) (sym text_is) (record { size = omega (arith, size); short = omega (arith, size); fragments = omega arith })

abbrev sent : List ℕ
sent = record_text 5 (credential_text caller) [] operations

whole : IsWhole sent world 0 sent
whole = record { so_far = []; has = refl; joins = refl }

-- The outcome of a turn, by what it reads

module _ (world : World) (number now : ℕ) (request : InProgress) (operation : Argument) (rest : List ℕ) (given : Outcome) (after : World) (left : InProgress)
    (asks : request_at world (at number world.connections) ≡ Some request) (reads : next_operation request ≡ Reads operation rest)
    (gives : in_room world (record request { rest = rest }) (operation_of operation) (run world (record request { rest = rest }) now operation) ≡ Gives given after left) where
  came : one world number now ≡ behind after number (noting world after operation left) given (Some (executed_entry world request operation given after))
  came =
      one_operates world number now request asks ∙ (ap (operates world number now request) reads
      ∙ ap (has_run world number (record request { rest = rest }) operation) gives)

  has_outcome : (t : Turned) → one world number now ≡ t → t.executed ≡ Some (record { state = state_of world request; operation = operation; outcome = given; after = t.world.tree })
      → IsOutcome world request (next_operation request) given (one world number now).executed (one world number now).world.tree
  has_outcome t is executed =
      subst (λ (next : Next). IsOutcome world request next given (one world number now).executed (one world number now).world.tree) (sym reads)
      (subst (λ (t : Turned). t.executed ≡ Some (record { state = state_of world request; operation = operation; outcome = given; after = t.world.tree })) (sym is) executed)

-- The first turn

abbrev arrived : World
arrived = with_connection world 0 (Waiting (call_text 5 (credential_text caller) [] operations))

abbrev begun : InProgress
begun = in_progress arrived 5 caller (compound_sent [] operations)

asks_first : request_at arrived (at 0 arrived.connections) ≡ Some begun
unfolding text
asks_first = waits 5 caller [] operations can_be_sent world 0 within sent whole

abbrev rest_of : List ℕ
rest_of = words (24 ∷ [])

abbrev sequence : SequenceArguments
sequence = record { session = session.id; sequence = 1; slot = 0; highest_slot = 0; cache_this = true }

abbrev first : Outcome
first = Outcome.Done
    (Answer.Sequence
    (record { session = session.id; sequence = 1; slot = 0; highest_slot = 0; target_highest_slot = 0; flags = 0 }))

reads_first : next_operation begun ≡ Reads (Argument.Sequence sequence) rest_of
unfolding operations_text next_operation number number_at padded padded_at arguments_at
reads_first = refl

abbrev running : World
running = record arrived {
  table = record table {
    sessions =
        record { client = 4294967297; serial = 1; max_operations = 8; slots = record { last = 1; uid = 7; state = Running } ∷ [] } ∷ [];
  };
}

abbrev left : InProgress
left = record begun {
  rest = rest_of;
  context = record { cred = caller; client = 4294967297; run = 1; current = None; saved = None };
  slot = Some (session.id, 0);
}

sequence_runs : run arrived (record begun { rest = rest_of }) 1000 (Argument.Sequence sequence) ≡ Gives first running left
unfolding run begin started session_id number
sequence_runs = refl

first_fits : has_room arrived (record begun { rest = rest_of }) first ≡ true
unfolding reply_text compound_text outcome_text number counted padded
first_fits = refl

gives_first : in_room arrived (record begun { rest = rest_of }) 53 (run arrived (record begun { rest = rest_of }) 1000 (Argument.Sequence sequence)) ≡ Gives first running left
gives_first =
    ap (in_room arrived (record begun { rest = rest_of }) 53) sequence_runs
    ∙ ap (λ (b : Bool). cond b (Gives first running left) (refuses arrived (record begun { rest = rest_of }) 53 status.RepTooBig)) first_fits

abbrev going : InProgress
going = with_result left first

abbrev gone : Turned
gone = goes_on running 0 going (Some (executed_entry arrived begun (Argument.Sequence sequence) first running))

first_came : one arrived 0 1000 ≡ gone
first_came = came arrived 0 1000 begun (Argument.Sequence sequence) rest_of first running left asks_first reads_first gives_first

-- Another connection is made

abbrev beside : World
beside = with_connection gone.world 1 (Quiet [])

made : connects gone.world 1 ≡ beside
unfolding connects
made = refl

-- The second turn

abbrev last : Outcome
last = Outcome.Done Answer.PutRootFh

reads_last : next_operation going ≡ Reads Argument.PutRootFh []
unfolding next_operation number number_at arguments_at
reads_last = refl

abbrev at_root : InProgress
at_root = record going {
  rest = [];
  context = record { cred = caller; client = 4294967297; run = 1; current = Some (record { number = 1; state = None }); saved = None };
}

root_runs : run beside (record going { rest = [] }) 2000 Argument.PutRootFh ≡ Gives last beside at_root
unfolding run does refusals effect
root_runs = refl

last_fits : has_room beside (record going { rest = [] }) last ≡ true
unfolding reply_text compound_text outcome_text number counted padded
last_fits = refl

gives_last : in_room beside (record going { rest = [] }) 24 (run beside (record going { rest = [] }) 2000 Argument.PutRootFh) ≡ Gives last beside at_root
gives_last =
    ap (in_room beside (record going { rest = [] }) 24) root_runs
    ∙ ap (λ (b : Bool). cond b (Gives last beside at_root) (refuses beside (record going { rest = [] }) 24 status.RepTooBig)) last_fits

abbrev ended : Turned
ended = ends beside 0 (with_result at_root last) status.Ok false (Some (executed_entry beside going Argument.PutRootFh last beside))

last_came : one beside 0 2000 ≡ ended
last_came = came beside 0 2000 going Argument.PutRootFh [] last beside at_root refl reads_last gives_last

reply_is : framed (reply_text 5 (Success (result_of (with_result at_root last) status.Ok))) ≡ reply
unfolding framed reply_text compound_text outcome_text number counted padded
reply_is = refl

-- All of it

answered_last : IsAnsweredBy 0 beside (last ∷ []) reply
answered_last = Ends 2000 going last refl
    (ap (λ (t : Turned). at 0 t.world.connections) last_came ∙ ap (λ (bytes : List ℕ). Some (Replied bytes)) reply_is)
    (ap (λ (t : Turned). t.replays) last_came)
    (has_outcome beside 0 2000 going Argument.PutRootFh [] last beside at_root refl reads_last gives_last ended last_came refl)

answered_between : IsAnsweredBy 0 gone.world (last ∷ []) reply
answered_between = Elsewhere (Connects 1) tt (subst (λ (w : World). IsAnsweredBy 0 w (last ∷ []) reply) (sym made) answered_last)

answered_whole : IsAnsweredBy 0 arrived outcomes reply
answered_whole = Goes_on 1000 begun going first asks_first
    (ap (λ (t : Turned). at 0 t.world.connections) first_came)
    (has_outcome arrived 0 1000 begun (Argument.Sequence sequence) rest_of first running left asks_first reads_first gives_first gone first_came refl)
    (subst (λ (t : Turned). IsAnsweredBy 0 t.world (last ∷ []) reply) (sym first_came) answered_between)

answered : IsAnsweredBy 0 (arrives world 0 sent) outcomes reply
unfolding text
answered = subst (λ (w : World). IsAnsweredBy 0 w outcomes reply) (sym (after_is 5 caller [] operations can_be_sent world 0 within sent whole)) answered_whole

exchange : IsExchange client caller operations 5 world 0 outcomes reply
unfolding number
exchange =
    let length_is : length reply ≡ 92 = refl in
    record {
      sent = refl;
      can = can_be_sent;
      fits = ((omega arith, (refl, (omega arith, (omega arith, (omega arith, tt))))), ((omega arith, tt), tt));
      within = within;
      piece = record_text 5 (credential_text caller) [] operations;
      whole = whole;
      answered = answered;
      short = omega (arith, length_is);
      told = ((omega arith, (refl, (omega arith, (omega arith, (omega arith, (omega arith, omega arith)))))), ((omega arith, tt), tt));
    }

asks_so : requested asking (Argument.PutRootFh ∷ []) ≡ Some client
unfolding requested
asks_so = refl

tells_so : reply_to client reply ≡ Tells outcomes status.Ok
unfolding reply_read message_of read_reply number number_at padded padded_at counted counted_at elements_at each_at outcome_at
tells_so = refl

pub worked : ExchangeExample
worked = record { call_is = text_is; asks = asks_so; exchanges = exchange; tells = tells_so }
