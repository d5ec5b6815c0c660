-- The laws of what the definitions rule out.
use Rattle.std.proofs.Common.{inr, ◌⊎◌, ◌≡◌, ◌≢◌, ℕ, zero, suc, ◌+◌, ◌-◌, ◌<◌, ◌≤◌, inl, Bool, true, false, cond, ◌==◌, nat_lt, List, [], ◌∷◌, ◌++◌, length, take, slice_get, find, Option, None, Some, Result, Ok, Err, refl, sym, ap, ◌∙◌, subst, arith, eq-eqb}
use borrow.Author.Tests.{eqb-false}
use Rattle.std.proofs.lemmas.Bool.{eqb-true, false≢true, true≢false, cond-true}
use Rattle.model_tree.specs.Seats.Seats.{Seats}
use Rattle.model_tree.specs.declared.status.Status.{Status}
use Rattle.model_tree.specs.declared.status.Status.TheVariants as status
use Rattle.model.specs.Operations.Answer.{Answer, Outcome, ExchangeIdAnswer, CreateSessionAnswer}
use Rattle.model_tree.specs.Trees.Keyed.{at}
use Rattle.model.specs.Operations.Operation.{Argument, SequenceArguments, operation_of}
use Rattle.model.specs.Wire.Record.{framed}
use Rattle.model.specs.Wire.Rpc as calls
use Rattle.model.specs.Wire.Rpc.{CallRead, NoCall, OtherVersion, Calls, Request, Answers, read_call, request_of, reply_text, Success}
use Rattle.model.specs.Sessions.Session as sessions
use Rattle.model.specs.Sessions.Session.{Table, Session, Slot, Kept, Begun, Runs, begin, begin_by, begin_slot, begin_new, finish, finished_slot, changed_where, is_session, slot_at, next_number}
use Rattle.model_tree.specs.Trees.Tree.{Tree}
use Rattle.model.specs.Server.World.{ServerLimits, World, InProgress, Connection, Quiet, Waiting, Busy, Replied, Closed, HasRun, Gives, Replays, outcome_text, exchanged, created_by, session_created, tabled, started_in, begun, reclaimed, refuses, in_room, has_room, run, Turned, Entry, executed_entry, behind, ends, goes_on, reply_with, status_of, requested, in_progress, called, with_result, is_last, has_run, operates, Next, Refuses, Reads, next_operation, turned, one, without_connection, hangs_up, hung_up, turns, operations_left, is_busy, further, closes, is_to_hold, noting}
use Rattle.model.specs.Server.Runs.{Takes, Happens, StaysDown, MayBeTaken, is_durable, tree_after, executed, executed_by, executed_of, effect_of, Event, Serving, RunHistory, IsRun, Begins, Goes_on, Fails_at, Stays_down, Flushed, mounted, left_after, Left, IsAfterEvent, is_done}
use Rattle.model.specs.Server.RuledOut.{NoSkip, NoEarlyReply, NoTakingBack, NoReplyAlone, NoSecondRun, NoForgetting, NoGap, IsOutcome, IsBehind, IsOneFurther, OneATurn, HangsUpLast, request_by, request_in, request_at, after_turns, HangUpIsEvents, EachEventHappens, with_operations, EndsByHolding}
use Rattle.std.proofs.Common.{get_or-set_same, length-set, lt-ltb}
use Rattle.std.specs.List.{IsAmong}
use Rattle.model.proofs.Server.Headline.{every_run, only_one}
use Rattle.model.proofs.Server.RunLaws.{EntryFits, event_fits}
use Rattle.model_tree.proofs.Trees.KeyedLaws.{at-with_same, at-without_same}
use Rattle.model.proofs.Sessions.SlotLaw.{cond_runs, cond_never, refuses_not, replays_not, begin_runs}

pub no_skip : NoSkip
no_skip start write change tree durable prefix =
    let above : 1 < prefix.k = prefix.good 1 change (0, (omega arith, refl)) refl durable in
    let within : prefix.k ≤ 2 = prefix.within in
    let two : prefix.k ≡ 2 = omega arith in
    prefix.holds ∙ ap (λ (n : ℕ). tree_after start (take n (write ∷ change ∷ []))) two

pub no_early_reply : NoEarlyReply
no_early_reply = record {
  kept = λ old new event entry happens e lasts changes left among same. by_mode old new event entry happens e lasts changes left among same happens.defers refl;
  waits = λ old new event happens waits. happens.waits_on waits;
  given = λ old new connection waits. λ either. given_by old new connection waits either;
}
  where
    before_of : Entry → Tree
    before_of entry = entry.state.tree

    by_mode : (old new : Serving) (event : Event) (entry : Entry) (happens : Happens old event new) → executed old event ≡ Some entry → is_durable entry ≡ true → before_of entry ≢ entry.after
        → (left : Left) → IsAmong new.left left → left.tree ≡ before_of entry → (b : Bool) → happens.defers ≡ b → new.waits ≡ true
    by_mode old new event entry happens e lasts changes left among same true mode = happens.deferred mode entry e lasts
    by_mode old new event entry happens e lasts changes left among same false mode = absurd (changes (sym same ∙ happens.durable mode entry e lasts left among))

    given_by : (old new : Serving) (connection : ℕ) → old.waits ≡ true → Happens old (Takes connection) new ⊎ StaysDown old connection new → ⊥
    given_by old new connection waits (inl happens) = subst (λ (b : Bool). MayBeTaken b (Takes connection)) waits happens.taken
    given_by old new connection waits (inr stays) = true≢false (sym waits ∙ stays.none_waits)

-- what is at a place is still there with more after it
still_there : (done more : List Entry) (i : ℕ) (entry : Entry) → slice_get done i ≡ Some entry → slice_get (done ++ more) i ≡ Some entry
still_there [] more i entry is = let never : ⊥ = cc in absurd never
still_there (first ∷ done) more zero entry is = is
still_there (first ∷ done) more (suc i) entry is = still_there done more i entry is

pub no_taking_back : NoTakingBack
no_taking_back limits run start seats serving history i change is_run handed_out there durable event tree may =
    let prefix = every_run limits run start seats serving history is_run event tree may in
    (prefix.k, prefix.good i change handed_out (still_there history.done _ i change there) durable, prefix.holds)

pub no_reply_alone : NoReplyAlone
no_reply_alone old new event happens changed either left among = elim either [
  | inl once ↦ happens.seats once changed left among
  | inr none ↦ by_mode none happens.defers refl
]
  where
    by_mode : new.waits ≡ false → (b : Bool) → happens.defers ≡ b → left ≡ left_after new.world
    by_mode none false mode = happens.seats mode changed left among
    by_mode none true mode = absurd (false≢true (sym none ∙ happens.seats_deferred mode changed))

-- SEQUENCE

kept_never : (uid count : ℕ) (arguments : SequenceArguments) (session : Session) (slot : Slot) (reply : List ℕ) → arguments.sequence ≡ slot.last
    → begin_slot uid count arguments session slot (Kept reply) ≡ Runs → ⊥
kept_never uid count arguments session slot reply same e = by_test (arguments.sequence == slot.last) (eq-eqb arguments.sequence slot.last same) e
  where
    by_test : (b : Bool) → b ≡ true → cond b (cond (uid == slot.uid) (sessions.Replays reply) (sessions.Refuses status.SeqFalseRetry)) (begin_new count arguments session slot) ≡ Runs → ⊥
    by_test true is e = cond_never (uid == slot.uid) (sessions.Replays reply) (sessions.Refuses status.SeqFalseRetry) (replays_not reply) (refuses_not status.SeqFalseRetry) e
    by_test false is e = absurd (never is)
      where
        never : false ≡ true → ⊥
        never e = cc

pub no_second_run : NoSecondRun
unfolding begin
no_second_run uid count arguments table session reply known kept same e =
    let there : begin_by uid count arguments table.seats (Some session) ≡ Runs = ap (begin_by uid count arguments table.seats) (sym known) ∙ e in
    let slot = slot_at session arguments.slot in
    let at_slot = (cond_runs (nat_lt arguments.slot (length session.slots)) _ (sessions.Refuses status.BadSlot) (refuses_not status.BadSlot) there).1 in
    kept_never uid count arguments session slot reply same (ap (begin_slot uid count arguments session slot) (sym kept) ∙ at_slot)

-- what is found is found again, as it was changed
found_changed : (id : List ℕ) (change : Session → Session) (sessions : List Session) (session : Session) → ((one : Session) → is_session id (change one) ≡ is_session id one)
    → find (is_session id) sessions ≡ Some session
    → find (is_session id) (changed_where (is_session id) change sessions) ≡ Some (change session)
found_changed id change [] session same e = let never : ⊥ = cc in absurd never
found_changed id change (one ∷ others) session same e = by_test (is_session id one) refl e (found_changed id change others session same)
  where
    by_test : (b : Bool) → is_session id one ≡ b → cond b (Some one) (find (is_session id) others) ≡ Some session
        → (find (is_session id) others ≡ Some session → find (is_session id) (changed_where (is_session id) change others) ≡ Some (change session))
        → cond (is_session id (cond b (change one) one)) (Some (cond b (change one) one)) (find (is_session id) (changed_where (is_session id) change others)) ≡ Some (change session)
    by_test true is e later =
        let first : one ≡ session = cc in
        ap (λ (b : Bool). cond b (Some (change one)) (find (is_session id) (changed_where (is_session id) change others))) (same one ∙ is)
        ∙ ap (λ (s : Session). Some (change s)) first
    by_test false is e later =
        ap (λ (b : Bool). cond b (Some one) (find (is_session id) (changed_where (is_session id) change others))) is ∙ later e

kept_replays : (uid count : ℕ) (arguments : SequenceArguments) (session : Session) (slot : Slot) (reply : List ℕ) → arguments.sequence ≡ slot.last → uid ≡ slot.uid
    → begin_slot uid count arguments session slot (Kept reply) ≡ sessions.Replays reply
kept_replays uid count arguments session slot reply same caller =
    cond-true _ _ _ (eq-eqb arguments.sequence slot.last same) ∙ cond-true _ _ _ (eq-eqb uid slot.uid caller)

finished_replays : (uid count : ℕ) (arguments : SequenceArguments) (seats : Seats) (session : Session) (reply : List ℕ) → arguments.slot < length session.slots
    → arguments.sequence ≡ (slot_at session arguments.slot).last → uid ≡ (slot_at session arguments.slot).uid
    → begin_by uid count arguments seats (Some (finished_slot arguments.slot reply session)) ≡ sessions.Replays reply
finished_replays uid count arguments seats session reply within same caller =
    let new : Slot = record (slot_at session arguments.slot) { state = Kept reply } in
    let done = finished_slot arguments.slot reply session in
    let there : slot_at done arguments.slot ≡ new = get_or-set_same session.slots arguments.slot new sessions.no_slot within in
    let inside : arguments.slot < length done.slots = omega (arith, length-set session.slots arguments.slot new) in
    cond-true _ _ _ (lt-ltb arguments.slot (length done.slots) inside)
    ∙ ap (λ (slot : Slot). begin_slot uid count arguments done slot slot.state) there
    ∙ kept_replays uid count arguments done new reply same caller

pub no_forgetting : NoForgetting
unfolding begin finish
no_forgetting uid count arguments table session holds reply known within same caller =
    ap (begin_by uid count arguments (finish arguments.session arguments.slot holds reply table).seats)
    (found_changed arguments.session (finished_slot arguments.slot reply) table.sessions session (λ one. refl) known)
    ∙ finished_replays uid count arguments (finish arguments.session arguments.slot holds reply table).seats session reply within same caller

pub no_gap : NoGap
no_gap uid count arguments table session known e =
    let runs = begin_runs uid count arguments table e in
    let both : Some runs.session ≡ Some session = sym runs.is ∙ known in
    let same : runs.session ≡ session = cc in
    runs.next ∙ ap (λ (one : Session). next_number (slot_at one arguments.slot).last) same

-- One operation a turn

-- the same request, except for its context, its slot and what follows
record IsSameRequest (request left : InProgress) : Type 0 where
  xid : left.xid ≡ request.xid
  tag : left.tag ≡ request.tag
  count : left.count ≡ request.count
  answered : left.answered ≡ request.answered
  results : left.results ≡ request.results
  rest : left.rest ≡ request.rest
  ended : left.ended ≡ request.ended

same_request : (request : InProgress) → IsSameRequest request request
same_request request = record { xid = refl; tag = refl; count = refl; answered = refl; results = refl; rest = refl; ended = refl }

noted_same : (request left : InProgress) (before after : World) (operation : Argument) → IsSameRequest request left → IsSameRequest request (noting before after operation left)
noted_same request left before after operation same = record {
  xid = same.xid;
  tag = same.tag;
  count = same.count;
  answered = same.answered;
  results = same.results;
  rest = same.rest;
  ended = same.ended;
}

-- the operation is a SEQUENCE, to which this slot keeps this result
record IsReplayed (world : World) (request : InProgress) (operation : Argument) (result session : List ℕ) (slot : ℕ) : Type 0 where
  arguments : SequenceArguments
  asks : operation ≡ Argument.Sequence arguments
  keeps : begin request.context.cred.uid request.count arguments world.table ≡ sessions.Replays result
  of : ◌≡◌ {A = List ℕ × ℕ} (session, slot) (arguments.session, arguments.slot)

abbrev Keeps : World → InProgress → Argument → HasRun → Type 0
Keeps world request operation (Gives outcome after left) = IsSameRequest request left
Keeps world request operation (Replays result session slot) = IsReplayed world request operation result session slot

exchanged_keeps : (world : World) (request : InProgress) (operation : Argument) (outcome : Result ExchangeIdAnswer Status × Table)
    → Keeps world request operation (exchanged world request outcome)
exchanged_keeps world request operation (Err reason, table) = same_request request
exchanged_keeps world request operation (Ok answer, table) = same_request request

created_by_keeps : (world : World) (request : InProgress) (operation : Argument) (outcome : sessions.CreateSessionOutcome) (answer : Result CreateSessionAnswer Status)
    → Keeps world request operation (created_by world request outcome answer)
created_by_keeps world request operation outcome (Err reason) = same_request request
created_by_keeps world request operation outcome (Ok answer) = same_request request

created_keeps : (world : World) (request : InProgress) (operation : Argument) (outcome : sessions.CreateSessionOutcome)
    → Keeps world request operation (session_created world request outcome)
created_keeps world request operation outcome = created_by_keeps world request operation outcome outcome.answer

tabled_keeps : (world : World) (request : InProgress) (operation : Argument) (number : ℕ) (answer : Answer) (outcome : Option Status × Table)
    → Keeps world request operation (tabled world request number answer outcome)
tabled_keeps world request operation number answer (Some reason, table) = same_request request
tabled_keeps world request operation number answer (None, table) = same_request request

started_in_keeps : (world : World) (request : InProgress) (arguments : SequenceArguments) (known : Option Session)
    → Keeps world request (Argument.Sequence arguments) (started_in world request arguments known)
started_in_keeps world request arguments None = same_request request
started_in_keeps world request arguments (Some session) = record { xid = refl; tag = refl; count = refl; answered = refl; results = refl; rest = refl; ended = refl }

begun_keeps : (world : World) (request : InProgress) (arguments : SequenceArguments) (begins : Begun)
    → begin request.context.cred.uid request.count arguments world.table ≡ begins → Keeps world request (Argument.Sequence arguments) (begun world request arguments begins)
begun_keeps world request arguments (sessions.Refuses reason) is = same_request request
begun_keeps world request arguments (sessions.Replays reply) is = record { arguments = arguments; asks = refl; keeps = is; of = refl }
begun_keeps world request arguments sessions.Runs is = started_in_keeps world request arguments (find (is_session arguments.session) world.table.sessions)

reclaimed_keeps : (world : World) (request : InProgress) (operation : Argument) (refusal : Option Status)
    → Keeps world request operation (reclaimed world request refusal)
reclaimed_keeps world request operation None = same_request request
reclaimed_keeps world request operation (Some reason) = same_request request

run_keeps : (world : World) (request : InProgress) (now : ℕ) (operation : Argument) → Keeps world request operation (run world request now operation)
unfolding run
run_keeps world request now (Argument.ExchangeId arguments) = exchanged_keeps world request _ _
run_keeps world request now (Argument.CreateSession arguments) = created_keeps world request _ _
run_keeps world request now (Argument.DestroySession id) = tabled_keeps world request _ 44 _ _
run_keeps world request now (Argument.DestroyClientId client) = tabled_keeps world request _ 57 _ _
run_keeps world request now (Argument.Sequence arguments) = begun_keeps world request arguments _ refl
run_keeps world request now (Argument.ReclaimComplete true) = reclaimed_keeps world request _ _
run_keeps world request now (Argument.ReclaimComplete false) = tabled_keeps world request _ 58 _ _
run_keeps world request now operation = record { xid = refl; tag = refl; count = refl; answered = refl; results = refl; rest = refl; ended = refl }

either_keeps : (world : World) (request : InProgress) (operation : Argument) (b : Bool) (x y : HasRun) → Keeps world request operation x → Keeps world request operation y
    → Keeps world request operation (cond b x y)
either_keeps world request operation true x y first second = first
either_keeps world request operation false x y first second = second

in_room_keeps : (world : World) (request : InProgress) (operation : Argument) (ran : HasRun) → Keeps world request operation ran
    → Keeps world request operation (in_room world request (operation_of operation) ran)
in_room_keeps world request operation (Gives (Outcome.Refused number reason) after left) keeps = keeps
in_room_keeps world request operation (Gives (Outcome.Done answer) after left) keeps =
    either_keeps world request operation (has_room world request (Outcome.Done answer)) _ (refuses world request (operation_of operation) status.RepTooBig)
    keeps (same_request request)
in_room_keeps world request operation (Replays result session slot) keeps = keeps

-- What the connection has then

-- what the next operation has come to, with the bytes after it
record HasCome (old : World) (request : InProgress) (next : Next) (left : InProgress) (world : World) (outcome : Outcome) (entry : Option Entry) : Type 0 where
  rest : List ℕ
  same : IsSameRequest (record request { rest = rest }) left
  executes : IsOutcome old request next outcome entry world.tree
  behind : is_done outcome ≡ true → IsBehind next rest

abbrev FurtherBy : World → InProgress → Next → ℕ → Turned → Type 0
FurtherBy old request next number turned = IsOneFurther old request next turned (at number turned.world.connections)

module _ (old : World) (request : InProgress) (next : Next) (number : ℕ) (going : request.ended ≡ None) where
  abbrev Further : Turned → Type 0
  Further = FurtherBy old request next number

  same_reply : (left : InProgress) (rest : List ℕ) (outcome : Outcome) → IsSameRequest (record request { rest = rest }) left
      → framed (reply_with left outcome) ≡ framed (reply_with request outcome)
  same_reply left rest outcome same = rw (same.xid, same.tag, same.answered, same.results) refl

  busy_further : (left : InProgress) (world : World) (answer : Answer) (entry : Option Entry) → HasCome old request next left world (Outcome.Done answer) entry → is_last left ≡ false
      → Further (goes_on world number (with_result left (Outcome.Done answer)) entry)
  busy_further left world answer entry come more =
      let same = come.same in
      let after : InProgress = with_result left (Outcome.Done answer) in
      subst (IsOneFurther old request next (goes_on world number after entry)) (sym (at-with_same world.connections number (Busy after))) (inl (record {
        answer = answer;
        executes = come.executes;
        results = ap (λ (bytes : List ℕ). bytes ++ outcome_text (Outcome.Done answer)) same.results;
        answered = ap (λ (n : ℕ). n + 1) same.answered;
        rest = subst (IsBehind next) (sym same.rest) (come.behind refl);
        xid = same.xid;
        tag = same.tag;
        count = same.count;
        others = λ last. eqb-false (left.answered + 1) left.count more (ap (λ (n : ℕ). n + 1) same.answered ∙ last ∙ sym same.count);
        ended = same.ended ∙ going;
      }))

  ends_further : (left : InProgress) (world : World) (outcome : Outcome) (entry : Option Entry) → HasCome old request next left world outcome entry
      → (is_done outcome ≡ false) ⊎ (request.answered + 1 ≡ request.count) → Further (ends world number (with_result left outcome) (status_of outcome) false entry)
  ends_further left world outcome entry come why =
      subst (IsOneFurther old request next (ends world number (with_result left outcome) (status_of outcome) false entry))
      (sym (at-with_same world.connections number (Replied (framed (reply_with left outcome)))))
      (inl (record { outcome = outcome; executes = come.executes; last = why; says = same_reply left come.rest outcome come.same }))

  waits_further : (left : InProgress) (world : World) (outcome : Outcome) (entry : Option Entry) → HasCome old request next left world outcome entry
      → (is_done outcome ≡ false) ⊎ (request.answered + 1 ≡ request.count)
      → Further (goes_on world number (record (with_result left outcome) { ended = Some (status_of outcome) }) entry)
  waits_further left world outcome entry come why =
      let same = come.same in
      let after : InProgress = record (with_result left outcome) { ended = Some (status_of outcome) } in
      subst (IsOneFurther old request next (goes_on world number after entry)) (sym (at-with_same world.connections number (Busy after))) (inr (record {
        outcome = outcome;
        executes = come.executes;
        last = why;
        results = ap (λ (bytes : List ℕ). bytes ++ outcome_text outcome) same.results;
        answered = ap (λ (n : ℕ). n + 1) same.answered;
        ended = refl;
        xid = same.xid;
        tag = same.tag;
        count = same.count;
      }))

  chosen_further : (b : Bool) (x y : Turned) → (b ≡ true → Further x) → (b ≡ false → Further y) → Further (cond b x y)
  chosen_further true x y first second = first refl
  chosen_further false x y first second = second refl

  closes_further : (left : InProgress) (world : World) (outcome : Outcome) (entry : Option Entry) → HasCome old request next left world outcome entry
      → (is_done outcome ≡ false) ⊎ (request.answered + 1 ≡ request.count) → Further (closes world number (with_result left outcome) (status_of outcome) entry)
  closes_further left world outcome entry come why =
      chosen_further (is_to_hold left world.table) _ _
      (λ seated. waits_further left world outcome entry come why) (λ none. ends_further left world outcome entry come why)

  behind_further : (left : InProgress) (world : World) (outcome : Outcome) (entry : Option Entry) → HasCome old request next left world outcome entry
      → Further (behind world number left outcome entry)
  behind_further left world (Outcome.Refused operation reason) entry come =
      closes_further left world (Outcome.Refused operation reason) entry come (inl refl)
  behind_further left world (Outcome.Done answer) entry come =
      chosen_further (is_last left) _ _
      (λ last. closes_further left world (Outcome.Done answer) entry come
      (inr (ap (λ (n : ℕ). n + 1) (sym come.same.answered) ∙ eqb-true (left.answered + 1) left.count last ∙ come.same.count)))
      (λ more. busy_further left world answer entry come more)

has_run_further : (world : World) (request : InProgress) (number : ℕ) (operation : Argument) (rest : List ℕ) (ran : HasRun) → request.ended ≡ None
    → Keeps world (record request { rest = rest }) operation ran
    → FurtherBy world request (Reads operation rest) number (has_run world number (record request { rest = rest }) operation ran)
has_run_further world request number operation rest (Gives outcome after left) going keeps =
    behind_further world request (Reads operation rest) number going (noting world after operation left) after outcome (Some (executed_entry world request operation outcome after))
    (record { rest = rest; same = noted_same (record request { rest = rest }) left world after operation keeps; executes = refl; behind = λ done. refl })
has_run_further world request number operation rest (Replays result session slot) going keeps =
    let reply : List ℕ = framed (reply_text request.xid (Success result)) in
    subst (IsOneFurther world request (Reads operation rest) (has_run world number (record request { rest = rest }) operation (Replays result session slot)))
    (sym (at-with_same world.connections number (Replied reply)))
    (inr (record {
      arguments = keeps.arguments;
      rest = rest;
      result = result;
      reads = ap (λ (asked : Argument). Reads asked rest) keeps.asks;
      keeps = keeps.keeps;
      slot = ap (λ (of : List ℕ × ℕ). Some of) keeps.of;
      executes = refl;
      says = refl;
    }))

operates_further : (world : World) (number now : ℕ) (request : InProgress) (next : Next) → request.ended ≡ None → FurtherBy world request next number (operates world number now request next)
operates_further world number now request (Refuses operation reason) going =
    behind_further world request (Refuses operation reason) number going request world (Outcome.Refused operation reason) None
    (record { rest = request.rest; same = same_request request; executes = (refl, refl); behind = λ done. absurd (false≢true done) })
operates_further world number now request (Reads operation rest) going =
    has_run_further world request number operation rest _ going
    (in_room_keeps world (record request { rest = rest }) operation _ (run_keeps world (record request { rest = rest }) now operation))

begun_further : (world : World) (number now : ℕ) (request one : InProgress) → one.ended ≡ None → Some one ≡ Some request
    → FurtherBy world request (next_operation request) number (operates world number now one (next_operation one))
begun_further world number now request one going is =
    let same : one ≡ request = cc in
    subst (λ (r : InProgress). FurtherBy world r (next_operation r) number (operates world number now one (next_operation one))) same
    (operates_further world number now one (next_operation one) going)

requested_further : (world : World) (number now xid : ℕ) (request : InProgress) (asked : Request) → request_by world xid asked ≡ Some request
    → FurtherBy world request (next_operation request) number (requested world number now xid asked)
requested_further world number now xid request (Answers reply) is = let never : ⊥ = cc in absurd never
requested_further world number now xid request (calls.Runs cred compound) is = begun_further world number now request (in_progress world xid cred compound) refl is

called_further : (world : World) (number now : ℕ) (request : InProgress) (call : CallRead) → request_in world call ≡ Some request
    → FurtherBy world request (next_operation request) number (called world number now call)
called_further world number now request NoCall is = let never : ⊥ = cc in absurd never
called_further world number now request (OtherVersion xid) is = let never : ⊥ = cc in absurd never
called_further world number now request (Calls call) is = requested_further world number now call.xid request (request_of call) is

ended_further : (world : World) (number now : ℕ) (request one : InProgress) (ended : Option Status) → one.ended ≡ ended → with_operations one ended ≡ Some request
    → FurtherBy world request (next_operation request) number (further world number now one ended)
ended_further world number now request one None going is = begun_further world number now request one going is
ended_further world number now request one (Some last) ended is = let never : ⊥ = cc in absurd never

turned_further : (world : World) (number now : ℕ) (request : InProgress) (connection : Option Connection) → request_at world connection ≡ Some request
    → FurtherBy world request (next_operation request) number (turned world number now connection)
turned_further world number now request None is = let never : ⊥ = cc in absurd never
turned_further world number now request (Some (Quiet bytes)) is = let never : ⊥ = cc in absurd never
turned_further world number now request (Some (Waiting bytes)) is = called_further world number now request (read_call bytes) is
turned_further world number now request (Some (Busy one)) is = ended_further world number now request one one.ended refl is
turned_further world number now request (Some (Replied reply)) is = let never : ⊥ = cc in absurd never
turned_further world number now request (Some Closed) is = let never : ⊥ = cc in absurd never

pub one_a_turn : OneATurn
unfolding one
one_a_turn world number now request is = turned_further world number now request (at number world.connections) is

-- A hang-up

quiet_turns : (most : ℕ) (world : World) (number now : ℕ) → is_busy (at number world.connections) ≡ false → turns most world number now ≡ world
quiet_turns zero world number now e = refl
quiet_turns (suc most) world number now e = ap (λ (b : Bool). cond b (turns most (one world number now).world number now) world) e

busy_turns : (most : ℕ) (world : World) (number now : ℕ) → is_busy (at number world.connections) ≡ true → turns (suc most) world number now ≡ turns most (one world number now).world number now
busy_turns most world number now e = ap (λ (b : Bool). cond b (turns most (one world number now).world number now) world) e

-- after a turn, with what its further turns come to
makes_reply : (world : World) (number now : ℕ) (request : InProgress) (last : Status) → at number world.connections ≡ Some (Busy request) → request.ended ≡ Some last
    → one world number now ≡ ends world number request last true None
unfolding one
makes_reply world number now request last is ended =
    ap (turned world number now) is ∙ ap (further world number now request) ended

pub ends_by_holding : EndsByHolding
ends_by_holding world number now request last is ended = makes_reply world number now request last is ended

turns_end : (most : ℕ) (world : World) (number now : ℕ) (request : InProgress) → at number world.connections ≡ Some (Busy request) → request.count + 1 ≤ request.answered + most
    → request.answered ≤ request.count → (request.ended ≡ None → request.answered < request.count) → is_busy (at number (turns most world number now).connections) ≡ false
turns_end zero world number now request is left within some = absurd (omega arith)
turns_end (suc most) world number now request is left within some =
    let busy : is_busy (at number world.connections) ≡ true = ap is_busy is in
    subst (λ (after : World). is_busy (at number after.connections) ≡ false) (sym (busy_turns most world number now busy))
    (by_ended request.ended refl (λ after at_after count inside some. turns_end most (one world number now).world number now after at_after count inside some))
  where
    by_connection : request.answered < request.count → (connection : Option Connection) → at number (one world number now).world.connections ≡ connection
        → IsOneFurther world request (next_operation request) (one world number now) connection
        → ((after : InProgress) → at number (one world number now).world.connections ≡ Some (Busy after) → after.count + 1 ≤ after.answered + most → after.answered ≤ after.count
        → (after.ended ≡ None → after.answered < after.count) → is_busy (at number (turns most (one world number now).world number now).connections) ≡ false)
        → is_busy (at number (turns most (one world number now).world number now).connections) ≡ false
    by_connection less None e further more = absurd further
    by_connection less (Some (Quiet bytes)) e further more = absurd further
    by_connection less (Some (Waiting bytes)) e further more = absurd further
    by_connection less (Some Closed) e further more = absurd further
    by_connection less (Some (Replied reply)) e further more =
        let quiet : is_busy (at number (one world number now).world.connections) ≡ false = ap is_busy e in
        subst (λ (after : World). is_busy (at number after.connections) ≡ false) (sym (quiet_turns most (one world number now).world number now quiet)) quiet
    by_connection less (Some (Busy after)) e (inl further) more =
        let answered = further.answered in
        let count = further.count in
        more after e (omega (arith, left, answered, count)) (omega (arith, less, answered, count)) (λ none. below after answered count further.others)
      where
        below : (after : InProgress) → after.answered ≡ request.answered + 1 → after.count ≡ request.count → request.answered + 1 ≢ request.count → after.answered < after.count
        below after answered count unequal = omega (arith, less)
    by_connection less (Some (Busy after)) e (inr further) more =
        let answered = further.answered in
        let count = further.count in
        more after e (omega (arith, left, answered, count)) (omega (arith, less, answered, count)) (λ none. absurd (never (sym none ∙ further.ended)))
      where
        never : {s : Status} → None ≡ Some s → ⊥
        never e = cc

    by_ended : (ended : Option Status) → request.ended ≡ ended
        → ((after : InProgress) → at number (one world number now).world.connections ≡ Some (Busy after) → after.count + 1 ≤ after.answered + most → after.answered ≤ after.count
        → (after.ended ≡ None → after.answered < after.count) → is_busy (at number (turns most (one world number now).world number now).connections) ≡ false)
        → is_busy (at number (turns most (one world number now).world number now).connections) ≡ false
    by_ended None none more =
        by_connection (some none) (at number (one world number now).world.connections) refl
        (one_a_turn world number now request (ap (request_at world) is ∙ ap (with_operations request) none)) more
    by_ended (Some last) ended more =
        let made = makes_reply world number now request last is ended in
        let quiet : is_busy (at number (one world number now).world.connections) ≡ false =
        ap (λ (t : Turned). is_busy (at number t.world.connections)) made ∙ ap is_busy (at-with_same world.connections number _) in
        subst (λ (after : World). is_busy (at number after.connections) ≡ false) (sym (quiet_turns most (one world number now).world number now quiet)) quiet

pub dropped : (world : World) (number : ℕ) → is_busy (at number world.connections) ≡ false → hangs_up world number ≡ without_connection world number
unfolding hangs_up
dropped world number e = ap (λ (b : Bool). cond b world (without_connection world number)) e

pub hangs_up_last : HangsUpLast
unfolding hangs_up hung_up
hangs_up_last = record {
  keeps = λ world number e. ap (λ (b : Bool). cond b world (without_connection world number)) e;
  goes = λ world number now request is some.
      let most : operations_left (at number world.connections) ≡ suc (request.count - request.answered) = ap operations_left is in
      let ended = turns_end (suc (request.count - request.answered)) world number now request is (omega arith) (omega arith) (λ none. some) in
      let after = turns (suc (request.count - request.answered)) world number now in
      let same : hung_up world number now ≡ hangs_up after number = ap (λ (n : ℕ). hangs_up (turns n world number now) number) most in
      ap (λ (left : World). at number left.connections) (same ∙ dropped after number ended) ∙ at-without_same after.connections number;
}

turns_are : (most : ℕ) (world : World) (number now : ℕ) → (k : ℕ) × (turns most world number now ≡ after_turns k world number now)
turns_are zero world number now = (0, refl)
turns_are (suc most) world number now = by_busy (is_busy (at number world.connections)) (turns_are most (one world number now).world number now)
  where
    by_busy : (b : Bool) → (k : ℕ) × (turns most (one world number now).world number now ≡ after_turns k (one world number now).world number now)
        → (k : ℕ) × (cond b (turns most (one world number now).world number now) world ≡ after_turns k world number now)
    by_busy true more = (suc more.0, more.1)
    by_busy false more = (0, refl)

pub hang_up_is_events : HangUpIsEvents
unfolding hung_up
hang_up_is_events world number now =
    let more = turns_are (operations_left (at number world.connections)) world number now in
    (more.0, ap (λ (left : World). hangs_up left number) more.1)

-- A server that flushes each change at once

flushed : Serving → Event → Serving
flushed old event = record {
  world = effect_of old.world event;
  left = left_after (effect_of old.world event) ∷ [];
  is_down = false;
  waits = old.waits;
}

lasts_flushed : (old new tree : Tree) (made : Option Entry) (entry : Entry) → EntryFits old new made → made ≡ Some entry → tree ≡ new → tree ≡ entry.after
lasts_flushed old new tree made entry fits is same =
    let there : EntryFits old new (Some entry) = subst (EntryFits old new) is fits in
    same ∙ there.1

pub each_event_happens : EachEventHappens
unfolding flushed
each_event_happens old event up taken =
    let fits = event_fits old.world event in
    let after = left_after (effect_of old.world event) in
    let is : executed old event ≡ executed_of old.world event = ap (executed_by old.world event) up in (
      flushed old event,
      record {
        up = up;
        world = refl;
        still_up = refl;
        no_others = λ left among.
            inr (subst (λ (b : Bool). IsAfterEvent old.world event b left) (sym up) (only_one after left among));
        defers = false;
        deferred = λ mode. absurd (false≢true mode);
        waits_on = λ waits. waits;
        at_once = λ mode. refl;
        taken = taken;
        durable = λ mode entry e lasts left among.
            lasts_flushed old.world.tree (effect_of old.world event).tree left.tree (executed_of old.world event) entry fits (sym is ∙ e)
            (ap (λ (l : Left). l.tree) (only_one after left among));
        seats = λ mode changed left among. only_one after left among;
        seats_deferred = λ mode. absurd (false≢true mode);
      },
      (0, (omega arith, refl)),
    )
