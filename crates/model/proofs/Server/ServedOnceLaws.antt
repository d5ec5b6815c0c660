-- A slot's numbers run in their order over every run of the whole server.
use Rattle.std.proofs.Common.{◌≡◌, ℕ, inl, Bool, true, false, cond, List, [], ◌∷◌, ◌++◌, option_to_list, find, Option, None, Some, Result, Ok, Err, refl, sym, ap, ◌∙◌, subst, lit<, append_assoc, append-nil}
use Rattle.std.proofs.lemmas.Bool.{false≢true}
use Rattle.model_tree.specs.Seats.Seats.{Seats}
use Rattle.model_tree.specs.declared.status.Status.{Status}
use Rattle.model_tree.specs.declared.status.Status.TheVariants as status
use Rattle.model.specs.Operations.Answer.{Answer, Outcome, ExchangeIdAnswer, CreateSessionAnswer}
use Rattle.model_tree.specs.Trees.Keyed.{at}
use Rattle.model.specs.Operations.Operation.{Argument, ExchangeIdArguments, CreateSessionArguments, SequenceArguments, operation_of}
use Rattle.model.specs.Wire.Rpc.{CallRead, NoCall, OtherVersion, Calls, Request, Answers, Runs, read_call, request_of}
use Rattle.model.specs.Sessions.Session as sessions
use Rattle.model.specs.Sessions.Session.{Table, Session, begin, is_session, next_number}
use Rattle.model.specs.Sessions.SessionRuns.{CountsFrom}
use Rattle.model_tree.specs.Trees.Tree.{Tree}
use Rattle.model.specs.Sessions.StateIds.{has_opens}
use Rattle.model.specs.Server.World.{World, ServerLimits, InProgress, Connection, Quiet, Waiting, Busy, Replied, Closed, HasRun, Gives, Replays, exchanged, created_by, tabled, started_in, begun, reclaimed, refuses, in_room, has_room, run, Turned, Entry, executed_entry, behind, ends, goes_on, kept_by, result_of, with_result, is_last, has_run, operates, Next, Refuses, Reads, next_operation, requested, in_progress, called, turned, one, connection_changed, arrives, arrives_at, takes, without_reply, connects, can_connect, hangs_up, is_busy, reply_at, closes, is_to_hold, further, noting}
use Rattle.model.specs.Server.Runs.{Event, Arrives, Turns, HangsUp, Connects, Takes, effect_of, executed_of, RunHistory, Serving, mounted, IsRun, Begins, Goes_on, Fails_at, Stays_down, Flushed}
use Rattle.model.specs.Server.ServedOnce.{number_begun, number_by, numbers_in, EveryServedSlot}
use Rattle.model.proofs.Server.Headline.{Joined, done_behind, taken_done}
use Rattle.model.proofs.Sessions.SlotLaw.{Stands, Goes, Stands-same, exchange_same, destroy_client_same, reclaim_same, destroy_stands, create_stands, finish_stands, begins_go, others_between}

-- What an operation does to a slot

abbrev RanGoes : List ℕ → ℕ → ℕ → Argument → HasRun → Type 0
RanGoes id slot last operation (Gives outcome after left) = Goes id slot last after.table (number_by id slot operation outcome)
RanGoes id slot last operation (Replays result session place) = Unit {0}

exchanged_goes : (id : List ℕ) (slot last : ℕ) (world : World) (request : InProgress) (arguments : ExchangeIdArguments) (outcome : Result ExchangeIdAnswer Status × Table)
    → Stands id slot last outcome.1 → RanGoes id slot last (Argument.ExchangeId arguments) (exchanged world request outcome)
exchanged_goes id slot last world request arguments (Err reason, table) stands = stands
exchanged_goes id slot last world request arguments (Ok answer, table) stands = stands

created_by_goes : (id : List ℕ) (slot last : ℕ) (world : World) (request : InProgress) (arguments : CreateSessionArguments) (outcome : sessions.CreateSessionOutcome) (answer : Result CreateSessionAnswer Status)
    → Stands id slot last world.table → Stands id slot last outcome.table → RanGoes id slot last (Argument.CreateSession arguments) (created_by world request outcome answer)
created_by_goes id slot last world request arguments outcome (Err reason) before stands = before
created_by_goes id slot last world request arguments outcome (Ok answer) before stands = stands

destroyed_goes : (id : List ℕ) (slot last : ℕ) (world : World) (request : InProgress) (name : List ℕ) (outcome : Option Status × Table)
    → Stands id slot last outcome.1 → RanGoes id slot last (Argument.DestroySession name) (tabled world request 44 Answer.DestroySession outcome)
destroyed_goes id slot last world request name (Some reason, table) stands = stands
destroyed_goes id slot last world request name (None, table) stands = stands

client_goes : (id : List ℕ) (slot last : ℕ) (world : World) (request : InProgress) (client : ℕ) (outcome : Option Status × Table)
    → Stands id slot last outcome.1 → RanGoes id slot last (Argument.DestroyClientId client) (tabled world request 57 Answer.DestroyClientId outcome)
client_goes id slot last world request client (Some reason, table) stands = stands
client_goes id slot last world request client (None, table) stands = stands

reclaim_goes : (id : List ℕ) (slot last : ℕ) (world : World) (request : InProgress) (outcome : Option Status × Table)
    → Stands id slot last outcome.1 → RanGoes id slot last (Argument.ReclaimComplete false) (tabled world request 58 Answer.ReclaimComplete outcome)
reclaim_goes id slot last world request (Some reason, table) stands = stands
reclaim_goes id slot last world request (None, table) stands = stands

reclaimed_goes : (id : List ℕ) (slot last : ℕ) (world : World) (request : InProgress) (refusal : Option Status)
    → Stands id slot last world.table → RanGoes id slot last (Argument.ReclaimComplete true) (reclaimed world request refusal)
reclaimed_goes id slot last world request (Some reason) stands = stands
reclaimed_goes id slot last world request None stands = stands

started_in_goes : (id : List ℕ) (slot last : ℕ) (world : World) (request : InProgress) (arguments : SequenceArguments) (known : Option Session)
    → Stands id slot last world.table → Goes id slot last (sessions.started request.context.cred.uid arguments world.table) (number_begun id slot arguments)
    → RanGoes id slot last (Argument.Sequence arguments) (started_in world request arguments known)
started_in_goes id slot last world request arguments None stands goes = stands
started_in_goes id slot last world request arguments (Some session) stands goes = goes

begun_goes : (id : List ℕ) (slot last : ℕ) (world : World) (request : InProgress) (arguments : SequenceArguments) (begun_by : sessions.Begun)
    → begin request.context.cred.uid request.count arguments world.table ≡ begun_by → Stands id slot last world.table
    → RanGoes id slot last (Argument.Sequence arguments) (begun world request arguments begun_by)
begun_goes id slot last world request arguments (sessions.Refuses reason) e stands = stands
begun_goes id slot last world request arguments (sessions.Replays reply) e stands = tt
begun_goes id slot last world request arguments sessions.Runs e stands =
    started_in_goes id slot last world request arguments (find (is_session arguments.session) world.table.sessions) stands
    (begins_go id slot last request.context.cred.uid request.count arguments world.table stands sessions.Runs e)

run_goes : (id : List ℕ) (slot last : ℕ) (world : World) (request : InProgress) (now : ℕ) (operation : Argument) → Stands id slot last world.table
    → RanGoes id slot last operation (run world request now operation)
unfolding run
run_goes id slot last world request now (Argument.ExchangeId arguments) stands =
    exchanged_goes id slot last world request arguments _
    (Stands-same id slot last world.table _ (exchange_same world.limits.sessions (has_opens world.opens) request.context.cred.uid arguments world.table) stands)
run_goes id slot last world request now (Argument.CreateSession arguments) stands =
    created_by_goes id slot last world request arguments (sessions.create_session world.limits.sessions request.context.cred.uid arguments world.table) _ stands
    (create_stands world.limits.sessions id slot last request.context.cred.uid arguments world.table stands)
run_goes id slot last world request now (Argument.DestroySession name) stands =
    destroyed_goes id slot last world request name _ (destroy_stands id slot last name world.table stands)
run_goes id slot last world request now (Argument.DestroyClientId client) stands =
    client_goes id slot last world request client _
    (Stands-same id slot last world.table _ (destroy_client_same (has_opens world.opens) client world.table) stands)
run_goes id slot last world request now (Argument.Sequence arguments) stands = begun_goes id slot last world request arguments _ refl stands
run_goes id slot last world request now (Argument.ReclaimComplete true) stands = reclaimed_goes id slot last world request _ stands
run_goes id slot last world request now (Argument.ReclaimComplete false) stands =
    reclaim_goes id slot last world request _ (Stands-same id slot last world.table _ (reclaim_same request.context.client world.table) stands)
run_goes id slot last world request now operation stands = stands

either_goes : (id : List ℕ) (slot last : ℕ) (operation : Argument) (b : Bool) (x y : HasRun) → RanGoes id slot last operation x → RanGoes id slot last operation y
    → RanGoes id slot last operation (cond b x y)
either_goes id slot last operation true x y first second = first
either_goes id slot last operation false x y first second = second

-- nothing runs if an operation is refused
refused_none : (id : List ℕ) (slot : ℕ) (operation : Argument) (number : ℕ) (reason : Status) → number_by id slot operation (Outcome.Refused number reason) ≡ None
refused_none id slot (Argument.Sequence arguments) number reason = refl
refused_none id slot _ number reason = refl

in_room_goes : (id : List ℕ) (slot last : ℕ) (world : World) (request : InProgress) (operation : Argument) (ran : HasRun) → Stands id slot last world.table
    → RanGoes id slot last operation ran → RanGoes id slot last operation (in_room world request (operation_of operation) ran)
in_room_goes id slot last world request operation (Gives (Outcome.Refused number reason) after left) stands goes = goes
in_room_goes id slot last world request operation (Gives (Outcome.Done answer) after left) stands goes =
    either_goes id slot last operation (has_room world request (Outcome.Done answer)) _ (refuses world request (operation_of operation) status.RepTooBig) goes
    (subst (λ (number : Option ℕ). Goes id slot last world.table number) (sym (refused_none id slot operation (operation_of operation) status.RepTooBig)) stands)
in_room_goes id slot last world request operation (Replays result session place) stands goes = tt

-- A turn

number_of : List ℕ → ℕ → Option Entry → Option ℕ
number_of id slot None = None
number_of id slot (Some entry) = number_by id slot entry.operation entry.outcome

TurnGoes : List ℕ → ℕ → ℕ → Turned → Type 0
TurnGoes id slot last turned = Goes id slot last turned.world.table (number_of id slot turned.executed)

kept_stands : (id : List ℕ) (slot last : ℕ) (place : Option (List ℕ × ℕ)) (holds : Bool) (result : List ℕ) (table : Table) → Stands id slot last table
    → Stands id slot last (kept_by place holds result table)
kept_stands id slot last None holds result table stands = stands
kept_stands id slot last (Some place) holds result table stands = finish_stands id slot last place.0 place.1 holds result table stands

kept_goes : (id : List ℕ) (slot last : ℕ) (place : Option (List ℕ × ℕ)) (holds : Bool) (result : List ℕ) (table : Table) (number : Option ℕ) → Goes id slot last table number
    → Goes id slot last (kept_by place holds result table) number
kept_goes id slot last place holds result table None goes = kept_stands id slot last place holds result table goes
kept_goes id slot last place holds result table (Some number) goes = (goes.0, kept_stands id slot number place holds result table goes.1)

either_turn : (id : List ℕ) (slot last : ℕ) (b : Bool) (x y : Turned) → TurnGoes id slot last x → TurnGoes id slot last y → TurnGoes id slot last (cond b x y)
either_turn id slot last true x y first second = first
either_turn id slot last false x y first second = second

closes_goes : (id : List ℕ) (slot last : ℕ) (world : World) (number : ℕ) (request : InProgress) (status : Status) (entry : Option Entry)
    → Goes id slot last world.table (number_of id slot entry) → TurnGoes id slot last (closes world number request status entry)
unfolding TurnGoes
closes_goes id slot last world number request status entry goes =
    either_turn id slot last (is_to_hold request world.table) (goes_on world number (record request { ended = Some status }) entry)
    (ends world number request status false entry) goes
    (kept_goes id slot last request.slot false (result_of request status) world.table (number_of id slot entry) goes)

behind_goes : (id : List ℕ) (slot last : ℕ) (world : World) (number : ℕ) (request : InProgress) (outcome : Outcome) (entry : Option Entry)
    → Goes id slot last world.table (number_of id slot entry) → TurnGoes id slot last (behind world number request outcome entry)
unfolding TurnGoes
behind_goes id slot last world number request (Outcome.Refused operation reason) entry goes =
    closes_goes id slot last world number (with_result request (Outcome.Refused operation reason)) reason entry goes
behind_goes id slot last world number request (Outcome.Done answer) entry goes =
    either_turn id slot last (is_last request) (closes world number (with_result request (Outcome.Done answer)) status.Ok entry)
    (goes_on world number (with_result request (Outcome.Done answer)) entry)
    (closes_goes id slot last world number (with_result request (Outcome.Done answer)) status.Ok entry goes) goes

has_run_goes : (id : List ℕ) (slot last : ℕ) (world : World) (number : ℕ) (request : InProgress) (operation : Argument) (ran : HasRun) → Stands id slot last world.table
    → RanGoes id slot last operation ran → TurnGoes id slot last (has_run world number request operation ran)
unfolding TurnGoes number_of
has_run_goes id slot last world number request operation (Gives outcome after left) stands goes =
    behind_goes id slot last after number (noting world after operation left) outcome (Some (executed_entry world request operation outcome after)) goes
has_run_goes id slot last world number request operation (Replays result session place) stands goes = stands

operates_goes : (id : List ℕ) (slot last : ℕ) (world : World) (number now : ℕ) (request : InProgress) (next : Next) → Stands id slot last world.table
    → TurnGoes id slot last (operates world number now request next)
unfolding number_of
operates_goes id slot last world number now request (Refuses operation reason) stands =
    behind_goes id slot last world number request (Outcome.Refused operation reason) None stands
operates_goes id slot last world number now request (Reads operation rest) stands =
    let going = record request { rest = rest } in
    has_run_goes id slot last world number going operation _ stands
    (in_room_goes id slot last world going operation _ stands (run_goes id slot last world going now operation stands))

requested_goes : (id : List ℕ) (slot last : ℕ) (world : World) (number now xid : ℕ) (request : Request) → Stands id slot last world.table → TurnGoes id slot last (requested world number now xid request)
unfolding TurnGoes number_of
requested_goes id slot last world number now xid (Answers reply) stands = stands
requested_goes id slot last world number now xid (Runs cred compound) stands =
    operates_goes id slot last world number now (in_progress world xid cred compound) (next_operation (in_progress world xid cred compound)) stands

called_goes : (id : List ℕ) (slot last : ℕ) (world : World) (number now : ℕ) (call : CallRead) → Stands id slot last world.table → TurnGoes id slot last (called world number now call)
unfolding TurnGoes number_of
called_goes id slot last world number now NoCall stands = stands
called_goes id slot last world number now (OtherVersion xid) stands = stands
called_goes id slot last world number now (Calls call) stands = requested_goes id slot last world number now call.xid (request_of call) stands

further_goes : (id : List ℕ) (slot last : ℕ) (world : World) (number now : ℕ) (request : InProgress) (ended : Option Status) → Stands id slot last world.table
    → TurnGoes id slot last (further world number now request ended)
unfolding TurnGoes number_of
further_goes id slot last world number now request None stands = operates_goes id slot last world number now request (next_operation request) stands
further_goes id slot last world number now request (Some status) stands =
    kept_stands id slot last request.slot true (result_of request status) world.table stands

turned_goes : (id : List ℕ) (slot last : ℕ) (world : World) (number now : ℕ) (connection : Option Connection) → Stands id slot last world.table
    → TurnGoes id slot last (turned world number now connection)
unfolding TurnGoes number_of
turned_goes id slot last world number now None stands = stands
turned_goes id slot last world number now (Some (Quiet bytes)) stands = stands
turned_goes id slot last world number now (Some (Waiting request)) stands = called_goes id slot last world number now (read_call request) stands
turned_goes id slot last world number now (Some (Busy request)) stands = further_goes id slot last world number now request request.ended stands
turned_goes id slot last world number now (Some (Replied reply)) stands = stands
turned_goes id slot last world number now (Some Closed) stands = stands

one_goes : (id : List ℕ) (slot last : ℕ) (world : World) (number now : ℕ) → Stands id slot last world.table → TurnGoes id slot last (one world number now)
unfolding one
one_goes id slot last world number now stands = turned_goes id slot last world number now (at number world.connections) stands

-- An event

changed_table : (world : World) (number : ℕ) (change : Connection → Connection) (connection : Option Connection) → (connection_changed world number change connection).table ≡ world.table
changed_table world number change None = refl
changed_table world number change (Some connection) = refl

either_table : (world : World) (b : Bool) (x y : World) → x.table ≡ world.table → y.table ≡ world.table → (cond b x y).table ≡ world.table
either_table world true x y first second = first
either_table world false x y first second = second

pub arrives_table : (world : World) (number : ℕ) (piece : List ℕ) → (arrives world number piece).table ≡ world.table
unfolding arrives
arrives_table world number piece = changed_table world number (arrives_at world.limits.records piece) (at number world.connections)

pub takes_table : (world : World) (number : ℕ) → (takes world number).table ≡ world.table
unfolding takes
takes_table world number = changed_table world number without_reply (at number world.connections)

pub connects_table : (world : World) (number : ℕ) → (connects world number).table ≡ world.table
unfolding connects
connects_table world number = either_table world (can_connect world number) _ _ refl refl

pub hangs_up_table : (world : World) (number : ℕ) → (hangs_up world number).table ≡ world.table
unfolding hangs_up
hangs_up_table world number = either_table world (is_busy (at number world.connections)) _ _ refl refl

EventGoes : List ℕ → ℕ → ℕ → World → Event → Type 0
EventGoes id slot last world event = Goes id slot last (effect_of world event).table (number_of id slot (executed_of world event))

event_goes : (id : List ℕ) (slot last : ℕ) (world : World) (event : Event) → Stands id slot last world.table → EventGoes id slot last world event
unfolding EventGoes number_of TurnGoes
event_goes id slot last world (Arrives connection piece) stands = subst (Stands id slot last) (sym (arrives_table world connection piece)) stands
event_goes id slot last world (Turns connection now) stands = one_goes id slot last world connection now stands
event_goes id slot last world (HangsUp connection) stands = subst (Stands id slot last) (sym (hangs_up_table world connection)) stands
event_goes id slot last world (Connects connection) stands = subst (Stands id slot last) (sym (connects_table world connection)) stands
event_goes id slot last world (Takes connection) stands = subst (Stands id slot last) (sym (takes_table world connection)) stands

-- The numbers of a run

-- they count from one number on to another
abbrev CountsTo : ℕ → List ℕ → ℕ → Type 0
CountsTo first [] last = last ≡ first
CountsTo first (number ∷ numbers) last = (number ≡ next_number first) × CountsTo number numbers last

CountsTo-append : (first : ℕ) (numbers : List ℕ) (last number : ℕ) → CountsTo first numbers last → number ≡ next_number last → CountsTo first (numbers ++ number ∷ []) number
CountsTo-append first [] last number counts next = (next ∙ ap next_number counts, refl)
CountsTo-append first (head ∷ numbers) last number counts next = (counts.0, CountsTo-append head numbers last number counts.1 next)

CountsTo-counts : (first : ℕ) (numbers : List ℕ) (last : ℕ) → CountsTo first numbers last → CountsFrom first numbers
CountsTo-counts first [] last counts = tt
CountsTo-counts first (head ∷ numbers) last counts = (counts.0, CountsTo-counts head numbers last counts.1)

pub numbers_in-append : (id : List ℕ) (slot : ℕ) (done : List Entry) (entry : Entry)
    → numbers_in id slot (done ++ entry ∷ []) ≡ numbers_in id slot done ++ option_to_list (number_by id slot entry.operation entry.outcome)
numbers_in-append id slot [] entry = append-nil (option_to_list (number_by id slot entry.operation entry.outcome))
numbers_in-append id slot (first ∷ done) entry =
    ap (λ (rest : List ℕ). option_to_list (number_by id slot first.operation first.outcome) ++ rest) (numbers_in-append id slot done entry)
    ∙ sym (append_assoc (option_to_list (number_by id slot first.operation first.outcome)) (numbers_in id slot done) (option_to_list (number_by id slot entry.operation entry.outcome)))

numbers_in-joined : (id : List ℕ) (slot : ℕ) (done : List Entry) (executed : Option Entry)
    → numbers_in id slot done ++ option_to_list (number_of id slot executed) ≡ numbers_in id slot (Joined done executed)
unfolding number_of
numbers_in-joined id slot done None = append-nil (numbers_in id slot done) ∙ ap (numbers_in id slot) (sym (append-nil done))
numbers_in-joined id slot done (Some entry) = sym (numbers_in-append id slot done entry)

-- up to a last number, which is the slot's as long as the server is up
record Counted (id : List ℕ) (slot : ℕ) (serving : Serving) (numbers : List ℕ) : Type 0 where
  last : ℕ
  counts : CountsTo 0 numbers last
  stands : serving.is_down ≡ false → Stands id slot last serving.world.table

counted_by : (id : List ℕ) (slot last : ℕ) (serving : Serving) (table : Table) (numbers : List ℕ) (number : Option ℕ) → CountsTo 0 numbers last → Goes id slot last table number
    → (serving.is_down ≡ false → serving.world.table ≡ table) → Counted id slot serving (numbers ++ option_to_list number)
counted_by id slot last serving table numbers None counts goes same = record {
  last = last;
  counts = subst (λ (all : List ℕ). CountsTo 0 all last) (sym (append-nil numbers)) counts;
  stands = λ up. subst (Stands id slot last) (sym (same up)) goes;
}
counted_by id slot last serving table numbers (Some number) counts goes same = record {
  last = number;
  counts = CountsTo-append 0 numbers last number counts goes.0;
  stands = λ up. subst (Stands id slot number) (sym (same up)) goes.1;
}

event_counted : (id : List ℕ) (slot : ℕ) (old new : Serving) (event : Event) (done : List Entry) → Counted id slot old (numbers_in id slot done) → old.is_down ≡ false
    → (new.is_down ≡ false → new.world ≡ effect_of old.world event) → Counted id slot new (numbers_in id slot (Joined done (executed_of old.world event)))
unfolding EventGoes
event_counted id slot old new event done counted up world =
    let goes = event_goes id slot counted.last old.world event (counted.stands up) in
    subst (Counted id slot new) (numbers_in-joined id slot done (executed_of old.world event))
    (counted_by id slot counted.last new (effect_of old.world event).table (numbers_in id slot done) (number_of id slot (executed_of old.world event))
    counted.counts goes (λ still. ap (λ (left : World). left.table) (world still)))

counted_run : (limits : ServerLimits) (run : ℕ) (start : Tree) (seats : Seats) (id : List ℕ) (slot : ℕ) (serving : Serving) (history : RunHistory) → IsRun (mounted limits run start seats) serving history
    → Counted id slot serving (numbers_in id slot history.done)
counted_run limits run start seats id slot serving history Begins = record {
  last = 0;
  counts = refl;
  stands = λ up. record { made = tt; small = lit< tt; each = tt; new_or_old = inl refl };
}
counted_run limits run start seats id slot serving history (Goes_on {old = old} {new = new} {history = earlier} event is_run happens) =
    subst (λ (done : List Entry). Counted id slot new (numbers_in id slot done)) (done_behind earlier old.world event)
    (event_counted id slot old new event earlier.done (counted_run limits run start seats id slot old earlier is_run) happens.up (λ up. happens.world))
counted_run limits run start seats id slot serving history (Fails_at {old = old} {new = new} {history = earlier} event is_run fails) =
    event_counted id slot old new event earlier.done (counted_run limits run start seats id slot old earlier is_run) fails.up (λ up. absurd (false≢true (sym up ∙ fails.down)))
counted_run limits run start seats id slot serving history (Stays_down {old = old} {new = new} {history = earlier} connection is_run stays) =
    let counted = counted_run limits run start seats id slot old earlier is_run in
    subst (λ (done : List Entry). Counted id slot new (numbers_in id slot done)) (sym (taken_done earlier connection (reply_at old.world connection)))
    (record { last = counted.last; counts = counted.counts; stands = λ up. absurd (false≢true (sym up ∙ stays.still_down)) })
counted_run limits run start seats id slot serving history (Flushed {old = old} {new = new} is_run flushes) =
    counted_on (counted_run limits run start seats id slot old history is_run)
  where
    counted_on : Counted id slot old (numbers_in id slot history.done) → Counted id slot new (numbers_in id slot history.done)
    counted_on counted = record {
      last = counted.last;
      counts = counted.counts;
      stands = λ up. rw flushes.world (counted.stands flushes.up);
    }

pub every_served_slot : EveryServedSlot
every_served_slot limits run start seats serving history is_run id slot =
    let counted = counted_run limits run start seats id slot serving history is_run in
    let counts = CountsTo-counts 0 (numbers_in id slot history.done) counted.last counted.counts in
    (counts, others_between (numbers_in id slot history.done) counts)
