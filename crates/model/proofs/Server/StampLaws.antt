-- The stamps of a run, by induction: each change takes the next one, and no other operation does.
use Rattle.std.proofs.Common.{◌≡◌, ◌≢◌, ℕ, ◌+◌, ◌<◌, ◌≤◌, ◌^◌, ◌⊎◌, inl, inr, Bool, true, false, not, cond, ◌&&◌, ◌||◌, List, [], ◌∷◌, ◌++◌, length, slice_get, option_to_list, Option, None, Some, Result, Ok, Err, refl, sym, ap, ◌∙◌, subst, find, arith, rules, tests, length-append}
use Rattle.model_tree.specs.Seats.Seats.{Seats}
use Rattle.model_tree.specs.declared.limits.Limits.{Limits}
use Rattle.model_tree.specs.declared.status.Status.{Status}
use Rattle.model_tree.specs.declared.status.Status.TheVariants as status
use Rattle.model.specs.Operations.Answer.{Answer, Outcome, ExchangeIdAnswer, CreateSessionAnswer}
use Rattle.model_tree.specs.Trees.Charge.{fits}
use Rattle.model_tree.specs.Trees.Keyed.{at}
use Rattle.model.specs.Operations.Operation.{Argument, NewDirectory, RenameArguments, SetAttrArguments, WriteArguments, SequenceArguments, OpenType, ByName, ByHandle, OtherClaim, Opening, Opens as Opening_of, Exclusive, operation_of}
use Rattle.model.specs.Wire.Rpc.{CallRead, NoCall, OtherVersion, Calls, Request, Answers, Runs, read_call, request_of}
use Rattle.model.specs.Server.Runs.{before, Event, Arrives, Turns, HangsUp, Connects, Takes, effect_of, executed_of, executed_by, executed, Serving, RunHistory, mounted, done_with, IsRun, Begins, Goes_on, Fails_at, Stays_down, Flushed, EveryStamp}
use Rattle.model.specs.Sessions.Session as sessions
use Rattle.model.specs.Sessions.Session.{Table, Session}
use Rattle.model_tree.specs.Trees.Stamp.{is_stamp_left}
use Rattle.model.specs.Operations.Context.{is_same_name}
use Rattle.model_tree.specs.Trees.Tree.{number_named, Tree}
use Rattle.model.specs.Operations.Files.{has_bytes, write}
use Rattle.model.specs.Operations.Open.{cuts, cut_or_not, with_file, makes_file, cuts_file, opening_done}
use Rattle.model.specs.Operations.SetAttr.{sets, set_attributes}
use Rattle.model.specs.Operations.Step.{State, Stepped, current, is_name_there, rename, alters, effect, refusals, change_refusals, unless_refused, does}
use Rattle.model.specs.Server.World.{World, ServerLimits, InProgress, Connection, Quiet, Waiting, Busy, Replied, Closed, HasRun, Gives, Replays, exchanged, created_by, session_created, tabled, started_in, begun, reclaimed, stepped, state_of, refuses, in_room, has_room, run, Turned, Entry, executed_entry, behind, ends, goes_on, with_result, is_last, has_run, operates, Next, Refuses, Reads, next_operation, requested, in_progress, called, turned, one, connection_changed, arrives, arrives_at, takes, without_reply, connects, can_connect, hangs_up, is_busy, closes, is_to_hold, further, noting}
use Rattle.model.proofs.Server.Headline.{slice_get-append, slice_get-within, slice_get-last, done_behind}
use Rattle.model.proofs.Operations.RefusalLaws.{none_earlier, none_after}
use Rattle.model_tree.proofs.Facts.BooleanLaws.{second_held}

abbrev Differs : Entry → Type 0
Differs entry = before entry ≢ entry.after

-- One operation: if the tree differs, it was counted, and a stamp was left

abbrev pub Counts : (old new : ℕ) → (differs : Type 0) → Type 0
Counts old new differs = (old ≤ new) × (differs → (new ≡ old + 1) × (old + 1 < 2 ^ 32))

abbrev StateCounts : State → Stepped → Type 0
StateCounts state stepped = Counts state.changes stepped.state.changes (state.tree ≢ stepped.state.tree)

left_below : (changes : ℕ) → is_stamp_left changes ≡ true → changes + 1 < 2 ^ 32
left_below changes left = search (rules, tests)

-- a change that a test decides
abbrev Decided : State → (alters : Bool) → State → Type 0
Decided state alters after =
    (alters ≡ true → is_stamp_left state.changes ≡ true) → Counts state.changes after.changes (state.tree ≢ after.tree)

still_counts : (state : State) → Counts state.changes state.changes (state.tree ≢ state.tree)
still_counts state = (omega arith, λ differs. absurd (differs refl))

change_counts : (state : State) (differs : Type 0) → is_stamp_left state.changes ≡ true → Counts state.changes (state.changes + 1) differs
change_counts state differs left = (omega arith, λ changes. (refl, left_below state.changes left))

rename_counts : (same : Bool) (state : State) (now : ℕ) (arguments : RenameArguments) → Decided state (not same) (rename same state now arguments).state
rename_counts true state now arguments left = still_counts state
rename_counts false state now arguments left = change_counts state _ (left refl)

set_counts : (some : Bool) (state : State) (now : ℕ) (arguments : SetAttrArguments) → Decided state some (set_attributes some state now arguments).state
set_counts true state now arguments left = change_counts state _ (left refl)
set_counts false state now arguments left = still_counts state

write_counts : (some : Bool) (limits : Limits) (state : State) (now : ℕ) (arguments : WriteArguments) → Decided state some (write some limits state now arguments).state
write_counts true limits state now arguments left = change_counts state _ (left refl)
write_counts false limits state now arguments left = still_counts state

cut_counts : (cut : Bool) (state : State) (now number : ℕ) → Decided state cut (cut_or_not cut state now number)
cut_counts true state now number left = change_counts state _ (left refl)
cut_counts false state now number left = still_counts state

file_counts : (is_there : Bool) (state : State) (now : ℕ) (how : OpenType) (name : List ℕ)
    → Decided state (not is_there || (is_there && cuts how)) (with_file is_there state now how name)
file_counts true state now how name left = cut_counts (cuts how) state now (number_named state.tree (current state) name) left
file_counts false state now how name left = change_counts state _ (left refl)

opening_counts : (state : State) (now : ℕ) (opening : Opening) → Decided state (makes_file state opening || cuts_file state opening) (opening_done state now opening)
opening_counts state now (Exclusive mode) left = still_counts state
opening_counts state now (Opening_of how (OtherClaim claim)) left = still_counts state
opening_counts state now (Opening_of how (ByName name)) left = file_counts (is_name_there state name) state now how name left
opening_counts state now (Opening_of how ByHandle) left = still_counts state

effect_counts : (limits : Limits) (state : State) (now : ℕ) (operation : Argument) → Decided state (alters state operation) (effect limits state now operation).state
unfolding effect
effect_counts limits state now (Argument.Create (NewDirectory name given)) left = change_counts state _ (left refl)
effect_counts limits state now (Argument.Remove name) left = change_counts state _ (left refl)
effect_counts limits state now (Argument.Rename arguments) left = rename_counts (is_same_name state.context arguments) state now arguments left
effect_counts limits state now (Argument.SetAttr arguments) left = set_counts (sets arguments) state now arguments left
effect_counts limits state now (Argument.Write arguments) left = write_counts (has_bytes arguments) limits state now arguments left
effect_counts limits state now (Argument.Open arguments) left = opening_counts state now arguments.opening left
effect_counts limits state now _ left = still_counts state

unless_counts : (state : State) (operation : Argument) (stepped : Stepped) (refusal : Option Status) → (refusal ≡ None → StateCounts state stepped)
    → StateCounts state (unless_refused state operation refusal stepped)
unless_counts state operation stepped (Some reason) counts = (omega arith, λ differs. absurd (differs refl))
unless_counts state operation stepped None counts = counts refl

does_counts : (limits : Limits) (state : State) (now : ℕ) (operation : Argument) → StateCounts state (does limits state now operation)
unfolding does
does_counts limits state now operation =
    let after = (effect limits state now operation).state.tree in
    unless_counts state operation (effect limits state now operation) _ (λ e. effect_counts limits state now operation (λ is.
    let changes = none_after (refusals limits state operation) (change_refusals limits state operation after) e in
    let last = none_earlier (alters state operation && not (fits limits after)) status.NoSpc _ changes in
    second_held (alters state operation) (is_stamp_left state.changes) (none_earlier (alters state operation && not (is_stamp_left state.changes)) status.ServerFault None last.1).0 is))

abbrev pub RanCounts : World → HasRun → Type 0
RanCounts world (Gives outcome after left) = Counts world.changes after.changes (world.tree ≢ after.tree)
RanCounts world (Replays result session slot) = Unit {0}

same_counts : (world : World) → Counts world.changes world.changes (world.tree ≢ world.tree)
same_counts world = (omega arith, λ differs. absurd (differs refl))

exchanged_counts : (world : World) (request : InProgress) (outcome : Result ExchangeIdAnswer Status × Table) → RanCounts world (exchanged world request outcome)
exchanged_counts world request (Err reason, table) = same_counts world
exchanged_counts world request (Ok answer, table) = same_counts world

created_by_counts : (world : World) (request : InProgress) (outcome : sessions.CreateSessionOutcome) (answer : Result CreateSessionAnswer Status) → RanCounts world (created_by world request outcome answer)
created_by_counts world request outcome (Err reason) = same_counts world
created_by_counts world request outcome (Ok answer) = same_counts world

created_counts : (world : World) (request : InProgress) (outcome : sessions.CreateSessionOutcome) → RanCounts world (session_created world request outcome)
created_counts world request outcome = created_by_counts world request outcome outcome.answer

tabled_counts : (world : World) (request : InProgress) (number : ℕ) (answer : Answer) (outcome : Option Status × Table) → RanCounts world (tabled world request number answer outcome)
tabled_counts world request number answer (Some reason, table) = same_counts world
tabled_counts world request number answer (None, table) = same_counts world

started_in_counts : (world : World) (request : InProgress) (arguments : SequenceArguments) (known : Option Session) → RanCounts world (started_in world request arguments known)
started_in_counts world request arguments None = same_counts world
started_in_counts world request arguments (Some session) = same_counts world

begun_counts : (world : World) (request : InProgress) (arguments : SequenceArguments) (begin : sessions.Begun) → RanCounts world (begun world request arguments begin)
begun_counts world request arguments (sessions.Refuses reason) = same_counts world
begun_counts world request arguments (sessions.Replays reply) = tt
begun_counts world request arguments sessions.Runs = started_in_counts world request arguments (find (sessions.is_session arguments.session) world.table.sessions)

reclaimed_counts : (world : World) (request : InProgress) (refusal : Option Status) → RanCounts world (reclaimed world request refusal)
reclaimed_counts world request None = same_counts world
reclaimed_counts world request (Some reason) = same_counts world

pub run_counts : (world : World) (request : InProgress) (now : ℕ) (operation : Argument) → RanCounts world (run world request now operation)
unfolding run
run_counts world request now (Argument.ExchangeId arguments) = exchanged_counts world request _
run_counts world request now (Argument.CreateSession arguments) = created_counts world request _
run_counts world request now (Argument.DestroySession id) = tabled_counts world request 44 _ _
run_counts world request now (Argument.DestroyClientId client) = tabled_counts world request 57 _ _
run_counts world request now (Argument.Sequence arguments) = begun_counts world request arguments _
run_counts world request now (Argument.ReclaimComplete true) = reclaimed_counts world request _
run_counts world request now (Argument.ReclaimComplete false) = tabled_counts world request 58 _ _
run_counts world request now operation = does_counts world.limits.volume (state_of world request) now operation

either_counts : (world : World) (b : Bool) (x y : HasRun) → RanCounts world x → RanCounts world y → RanCounts world (cond b x y)
either_counts world true x y first second = first
either_counts world false x y first second = second

in_room_counts : (world : World) (request : InProgress) (operation : ℕ) (ran : HasRun) → RanCounts world ran → RanCounts world (in_room world request operation ran)
in_room_counts world request operation (Gives (Outcome.Refused number reason) after left) counts = counts
in_room_counts world request operation (Gives (Outcome.Done answer) after left) counts =
    either_counts world (has_room world request (Outcome.Done answer)) _ (refuses world request operation status.RepTooBig) counts (same_counts world)
in_room_counts world request operation (Replays result session slot) counts = tt

-- A turn

abbrev EntryCounts : (old new : ℕ) → Option Entry → Type 0
EntryCounts old new None = new ≡ old
EntryCounts old new (Some entry) = (entry.state.changes ≡ old) × Counts old new (Differs entry)

abbrev TurnCounts : World → Turned → Type 0
TurnCounts old turned = EntryCounts old.changes turned.world.changes turned.executed

chosen_counts : (old : World) (b : Bool) (x y : Turned) → TurnCounts old x → TurnCounts old y → TurnCounts old (cond b x y)
chosen_counts old true x y first second = first
chosen_counts old false x y first second = second

closes_counts : (old world : World) (number : ℕ) (request : InProgress) (last : Status) (executed : Option Entry) → EntryCounts old.changes world.changes executed
    → TurnCounts old (closes world number request last executed)
closes_counts old world number request last executed counts =
    chosen_counts old (is_to_hold request world.table) (goes_on world number (record request { ended = Some last }) executed)
    (ends world number request last false executed) counts counts

behind_counts : (old world : World) (number : ℕ) (request : InProgress) (outcome : Outcome) (executed : Option Entry) → EntryCounts old.changes world.changes executed
    → TurnCounts old (behind world number request outcome executed)
behind_counts old world number request (Outcome.Refused operation reason) executed counts =
    closes_counts old world number (with_result request (Outcome.Refused operation reason)) reason executed counts
behind_counts old world number request (Outcome.Done answer) executed counts =
    chosen_counts old (is_last request) (closes world number (with_result request (Outcome.Done answer)) status.Ok executed)
    (goes_on world number (with_result request (Outcome.Done answer)) executed)
    (closes_counts old world number (with_result request (Outcome.Done answer)) status.Ok executed counts) counts

has_run_counts : (world : World) (number : ℕ) (request : InProgress) (operation : Argument) (ran : HasRun) → RanCounts world ran → TurnCounts world (has_run world number request operation ran)
has_run_counts world number request operation (Gives outcome after left) counts =
    behind_counts world after number (noting world after operation left) outcome (Some (executed_entry world request operation outcome after)) (refl, counts)
has_run_counts world number request operation (Replays result session slot) counts = refl

operates_counts : (world : World) (number now : ℕ) (request : InProgress) (next : Next) → TurnCounts world (operates world number now request next)
operates_counts world number now request (Refuses operation reason) = behind_counts world world number request (Outcome.Refused operation reason) None refl
operates_counts world number now request (Reads operation rest) =
    has_run_counts world number (record request { rest = rest }) operation _
    (in_room_counts world (record request { rest = rest }) (operation_of operation) _ (run_counts world (record request { rest = rest }) now operation))

requested_counts : (world : World) (number now xid : ℕ) (request : Request) → TurnCounts world (requested world number now xid request)
requested_counts world number now xid (Answers reply) = refl
requested_counts world number now xid (Runs cred compound) =
    operates_counts world number now (in_progress world xid cred compound) (next_operation (in_progress world xid cred compound))

called_counts : (world : World) (number now : ℕ) (call : CallRead) → TurnCounts world (called world number now call)
called_counts world number now NoCall = refl
called_counts world number now (OtherVersion xid) = refl
called_counts world number now (Calls call) = requested_counts world number now call.xid (request_of call)

further_counts : (world : World) (number now : ℕ) (request : InProgress) (ended : Option Status) → TurnCounts world (further world number now request ended)
further_counts world number now request None = operates_counts world number now request (next_operation request)
further_counts world number now request (Some last) = refl

turned_counts : (world : World) (number now : ℕ) (connection : Option Connection) → TurnCounts world (turned world number now connection)
turned_counts world number now None = refl
turned_counts world number now (Some (Quiet bytes)) = refl
turned_counts world number now (Some (Waiting request)) = called_counts world number now (read_call request)
turned_counts world number now (Some (Busy request)) = further_counts world number now request request.ended
turned_counts world number now (Some (Replied reply)) = refl
turned_counts world number now (Some Closed) = refl

one_counts : (world : World) (number now : ℕ) → TurnCounts world (one world number now)
unfolding one
one_counts world number now = turned_counts world number now (at number world.connections)

-- Any event

changed_count : (world : World) (number : ℕ) (change : Connection → Connection) (connection : Option Connection) → (connection_changed world number change connection).changes ≡ world.changes
changed_count world number change None = refl
changed_count world number change (Some connection) = refl

either_count : (world : World) (b : Bool) (x y : World) → x.changes ≡ world.changes → y.changes ≡ world.changes → (cond b x y).changes ≡ world.changes
either_count world true x y first second = first
either_count world false x y first second = second

event_counts : (world : World) (event : Event) → EntryCounts world.changes (effect_of world event).changes (executed_of world event)
unfolding arrives takes connects hangs_up
event_counts world (Arrives connection piece) = changed_count world connection (arrives_at world.limits.records piece) (at connection world.connections)
event_counts world (Turns connection now) = one_counts world connection now
event_counts world (HangsUp connection) = either_count world (is_busy (at connection world.connections)) _ _ refl refl
event_counts world (Connects connection) = either_count world (can_connect world connection) _ _ refl refl
event_counts world (Takes connection) = changed_count world connection without_reply (at connection world.connections)

-- A run

record Numbers (done : List Entry) : Type 0 where
  rise : (i j : ℕ) (one other : Entry) → i < j → slice_get done i ≡ Some one → slice_get done j ≡ Some other → Differs one → one.state.changes < other.state.changes
  within : (i : ℕ) (entry : Entry) → slice_get done i ≡ Some entry → Differs entry → entry.state.changes + 1 < 2 ^ 32

-- each entry so far was counted by this number
abbrev AreBelow : (changes : ℕ) → List Entry → Type 0
AreBelow changes done = (i : ℕ) (entry : Entry) → slice_get done i ≡ Some entry → (entry.state.changes ≤ changes) × (Differs entry → entry.state.changes < changes)

append_none : (done : List Entry) → done ++ [] ≡ done
append_none [] = refl
append_none (first ∷ rest) = ap (λ (d : List Entry). first ∷ d) (append_none rest)

numbers_more : (old new : ℕ) (done : List Entry) (made : Option Entry) → AreBelow old done → Numbers done → EntryCounts old new made → Numbers (done ++ option_to_list made)
numbers_more old new done None below numbers counts = subst Numbers (sym (append_none done)) numbers
numbers_more old new done (Some last) below numbers counts = record {
  rise = λ i j one other less first second differs.
      let many : j < length (done ++ last ∷ []) = slice_get-within (done ++ last ∷ []) j other second in
      let early : i < length done = omega (arith, length-append done (last ∷ []), many, less) in
      let there : slice_get done i ≡ Some one = sym (slice_get-append done (last ∷ []) i early) ∙ first in
      by_place i j one other less there differs (slice_get-last done last j other second);
  within = λ i entry is differs. by_last i entry differs (slice_get-last done last i entry is);
}
  where
    by_place : (i j : ℕ) (one other : Entry) → i < j → slice_get done i ≡ Some one → Differs one → (slice_get done j ≡ Some other) ⊎ (other ≡ last) → one.state.changes < other.state.changes
    by_place i j one other less there differs (inl before_it) = numbers.rise i j one other less there before_it differs
    by_place i j one other less there differs (inr is) =
        let first : one.state.changes < old = (below i one there).1 differs in
        let same : other.state.changes ≡ old = ap (λ (e : Entry). e.state.changes) is ∙ counts.0 in
        omega (arith, first, same)

    by_last : (i : ℕ) (entry : Entry) → Differs entry → (slice_get done i ≡ Some entry) ⊎ (entry ≡ last) → entry.state.changes + 1 < 2 ^ 32
    by_last i entry differs (inl there) = numbers.within i entry there differs
    by_last i entry differs (inr is) =
        let same : entry.state.changes ≡ old = ap (λ (e : Entry). e.state.changes) is ∙ counts.0 in
        let fit = (counts.1.1 (subst Differs is differs)).1 in
        omega (arith, same, fit)

below_more : (old new : ℕ) (done : List Entry) (made : Option Entry) → AreBelow old done → EntryCounts old new made → AreBelow new (done ++ option_to_list made)
below_more old new done None below counts = λ i entry is.
    let low = below i entry (sym (ap (λ (d : List Entry). slice_get d i) (append_none done)) ∙ is) in
    (omega (arith, low.0, counts), λ differs. let less = low.1 differs in omega (arith, less, counts))
below_more old new done (Some last) below counts = λ i entry is. by_last i entry (slice_get-last done last i entry is)
  where
    by_last : (i : ℕ) (entry : Entry) → (slice_get done i ≡ Some entry) ⊎ (entry ≡ last) → (entry.state.changes ≤ new) × (Differs entry → entry.state.changes < new)
    by_last i entry (inl there) =
        let low = below i entry there in
        let later = counts.1.0 in
        (omega (arith, low.0, later), λ differs. let less = low.1 differs in omega (arith, less, later))
    by_last i entry (inr is) =
        let same : entry.state.changes ≡ old = ap (λ (e : Entry). e.state.changes) is ∙ counts.0 in
        let later = counts.1.0 in
        (omega (arith, same, later), λ differs. let grew = (counts.1.1 (subst Differs is differs)).0 in omega (arith, same, grew))

record Stamped (serving : Serving) (done : List Entry) : Type 0 where
  numbers : Numbers done
  below : serving.is_down ≡ false → AreBelow serving.world.changes done

differ : (b : Bool) → b ≡ true → b ≡ false → ⊥
differ b is other = cc

stamped : (limits : ServerLimits) (run : ℕ) (start : Tree) (seats : Seats) (serving : Serving) (history : RunHistory) → IsRun (mounted limits run start seats) serving history → Stamped serving history.done
stamped limits run start seats _ _ Begins = record {
  numbers = record {
    rise = λ i j one other less first second differs. let never : ⊥ = cc in absurd never;
    within = λ i entry is differs. let never : ⊥ = cc in absurd never;
  };
  below = λ up i entry is. let never : ⊥ = cc in absurd never;
}
stamped limits run start seats _ _ (Goes_on {old} {new} {history} event is_run happens) =
    let was = stamped limits run start seats old history is_run in
    let counts = event_counts old.world event in
    let now : new.world.changes ≡ (effect_of old.world event).changes = ap (λ (w : World). w.changes) happens.world in
    subst (Stamped new) (done_behind history old.world event) (record {
      numbers = numbers_more old.world.changes _ history.done (executed_of old.world event) (was.below happens.up) was.numbers counts;
      below = λ up. subst (λ (n : ℕ). AreBelow n (history.done ++ option_to_list (executed_of old.world event))) (sym now)
          (below_more old.world.changes _ history.done (executed_of old.world event) (was.below happens.up) counts);
    })
stamped limits run start seats _ _ (Fails_at {old} {new} {history} event is_run fails) =
    let was = stamped limits run start seats old history is_run in
    record {
      numbers = numbers_more old.world.changes _ history.done (executed_of old.world event) (was.below fails.up) was.numbers (event_counts old.world event);
      below = λ up. absurd (differ new.is_down fails.down up);
    }
stamped limits run start seats _ _ (Stays_down {old} {new} {history} connection is_run stays) =
    let was = stamped limits run start seats old history is_run in
    subst (Stamped new) (done_behind history old.world (Takes connection)) (record {
      numbers = subst Numbers (sym (append_none history.done)) was.numbers;
      below = λ up. absurd (differ new.is_down stays.still_down up);
    })
stamped limits run start seats _ history (Flushed {old} {new} is_run flushes) =
    let was = stamped limits run start seats old history is_run in
    record {
      numbers = was.numbers;
      below = λ up. subst (λ (w : World). AreBelow w.changes history.done) (sym flushes.world) (was.below flushes.up);
    }

numbers_with : (serving : Serving) (history : RunHistory) (event : Event) → Stamped serving history.done → (down : Bool) → serving.is_down ≡ down
    → Numbers (done_with history (executed_by serving.world event down))
numbers_with serving history event was true is = subst Numbers (sym (append_none history.done)) was.numbers
numbers_with serving history event was false is =
    numbers_more serving.world.changes _ history.done (executed_of serving.world event) (was.below is) was.numbers (event_counts serving.world event)

pub every_stamp : EveryStamp
every_stamp limits run start seats serving history is_run event =
    let numbers = numbers_with serving history event (stamped limits run start seats serving history is_run) serving.is_down refl in
    record {
      rise = λ i j one other less first second differs. let lower = numbers.rise i j one other less first second differs in omega (arith, lower);
      of_run = λ i entry is differs. let fit = numbers.within i entry is differs in (omega (arith, fit), omega (arith, fit));
    }
