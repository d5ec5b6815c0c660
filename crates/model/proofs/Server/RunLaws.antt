-- The headline: what a crash may leave is the tree of a good prefix of what was executed.
use Rattle.std.proofs.Common.{◌≡◌, ◌≢◌, ℕ, Bool, true, false, not, cond, List, ◌++◌, Option, None, Some, Result, Ok, Err, refl, sym, ap, ◌||◌, find}
use Rattle.model_tree.specs.declared.status.Status.{Status}
use Rattle.model_tree.specs.declared.status.Status.TheVariants as status
use Rattle.model.specs.Operations.Answer.{Answer, Outcome}
use Rattle.model.specs.Operations.Context.{is_same_name}
use Rattle.model.proofs.Operations.FileStepLaws.{opening_leaves}
use Rattle.model.proofs.Operations.StepCases.{passes_tests}
use Rattle.model.specs.Operations.Files.{has_bytes, write}
use Rattle.model.specs.Operations.Open.{makes_file, cuts_file}
use Rattle.model.specs.Operations.SetAttr.{sets, set_attributes}
use Rattle.model.specs.Operations.Operation.{Argument, NewDirectory}
use Rattle.model_tree.specs.Refusals.Refusal.{Refusals, first_refusal}
use Rattle.model_tree.specs.declared.limits.Limits.{Limits}
use Rattle.model.specs.Operations.Step.{State, Stepped, alters, rename, effect, refusals, change_refusals, unless_refused, does, permitted}
use Rattle.model_tree.specs.Trees.Tree.{Tree}
use Rattle.model.specs.Operations.Answer.{ExchangeIdAnswer, CreateSessionAnswer}
use Rattle.model.specs.Operations.Operation.{SequenceArguments, operation_of}
use Rattle.model.specs.Wire.Rpc.{CallRead, NoCall, OtherVersion, Calls, Request, Answers, Runs, read_call, request_of}
use Rattle.model.specs.Sessions.Session as sessions
use Rattle.model.specs.Sessions.Session.{Table, Session}
use Rattle.model.specs.Server.World.{World, InProgress, Connection, Quiet, Waiting, Busy, Replied, Closed, HasRun, Gives, Replays, exchanged, created_by, session_created, tabled, started_in, begun, reclaimed, stepped, state_of, refuses, in_room, has_room, run, Turned, Entry, executed_entry, behind, ends, goes_on, with_result, is_last, has_run, operates, Next, Refuses, Reads, next_operation, requested, in_progress, called, turned, one, connection_changed, arrives, arrives_at, takes, without_reply, connects, can_connect, hangs_up, is_busy, closes, is_to_hold, further, noting}
use Rattle.model_tree.specs.Trees.Keyed.{at}
use Rattle.model.specs.Server.Runs.{is_done, before, Event, Arrives, Turns, HangsUp, Connects, Takes, effect_of, executed_of}
use Rattle.model.proofs.Operations.RefusalLaws.{none_before}

-- One operation on the tree: if the tree differs, it was permitted, is a change by its kind, and
-- was answered OK

abbrev Lawful : State → Argument → Stepped → Type 0
Lawful state operation stepped = (state.tree ≢ stepped.state.tree)
    → (permitted state.tree state.context operation ≡ true) × (alters state operation ≡ true) × (is_done stepped.outcome ≡ true)

differs_then : (is : Bool) {A : Type 0} {x y : A} → (is ≡ false → x ≡ y) → x ≢ y → is ≡ true
differs_then true same differs = refl
differs_then false same differs = absurd (differs (same refl))

effect_alters : (limits : Limits) (state : State) (now : ℕ) (operation : Argument) → state.tree ≢ (effect limits state now operation).state.tree
    → (alters state operation ≡ true) × (is_done (effect limits state now operation).outcome ≡ true)
unfolding effect
effect_alters limits state now (Argument.Create (NewDirectory name given)) differs = (refl, refl)
effect_alters limits state now (Argument.Remove name) differs = (refl, refl)
effect_alters limits state now (Argument.Rename arguments) differs = rename_alters (is_same_name state.context arguments) differs
  where
    rename_alters : (same : Bool) → state.tree ≢ (rename same state now arguments).state.tree
        → (not same ≡ true) × (is_done (rename same state now arguments).outcome ≡ true)
    rename_alters true differs = absurd (differs refl)
    rename_alters false differs = (refl, refl)
effect_alters limits state now (Argument.Open arguments) differs = (
  differs_then (makes_file state arguments.opening || cuts_file state arguments.opening)
      (λ none. ap (λ (s : State). s.tree) (sym (opening_leaves state now arguments.opening none))) differs,
  refl,
)
effect_alters limits state now (Argument.SetAttr arguments) differs = set_alters (sets arguments) differs
  where
    set_alters : (some : Bool) → state.tree ≢ (set_attributes some state now arguments).state.tree
        → (some ≡ true) × (is_done (set_attributes some state now arguments).outcome ≡ true)
    set_alters false differs = absurd (differs refl)
    set_alters true differs = (refl, refl)
effect_alters limits state now (Argument.Write arguments) differs = write_alters (has_bytes arguments) differs
  where
    write_alters : (some : Bool) → state.tree ≢ (write some limits state now arguments).state.tree
        → (some ≡ true) × (is_done (write some limits state now arguments).outcome ≡ true)
    write_alters false differs = absurd (differs refl)
    write_alters true differs = (refl, refl)
effect_alters limits state now _ differs = absurd (differs refl)

passes_permitted : (limits : Limits) (state : State) (operation : Argument) (more : Refusals) → first_refusal (refusals limits state operation ++ more) ≡ None
    → permitted state.tree state.context operation ≡ true
passes_permitted limits state operation more e = (passes_tests limits state operation (none_before (refusals limits state operation) more e)).permitted

unless_lawful : (state : State) (operation : Argument) (stepped : Stepped) (refusal : Option Status)
    → (refusal ≡ None → permitted state.tree state.context operation ≡ true)
    → (state.tree ≢ stepped.state.tree → (alters state operation ≡ true) × (is_done stepped.outcome ≡ true))
    → Lawful state operation (unless_refused state operation refusal stepped)
unless_lawful state operation stepped (Some reason) permits alters differs = absurd (differs refl)
unless_lawful state operation stepped None permits alters differs = (permits refl, (alters differs).0, (alters differs).1)

pub does_lawful : (limits : Limits) (state : State) (now : ℕ) (operation : Argument) → Lawful state operation (does limits state now operation)
unfolding does
does_lawful limits state now operation =
    unless_lawful state operation (effect limits state now operation) _
    (λ e. passes_permitted limits state operation (change_refusals limits state operation (effect limits state now operation).state.tree) e)
    (effect_alters limits state now operation)

-- What a turn does to the tree: nothing, or what the operation did that it executed

abbrev pub LawfulEntry : Entry → Type 0
LawfulEntry entry = (before entry ≢ entry.after)
    → (permitted entry.state.tree entry.state.context entry.operation ≡ true) × (alters entry.state entry.operation ≡ true) × (is_done entry.outcome ≡ true)

abbrev pub EntryFits : Tree → Tree → Option Entry → Type 0
EntryFits old new None = new ≡ old
EntryFits old new (Some entry) = (before entry ≡ old) × (new ≡ entry.after) × LawfulEntry entry

abbrev RanFits : World → InProgress → Argument → HasRun → Type 0
RanFits world request operation (Gives outcome after left) = (world.tree ≢ after.tree)
    → (permitted world.tree request.context operation ≡ true) × (alters (state_of world request) operation ≡ true) × (is_done outcome ≡ true)
RanFits world request operation (Replays result session slot) = Unit {0}

exchanged_fits : (world : World) (request : InProgress) (operation : Argument) (outcome : Result ExchangeIdAnswer Status × Table) → RanFits world request operation (exchanged world request outcome)
exchanged_fits world request operation (Err reason, table) = λ differs. absurd (differs refl)
exchanged_fits world request operation (Ok answer, table) = λ differs. absurd (differs refl)

created_by_fits : (world : World) (request : InProgress) (operation : Argument) (outcome : sessions.CreateSessionOutcome) (answer : Result CreateSessionAnswer Status)
    → RanFits world request operation (created_by world request outcome answer)
created_by_fits world request operation outcome (Err reason) = λ differs. absurd (differs refl)
created_by_fits world request operation outcome (Ok answer) = λ differs. absurd (differs refl)

created_fits : (world : World) (request : InProgress) (operation : Argument) (outcome : sessions.CreateSessionOutcome) → RanFits world request operation (session_created world request outcome)
created_fits world request operation outcome = created_by_fits world request operation outcome outcome.answer

tabled_fits : (world : World) (request : InProgress) (operation : Argument) (number : ℕ) (answer : Answer) (outcome : Option Status × Table)
    → RanFits world request operation (tabled world request number answer outcome)
tabled_fits world request operation number answer (Some reason, table) = λ differs. absurd (differs refl)
tabled_fits world request operation number answer (None, table) = λ differs. absurd (differs refl)

started_in_fits : (world : World) (request : InProgress) (operation : Argument) (arguments : SequenceArguments) (known : Option Session)
    → RanFits world request operation (started_in world request arguments known)
started_in_fits world request operation arguments None = λ differs. absurd (differs refl)
started_in_fits world request operation arguments (Some session) = λ differs. absurd (differs refl)

begun_fits : (world : World) (request : InProgress) (operation : Argument) (arguments : SequenceArguments) (begin : sessions.Begun)
    → RanFits world request operation (begun world request arguments begin)
begun_fits world request operation arguments (sessions.Refuses reason) = λ differs. absurd (differs refl)
begun_fits world request operation arguments (sessions.Replays reply) = tt
begun_fits world request operation arguments sessions.Runs =
    started_in_fits world request operation arguments (find (sessions.is_session arguments.session) world.table.sessions)

reclaimed_fits : (world : World) (request : InProgress) (operation : Argument) (refusal : Option Status) → RanFits world request operation (reclaimed world request refusal)
reclaimed_fits world request operation None = λ differs. absurd (differs refl)
reclaimed_fits world request operation (Some reason) = λ differs. absurd (differs refl)

stepped_fits : (world : World) (request : InProgress) (now : ℕ) (operation : Argument)
    → RanFits world request operation (stepped world request (does world.limits.volume (state_of world request) now operation))
stepped_fits world request now operation = does_lawful world.limits.volume (state_of world request) now operation

run_fits : (world : World) (request : InProgress) (now : ℕ) (operation : Argument) → RanFits world request operation (run world request now operation)
unfolding run
run_fits world request now (Argument.ExchangeId arguments) = exchanged_fits world request _ _
run_fits world request now (Argument.CreateSession arguments) = created_fits world request _ _
run_fits world request now (Argument.DestroySession id) = tabled_fits world request _ 44 _ _
run_fits world request now (Argument.DestroyClientId client) = tabled_fits world request _ 57 _ _
run_fits world request now (Argument.Sequence arguments) = begun_fits world request _ arguments _
run_fits world request now (Argument.ReclaimComplete true) = reclaimed_fits world request _ _
run_fits world request now (Argument.ReclaimComplete false) = tabled_fits world request _ 58 _ _
run_fits world request now operation = stepped_fits world request now operation

either_ran : (world : World) (request : InProgress) (operation : Argument) (b : Bool) (x y : HasRun) → RanFits world request operation x → RanFits world request operation y
    → RanFits world request operation (cond b x y)
either_ran world request operation true x y first second = first
either_ran world request operation false x y first second = second

in_room_fits : (world : World) (request : InProgress) (operation : Argument) (ran : HasRun) → RanFits world request operation ran
    → RanFits world request operation (in_room world request (operation_of operation) ran)
in_room_fits world request operation (Gives (Outcome.Refused number reason) after left) fits = fits
in_room_fits world request operation (Gives (Outcome.Done answer) after left) fits =
    either_ran world request operation (has_room world request (Outcome.Done answer)) _ (refuses world request (operation_of operation) status.RepTooBig) fits (λ differs. absurd (differs refl))
in_room_fits world request operation (Replays result session slot) fits = tt

abbrev TurnFits : Tree → Turned → Type 0
TurnFits old turned = EntryFits old turned.world.tree turned.executed

either_fits : (old : Tree) (b : Bool) (x y : Turned) → TurnFits old x → TurnFits old y → TurnFits old (cond b x y)
either_fits old true x y first second = first
either_fits old false x y first second = second

closes_fits : (old : Tree) (world : World) (number : ℕ) (request : InProgress) (last : Status) (executed : Option Entry) → EntryFits old world.tree executed
    → TurnFits old (closes world number request last executed)
closes_fits old world number request last executed fits =
    either_fits old (is_to_hold request world.table) (goes_on world number (record request { ended = Some last }) executed)
    (ends world number request last false executed) fits fits

behind_fits : (old : Tree) (world : World) (number : ℕ) (request : InProgress) (outcome : Outcome) (executed : Option Entry) → EntryFits old world.tree executed
    → TurnFits old (behind world number request outcome executed)
behind_fits old world number request (Outcome.Refused operation reason) executed fits =
    closes_fits old world number (with_result request (Outcome.Refused operation reason)) reason executed fits
behind_fits old world number request (Outcome.Done answer) executed fits =
    either_fits old (is_last request) (closes world number (with_result request (Outcome.Done answer)) status.Ok executed)
    (goes_on world number (with_result request (Outcome.Done answer)) executed)
    (closes_fits old world number (with_result request (Outcome.Done answer)) status.Ok executed fits) fits

has_run_fits : (world : World) (number : ℕ) (request : InProgress) (operation : Argument) (ran : HasRun) → RanFits world request operation ran
    → TurnFits world.tree (has_run world number request operation ran)
has_run_fits world number request operation (Gives outcome after left) fits =
    behind_fits world.tree after number (noting world after operation left) outcome (Some (executed_entry world request operation outcome after)) (refl, refl, fits)
has_run_fits world number request operation (Replays result session slot) fits = refl

operates_fits : (world : World) (number now : ℕ) (request : InProgress) (next : Next) → TurnFits world.tree (operates world number now request next)
operates_fits world number now request (Refuses operation reason) = behind_fits world.tree world number request (Outcome.Refused operation reason) None refl
operates_fits world number now request (Reads operation rest) =
    has_run_fits world number (record request { rest = rest }) operation _
    (in_room_fits world (record request { rest = rest }) operation _ (run_fits world (record request { rest = rest }) now operation))

requested_fits : (world : World) (number now xid : ℕ) (request : Request) → TurnFits world.tree (requested world number now xid request)
requested_fits world number now xid (Answers reply) = refl
requested_fits world number now xid (Runs cred compound) =
    operates_fits world number now (in_progress world xid cred compound) (next_operation (in_progress world xid cred compound))

called_fits : (world : World) (number now : ℕ) (call : CallRead) → TurnFits world.tree (called world number now call)
called_fits world number now NoCall = refl
called_fits world number now (OtherVersion xid) = refl
called_fits world number now (Calls call) = requested_fits world number now call.xid (request_of call)

further_fits : (world : World) (number now : ℕ) (request : InProgress) (ended : Option Status) → TurnFits world.tree (further world number now request ended)
further_fits world number now request None = operates_fits world number now request (next_operation request)
further_fits world number now request (Some last) = refl

turned_fits : (world : World) (number now : ℕ) (connection : Option Connection) → TurnFits world.tree (turned world number now connection)
turned_fits world number now None = refl
turned_fits world number now (Some (Quiet bytes)) = refl
turned_fits world number now (Some (Waiting request)) = called_fits world number now (read_call request)
turned_fits world number now (Some (Busy request)) = further_fits world number now request request.ended
turned_fits world number now (Some (Replied reply)) = refl
turned_fits world number now (Some Closed) = refl

one_fits : (world : World) (number now : ℕ) → TurnFits world.tree (one world number now)
unfolding one
one_fits world number now = turned_fits world number now (at number world.connections)

-- Of any event

changed_same : (world : World) (number : ℕ) (change : Connection → Connection) (connection : Option Connection) → (connection_changed world number change connection).tree ≡ world.tree
changed_same world number change None = refl
changed_same world number change (Some connection) = refl

pub takes_same : (world : World) (number : ℕ) → (takes world number).tree ≡ world.tree
unfolding takes
takes_same world number = changed_same world number without_reply (at number world.connections)

same_either : (world : World) (b : Bool) (x y : World) → x.tree ≡ world.tree → y.tree ≡ world.tree → (cond b x y).tree ≡ world.tree
same_either world true x y first second = first
same_either world false x y first second = second

arrives_same : (world : World) (number : ℕ) (piece : List ℕ) → (arrives world number piece).tree ≡ world.tree
unfolding arrives
arrives_same world number piece = changed_same world number (arrives_at world.limits.records piece) (at number world.connections)

connects_same : (world : World) (number : ℕ) → (connects world number).tree ≡ world.tree
unfolding connects
connects_same world number = same_either world (can_connect world number) _ _ refl refl

hangs_up_same : (world : World) (number : ℕ) → (hangs_up world number).tree ≡ world.tree
unfolding hangs_up
hangs_up_same world number = same_either world (is_busy (at number world.connections)) _ _ refl refl

pub event_fits : (world : World) (event : Event) → EntryFits world.tree (effect_of world event).tree (executed_of world event)
event_fits world (Arrives connection piece) = arrives_same world connection piece
event_fits world (Turns connection now) = one_fits world connection now
event_fits world (HangsUp connection) = hangs_up_same world connection
event_fits world (Connects connection) = connects_same world connection
event_fits world (Takes connection) = takes_same world connection
