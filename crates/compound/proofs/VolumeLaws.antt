-- What operations and turns do to a file system, by the definition.
use Rattle.std.proofs.Common.{◌≡◌, ℕ, Bool, true, false, ◌&&◌, ◌||◌, List, length, nat_le, Option, Some, None, Result, Ok, Err, refl, sym, ap, ◌∙◌, inl, inr}
use Rattle.std.specs.Result.{IsErrAnd}
use Rattle.layout.specs.Stands.{Kept}
use Rattle.volume.specs.Changes.{Given, Ending, Done}
use Rattle.volume.specs.VolumeState.{with_tree}
use Rattle.fs.specs.Changes.{FsChanges}
use Rattle.fs.specs.FileSystem.{FileSystem}
use Rattle.model.specs.Operations.Answer as model
use Rattle.model.specs.Attributes.Attribute.{trimmed}
use Rattle.model.specs.Operations.Context.{has_current, current_number}
use Rattle.model.specs.Sessions.Opens.{Opens}
use Rattle.model.specs.Operations.Operation.{Argument, Attributes, OtherType}
use Rattle.model_tree.specs.Seats.Seats.{Seats}
use Rattle.model.specs.Sessions.Session.{Table}
use Rattle.model.specs.Server.Runs.{is_durable, is_commit}
use Rattle.model.specs.Operations.Step.{State, alters, does, effect, refused, unless_refused}
use Rattle.model_tree.specs.Trees.Tree.{Tree}
use Rattle.model.specs.Server.World as turns
use Rattle.model.specs.Server.World.{World, InProgress, HasRun, Entry, Turned, Reads, Refuses, next_operation, operates, has_run, noting, behind, closes, is_to_hold, with_result, is_last, executed_entry, run, in_room, stepped, state_of, reply_with}
use Rattle.model_tree.specs.declared.status.Status.{Status}
use Rattle.model_tree.specs.declared.status.Status.TheVariants as status
use Rattle.fs.specs.Operations.{MakesTree, new_directory}
use Rattle.compound.specs.Operates.{GivesIn, run_in_room, tree_by, world_by}
use Rattle.compound.specs.Runs.{with_rest}
use Rattle.compound.specs.States.{SharedState, HasState, shared}
use Rattle.compound.specs.Steps.{stepped_on}
use Rattle.compound.specs.Volumes.{ending, lasts, entry_by, kept_of_world, OperationGives, RunGives, TurnGives}
use Rattle.compound.specs.declared.fault.Fault.{Fault}
use Rattle.compound.specs.declared.fault.Fault.TheVariants as fault
use Rattle.compound.specs.Trees.{made_answer}
use Rattle.compound.proofs.Creating.{tree_made}
use Rattle.model.proofs.Sessions.TableCalls.{either}
use Rattle.compound.proofs.QuietLaws.{leaves_all, answers_quietly, changes_when}
use Rattle.compound.proofs.TablesGo.{leaves_seats, seats_after}
use Rattle.compound.proofs.Trees.{here, is_on}
use Rattle.compound.proofs.Turning.{goes_next, read_turn, run_keeps}

-- No operation on the tree changes the seats

pub operation_stays : (state : SharedState) (request : InProgress) (now : ℕ) (operation : Argument) (after : Kept) (lasting : Bool)
    → OperationGives state request now operation after lasting → after.seats ≡ state.files.volume.seats
operation_stays state request now operation after lasting gives = ap (λ (kept : Kept). kept.seats) gives.kept

-- nor does a turn that leaves what is kept
pub turn_stays : (state : SharedState) (turn : World → (number : ℕ) → Turned)
    → ((world : World) (number : ℕ) → HasState world state → kept_of_world (turn world number).world ≡ kept_of_world world)
    → state.table.seats ≡ state.files.volume.seats
    → (after : Kept) (lasting : Bool) → TurnGives state turn after lasting → after.seats ≡ state.files.volume.seats
turn_stays state turn keeps agree after lasting gives =
    ap (λ (kept : Kept). kept.seats) (gives.kept ∙ keeps gives.world gives.number gives.has)
    ∙ (ap (λ (table : Table). table.seats) gives.has.table_is ∙ agree)

-- For an operation that leaves the seats it is enough to speak of the tree

run_tells : (state : SharedState) (request : InProgress) (now : ℕ) (operation : Argument) → leaves_seats operation ≡ true → state.table.seats ≡ state.files.volume.seats
    → (after : Kept) (lasting : Bool) → RunGives state request now operation after lasting → OperationGives state request now operation after lasting
run_tells state request now operation leaves agree after lasting gives =
    let ran = run_in_room gives.world (with_rest request gives.rest) now operation in
    let seats : (world_by gives.world ran).table.seats ≡ state.files.volume.seats =
    seats_after gives.world (with_rest request gives.rest) now operation leaves
    ∙ (ap (λ (table : Table). table.seats) gives.has.table_is ∙ agree) in
    record {
      world = gives.world;
      rest = gives.rest;
      has = gives.has;
      kept = gives.kept ∙ ap (λ (s : Seats). let kept : Kept = record { tree = tree_by gives.world ran; seats = s } in kept) seats;
      lasting_is = elim gives.lasting_is [
        | inl durable ↦ durable
        | inr differs ↦ absurd (differs (ap (λ (kept : Kept). kept.seats) gives.kept ∙ seats))
      ];
    }

-- on any device its tree is the same
run_alike : (state : SharedState) (request : InProgress) (now : ℕ) (operation : Argument) (after : Kept) (lasting : Bool)
    → RunGives state request now operation after lasting
    → (kept : Kept) × (lasts : Bool) × OperationGives state request now operation kept lasts × (kept.tree ≡ after.tree)
run_alike state request now operation after lasting gives = (
  with_tree state.files.volume (tree_by gives.world (run_in_room gives.world (with_rest request gives.rest) now operation)),
  lasts (entry_by gives.world (with_rest request gives.rest) operation (run_in_room gives.world (with_rest request gives.rest) now operation)),
  record { world = gives.world; rest = gives.rest; has = gives.has; kept = refl; lasting_is = refl },
  ap (λ (kept : Kept). kept.tree) (sym gives.kept),
)

pub tree_changes : (keeps_word : Type 0) (state : SharedState) (request : InProgress) (now : ℕ) (operation : Argument) → leaves_seats operation ≡ true
    → (keeps_word → state.table.seats ≡ state.files.volume.seats) → (new : FileSystem) (before after : ℕ) (end : Ending)
    → FsChanges keeps_word (OperationGives state request now operation) state.files new before after end
    → FsChanges keeps_word (RunGives state request now operation) state.files new before after end
tree_changes keeps_word state request now operation leaves agree new before after end changes =
    changes_when keeps_word (OperationGives state request now operation) (RunGives state request now operation)
    (λ keeps. run_tells state request now operation leaves (agree keeps)) (run_alike state request now operation)
    state.files new before after end changes

-- Operations that never have to last: those that are no change and no COMMIT

abbrev pub is_quiet : Argument → Bool
is_quiet (Argument.Commit arguments) = false
is_quiet (Argument.Create arguments) = false
is_quiet (Argument.Open arguments) = false
is_quiet (Argument.Remove name) = false
is_quiet (Argument.Rename arguments) = false
is_quiet (Argument.SetAttr arguments) = false
is_quiet (Argument.Write arguments) = false
is_quiet operation = true

quiet_entry : (state : State) (operation : Argument) (outcome : model.Outcome) (after : Tree) → is_quiet operation ≡ true
    → is_durable (record { state = state; operation = operation; outcome = outcome; after = after }) ≡ false
quiet_entry state (Argument.Commit arguments) outcome after quiet = let never : ⊥ = cc in absurd never
quiet_entry state (Argument.Create arguments) outcome after quiet = let never : ⊥ = cc in absurd never
quiet_entry state (Argument.Open arguments) outcome after quiet = let never : ⊥ = cc in absurd never
quiet_entry state (Argument.Remove name) outcome after quiet = let never : ⊥ = cc in absurd never
quiet_entry state (Argument.Rename arguments) outcome after quiet = let never : ⊥ = cc in absurd never
quiet_entry state (Argument.SetAttr arguments) outcome after quiet = let never : ⊥ = cc in absurd never
quiet_entry state (Argument.Write arguments) outcome after quiet = let never : ⊥ = cc in absurd never
quiet_entry state operation outcome after quiet = refl

pub quiet_ran : (world : World) (request : InProgress) (operation : Argument) (ran : HasRun) → is_quiet operation ≡ true → lasts (entry_by world request operation ran) ≡ false
quiet_ran world request operation (turns.Gives outcome after left) quiet = quiet_entry (state_of world request) operation outcome after.tree quiet
quiet_ran world request operation (turns.Replays reply session slot) quiet = refl

pub quiet_gives : (state : SharedState) (request : InProgress) (now : ℕ) (operation : Argument) → is_quiet operation ≡ true → (after : Kept) (lasting : Bool)
    → OperationGives state request now operation after lasting → lasting ≡ false
quiet_gives state request now operation quiet after lasting gives =
    gives.lasting_is ∙ quiet_ran gives.world (with_rest request gives.rest) operation (run_in_room gives.world (with_rest request gives.rest) now operation) quiet

-- and so does a refusal
never_both : (alters commits : Bool) → ((alters && false) || (commits && false)) ≡ false
never_both true true = refl
never_both true false = refl
never_both false true = refl
never_both false false = refl

refused_entry : (state : State) (operation : Argument) (number : ℕ) (reason : Status) (after : Tree)
    → is_durable (record { state = state; operation = operation; outcome = model.Refused number reason; after = after }) ≡ false
refused_entry state operation number reason after = never_both (alters state operation) (is_commit operation)

refused_ran : (world : World) (request : InProgress) (operation : Argument) (ran : HasRun) (number : ℕ) (reason : Status) (after : World) (left : InProgress)
    → ran ≡ turns.Gives (model.Refused number reason) after left → lasts (entry_by world request operation ran) ≡ false
refused_ran world request operation ran number reason after left is =
    ap (λ (r : HasRun). lasts (entry_by world request operation r)) is ∙ refused_entry (state_of world request) operation number reason after.tree

-- the operation comes to this refusal in each such world
pub refused_gives : (state : SharedState) (request : InProgress) (now : ℕ) (operation : Argument) (number : ℕ) (reason : Status)
    → ((world : World) (rest : List ℕ) → HasState world state → (after : World) × (left : InProgress)
    × (run_in_room world (with_rest request rest) now operation ≡ turns.Gives (model.Refused number reason) after left))
    → (after : Kept) (lasting : Bool) → OperationGives state request now operation after lasting → lasting ≡ false
refused_gives state request now operation number reason refuses after lasting gives =
    let ran = refuses gives.world gives.rest gives.has in
    gives.lasting_is ∙ refused_ran gives.world (with_rest request gives.rest) operation _ number reason ran.0 ran.1 ran.2

-- one that comes to this refusal, and leaves the file system as it is
pub refusal_changes : (keeps_word : Type 0) (fs new : FileSystem) (table : Table) (opens : Opens) (before after : ℕ) (request : InProgress) (now : ℕ) (operation : Argument) (number : ℕ) (reason : Status)
    → new ≡ fs → after ≡ before → fs.volume.is_down ≡ false → GivesIn now (shared fs table opens) (shared new table opens) request request operation (model.Refused number reason)
    → FsChanges keeps_word (OperationGives (shared fs table opens) request now operation) fs new before after Done
refusal_changes keeps_word fs new table opens before after request now operation number reason same later up gives =
    answers_quietly keeps_word (OperationGives (shared fs table opens) request now operation) fs new before after same later up
    (λ keeps. operation_stays (shared fs table opens) request now operation)
    (refused_gives (shared fs table opens) request now operation number reason (λ world rest has. (_, _, gives world rest has)))

-- CREATE of anything but a directory
other_quiet : (world : World) (request : InProgress) (now kind : ℕ)
    → lasts (entry_by world request (Argument.Create (OtherType kind)) (run_in_room world request now (Argument.Create (OtherType kind)))) ≡ false
unfolding run does effect
other_quiet world request now kind = by_refusal _
  where
    by_refusal : (refusal : Option Status) → lasts (entry_by world request (Argument.Create (OtherType kind)) (in_room world request 6
        (stepped world request (unless_refused (state_of world request) (Argument.Create (OtherType kind)) refusal
        (refused (state_of world request) (Argument.Create (OtherType kind)) status.BadType))))) ≡ false
    by_refusal None = refl
    by_refusal (Some reason) = refl

pub other_changes : (keeps_word : Type 0) (state : SharedState) (failed : ℕ) (request : InProgress) (now kind : ℕ) → state.files.volume.is_down ≡ false
    → FsChanges keeps_word (OperationGives state request now (Argument.Create (OtherType kind))) state.files state.files failed failed Done
other_changes keeps_word state failed request now kind up =
    answers_quietly keeps_word (OperationGives state request now (Argument.Create (OtherType kind))) state.files state.files failed failed refl refl up
    (λ keeps. operation_stays state request now (Argument.Create (OtherType kind)))
    (λ after lasting gives. gives.lasting_is ∙ other_quiet gives.world (with_rest request gives.rest) now kind)

-- CREATE of a directory, if the reply has room for its result, is that of the file system
pub made_gives : (fs : FileSystem) (table : Table) (opens : Opens) (request : InProgress) (now parent : ℕ) (name : List ℕ) (given : Attributes) → request.context.run ≡ fs.volume.run
    → has_current request.context ≡ true → current_number request.context ≡ parent
    → true ≡ nat_le (length (reply_with request (model.Done (made_answer 0 0 (trimmed given.bitmap))))) 16368
    → (after : Kept) (lasting : Bool) → OperationGives (shared fs table opens) request now (new_directory name given) after lasting
    → MakesTree fs request.context.cred parent now (new_directory name given) after lasting
made_gives fs table opens request now parent name given in_run has is room after lasting gives = record {
  state = state_of gives.world (with_rest request gives.rest);
  on = is_on fs request parent _ in_run has is (here gives.world fs table opens request gives.rest gives.has);
  kept = gives.kept ∙ ap (with_tree fs.volume) (tree_made now fs table opens request name given gives.world gives.rest gives.has room);
}

-- an operation that leaves the file system as it is
pub quiet_changes : (keeps_word : Type 0) (state : SharedState) (failed : ℕ) (request : InProgress) (now : ℕ) (operation : Argument) → state.files.volume.is_down ≡ false → is_quiet operation ≡ true
    → FsChanges keeps_word (OperationGives state request now operation) state.files state.files failed failed Done
quiet_changes keeps_word state failed request now operation up quiet =
    answers_quietly keeps_word (OperationGives state request now operation) state.files state.files failed failed refl refl up (λ keeps. operation_stays state request now operation) (quiet_gives state request now operation quiet)

-- or is refused only for memory
pub quiet_result : {T : Type 0} (keeps_word : Type 0) (state : SharedState) (failed : ℕ) (request : InProgress) (now : ℕ) (operation : Argument) (result : Result T Fault)
    → state.files.volume.is_down ≡ false → is_quiet operation ≡ true → ((reason : Fault) → result ≡ Err reason → reason ≡ fault.Memory)
    → FsChanges keeps_word (OperationGives state request now operation) state.files state.files failed failed (ending result)
quiet_result keeps_word state failed request now operation (Ok done) up quiet memory = quiet_changes keeps_word state failed request now operation up quiet
quiet_result keeps_word state failed request now operation (Err fault.Memory) up quiet memory =
    leaves_all keeps_word (OperationGives state request now operation) state.files state.files failed failed refl refl
quiet_result keeps_word state failed request now operation (Err fault.Device) up quiet memory =
    let is : fault.Device ≡ fault.Memory = memory fault.Device refl in
    let never : ⊥ = cc in absurd never

-- one that is not done, only for memory
pub memory_changes : {T : Type 0} (keeps_word : Type 0) (given : Given) (fs : FileSystem) (failed : ℕ) (result : Result T Fault) (reason : Fault)
    → IsErrAnd result (λ told. told ≡ reason) → reason ≡ fault.Memory → FsChanges keeps_word given fs fs failed failed (ending result)
memory_changes keeps_word given fs failed (Ok done) reason is memory = absurd is
memory_changes keeps_word given fs failed (Err told) reason is memory = rw (is, memory) (leaves_all keeps_word given fs fs failed failed refl refl)

-- Turns

closes_executed : (world : World) (number : ℕ) (request : InProgress) (last : Status) (executed : Option Entry)
    → (closes world number request last executed).executed ≡ executed
closes_executed world number request last executed =
    either (λ (t : Turned). t.executed ≡ executed) (is_to_hold request world.table) _ _ (λ holds. refl) (λ none. refl)

behind_executed : (world : World) (number : ℕ) (request : InProgress) (outcome : model.Outcome) (executed : Option Entry)
    → (behind world number request outcome executed).executed ≡ executed
behind_executed world number request (model.Refused operation reason) executed =
    closes_executed world number (with_result request (model.Refused operation reason)) reason executed
behind_executed world number request (model.Done answer) executed =
    either (λ (t : Turned). t.executed ≡ executed) (is_last request) _ _
    (λ last. closes_executed world number (with_result request (model.Done answer)) status.Ok executed) (λ more. refl)

run_executed : (world : World) (number : ℕ) (request : InProgress) (operation : Argument) (ran : HasRun)
    → (has_run world number request operation ran).executed ≡ entry_by world request operation ran
run_executed world number request operation (turns.Gives outcome after left) =
    behind_executed after number (noting world after operation left) outcome (Some (executed_entry world request operation outcome after))
run_executed world number request operation (turns.Replays reply session slot) = refl

-- a turn whose next operation is read does what that operation does
pub read_gives : (state : SharedState) (request : InProgress) (now : ℕ) (operation : Argument) (rest : List ℕ) → request.ended ≡ None → next_operation request ≡ Reads operation rest
    → (after : Kept) (lasting : Bool)
    → TurnGives state (λ world number. stepped_on world number now request) after lasting → RunGives state request now operation after lasting
read_gives state request now operation rest going next after lasting gives =
    let world = gives.world in
    let ran = run_in_room world (with_rest request rest) now operation in
    let turn : stepped_on world gives.number now request ≡ has_run world gives.number (with_rest request rest) operation ran =
    read_turn world gives.number now request operation rest ran going next refl in
    record {
      world = world;
      rest = rest;
      has = gives.has;
      kept = gives.kept ∙ (ap (λ (t : Turned). kept_of_world t.world) turn ∙ run_keeps world gives.number (with_rest request rest) operation ran);
      lasting_is = elim gives.lasting_is [
        | inl durable ↦ inl (durable ∙ (ap (λ (t : Turned). lasts t.executed) turn ∙ ap lasts (run_executed world gives.number (with_rest request rest) operation ran)))
        | inr differs ↦ inr differs
      ];
    }

-- a turn that executes nothing that has to last, and leaves the seats
quiet_turn : (state : SharedState) (turn : World → (number : ℕ) → Turned) → (after : Kept) (lasting : Bool) → (gives : TurnGives state turn after lasting)
    → lasts (turn gives.world gives.number).executed ≡ false → after.seats ≡ state.files.volume.seats → lasting ≡ false
quiet_turn state turn after lasting gives none stays = elim gives.lasting_is [
  | inl durable ↦ durable ∙ none
  | inr differs ↦ absurd (differs stays)
]

-- one whose next operation is refused before it runs does nothing
pub refused_turn : (state : SharedState) (request : InProgress) (now number : ℕ) (reason : Status) → request.ended ≡ None → next_operation request ≡ Refuses number reason
    → (after : Kept) (lasting : Bool)
    → TurnGives state (λ world number. stepped_on world number now request) after lasting → after.seats ≡ state.files.volume.seats → lasting ≡ false
refused_turn state request now number reason going next after lasting gives =
    quiet_turn state (λ world number. stepped_on world number now request) after lasting gives
    (ap (λ (t : Turned). lasts t.executed) (goes_next gives.world gives.number now request going)
    ∙ ap (λ n. lasts (operates gives.world gives.number now request n).executed) next
    ∙ ap lasts (behind_executed gives.world gives.number request (model.Refused number reason) None))

-- turns that are the same in each such world
pub same_turns : (state : SharedState) (turn other : World → (number : ℕ) → Turned) → ((world : World) (number : ℕ) → HasState world state → other world number ≡ turn world number)
    → (after : Kept) (lasting : Bool) → TurnGives state other after lasting → TurnGives state turn after lasting
same_turns state turn other same after lasting gives =
    let is = same gives.world gives.number gives.has in
    record {
      world = gives.world;
      number = gives.number;
      has = gives.has;
      kept = gives.kept ∙ ap (λ (t : Turned). kept_of_world t.world) is;
      lasting_is = elim gives.lasting_is [
        | inl durable ↦ inl (durable ∙ ap (λ (t : Turned). lasts t.executed) is)
        | inr differs ↦ inr differs
      ];
    }

-- or that execute nothing
pub idle_turns : (state : SharedState) (turn : World → (number : ℕ) → Turned) → ((world : World) (number : ℕ) → HasState world state → (turn world number).executed ≡ None)
    → (after : Kept) (lasting : Bool) → TurnGives state turn after lasting → after.seats ≡ state.files.volume.seats → lasting ≡ false
idle_turns state turn idle after lasting gives =
    quiet_turn state turn after lasting gives (ap lasts (idle gives.world gives.number gives.has))
