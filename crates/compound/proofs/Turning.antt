-- A turn of a request, by what its next operation gave.
use Rattle.std.proofs.Common.{◌≡◌, ℕ, Bool, true, false, ◌||◌, List, Option, Some, None, refl, sym, ap, ◌∙◌}
use Rattle.layout.specs.Stands.{Kept}
use Rattle.model.specs.Operations.Answer as model
use Rattle.model.specs.Operations.Operation.{Argument}
use Rattle.model_tree.specs.Seats.Seats.{Seats}
use Rattle.model.specs.Sessions.Session.{Table, finish}
use Rattle.model.specs.Server.World as turns
use Rattle.model.specs.Server.World.{World, InProgress, HasRun, Entry, Turned, Refuses, Reads, next_operation, operates, further, has_run, noting, behind, closes, is_to_hold, kept_by, result_of, with_result, is_last, executed_entry}
use Rattle.model_tree.specs.declared.status.Status.{Status}
use Rattle.model_tree.specs.declared.status.Status.TheVariants as status
use Rattle.wire.specs.OutcomeView.{outcome_view}
use Rattle.compound.specs.Operates.{Operates, GivesIn, run_in_room, world_by, left_by_effect}
use Rattle.compound.specs.Runs.{makes_change, noted, with_rest}
use Rattle.compound.specs.States.{SharedState, with_state}
use Rattle.compound.specs.Steps.{stepped_on}
use Rattle.compound.specs.Turns.{TurnsExecuted, TurnsTo}
use Rattle.compound.specs.Volumes.{kept_of_world}
use Rattle.compound.specs.declared.executed.Executed.{Executed}
use Rattle.compound.specs.declared.executed.Executed.TheVariants as execution
use Rattle.model.proofs.Sessions.TableCalls.{either}
use Rattle.compound.proofs.Rooms.{state_same}

-- a request that has not ended goes on with its next operation
pub goes_next : (world : World) (number now : ℕ) (request : InProgress) → request.ended ≡ None
    → stepped_on world number now request ≡ operates world number now request (next_operation request)
goes_next world number now request going = ap (further world number now request) going

-- an operation that was read: the turn is what its run makes
pub read_turn : (world : World) (number now : ℕ) (request : InProgress) (operation : Argument) (rest : List ℕ) (ran : HasRun) → request.ended ≡ None
    → next_operation request ≡ Reads operation rest → run_in_room world (with_rest request rest) now operation ≡ ran
    → stepped_on world number now request ≡ has_run world number (with_rest request rest) operation ran
read_turn world number now request operation rest ran going next runs =
    goes_next world number now request going ∙ ap (operates world number now request) next ∙ ap (has_run world number (with_rest request rest) operation) runs

turns_to : (now : ℕ) (old new : SharedState) (request left : InProgress) (operation : Argument) (rest : List ℕ) (altered : Bool) (outcome : model.Outcome) → request.ended ≡ None
    → next_operation request ≡ Reads operation rest → altered ≡ makes_change old.files.changes new.files.changes operation
    → GivesIn now old new request left operation outcome
    → TurnsTo now old new request (noted altered (with_rest left rest)) outcome
turns_to now old new request left operation rest altered outcome going next is ran = λ world number served.
    let executed : Option Entry = Some (executed_entry world (with_rest request rest) operation outcome (with_state world new)) in
    let same : makes_change world.changes new.files.changes operation ≡ altered =
    ap (λ (before : ℕ). makes_change before new.files.changes operation) served.changes ∙ sym is in (
      executed,
      read_turn world number now request operation rest _ going next (ran world rest served)
          ∙ ap (λ (a : Bool). behind (with_state world new) number (noted a (with_rest left rest)) outcome executed) same,
    )

pub turns_read : (now : ℕ) (old new : SharedState) (request : InProgress) (operation : Argument) (rest : List ℕ) (altered : Bool) (done : Executed) → request.ended ≡ None
    → next_operation request ≡ Reads operation rest → altered ≡ makes_change old.files.changes new.files.changes operation
    → Operates now old new request operation done → TurnsExecuted now old new request rest altered done
turns_read now old new request operation rest altered (execution.Gives outcome left) going next is ran =
    turns_to now old new request (left_by_effect left request) operation rest altered (outcome_view outcome) going next is ran
turns_read now old new request operation rest altered (execution.GivesValues kind values) going next is ran = (
  ran.0,
  ran.1,
  turns_to now old new request request operation rest altered (model.Done ran.0) going next is ran.2,
)
turns_read now old new request operation rest altered (execution.Replays slot) going next is ran = (
  ran.0,
  ran.1,
  ran.2,
  λ world number served. read_turn world number now request operation rest _ going next (ran.3 world rest served),
)

-- one that is refused before it is run
none_more : (altered : Bool) → altered ≡ (altered || false)
none_more true = refl
none_more false = refl

pub turns_refused : (now : ℕ) (old : SharedState) (request : InProgress) (rest : List ℕ) (operation : ℕ) (reason : Status) → request.ended ≡ None
    → next_operation request ≡ Refuses operation reason → request.rest ≡ rest
    → TurnsTo now old old request (noted false (with_rest request rest)) (model.Refused operation reason)
turns_refused now old request rest operation reason going next same = λ world number served. (
  None,
  goes_next world number now request going ∙ ap (operates world number now request) next
      ∙ (ap (λ (before : World). behind before number request (model.Refused operation reason) None) (sym (state_same world old served))
      ∙ (ap (λ (bytes : List ℕ). behind (with_state world old) number (with_rest request bytes) (model.Refused operation reason) None) same
      ∙ ap (λ (a : Bool). behind (with_state world old) number (record (with_rest request rest) { altered = a }) (model.Refused operation reason) None)
      (none_more request.altered))),
)

-- What a volume is to keep after a turn

abbrev Keeps : World → Turned → Type 0
Keeps world turn = kept_of_world turn.world ≡ kept_of_world world

-- a reply that no seat holds changes none
kept_seats : (slot : Option (List ℕ × ℕ)) (result : List ℕ) (table : Table) → (kept_by slot false result table).seats ≡ table.seats
unfolding finish
kept_seats None result table = refl
kept_seats (Some slot) result table = refl

closes_keeps : (world : World) (number : ℕ) (request : InProgress) (last : Status) (executed : Option Entry) → Keeps world (closes world number request last executed)
closes_keeps world number request last executed =
    either (Keeps world) (is_to_hold request world.table) _ _
    (λ holds. refl)
    (λ none. ap (λ (seats : Seats). let kept : Kept = record { tree = world.tree; seats = seats } in kept) (kept_seats request.slot (result_of request last) world.table))

behind_keeps : (world : World) (number : ℕ) (request : InProgress) (outcome : model.Outcome) (executed : Option Entry) → Keeps world (behind world number request outcome executed)
behind_keeps world number request (model.Refused operation reason) executed =
    closes_keeps world number (with_result request (model.Refused operation reason)) reason executed
behind_keeps world number request (model.Done answer) executed =
    either (Keeps world) (is_last request) _ _
    (λ last. closes_keeps world number (with_result request (model.Done answer)) status.Ok executed)
    (λ more. refl)

pub run_keeps : (world : World) (number : ℕ) (request : InProgress) (operation : Argument) (ran : HasRun) → Keeps (world_by world ran) (has_run world number request operation ran)
run_keeps world number request operation (turns.Gives outcome after left) =
    behind_keeps after number (noting world after operation left) outcome (Some (executed_entry world request operation outcome after))
run_keeps world number request operation (turns.Replays reply session slot) = refl

-- one whose next operation is refused before it runs changes nothing
pub refused_keeps : (world : World) (number now : ℕ) (request : InProgress) (operation : ℕ) (reason : Status) → request.ended ≡ None → next_operation request ≡ Refuses operation reason
    → Keeps world (stepped_on world number now request)
refused_keeps world number now request operation reason going next =
    ap (λ (t : Turned). kept_of_world t.world) (goes_next world number now request going ∙ ap (operates world number now request) next)
    ∙ behind_keeps world number request (model.Refused operation reason) None
