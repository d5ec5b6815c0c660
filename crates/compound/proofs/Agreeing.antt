-- A step keeps the table of the volume's run, with the volume's seats.
use Rattle.std.proofs.Common.{◌≡◌, ℕ, inl, Bool, true, false, List, [], Option, None, Some, Result, Ok, Err, IfOk, refl, sym, ap, ◌∙◌}
use Rattle.volume.specs.Changes.{Done}
use Rattle.fs.specs.Changes.{FsChanges}
use Rattle.model.specs.Operations.Answer as model
use Rattle.model.specs.Sessions.Session.{Table}
use Rattle.model.specs.Server.World as turns
use Rattle.model.specs.Server.World.{World, InProgress, HasRun, Entry, Turned, Next, Refuses, Reads, behind, closes, further, has_run, is_last, is_to_hold, kept_by, next_operation, operates, result_of, with_connection, with_result}
use Rattle.model_tree.specs.declared.status.Status.{Status}
use Rattle.model_tree.specs.declared.status.Status.TheVariants as status
use Rattle.model.proofs.Sessions.TableCalls.{either}
use Rattle.rpc.specs.Assembly.{record_limits}
use Rattle.compound.specs.Operates.{run_in_room, world_by}
use Rattle.compound.specs.Profile.{served_by}
use Rattle.compound.specs.Runs.{with_rest}
use Rattle.compound.specs.States.{SharedState, HasState, Agrees, most_reply_bytes}
use Rattle.compound.specs.Steps.{RequestSteps, stepped_on}
use Rattle.compound.specs.Views.{Asked, asked_of, in_progress_of}
use Rattle.compound.specs.Volumes.{TurnGives, kept_of_world, lasts, failed_step_ending}
use Rattle.compound.specs.Engines.{StepsTo, Steps, files_in, state_in}
use Rattle.compound.specs.declared.engine.Engine.{Engine}
use Rattle.compound.specs.declared.running.Running.{Running}
use Rattle.compound.specs.declared.step.Stepped.{Stepped}
use Rattle.disk.specs.declared.device.Device.{Ghosts}
use Rattle.compound.specs.declared.step.StepError.{StepError}
use Rattle.compound.proofs.TablesGo.{run_after, finish_run}

-- No turn changes the table's run

abbrev SameRun : World → World → Type 0
SameRun world after = after.table.run ≡ world.table.run

kept_run : (slot : Option (List ℕ × ℕ)) (holds : Bool) (result : List ℕ) (table : Table) → (kept_by slot holds result table).run ≡ table.run
kept_run None holds result table = refl
kept_run (Some slot) holds result table = finish_run slot.0 slot.1 holds result table

closes_run : (world : World) (number : ℕ) (request : InProgress) (last : Status) (executed : Option Entry) → SameRun world (closes world number request last executed).world
closes_run world number request last executed =
    either (λ (t : Turned). SameRun world t.world) (is_to_hold request world.table) _ _
    (λ holds. refl) (λ none. kept_run request.slot false (result_of request last) world.table)

behind_run : (world : World) (number : ℕ) (request : InProgress) (outcome : model.Outcome) (executed : Option Entry) → SameRun world (behind world number request outcome executed).world
behind_run world number request (model.Refused operation reason) executed = closes_run world number (with_result request (model.Refused operation reason)) reason executed
behind_run world number request (model.Done answer) executed =
    either (λ (t : Turned). SameRun world t.world) (is_last request) _ _
    (λ last. closes_run world number (with_result request (model.Done answer)) status.Ok executed) (λ more. refl)

ran_run : (world : World) (number : ℕ) (request : InProgress) (operation : _) (ran : HasRun) → SameRun (world_by world ran) (has_run world number request operation ran).world
ran_run world number request operation (turns.Gives outcome after left) = behind_run after number _ outcome _
ran_run world number request operation (turns.Replays reply session slot) = refl

operates_run : (world : World) (number now : ℕ) (request : InProgress) (next : Next) → SameRun world (operates world number now request next).world
operates_run world number now request (Refuses operation reason) = behind_run world number request (model.Refused operation reason) None
operates_run world number now request (Reads operation rest) =
    ran_run world number (with_rest request rest) operation (run_in_room world (with_rest request rest) now operation)
    ∙ run_after world (with_rest request rest) now operation

further_run : (world : World) (number now : ℕ) (request : InProgress) (ended : Option Status) → SameRun world (further world number now request ended).world
further_run world number now request None = operates_run world number now request (next_operation request)
further_run world number now request (Some last) = kept_run request.slot true (result_of request last) world.table

-- Some world has this state

some_world : SharedState → World
some_world state = record {
  limits = record {
    volume = state.files.volume.limits;
    sessions = served_by state.files.volume.version;
    records = record_limits;
    connections = 0;
    settings = state.table.settings;
    reply_bytes = most_reply_bytes;
  };
  run = state.files.volume.run;
  tree = state.files.volume.tree;
  changes = state.files.changes;
  opens = state.opens;
  table = state.table;
  connections = [];
}

some_has : (state : SharedState) → HasState (some_world state) state
unfolding some_world
some_has state = record { volume = refl; sessions = refl; reply_bytes = refl; run = refl; tree = refl; changes = refl; opens = refl; table_is = refl }

pub agreed : (keeps_word : Type 0) (now : ℕ) (old new : SharedState) (asked : Asked) (request : InProgress) (done : Stepped) (before after : ℕ) → keeps_word → Agrees old.files old.table
    → RequestSteps now old new asked request done
    → FsChanges keeps_word (TurnGives old (λ world number. stepped_on world number now request)) old.files new.files before after Done
    → Agrees new.files new.table
agreed keeps_word now old new asked request done before after keeps agree steps changes =
    let world = some_world old in
    let has = some_has old in
    let turn = stepped_on world 0 now request in
    let table_is : turn.world.table ≡ new.table = ap (λ (w : World). w.table) (steps world 0 has).1 in
    let gives : TurnGives old (λ w n. stepped_on w n now request) (kept_of_world turn.world) (lasts turn.executed) =
    record { world = world; number = 0; has = has; kept = refl; lasting_is = inl refl } in
    record {
      run = ap (λ (t : Table). t.run) (sym table_is) ∙ (further_run world 0 now request request.ended ∙ (ap (λ (t : Table). t.run) has.table_is ∙ (agree.run ∙ sym changes.volume_changes.same.run)));
      seats = ap (λ (t : Table). t.seats) (sym table_is) ∙ sym (changes.volume_changes.ends.seats keeps (kept_of_world turn.world) _ (lasts turn.executed, gives, refl));
    }

pub agreed_if : (keeps_word : Type 0) (now : ℕ) (old new : SharedState) (asked : Asked) (request : InProgress) (result : Result Stepped StepError) (before after : ℕ) → keeps_word
    → Agrees old.files old.table → IfOk result (RequestSteps now old new asked request)
    → FsChanges keeps_word (TurnGives old (λ world number. stepped_on world number now request)) old.files new.files before after (failed_step_ending result)
    → IfOk result (λ done. Agrees new.files new.table)
agreed_if keeps_word now old new asked request (Ok done) before after keeps agree steps changes = agreed keeps_word now old new asked request done before after keeps agree steps changes
agreed_if keeps_word now old new asked request (Err failed) before after keeps agree steps changes = tt

pub steps_agree : {D : Type 0} {g : Ghosts D} (old new : Engine D g) (running : Running) (result : Result Stepped StepError) → (g.keeps_word → Agrees (files_in old) (state_in old).table)
    → StepsTo old new running result → Steps old new running result
steps_agree {g = g} old new running result agree steps = record {
  turn = steps;
  agrees = λ keeps.
      agreed_if g.keeps_word old.moment (state_in old) (state_in new) (asked_of running) (in_progress_of running) result _ _ keeps (agree keeps) (steps.step keeps) steps.volume;
}
