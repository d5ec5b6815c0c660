-- RENAME on a world is that on its file system.
use Rattle.std.proofs.Common.{◌≡◌, ℕ, Bool, true, false, not, List, length, nat_le, Option, Some, None, refl, sym, ap, ap₂, subst, ◌∙◌, arith, length-append}
use Rattle.xdr.proofs.Numbers.{length-number_32, length-number_64}
use Rattle.layout.specs.Stands.{Kept}
use Rattle.fs.specs.FileSystem.{FileSystem}
use Rattle.fs.specs.Operations.{IsNotDone, does_on, current_refusal}
use Rattle.fs.specs.Renaming.{IsOnBoth, RenamesTree, is_itself, renamed, opens_after}
use Rattle.fs.specs.declared.fault.FsFault.{FsFault}
use Rattle.fs.specs.declared.renaming.Change.{Change}
use Rattle.fs.specs.declared.renaming.Renamed.{Renamed}
use Rattle.model.specs.Operations.Answer.{Done}
use Rattle.model.specs.Operations.Context.{Context, has_current, has_saved, saved_number, is_same_name}
use Rattle.model_tree.specs.Trees.Keyed.{is_key}
use Rattle.model.specs.Sessions.Opens.{Opens}
use Rattle.model.specs.Operations.Operation.{Argument, RenameArguments}
use Rattle.model_tree.specs.Refusals.Refusal.{refused_or}
use Rattle.model.specs.Sessions.Session.{Table}
use Rattle.model.specs.Operations.Step.{State, does, effect, refused, refusals, unless_refused, answered, rename, current}
use Rattle.model.specs.Server.World as turns
use Rattle.model.specs.Server.World.{World, InProgress, HasRun, run, stepped, state_of, reply_with, outcome_text}
use Rattle.model_tree.specs.declared.limits.Limits.{Limits}
use Rattle.model_tree.specs.declared.status.Status.{Status}
use Rattle.model_tree.specs.declared.status.Status.TheVariants as status
use Rattle.compound.specs.Operates.{run_in_room}
use Rattle.compound.specs.Runs.{with_rest}
use Rattle.compound.specs.States.{shared}
use Rattle.compound.specs.Trees.{IsHere, IsUp, AreBoth, no_change, renamed_answer}
use Rattle.compound.specs.Volumes.{OperationGives, lasts, entry_by}
use Rattle.compound.proofs.Current.{after_some, after_none}
use Rattle.compound.proofs.Changing.{HasThisRoom, is_up, same_room, tree_given}
use Rattle.compound.proofs.Trees.{here, is_on, is_there, of_request, rename_bad}
use Rattle.volume.specs.VolumeState.{with_tree}

-- The room of its answer

text_length : (source target : Change) → length (outcome_text (Done (renamed_answer source target))) ≡ 48
unfolding outcome_text
text_length source target = simp (length-append, length-number_32, length-number_64) (omega arith)

pub renamed_room : (request : InProgress) (source target source_2 target_2 : Change) (room : Bool)
    → room ≡ nat_le (length (reply_with request (Done (renamed_answer source target)))) 16368
    → room ≡ nat_le (length (reply_with request (Done (renamed_answer source_2 target_2)))) 16368
renamed_room request source target source_2 target_2 room is =
    same_room request (renamed_answer source target) (renamed_answer source_2 target_2) room
    (omega (arith, text_length source target, text_length source_2 target_2)) is

rename_sized : (same : Bool) (state : State) (now : ℕ) (arguments : RenameArguments) (request : InProgress) (room : Bool)
    → room ≡ nat_le (length (reply_with request (Done (renamed_answer no_change no_change)))) 16368
    → HasThisRoom request room (rename same state now arguments)
rename_sized true state now arguments request room is =
    (_, refl, renamed_room request no_change no_change (record { before = _; after = _ }) (record { before = _; after = _ }) room is)
rename_sized false state now arguments request room is =
    (_, refl, renamed_room request no_change no_change (record { before = _; after = _ }) (record { before = _; after = _ }) room is)

-- Its first tests

pub refused_current : (limits : Limits) (state : State) (now : ℕ) (arguments : RenameArguments) (reason : Status) → current_refusal state ≡ Some reason
    → does limits state now (Argument.Rename arguments) ≡ refused state (Argument.Rename arguments) reason
unfolding does refusals
refused_current limits state now arguments reason is =
    ap (λ (first : Option Status). unless_refused state (Argument.Rename arguments) first (effect limits state now (Argument.Rename arguments)))
    (after_some (not (has_current state.context)) (not (is_key (current state) state.tree)) reason _ is)

saved_first : (saved : Bool) (others : Option Status) → saved ≡ false → refused_or (not saved) status.NoFileHandle others ≡ Some status.NoFileHandle
saved_first saved others none = ap (λ (b : Bool). refused_or (not b) status.NoFileHandle others) none

pub refused_saved : (limits : Limits) (state : State) (now : ℕ) (arguments : RenameArguments) → current_refusal state ≡ None → has_saved state.context ≡ false
    → does limits state now (Argument.Rename arguments) ≡ refused state (Argument.Rename arguments) status.NoFileHandle
unfolding does refusals
refused_saved limits state now arguments is none =
    ap (λ (first : Option Status). unless_refused state (Argument.Rename arguments) first (effect limits state now (Argument.Rename arguments)))
    (after_none (not (has_current state.context)) (not (is_key (current state) state.tree)) _ is ∙ saved_first (has_saved state.context) _ none)

-- What it leaves

-- a name that is given to itself does not have to last
quiet_ran : (world : World) (request : InProgress) (arguments : RenameArguments) (ran : HasRun) → is_same_name request.context arguments ≡ true
    → lasts (entry_by world request (Argument.Rename arguments) ran) ≡ false
quiet_ran world request arguments (turns.Gives outcome after left) same = rw same refl
quiet_ran world request arguments (turns.Replays reply session slot) same = refl

module _ (now : ℕ) (fs : FileSystem) (request : InProgress) (arguments : RenameArguments) where
  pub on_tree : (world : World) (rest : List ℕ) → run world (with_rest request rest) now (Argument.Rename arguments)
      ≡ stepped world (with_rest request rest) (does world.limits.volume (state_of world (with_rest request rest)) now (Argument.Rename arguments))
  unfolding run
  on_tree world rest = refl

  pub sized : (room : Bool) → room ≡ nat_le (length (reply_with request (Done (renamed_answer no_change no_change)))) 16368
      → (state : State) → IsHere fs request state → HasThisRoom request room (effect fs.volume.limits state now (Argument.Rename arguments))
  unfolding effect
  sized room is state there = rename_sized (is_same_name state.context arguments) state now arguments request room is

  pub does_rename : (new : FileSystem) (made : Renamed) (before : Opens) (same : Bool) (state : State) → IsHere fs request state → state.opens ≡ before
      → is_same_name state.context arguments ≡ same
      → does_on fs state now (Argument.Rename arguments) ≡ renamed new.volume.tree new.changes state arguments made
      → does fs.volume.limits state now (Argument.Rename arguments)
      ≡ answered (record { tree = new.volume.tree; changes = new.changes; opens = opens_after same made.replaced before; context = request.context }) (renamed_answer made.source made.target)
  does_rename new made before same state there known same_is is =
      is
      ∙ (ap (λ (opens : Opens). answered (record { tree = new.volume.tree; changes = new.changes; opens = opens; context = state.context })
      (renamed_answer made.source made.target))
      (ap (opens_after (is_same_name state.context arguments) made.replaced) known ∙ ap (λ (b : Bool). opens_after b made.replaced before) same_is)
      ∙ ap (λ (context : Context). answered (record { tree = new.volume.tree; changes = new.changes; opens = opens_after same made.replaced before; context = context })
      (renamed_answer made.source made.target)) there.context_is)

  pub same_name : (numbers : ℕ × ℕ) → AreBoth request.context numbers → (state : State) → IsHere fs request state
      → is_same_name state.context arguments ≡ is_itself numbers.0 numbers.1 arguments
  same_name numbers both state there =
      ap (λ (context : Context). is_same_name context arguments) there.context_is
      ∙ ap₂ (λ (from to : ℕ). is_itself from to arguments) both.saved_is both.current_is

  pub is_on_both : (numbers : ℕ × ℕ) → request.context.run ≡ fs.volume.run → AreBoth request.context numbers
      → (state : State) → IsHere fs request state → IsOnBoth fs request.context.cred numbers.0 numbers.1 state
  is_on_both numbers in_run both state there = record {
    on = is_on fs request numbers.1 state in_run both.has_current both.current_is there;
    has_saved = subst (λ (context : Context). has_saved context ≡ true) (sym there.context_is) both.has_saved;
    saved_is = ap saved_number there.context_is ∙ both.saved_is;
  }

  pub rename_up : (numbers : ℕ × ℕ) (why : FsFault) → fs.volume.is_down ≡ false → request.context.run ≡ fs.volume.run → AreBoth request.context numbers
      → ((state : State) → IsOnBoth fs request.context.cred numbers.0 numbers.1 state → IsNotDone fs state now (Argument.Rename arguments) why) → IsUp why
  rename_up numbers why up in_run both step =
      let state = of_request fs request in
      is_up now fs state (Argument.Rename arguments) why up (rename_bad fs.volume.limits state now arguments) (step state (is_on_both numbers in_run both state (is_there fs request)))

  pub rename_makes : (table : Table) (opens : Opens) (numbers : ℕ × ℕ) → request.context.run ≡ fs.volume.run → AreBoth request.context numbers
      → (room : Bool) → room ≡ nat_le (length (reply_with request (Done (renamed_answer no_change no_change)))) 16368 → room ≡ true
      → (kept : Kept) (lasting : Bool) → OperationGives (shared fs table opens) request now (Argument.Rename arguments) kept lasting
      → RenamesTree fs request.context.cred numbers.0 numbers.1 now arguments kept lasting
  rename_makes table opens numbers in_run both room fits some kept lasting gives = record {
    state = state_of gives.world (with_rest request gives.rest);
    on = is_on_both numbers in_run both _ (here gives.world fs table opens request gives.rest gives.has);
    kept = gives.kept ∙ ap (with_tree fs.volume) (tree_given now fs request (Argument.Rename arguments) on_tree room (sized room fits) table opens gives.world gives.rest some gives.has);
    quiet = λ same. gives.lasting_is ∙ quiet_ran gives.world (with_rest request gives.rest) arguments (run_in_room gives.world (with_rest request gives.rest) now (Argument.Rename arguments)) same;
  }
