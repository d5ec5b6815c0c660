-- REMOVE on a world is that on its file system.
use Rattle.std.proofs.Common.{◌≡◌, ℕ, Bool, true, false, List, length, nat_le, refl, ap, ◌∙◌, arith, length-append}
use Rattle.xdr.proofs.Numbers.{length-number_32, length-number_64}
use Rattle.layout.specs.Stands.{Kept}
use Rattle.fs.specs.FileSystem.{FileSystem}
use Rattle.fs.specs.Operations.{IsOn, IsNotDone, MakesTree, does_on}
use Rattle.fs.specs.Removing.{removed}
use Rattle.fs.specs.declared.fault.FsFault.{FsFault}
use Rattle.fs.specs.declared.removing.Removed.{Removed}
use Rattle.model.specs.Operations.Answer.{Done}
use Rattle.model.specs.Operations.Context.{Context, has_current, current_number}
use Rattle.model.specs.Sessions.Opens.{Opens}
use Rattle.model.specs.Operations.Operation.{Argument}
use Rattle.model.specs.Sessions.Session.{Table}
use Rattle.model.specs.Sessions.StateIds.{without_number}
use Rattle.model.specs.Operations.Step.{State, does, effect, answered}
use Rattle.model.specs.Server.World.{World, InProgress, run, stepped, state_of, reply_with, outcome_text}
use Rattle.compound.specs.Runs.{with_rest}
use Rattle.compound.specs.States.{shared}
use Rattle.compound.specs.Trees.{IsHere, IsUp, removed_answer}
use Rattle.compound.specs.Volumes.{OperationGives}
use Rattle.compound.proofs.Changing.{HasThisRoom, is_up, same_room, tree_given}
use Rattle.compound.proofs.Trees.{here, is_on, is_there, of_request, remove_bad}
use Rattle.volume.specs.VolumeState.{with_tree}

text_length : (before after : ℕ) → length (outcome_text (Done (removed_answer before after))) ≡ 28
unfolding outcome_text
text_length before after = simp (length-append, length-number_32, length-number_64) (omega arith)

pub removed_room : (request : InProgress) (before after before_2 after_2 : ℕ) (room : Bool)
    → room ≡ nat_le (length (reply_with request (Done (removed_answer before after)))) 16368
    → room ≡ nat_le (length (reply_with request (Done (removed_answer before_2 after_2)))) 16368
removed_room request before after before_2 after_2 room is =
    same_room request (removed_answer before after) (removed_answer before_2 after_2) room
    (omega (arith, text_length before after, text_length before_2 after_2)) is

module _ (now : ℕ) (fs : FileSystem) (request : InProgress) (name : List ℕ) where
  pub on_tree : (world : World) (rest : List ℕ) → run world (with_rest request rest) now (Argument.Remove name)
      ≡ stepped world (with_rest request rest) (does world.limits.volume (state_of world (with_rest request rest)) now (Argument.Remove name))
  unfolding run
  on_tree world rest = refl

  pub sized : (room : Bool) → room ≡ nat_le (length (reply_with request (Done (removed_answer 0 0)))) 16368
      → (state : State) → IsHere fs request state → HasThisRoom request room (effect fs.volume.limits state now (Argument.Remove name))
  unfolding effect
  sized room is state there = (_, refl, removed_room request 0 0 _ _ room is)

  pub does_remove : (new : FileSystem) (made : Removed) (before : Opens) (state : State) → IsHere fs request state → state.opens ≡ before
      → does_on fs state now (Argument.Remove name) ≡ removed new.volume.tree new.changes state made
      → does fs.volume.limits state now (Argument.Remove name)
      ≡ answered (record { tree = new.volume.tree; changes = new.changes; opens = without_number made.number before; context = request.context }) (removed_answer made.before made.after)
  does_remove new made before state there known is =
      is
      ∙ (ap (λ (opens : Opens). answered (record { tree = new.volume.tree; changes = new.changes; opens = without_number made.number opens; context = state.context })
      (removed_answer made.before made.after)) known
      ∙ ap (λ (context : Context). answered (record { tree = new.volume.tree; changes = new.changes; opens = without_number made.number before; context = context })
      (removed_answer made.before made.after)) there.context_is)

  pub remove_up : (directory : ℕ) (why : FsFault) → fs.volume.is_down ≡ false → request.context.run ≡ fs.volume.run
      → has_current request.context ≡ true → current_number request.context ≡ directory
      → ((state : State) → IsOn fs request.context.cred directory state → IsNotDone fs state now (Argument.Remove name) why) → IsUp why
  remove_up directory why up in_run has is step =
      let state = of_request fs request in
      is_up now fs state (Argument.Remove name) why up (remove_bad fs.volume.limits state now name) (step state (is_on fs request directory state in_run has is (is_there fs request)))

  pub remove_makes : (table : Table) (opens : Opens) (directory : ℕ) → request.context.run ≡ fs.volume.run
      → has_current request.context ≡ true → current_number request.context ≡ directory
      → (room : Bool) → room ≡ nat_le (length (reply_with request (Done (removed_answer 0 0)))) 16368 → room ≡ true
      → (kept : Kept) (lasts : Bool) → OperationGives (shared fs table opens) request now (Argument.Remove name) kept lasts
      → MakesTree fs request.context.cred directory now (Argument.Remove name) kept lasts
  remove_makes table opens directory in_run has is room fits some kept lasts gives = record {
    state = state_of gives.world (with_rest request gives.rest);
    on = is_on fs request directory _ in_run has is (here gives.world fs table opens request gives.rest gives.has);
    kept = gives.kept ∙ ap (with_tree fs.volume) (tree_given now fs request (Argument.Remove name) on_tree room (sized room fits) table opens gives.world gives.rest some gives.has);
  }
