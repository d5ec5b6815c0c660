-- What a SETATTR comes to.
use Rattle.std.proofs.Common.{◌≡◌, ℕ, Bool, true, false, if◌then◌else◌, List, [], ◌∷◌, ◌++◌, length, nat_le, unwrap_or, refl, ap, ◌∙◌}
use Rattle.layout.specs.Stands.{Kept}
use Rattle.fs.specs.FileSystem.{FileSystem}
use Rattle.fs.specs.Operations.{IsNotDone, does_on}
use Rattle.fs.specs.Setting.{IsSetting, SetsTree, after_setting}
use Rattle.fs.specs.declared.fault.FsFault.{FsFault}
use Rattle.fs.specs.declared.setting.Setting.{Setting}
use Rattle.model.specs.Operations.Answer.{Done}
use Rattle.model.specs.Attributes.Attribute.{attribute_refusals, settable_at_setattr, values_of}
use Rattle.model.specs.Operations.Context.{Context, has_current, current_number}
use Rattle.model.specs.Sessions.Opens.{Opens}
use Rattle.model.specs.Operations.Operation.{Argument, Attributes, SetAttrArguments}
use Rattle.model.specs.Sessions.Session.{Table}
use Rattle.model.specs.Operations.SetAttr.{kind_at, set_attributes, sets, sets_size, size_refusals, was_set}
use Rattle.model.specs.Sessions.StateIds.{state_refusals, write_access}
use Rattle.model.specs.Operations.Step.{State, alters, does, effect, refused, refusals, without_rights, answered, current, current_refusals, need_first, need_then}
use Rattle.model_tree.specs.Trees.Tree.{is_directory_at}
use Rattle.model.specs.Server.World as turns
use Rattle.model.specs.Server.World.{World, InProgress, HasRun, run, stepped, state_of, reply_with}
use Rattle.model_tree.specs.declared.limits.Limits.{Limits}
use Rattle.model_tree.specs.declared.node.NodeKind.{NodeKind}
use Rattle.model_tree.specs.declared.status.Status.{Status}
use Rattle.model_tree.specs.declared.status.Status.TheVariants as status
use Rattle.wire.specs.Short.{IsRefusal}
use Rattle.compound.specs.Operates.{run_in_room}
use Rattle.compound.specs.Runs.{with_rest}
use Rattle.compound.specs.States.{shared}
use Rattle.compound.specs.Trees.{IsHere, IsUp}
use Rattle.compound.specs.Volumes.{OperationGives, lasts, entry_by}
use Rattle.compound.proofs.Changing.{HasThisRoom, is_up, tree_given}
use Rattle.compound.proofs.Trees.{all_bad, append_bad, does_bad, here, is_on, values_bad}
use Rattle.compound.proofs.VerdictLaws.{verdict_bad}
use Rattle.volume.specs.VolumeState.{with_tree}

-- Each refusal has a status that is not OK

size_bad : (is_sized : Bool) (state : State) (arguments : SetAttrArguments)
    → all_bad (if is_sized then (is_directory_at state.tree (current state), status.IsDir) ∷ state_refusals state.opens state.context write_access arguments.state else []) ≡ true
size_bad true state arguments = verdict_bad write_access state.opens state.context arguments.state
size_bad false state arguments = refl

pub given_bad : (limits : Limits) (kind : NodeKind) (settable : List ℕ) (given : Attributes) → all_bad (attribute_refusals limits kind settable given) ≡ true
unfolding attribute_refusals
given_bad limits kind settable given = values_bad limits kind (unwrap_or (values_of given) [])

set_done : (changes : Bool) (state : State) (now : ℕ) (arguments : SetAttrArguments)
    → (set_attributes changes state now arguments).outcome ≡ Done (was_set arguments)
set_done true state now arguments = refl
set_done false state now arguments = refl

pub set_bad : (limits : Limits) (state : State) (now : ℕ) (arguments : SetAttrArguments) (reason : Status)
    → does limits state now (Argument.SetAttr arguments) ≡ refused state (Argument.SetAttr arguments) reason → IsRefusal reason
unfolding refusals effect
set_bad limits state now arguments reason is =
    let kind : Argument = Argument.SetAttr arguments in
    let given = attribute_refusals limits (kind_at state.tree (current state)) settable_at_setattr arguments.attributes in
    does_bad limits state now kind reason (was_set arguments)
    (append_bad (current_refusals state ++ (given ++ size_refusals state arguments))
    ((without_rights state (need_first state.tree state.context kind), status.Access)
    ∷ (without_rights state (need_then state.tree state.context kind), status.Access)
    ∷ [])
    (append_bad (current_refusals state) (given ++ size_refusals state arguments) refl
    (append_bad given (size_refusals state arguments)
    (given_bad limits (kind_at state.tree (current state)) settable_at_setattr arguments.attributes)
    (size_bad (sets_size arguments.attributes) state arguments)))
    refl)
    (set_done (sets arguments) state now arguments) is

-- An empty bitmap does not have to last
quiet_ran : (world : World) (request : InProgress) (arguments : SetAttrArguments) (ran : HasRun) → alters (state_of world request) (Argument.SetAttr arguments) ≡ false
    → lasts (entry_by world request (Argument.SetAttr arguments) ran) ≡ false
quiet_ran world request arguments (turns.Gives outcome after left) none = rw none refl
quiet_ran world request arguments (turns.Replays reply session slot) none = refl

module _ (now : ℕ) (fs : FileSystem) (request : InProgress) (arguments : SetAttrArguments) where
  pub on_tree : (world : World) (rest : List ℕ) → run world (with_rest request rest) now (Argument.SetAttr arguments)
      ≡ stepped world (with_rest request rest) (does world.limits.volume (state_of world (with_rest request rest)) now (Argument.SetAttr arguments))
  unfolding run
  on_tree world rest = refl

  pub sized : (room : Bool) → room ≡ nat_le (length (reply_with request (Done (was_set arguments)))) 16368
      → (state : State) → IsHere fs request state → HasThisRoom request room (effect fs.volume.limits state now (Argument.SetAttr arguments))
  unfolding effect
  sized room is state there = (was_set arguments, set_done (sets arguments) state now arguments, is)

  pub does_set : (new : FileSystem) (opens : Opens) (state : State) → IsHere fs request state → state.opens ≡ opens
      → does_on fs state now (Argument.SetAttr arguments) ≡ after_setting new.volume.tree new.changes state arguments
      → does fs.volume.limits state now (Argument.SetAttr arguments)
      ≡ answered (record { tree = new.volume.tree; changes = new.changes; opens = opens; context = request.context }) (was_set arguments)
  does_set new opens state there known is =
      is
      ∙ (ap (λ (held : Opens). answered (record { tree = new.volume.tree; changes = new.changes; opens = held; context = state.context }) (was_set arguments)) known
      ∙ ap (λ (context : Context). answered (record { tree = new.volume.tree; changes = new.changes; opens = opens; context = context }) (was_set arguments)) there.context_is)

  -- some state of the request, beside these opens
  abbrev pub beside : Opens → State
  beside opens = record { tree = fs.volume.tree; changes = fs.changes; opens = opens; context = request.context }

  pub set_up : (opens : Opens) (why : FsFault) → fs.volume.is_down ≡ false
      → ((state : State) → IsHere fs request state → state.opens ≡ opens → IsNotDone fs state now (Argument.SetAttr arguments) why) → IsUp why
  set_up opens why up step =
      is_up now fs (beside opens) (Argument.SetAttr arguments) why up (set_bad fs.volume.limits (beside opens) now arguments)
      (step (beside opens) (record { tree_is = refl; changes_is = refl; context_is = refl }) refl)

  pub set_makes : (table : Table) (opens : Opens) (asked : Setting) → request.context.run ≡ fs.volume.run
      → has_current request.context ≡ true → current_number request.context ≡ asked.number
      → ((state : State) → IsHere fs request state → state.opens ≡ opens → IsSetting state asked arguments)
      → (room : Bool) → room ≡ nat_le (length (reply_with request (Done (was_set arguments)))) 16368 → room ≡ true
      → (kept : Kept) (lasting : Bool) → OperationGives (shared fs table opens) request now (Argument.SetAttr arguments) kept lasting
      → SetsTree fs request.context.cred now asked kept lasting
  set_makes table opens asked in_run has is setting room fits some kept lasting gives =
      let state = state_of gives.world (with_rest request gives.rest) in
      let there = here gives.world fs table opens request gives.rest gives.has in
      record {
        state = state;
        arguments = arguments;
        on = is_on fs request asked.number state in_run has is there;
        setting = setting state there gives.has.opens;
        kept = gives.kept ∙ ap (with_tree fs.volume) (tree_given now fs request (Argument.SetAttr arguments) on_tree room (sized room fits) table opens gives.world gives.rest some gives.has);
        quiet = λ none. gives.lasting_is ∙ quiet_ran gives.world (with_rest request gives.rest) arguments (run_in_room gives.world (with_rest request gives.rest) now (Argument.SetAttr arguments)) none;
      }
