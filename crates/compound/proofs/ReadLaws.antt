-- READ, by the call that reads a file.
use Rattle.std.proofs.Common.{◌≡◌, ℕ, Bool, true, false, if◌then◌else◌, ◌∷◌, Option, Some, None, Err, IfOk, refl, sym, ap, subst, ◌∙◌}
use Rattle.layout.specs.Stands.{Kept}
use Rattle.fs.specs.Changes.{FsChanges}
use Rattle.fs.specs.FileSystem.{FileSystem}
use Rattle.fs.specs.Operations.{does_on}
use Rattle.fs.specs.Reading.{IsNotRead, reading_ending}
use Rattle.fs.specs.declared.fault.FsFault.{FsFault}
use Rattle.fs.specs.declared.fault.FsFault.TheVariants as fault
use Rattle.fs.proofs.ChangeLaws.{changes_by}
use Rattle.model.specs.Operations.Answer.{Answer, Done, Refused}
use Rattle.model.specs.Operations.Context.{has_current}
use Rattle.model.specs.Sessions.Opens.{Opens}
use Rattle.model.specs.Operations.Operation.{Argument, ReadArguments}
use Rattle.model.specs.Sessions.Session.{Table}
use Rattle.model.specs.Sessions.StateIds.{state_refusals, read_access}
use Rattle.model.specs.Operations.Step.{State, answered, does, effect, refused, refusals, unless_refused, without_rights, late, permitted, need_first, need_then}
use Rattle.model.specs.Server.World.{World, InProgress, Gives, run, stepped, state_of, in_room, refuses}
use Rattle.model_tree.specs.declared.limits.Limits.{Limits}
use Rattle.model_tree.specs.declared.status.Status.{Status}
use Rattle.model_tree.specs.declared.status.Status.TheVariants as status
use Rattle.model_tree.proofs.Facts.BooleanLaws.{never_both}
use Rattle.volume.specs.Changes as ended
use Rattle.volume.specs.VolumeState.{with_tree}
use Rattle.volume.specs.Changes.{IsTree, Nothing, Broken}
use Rattle.wire.specs.Short.{IsRefusal}
use Rattle.compound.specs.Operates.{RunsTo, GivesIn, ChangesTreeAndOpens, run_in_room, tree_by}
use Rattle.compound.specs.Runs.{with_rest}
use Rattle.compound.specs.States.{shared}
use Rattle.compound.specs.Trees.{IsHere, IsUp, fault_result}
use Rattle.compound.specs.Volumes.{OperationGives, ending}
use Rattle.compound.proofs.QuietLaws.{leaves_all, left_all, answers_quietly}
use Rattle.compound.proofs.Rooms.{gives_refusal, state_same}
use Rattle.compound.proofs.Telling.{OnTree}
use Rattle.compound.proofs.Trees.{append_bad, does_bad, here, tree_runs}
use Rattle.compound.proofs.VerdictLaws.{verdict_bad}
use Rattle.compound.proofs.VolumeLaws.{operation_stays, quiet_gives}

pub read_on_tree : (arguments : ReadArguments) → OnTree (Argument.Read arguments)
unfolding run
read_on_tree arguments = λ world request now. refl

-- It leaves the tree

tree_roomed : (world : World) (request : InProgress) (number : ℕ) (answer : Answer) (room : Bool)
    → tree_by world (if room then Gives (Done answer) world request else refuses world request number status.RepTooBig) ≡ world.tree
tree_roomed world request number answer true = refl
tree_roomed world request number answer false = refl

tree_kept : (world : World) (request : InProgress) (now : ℕ) (arguments : ReadArguments)
    → tree_by world (run_in_room world request now (Argument.Read arguments)) ≡ world.tree
unfolding run does effect
tree_kept world request now arguments = by_refusal _
  where
    by_refusal : (refusal : Option Status) → tree_by world (in_room world request 25
        (stepped world request (unless_refused (state_of world request) (Argument.Read arguments) refusal
        (effect world.limits.volume (state_of world request) now (Argument.Read arguments))))) ≡ world.tree
    by_refusal None = tree_roomed world request 25 _ _
    by_refusal (Some reason) = refl

pub read_tree : (fs : FileSystem) (table : Table) (opens : Opens) (request : InProgress) (now : ℕ) (arguments : ReadArguments) (after : Kept) (lasts : Bool)
    → OperationGives (shared fs table opens) request now (Argument.Read arguments) after lasts → IsTree fs.volume fs.volume.tree after lasts
read_tree fs table opens request now arguments after lasts gives =
    gives.kept ∙ ap (with_tree fs.volume) (tree_kept gives.world (with_rest request gives.rest) now arguments ∙ gives.has.tree)

-- It is refused with a status that is not OK

pub read_bad : (limits : Limits) (state : State) (now : ℕ) (arguments : ReadArguments) (reason : Status)
    → does limits state now (Argument.Read arguments) ≡ refused state (Argument.Read arguments) reason → IsRefusal reason
unfolding refusals effect
read_bad limits state now arguments reason is =
    let kind : Argument = Argument.Read arguments in
    does_bad limits state now kind reason _
    (append_bad (state_refusals state.opens state.context read_access arguments.state)
    ((without_rights state (need_first state.tree state.context kind), status.Access)
    ∷ (without_rights state (need_then state.tree state.context kind), status.Access)
    ∷ late limits state kind)
    (verdict_bad read_access state.opens state.context arguments.state) refl)
    refl is

-- If there is no current filehandle

pub read_wants : (now : ℕ) (fs : FileSystem) (table : Table) (opens : Opens) (request : InProgress) (arguments : ReadArguments) → has_current request.context ≡ false
    → RunsTo now (shared fs table opens) (shared fs table opens) request request (Argument.Read arguments) (Refused 25 status.NoFileHandle)
unfolding run does refusals permitted effect
read_wants now fs table opens request arguments none = λ world rest on.
    rw none (ap (λ (after : World). Gives (Refused 25 status.NoFileHandle) after (with_rest request rest)) (sym (state_same world (shared fs table opens) on)))

-- What the call says of the states of the request among these opens

abbrev pub Says : FileSystem → Opens → InProgress → (State → Type 0) → Type 0
Says fs opens request says = (state : State) → IsHere fs request state → state.opens ≡ opens → says state

module _ (now : ℕ) (fs : FileSystem) (opens : Opens) (request : InProgress) (arguments : ReadArguments) where
  pub read_ok : (table : Table) (answer : Answer) → Says fs opens request (λ state. does_on fs state now (Argument.Read arguments) ≡ answered state answer)
      → RunsTo now (shared fs table opens) (shared fs table opens) request request (Argument.Read arguments) (Done answer)
  read_ok table answer does_so = tree_runs now fs table opens request request.context (Argument.Read arguments) (Done answer)
      (λ world rest. read_on_tree arguments world (with_rest request rest) now)
      (λ world rest on. does_so (state_of world (with_rest request rest)) (here world fs table opens request rest on) on.opens)

  pub read_err : (table : Table) (reason : Status) → Says fs opens request (λ state. does_on fs state now (Argument.Read arguments) ≡ refused state (Argument.Read arguments) reason)
      → RunsTo now (shared fs table opens) (shared fs table opens) request request (Argument.Read arguments) (Refused 25 reason)
  read_err table reason does_so = tree_runs now fs table opens request request.context (Argument.Read arguments) (Refused 25 reason)
      (λ world rest. read_on_tree arguments world (with_rest request rest) now)
      (λ world rest on. does_so (state_of world (with_rest request rest)) (here world fs table opens request rest on) on.opens)

  -- If it is not done

  some_state : State
  some_state = record { tree = fs.volume.tree; changes = fs.changes; opens = opens; context = request.context }

  says_something : {P : State → Type 0} → Says fs opens request P → P some_state
  unfolding some_state
  says_something says = says some_state (record { tree_is = refl; changes_is = refl; context_is = refl }) refl

  pub read_up : (why : FsFault) → fs.volume.is_down ≡ false → Says fs opens request (λ state. IsNotRead fs state now (Argument.Read arguments) why) → IsUp why
  read_up (fault.Status reason) up step = read_bad fs.volume.limits some_state now arguments reason (says_something {P = λ state. IsNotRead fs state now (Argument.Read arguments) (fault.Status reason)} step)
  read_up fault.NoRoom up step = tt
  read_up fault.Memory up step = tt
  read_up fault.Device up step = tt
  read_up fault.Down up step = never_both fs.volume.is_down up (says_something {P = λ state. fs.volume.is_down ≡ true} step)

  module _ (keeps_word : Type 0) (new : FileSystem) (before after : ℕ) where
    pub told_reads : (T : Type 0) (why : FsFault) → Says fs opens request (λ state. IsNotRead fs state now (Argument.Read arguments) why)
        → FsChanges keeps_word (IsTree fs.volume fs.volume.tree) fs new before after (reading_ending {T = T} (Err why))
        → IfOk (fault_result 25 why) (ChangesTreeAndOpens fs new opens opens now request (Argument.Read arguments))
    told_reads T (fault.Status reason) step changes = λ table.
        subst (λ (one : FileSystem). GivesIn now (shared fs table opens) (shared one table opens) request request (Argument.Read arguments) (Refused 25 reason))
        (sym (left_all keeps_word (IsTree fs.volume fs.volume.tree) fs new before after changes))
        (gives_refusal now (shared fs table opens) (shared fs table opens) request (Argument.Read arguments) 25 reason (read_err table reason step))
    told_reads T fault.NoRoom step changes = absurd (says_something {P = λ state. ⊥} step)
    told_reads T fault.Memory step changes = tt
    told_reads T fault.Device step changes = tt
    told_reads T fault.Down step changes = tt

    -- a call that left all as it was succeeds, or is refused for memory
    pub read_quietly : (table : Table) → fs.volume.is_down ≡ false → FsChanges keeps_word (IsTree fs.volume fs.volume.tree) fs new before after Nothing
        → FsChanges keeps_word (OperationGives (shared fs table opens) request now (Argument.Read arguments)) fs new before after ended.Done
    read_quietly table up changes = answers_quietly keeps_word _ fs new before after (left_all keeps_word (IsTree fs.volume fs.volume.tree) fs new before after changes)
        (changes.volume_changes.none (λ broken. cc)) up (λ keeps. operation_stays (shared fs table opens) request now (Argument.Read arguments)) (quiet_gives (shared fs table opens) request now (Argument.Read arguments) refl)

    pub read_nothing : (table : Table) → FsChanges keeps_word (IsTree fs.volume fs.volume.tree) fs new before after Nothing
        → FsChanges keeps_word (OperationGives (shared fs table opens) request now (Argument.Read arguments)) fs new before after Nothing
    read_nothing table changes = leaves_all keeps_word _ fs new before after (left_all keeps_word (IsTree fs.volume fs.volume.tree) fs new before after changes) (changes.volume_changes.none (λ broken. cc))

    pub told_changes : (T : Type 0) (table : Table) (why : FsFault) → fs.volume.is_down ≡ false → Says fs opens request (λ state. IsNotRead fs state now (Argument.Read arguments) why)
        → FsChanges keeps_word (IsTree fs.volume fs.volume.tree) fs new before after (reading_ending {T = T} (Err why))
        → FsChanges keeps_word (OperationGives (shared fs table opens) request now (Argument.Read arguments)) fs new before after (ending (fault_result 25 why))
    told_changes T table (fault.Status reason) up step changes = read_quietly table up changes
    told_changes T table fault.NoRoom up step changes = read_quietly table up changes
    told_changes T table fault.Memory up step changes = read_nothing table changes
    told_changes T table fault.Device up step changes =
        changes_by keeps_word (IsTree fs.volume fs.volume.tree) _ (read_tree fs table opens request now arguments) fs new before after Broken changes
    told_changes T table fault.Down up step changes = never_both fs.volume.is_down up (says_something {P = λ state. fs.volume.is_down ≡ true} step)
