-- What a WRITE and a COMMIT come to.
use Rattle.std.proofs.Common.{◌≡◌, ◌+◌, ℕ, Bool, true, false, not, List, ◌∷◌, ◌++◌, length, nat_le, Option, Some, None, Err, Result, refl, sym, ap, ◌∙◌, arith, length-append}
use Rattle.std.specs.Int.{w64, to_be_bytes}
use Rattle.xdr.specs.Forms.{padded, padding}
use Rattle.xdr.specs.Grammar.{number}
use Rattle.xdr.proofs.Sizes.{padded_length}
use Rattle.xdr.proofs.Numbers.{length-number_32, length-number_64}
use Rattle.layout.specs.Stands.{Kept}
use Rattle.fs.specs.FileSystem.{FileSystem}
use Rattle.fs.specs.Operations.{IsNotDone, does_on}
use Rattle.fs.specs.Writing.{Commits, IsWriting, WritesTree, after_write}
use Rattle.fs.specs.declared.fault.FsFault.{FsFault}
use Rattle.fs.specs.declared.fault.FsFault.TheVariants as fault
use Rattle.fs.specs.declared.writing.Writing.{Writing}
use Rattle.model.specs.Operations.Answer.{Done, Refused}
use Rattle.model.specs.Operations.Context.{Context, has_current, current_number}
use Rattle.model.specs.Operations.Files.{are_bytes, commit, file_refusals, has_bytes, write, write_refusals}
use Rattle.model.specs.Sessions.Opens.{Opens}
use Rattle.model.specs.Operations.Operation.{Argument, CommitArguments, WriteArguments}
use Rattle.model_tree.specs.Refusals.Refusal.{Refusals}
use Rattle.model.specs.Sessions.Session.{Table}
use Rattle.model.specs.Sessions.StateIds.{state_refusals, write_access}
use Rattle.model.specs.Operations.Step.{State, does, effect, refused, refusals, without_rights, answered, current_refusals, unless_refused, need_first, need_then}
use Rattle.model.specs.Server.World as turns
use Rattle.model.specs.Server.World.{World, InProgress, HasRun, run, stepped, state_of, reply_with, outcome_text}
use Rattle.model_tree.specs.declared.limits.Limits.{Limits}
use Rattle.model_tree.specs.declared.status.Status.{Status}
use Rattle.model_tree.specs.declared.status.Status.TheVariants as status
use Rattle.wire.specs.Short.{IsRefusal}
use Rattle.compound.specs.Files.{committed_answer, written_answer}
use Rattle.compound.specs.Operates.{RunsTo}
use Rattle.compound.specs.Runs.{with_rest}
use Rattle.compound.specs.States.{shared}
use Rattle.compound.specs.Trees.{IsHere, IsUp}
use Rattle.compound.specs.Volumes.{OperationGives, lasts, entry_by}
use Rattle.compound.proofs.Changing.{HasThisRoom, is_up, ran_given, same_room, tree_given}
use Rattle.compound.proofs.Rooms.{state_same}
use Rattle.compound.proofs.Trees.{append_bad, does_bad, here, is_on}
use Rattle.compound.proofs.VerdictLaws.{verdict_bad}
use Rattle.volume.specs.VolumeState.{kept_of, with_tree}

verifier_length : (of : ℕ) → length (padded (to_be_bytes w64 of)) ≡ 8
unfolding number
verifier_length of = padded_length (to_be_bytes w64 of) ∙ ap (λ (n : ℕ). n + padding n) (length-number_64 of)

written_length : (of stable count : ℕ) → length (outcome_text (Done (written_answer of stable count))) ≡ 24
unfolding outcome_text
written_length of stable count = simp (length-append, length-number_32, verifier_length) (omega arith)

committed_length : (of : ℕ) → length (outcome_text (Done (committed_answer of))) ≡ 16
unfolding outcome_text
committed_length of = simp (length-append, length-number_32, verifier_length) (omega arith)

pub written_room : (request : InProgress) (of stable count : ℕ) (room : Bool)
    → room ≡ nat_le (length (reply_with request (Done (written_answer 0 0 0)))) 16368
    → room ≡ nat_le (length (reply_with request (Done (written_answer of stable count)))) 16368
written_room request of stable count room is =
    same_room request (written_answer 0 0 0) (written_answer of stable count) room
    (omega (arith, written_length 0 0 0, written_length of stable count)) is

pub committed_room : (request : InProgress) (of : ℕ) (room : Bool)
    → room ≡ nat_le (length (reply_with request (Done (committed_answer 0)))) 16368
    → room ≡ nat_le (length (reply_with request (Done (committed_answer of)))) 16368
committed_room request of room is =
    same_room request (committed_answer 0) (committed_answer of) room (omega (arith, committed_length 0, committed_length of)) is

-- Each refusal has a status that is not OK

write_done : (some : Bool) (limits : Limits) (state : State) (now : ℕ) (arguments : WriteArguments)
    → (count : ℕ) × ((write some limits state now arguments).outcome ≡ Done (written_answer state.context.run arguments.stable count))
write_done true limits state now arguments = (_, refl)
write_done false limits state now arguments = (_, refl)

pub write_bad : (limits : Limits) (state : State) (now : ℕ) (arguments : WriteArguments) (reason : Status)
    → does limits state now (Argument.Write arguments) ≡ refused state (Argument.Write arguments) reason → IsRefusal reason
unfolding refusals effect
write_bad limits state now arguments reason is =
    let kind : Argument = Argument.Write arguments in
    let done = write_done (has_bytes arguments) limits state now arguments in
    let verdict = state_refusals state.opens state.context write_access arguments.state in
    let prefix : Refusals = (not (are_bytes arguments.data_bytes), status.BadXdr) ∷ (current_refusals state ++ file_refusals state) in
    let rights : Refusals =
    (without_rights state (need_first state.tree state.context kind), status.Access)
    ∷ (without_rights state (need_then state.tree state.context kind), status.Access)
    ∷ write_refusals limits arguments in
    does_bad limits state now kind reason (written_answer state.context.run arguments.stable done.0)
    (append_bad (prefix ++ verdict) rights
    (append_bad prefix verdict refl (verdict_bad write_access state.opens state.context arguments.state))
    refl)
    done.1 is

pub commit_bad : (limits : Limits) (state : State) (now : ℕ) (arguments : CommitArguments) (reason : Status)
    → does limits state now (Argument.Commit arguments) ≡ refused state (Argument.Commit arguments) reason → IsRefusal reason
unfolding refusals effect
commit_bad limits state now arguments reason is = does_bad limits state now (Argument.Commit arguments) reason _ refl refl is

-- what a COMMIT did not do
pub commit_not_done : (keeps_word : Type 0) (old new : FileSystem) (state : State) (now : ℕ) (arguments : CommitArguments) (why : FsFault)
    → Commits keeps_word old new state now arguments (Err why) → IsNotDone old state now (Argument.Commit arguments) why
commit_not_done keeps_word old new state now arguments (fault.Status reason) is = is
commit_not_done keeps_word old new state now arguments fault.NoRoom is = is
commit_not_done keeps_word old new state now arguments fault.Memory is = tt
commit_not_done keeps_word old new state now arguments fault.Device is = tt
commit_not_done keeps_word old new state now arguments fault.Down is = is

-- some state of the request, beside these opens
abbrev pub beside : FileSystem → InProgress → Opens → State
beside fs request opens = record { tree = fs.volume.tree; changes = fs.changes; opens = opens; context = request.context }

pub is_beside : (fs : FileSystem) (request : InProgress) (opens : Opens) → IsHere fs request (beside fs request opens)
is_beside fs request opens = record { tree_is = refl; changes_is = refl; context_is = refl }

module _ (now : ℕ) (fs : FileSystem) (request : InProgress) (arguments : WriteArguments) where
  pub write_on_tree : (world : World) (rest : List ℕ) → run world (with_rest request rest) now (Argument.Write arguments)
      ≡ stepped world (with_rest request rest) (does world.limits.volume (state_of world (with_rest request rest)) now (Argument.Write arguments))
  unfolding run
  write_on_tree world rest = refl

  pub write_sized : (room : Bool) → room ≡ nat_le (length (reply_with request (Done (written_answer 0 0 0)))) 16368
      → (state : State) → IsHere fs request state → HasThisRoom request room (effect fs.volume.limits state now (Argument.Write arguments))
  unfolding effect
  write_sized room is state there =
      let done = write_done (has_bytes arguments) fs.volume.limits state now arguments in
      (written_answer state.context.run arguments.stable done.0, done.1, written_room request state.context.run arguments.stable done.0 room is)

  pub does_write : (new : FileSystem) (opens : Opens) (count : ℕ) (state : State) → IsHere fs request state → state.opens ≡ opens
      → does_on fs state now (Argument.Write arguments) ≡ after_write new.volume.tree new.changes state arguments count
      → does fs.volume.limits state now (Argument.Write arguments)
      ≡ answered (record { tree = new.volume.tree; changes = new.changes; opens = opens; context = request.context }) (written_answer request.context.run arguments.stable count)
  does_write new opens count state there known is =
      is
      ∙ (ap (λ (held : Opens). answered (record { tree = new.volume.tree; changes = new.changes; opens = held; context = state.context }) (written_answer state.context.run arguments.stable count)) known
      ∙ ap (λ (context : Context). answered (record { tree = new.volume.tree; changes = new.changes; opens = opens; context = context }) (written_answer context.run arguments.stable count)) there.context_is)

  pub write_up : (opens : Opens) (why : FsFault) → fs.volume.is_down ≡ false
      → ((state : State) → IsHere fs request state → state.opens ≡ opens → IsNotDone fs state now (Argument.Write arguments) why) → IsUp why
  write_up opens why up step =
      is_up now fs (beside fs request opens) (Argument.Write arguments) why up (write_bad fs.volume.limits (beside fs request opens) now arguments)
      (step (beside fs request opens) (is_beside fs request opens) refl)

  pub write_makes : (table : Table) (opens : Opens) (number : ℕ) (verdict : Result (Unit {0}) Status) (asked : Writing) → request.context.run ≡ fs.volume.run
      → has_current request.context ≡ true → current_number request.context ≡ number
      → ((state : State) → IsHere fs request state → state.opens ≡ opens → IsWriting state verdict asked arguments)
      → (room : Bool) → room ≡ nat_le (length (reply_with request (Done (written_answer 0 0 0)))) 16368 → room ≡ true
      → (kept : Kept) (lasting : Bool) → OperationGives (shared fs table opens) request now (Argument.Write arguments) kept lasting
      → WritesTree fs request.context.cred number now verdict asked kept lasting
  write_makes table opens number verdict asked in_run has is writing room fits some kept lasting gives =
      let state = state_of gives.world (with_rest request gives.rest) in
      let there = here gives.world fs table opens request gives.rest gives.has in
      let ran = ran_given now fs request (Argument.Write arguments) write_on_tree room (write_sized room fits) table opens gives.world gives.rest some gives.has in
      record {
        state = state;
        arguments = arguments;
        on = is_on fs request number state in_run has is there;
        writing = writing state there gives.has.opens;
        kept = gives.kept ∙ ap (with_tree fs.volume) (tree_given now fs request (Argument.Write arguments) write_on_tree room (write_sized room fits) table opens gives.world gives.rest some gives.has);
        lasting_is = gives.lasting_is ∙ ap (λ (r : HasRun). lasts (entry_by gives.world (with_rest request gives.rest) (Argument.Write arguments) r)) ran;
      }

module _ (now : ℕ) (fs : FileSystem) (request : InProgress) (arguments : CommitArguments) where
  pub commit_on_tree : (world : World) (rest : List ℕ) → run world (with_rest request rest) now (Argument.Commit arguments)
      ≡ stepped world (with_rest request rest) (does world.limits.volume (state_of world (with_rest request rest)) now (Argument.Commit arguments))
  unfolding run
  commit_on_tree world rest = refl

  pub commit_sized : (room : Bool) → room ≡ nat_le (length (reply_with request (Done (committed_answer 0)))) 16368
      → (state : State) → IsHere fs request state → HasThisRoom request room (effect fs.volume.limits state now (Argument.Commit arguments))
  unfolding effect
  commit_sized room is state there = (committed_answer state.context.run, refl, committed_room request state.context.run room is)

  pub does_commit : (new : FileSystem) (opens : Opens) (state : State) → IsHere fs request state → state.opens ≡ opens
      → does_on fs state now (Argument.Commit arguments) ≡ answered (record state { tree = new.volume.tree; changes = new.changes }) (committed_answer state.context.run)
      → does fs.volume.limits state now (Argument.Commit arguments)
      ≡ answered (record { tree = new.volume.tree; changes = new.changes; opens = opens; context = request.context }) (committed_answer request.context.run)
  does_commit new opens state there known is =
      is
      ∙ (ap (λ (held : Opens). answered (record { tree = new.volume.tree; changes = new.changes; opens = held; context = state.context }) (committed_answer state.context.run)) known
      ∙ ap (λ (context : Context). answered (record { tree = new.volume.tree; changes = new.changes; opens = opens; context = context }) (committed_answer context.run)) there.context_is)

  pub commit_up : (opens : Opens) (why : FsFault) → fs.volume.is_down ≡ false
      → ((state : State) → IsHere fs request state → state.opens ≡ opens → IsNotDone fs state now (Argument.Commit arguments) why) → IsUp why
  commit_up opens why up step =
      is_up now fs (beside fs request opens) (Argument.Commit arguments) why up (commit_bad fs.volume.limits (beside fs request opens) now arguments)
      (step (beside fs request opens) (is_beside fs request opens) refl)

  -- it leaves the tree
  kept_tree : (limits : Limits) (state : State) → (does limits state now (Argument.Commit arguments)).state.tree ≡ state.tree
  unfolding does effect
  kept_tree limits state = unless_tree _
    where
      unless_tree : (first : Option Status) → (unless_refused state (Argument.Commit arguments) first (commit state)).state.tree ≡ state.tree
      unless_tree None = refl
      unless_tree (Some reason) = refl

  pub commit_makes : (table : Table) (opens : Opens)
      → (room : Bool) → room ≡ nat_le (length (reply_with request (Done (committed_answer 0)))) 16368 → room ≡ true
      → (kept : Kept) (lasting : Bool) → OperationGives (shared fs table opens) request now (Argument.Commit arguments) kept lasting
      → kept ≡ kept_of fs.volume
  commit_makes table opens room fits some kept lasting gives =
      let there = here gives.world fs table opens request gives.rest gives.has in
      gives.kept ∙ ap (with_tree fs.volume) (tree_given now fs request (Argument.Commit arguments) commit_on_tree room (commit_sized room fits) table opens gives.world gives.rest some gives.has
      ∙ (kept_tree fs.volume.limits (state_of gives.world (with_rest request gives.rest)) ∙ there.tree_is))

-- Without a current filehandle: the bytes of a WRITE are bytes, which the definition tests first

no_file : (world : World) (request : InProgress) (now : ℕ) (arguments : WriteArguments) → are_bytes arguments.data_bytes ≡ true → has_current request.context ≡ false
    → run world request now (Argument.Write arguments) ≡ turns.Gives (Refused 38 status.NoFileHandle) world request
unfolding run does refusals effect
no_file world request now arguments bytes none = rw (bytes, none) refl

pub wants_file : (now : ℕ) (fs : FileSystem) (table : Table) (opens : Opens) (request : InProgress) (arguments : WriteArguments)
    → are_bytes arguments.data_bytes ≡ true → has_current request.context ≡ false
    → RunsTo now (shared fs table opens) (shared fs table opens) request request (Argument.Write arguments) (Refused 38 status.NoFileHandle)
wants_file now fs table opens request arguments bytes none = λ world rest on.
    no_file world (with_rest request rest) now arguments bytes none
    ∙ ap (λ (after : World). turns.Gives (Refused 38 status.NoFileHandle) after (with_rest request rest)) (sym (state_same world (shared fs table opens) on))
