-- READ and COMMIT in each state of a COMPOUND on a file system.
use Rattle.std.proofs.Common.{◌≡◌, ◌+◌, ℕ, Bool, true, List, Some, None, length, refl, sym, ap, ap₂, ◌⊎◌, ⊎_elim, ◌∙◌}
use Rattle.std.specs.Prelude.{Result, Err, nat_le, take, drop, min}
use Rattle.model_tree.specs.declared.acl.Cred.{Cred}
use Rattle.model_tree.specs.declared.status.Status.{Status}
use Rattle.model_tree.specs.Rights.Acl.{read_data}
use Rattle.model.specs.Operations.Answer.{Answer}
use Rattle.model.specs.Operations.Files.{write_verifier}
use Rattle.model_tree.specs.Trees.Tree.{bytes_at, Tree}
use Rattle.model.specs.Operations.Operation.{Argument, StateId, CommitArguments}
use Rattle.model_tree.specs.Refusals.Refusal.{first_refusal}
use Rattle.model.specs.Server.Runs.{is_done}
use Rattle.model.specs.Sessions.StateIds.{read_access}
use Rattle.model.specs.Operations.Step.{State, Stepped, current, answered, refused}
use Rattle.fs.specs.FileSystem.{FileSystem}
use Rattle.fs.specs.Files.{IsVerdict, file_refusals, permit_refusals}
use Rattle.fs.specs.Operations.{IsOn, does_on}
use Rattle.fs.specs.Reading.{ReadsFile, part_at, read_operation}
use Rattle.fs.specs.Refusals.{volume_fault}
use Rattle.fs.specs.Writing.{Commits}
use Rattle.fs.proofs.FileSteps as steps
use Rattle.volume.specs.declared.fault.VolumeFault.{VolumeFault}
use Rattle.volume.specs.declared.fault.VolumeFault.TheVariants as volumes

module _ (fs : FileSystem) (cred : Cred) (number : ℕ) (state : State) (now : ℕ) (on : IsOn fs cred number state) where
  module _ (verdict : Result (Unit {0}) Status) (stateid : StateId) (is : IsVerdict state read_access stateid verdict) (offset count : ℕ) where
    first_same : first_refusal (permit_refusals state.tree state.context.cred (current state) read_data verdict) ≡ first_refusal (permit_refusals fs.volume.tree cred number read_data verdict)
    first_same = rw (on.is_state.tree_is, on.is_state.cred_is, on.is_state.current_is) refl

    pub read_early : (reason : Status) → first_refusal (permit_refusals fs.volume.tree cred number read_data verdict) ≡ Some reason
        → does_on fs state now (read_operation stateid offset count) ≡ refused state (read_operation stateid offset count) reason
    read_early reason first = steps.read_refused fs.volume.limits state now on.is_state.has_current (record { state = stateid; offset = offset; count = count }) verdict is reason (first_same ∙ first)

    module _ (passed : first_refusal (permit_refusals fs.volume.tree cred number read_data verdict) ≡ None) where
      abbrev answer_of : List ℕ → Stepped
      answer_of bytes =
          let part = take (min count fs.volume.limits.transfer_bytes) (drop offset bytes) in
          answered state (Answer.Read (record { is_end = nat_le (length bytes) (offset + length part); data_bytes = part }))

      pub read_goes : (is_end : Bool) → is_end ≡ nat_le (length (bytes_at fs.volume.tree number)) (offset + length (part_at fs number offset count))
          → does_on fs state now (read_operation stateid offset count) ≡ answered state (Answer.Read (record { is_end = is_end; data_bytes = part_at fs number offset count }))
      read_goes is_end end_is =
          steps.read_done fs.volume.limits state now on.is_state.has_current (record { state = stateid; offset = offset; count = count }) verdict is (first_same ∙ passed)
          ∙ ap₂ (λ (t : Tree) (n : ℕ). answer_of (bytes_at t n)) on.is_state.tree_is on.is_state.current_is
          ∙ ap (λ (b : Bool). answered state (Answer.Read (record { is_end = b; data_bytes = part_at fs number offset count }))) (sym end_is)

      pub read_goes_on : is_done (does_on fs state now (read_operation stateid offset count)).outcome ≡ true
      read_goes_on = ap (λ (s : Stepped). is_done s.outcome) (read_goes _ refl)

  module _ (arguments : CommitArguments) where
    same_file : first_refusal (file_refusals state.tree (current state)) ≡ first_refusal (file_refusals fs.volume.tree number)
    same_file = rw (on.is_state.tree_is, on.is_state.current_is) refl

    pub commit_early : (reason : Status) → first_refusal (file_refusals fs.volume.tree number) ≡ Some reason
        → does_on fs state now (Argument.Commit arguments) ≡ refused state (Argument.Commit arguments) reason
    commit_early reason first = steps.commit_refused fs.volume.limits state now on.is_state.has_current arguments reason (same_file ∙ first)

    module _ (passed : first_refusal (file_refusals fs.volume.tree number) ≡ None) where
      pub commit_goes : does_on fs state now (Argument.Commit arguments) ≡ answered state (Answer.Commit (write_verifier state))
      commit_goes = steps.commit_done fs.volume.limits state now on.is_state.has_current arguments (same_file ∙ passed)

      pub commit_goes_on : is_done (does_on fs state now (Argument.Commit arguments)).outcome ≡ true
      commit_goes_on = ap (λ (s : Stepped). is_done s.outcome) commit_goes

      -- with the tree and the count that it leaves
      pub committed : (tree : Tree) (changes : ℕ) → tree ≡ fs.volume.tree → changes ≡ fs.changes
          → does_on fs state now (Argument.Commit arguments) ≡ answered (record state { tree = tree; changes = changes }) (Answer.Commit (write_verifier state))
      committed tree changes tree_is changes_is = commit_goes
          ∙ ap₂ (λ (t : Tree) (n : ℕ). answered (record state { tree = t; changes = n }) (Answer.Commit (write_verifier state)))
          (on.is_state.tree_is ∙ sym tree_is) (on.changes ∙ sym changes_is)

-- A volume that fails

pub read_fails : (fs : FileSystem) (state : State) (now : ℕ) (operation : Argument) (given : List ℕ) (reason : VolumeFault)
    → (reason ≡ volumes.Device) ⊎ ((reason ≡ volumes.Memory) ⊎ (reason ≡ volumes.Down)) → (reason ≡ volumes.Down → fs.volume.is_down ≡ true)
    → is_done (does_on fs state now operation).outcome ≡ true → ReadsFile fs state now operation given (Err (volume_fault reason))
read_fails fs state now operation given volumes.NoSpace is down goes = absurd (⊎_elim (λ (e : volumes.NoSpace ≡ volumes.Device). cc)
    (λ (rest : (volumes.NoSpace ≡ volumes.Memory) ⊎ (volumes.NoSpace ≡ volumes.Down)). ⊎_elim (λ (e : volumes.NoSpace ≡ volumes.Memory). cc) (λ (e : volumes.NoSpace ≡ volumes.Down). cc) rest) is)
read_fails fs state now operation given volumes.Memory is down goes = goes
read_fails fs state now operation given volumes.Device is down goes = goes
read_fails fs state now operation given volumes.Down is down goes = down refl

pub commit_fails : (keeps_word : Type 0) (old new : FileSystem) (state : State) (now : ℕ) (arguments : CommitArguments) (reason : VolumeFault)
    → (reason ≡ volumes.Device) ⊎ (reason ≡ volumes.Down) → (reason ≡ volumes.Down → old.volume.is_down ≡ true)
    → is_done (does_on old state now (Argument.Commit arguments)).outcome ≡ true → Commits keeps_word old new state now arguments (Err (volume_fault reason))
commit_fails keeps_word old new state now arguments volumes.NoSpace is down goes = absurd (⊎_elim (λ (e : volumes.NoSpace ≡ volumes.Device). cc) (λ (e : volumes.NoSpace ≡ volumes.Down). cc) is)
commit_fails keeps_word old new state now arguments volumes.Memory is down goes = absurd (⊎_elim (λ (e : volumes.Memory ≡ volumes.Device). cc) (λ (e : volumes.Memory ≡ volumes.Down). cc) is)
commit_fails keeps_word old new state now arguments volumes.Device is down goes = goes
commit_fails keeps_word old new state now arguments volumes.Down is down goes = down refl
