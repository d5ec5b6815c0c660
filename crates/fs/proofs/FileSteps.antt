-- READ, WRITE and COMMIT by the definition: their tests, one after the other, and what they do.
use Rattle.std.proofs.Common.{◌≡◌, ℕ, Bool, true, false, [], ◌∷◌, ◌++◌, not, nat_lt, ◌+◌, length, refl, sym, ap, ap₂, ◌∙◌}
use Rattle.std.specs.Prelude.{Option, Some, None, IsTrue, Result, Ok, Err}
use Rattle.model_tree.specs.declared.limits.Limits.{Limits}
use Rattle.model_tree.specs.declared.status.Status.{Status}
use Rattle.model_tree.specs.declared.status.Status.TheVariants as status
use Rattle.model_tree.specs.Rights.Acl.{read_data, write_data}
use Rattle.model_tree.specs.Trees.Charge.{fits}
use Rattle.model.specs.Operations.Context.{has_current}
use Rattle.model.specs.Operations.Files as files
use Rattle.model.specs.Operations.Files.{are_bytes, has_bytes, taken_bytes, write_refusals, read, write, commit}
use Rattle.model_tree.specs.Trees.Keyed.{at, is_key}
use Rattle.model.specs.Operations.Need.{granted_on, here}
use Rattle.model.specs.Operations.Operation.{Argument, StateId, ReadArguments, WriteArguments, CommitArguments}
use Rattle.model_tree.specs.Refusals.Refusal.{Refusals, first_refusal, refused_or}
use Rattle.model_tree.specs.Trees.Stamp.{is_stamp_left}
use Rattle.model.specs.Sessions.StateIds.{state_refusals, read_access, write_access}
use Rattle.model.specs.Operations.Step.{State, Stepped, current, refusals, change_refusals, without_rights, effect, does, refused, unless_refused, current_refusals}
use Rattle.model_tree.specs.Trees.Tree.{is_directory_at}
use Rattle.model.proofs.Operations.RefusalLaws.{first-append, or_else}
use Rattle.model_tree.proofs.Facts.BooleanLaws.{alone}
use Rattle.fs.specs.Files.{IsVerdict, verdict_refusals, file_refusals, permit_refusals}

pub or_none : (o : Option Status) → or_else o None ≡ o
or_none None = refl
or_none (Some reason) = refl

-- the stateid's tests refuse as its verdict says
pub verdict_first : (state : State) (access : ℕ) (stateid : StateId) (verdict : Result (Unit {0}) Status) → IsVerdict state access stateid verdict
    → first_refusal (state_refusals state.opens state.context access stateid) ≡ first_refusal (verdict_refusals verdict)
verdict_first state access stateid (Ok done) is = is
verdict_first state access stateid (Err reason) is = is

regrouped : (a b g : Bool) (s t u : Status) (v behind : Option Status)
    → refused_or a s (refused_or b t (or_else v (refused_or g u behind))) ≡ or_else (refused_or a s (refused_or b t (or_else v (refused_or g u None)))) behind
regrouped true b g s t u v behind = refl
regrouped false true g s t u v behind = refl
regrouped false false g s t u (Some reason) behind = refl
regrouped false false true s t u None behind = refl
regrouped false false false s t u None behind = refl

module _ (limits : Limits) (state : State) (now : ℕ) where
  pub does_by : (operation : Argument) (o : Option Status)
      → or_else (first_refusal (refusals limits state operation)) (first_refusal (change_refusals limits state operation (effect limits state now operation).state.tree)) ≡ o
      → does limits state now operation ≡ unless_refused state operation o (effect limits state now operation)
  unfolding does
  does_by operation o same = ap (λ (p : Option Status). unless_refused state operation p (effect limits state now operation))
      (first-append (refusals limits state operation) (change_refusals limits state operation (effect limits state now operation).state.tree) ∙ same)

  module _ (has : IsTrue (has_current state.context)) where
    -- an operation on a file that asks for a right
    module _ (mask access : ℕ) (stateid : StateId) (verdict : Result (Unit {0}) Status) (is : IsVerdict state access stateid verdict) where
      abbrev tests : Refusals → Refusals
      tests behind = (current_refusals state ++ (files.file_refusals state ++ state_refusals state.opens state.context access stateid))
          ++ ((without_rights state (here state.context mask), status.Access) ∷ behind)

      tests_first : (behind : Refusals) → first_refusal (tests behind)
          ≡ or_else (first_refusal (permit_refusals state.tree state.context.cred (current state) mask verdict)) (first_refusal behind)
      tests_first behind =
          let stale = not (is_key (current state) state.tree) in
          let directory = is_directory_at state.tree (current state) in
          let granted = granted_on (at (current state) state.tree) state.context.cred mask in
          let prefix : Option Status → Option Status = λ o. refused_or stale status.Stale (refused_or directory status.IsDir o) in
          let right = without_rights state (here state.context mask) in
          let stateids = state_refusals state.opens state.context access stateid in
          ap (λ (b : Bool). refused_or (not b) status.NoFileHandle (prefix (first_refusal (stateids ++ ((right, status.Access) ∷ behind))))) has
          ∙ ap prefix (first-append stateids ((right, status.Access) ∷ behind)
          ∙ ap₂ (λ (o : Option Status) (b : Bool). or_else o (refused_or (not b) status.Access (first_refusal behind))) (verdict_first state access stateid verdict is) (alone granted))
          ∙ regrouped stale directory (not granted) status.Stale status.IsDir status.Access (first_refusal (verdict_refusals verdict)) (first_refusal behind)
          ∙ ap (λ (o : Option Status). or_else (prefix o) (first_refusal behind)) (sym (first-append (verdict_refusals verdict) ((not granted, status.Access) ∷ [])))

    -- READ

    module _ (arguments : ReadArguments) (verdict : Result (Unit {0}) Status) (is : IsVerdict state read_access arguments.state verdict) where
      read_first : or_else (first_refusal (refusals limits state (Argument.Read arguments))) (first_refusal (change_refusals limits state (Argument.Read arguments) (effect limits state now (Argument.Read arguments)).state.tree))
          ≡ first_refusal (permit_refusals state.tree state.context.cred (current state) read_data verdict)
      unfolding refusals
      read_first =
          let own = first_refusal (permit_refusals state.tree state.context.cred (current state) read_data verdict) in
          ap (λ (o : Option Status). or_else o None) (tests_first read_data read_access arguments.state verdict is ((without_rights state [], status.Access) ∷ []) ∙ or_none own) ∙ or_none own

      pub read_refused : (reason : Status) → first_refusal (permit_refusals state.tree state.context.cred (current state) read_data verdict) ≡ Some reason
          → does limits state now (Argument.Read arguments) ≡ refused state (Argument.Read arguments) reason
      read_refused reason first = does_by (Argument.Read arguments) (Some reason) (read_first ∙ first)

      pub read_done : first_refusal (permit_refusals state.tree state.context.cred (current state) read_data verdict) ≡ None
          → does limits state now (Argument.Read arguments) ≡ read limits state arguments
      unfolding effect
      read_done passed = does_by (Argument.Read arguments) None (read_first ∙ passed)

    -- COMMIT

    module _ (arguments : CommitArguments) where
      commit_first : or_else (first_refusal (refusals limits state (Argument.Commit arguments))) (first_refusal (change_refusals limits state (Argument.Commit arguments) (effect limits state now (Argument.Commit arguments)).state.tree))
          ≡ first_refusal (file_refusals state.tree (current state))
      unfolding refusals
      commit_first =
          let own = first_refusal (file_refusals state.tree (current state)) in
          ap (λ (b : Bool). or_else (refused_or (not b) status.NoFileHandle own) None) has ∙ or_none own

      pub commit_refused : (reason : Status) → first_refusal (file_refusals state.tree (current state)) ≡ Some reason
          → does limits state now (Argument.Commit arguments) ≡ refused state (Argument.Commit arguments) reason
      commit_refused reason first = does_by (Argument.Commit arguments) (Some reason) (commit_first ∙ first)

      pub commit_done : first_refusal (file_refusals state.tree (current state)) ≡ None → does limits state now (Argument.Commit arguments) ≡ commit state
      unfolding effect
      commit_done passed = does_by (Argument.Commit arguments) None (commit_first ∙ passed)

    -- WRITE

    module _ (arguments : WriteArguments) (verdict : Result (Unit {0}) Status) (is : IsVerdict state write_access arguments.state verdict) (bytes : are_bytes arguments.data_bytes ≡ true) where
      write_first : first_refusal (refusals limits state (Argument.Write arguments))
          ≡ or_else (first_refusal (permit_refusals state.tree state.context.cred (current state) write_data verdict)) (first_refusal (write_refusals limits arguments))
      unfolding refusals
      write_first =
          let behind : Refusals = (without_rights state [], status.Access) ∷ write_refusals limits arguments in
          ap (λ (b : Bool). refused_or (not b) status.BadXdr (first_refusal (tests write_data write_access arguments.state verdict is behind))) bytes
          ∙ tests_first write_data write_access arguments.state verdict is behind

      abbrev behind : Option Status
      behind = first_refusal (change_refusals limits state (Argument.Write arguments) (effect limits state now (Argument.Write arguments)).state.tree)

      write_by : (o : Option Status)
          → or_else (or_else (first_refusal (permit_refusals state.tree state.context.cred (current state) write_data verdict)) (first_refusal (write_refusals limits arguments))) behind ≡ o
          → does limits state now (Argument.Write arguments) ≡ unless_refused state (Argument.Write arguments) o (write (has_bytes arguments) limits state now arguments)
      unfolding effect
      write_by o same = does_by (Argument.Write arguments) o (ap (λ (p : Option Status). or_else p behind) write_first ∙ same)

      pub write_refused : (reason : Status) → first_refusal (permit_refusals state.tree state.context.cred (current state) write_data verdict) ≡ Some reason
          → does limits state now (Argument.Write arguments) ≡ refused state (Argument.Write arguments) reason
      write_refused reason first = write_by (Some reason) (rw first refl)

      module _ (passed : first_refusal (permit_refusals state.tree state.context.cred (current state) write_data verdict) ≡ None) where
        -- no bytes are no change
        pub nothing_written : has_bytes arguments ≡ false → does limits state now (Argument.Write arguments) ≡ write false limits state now arguments
        nothing_written none = write_by None (rw (passed, none) refl) ∙ ap (λ (b : Bool). write b limits state now arguments) none

        module _ (some : has_bytes arguments ≡ true) where
          pub too_big : nat_lt limits.file_bytes (arguments.offset + length (taken_bytes limits arguments)) ≡ true
              → does limits state now (Argument.Write arguments) ≡ refused state (Argument.Write arguments) status.FBig
          too_big high = write_by (Some status.FBig) (rw (passed, some, high) refl)

          module _ (low : nat_lt limits.file_bytes (arguments.offset + length (taken_bytes limits arguments)) ≡ false) where
            abbrev after : Stepped
            after = write true limits state now arguments

            pub no_room : fits limits after.state.tree ≡ false → does limits state now (Argument.Write arguments) ≡ refused state (Argument.Write arguments) status.NoSpc
            unfolding effect
            no_room full = write_by (Some status.NoSpc) (rw (passed, some, low, full) refl)

            module _ (room : fits limits after.state.tree ≡ true) where
              pub no_stamp : is_stamp_left state.changes ≡ false → does limits state now (Argument.Write arguments) ≡ refused state (Argument.Write arguments) status.ServerFault
              unfolding effect
              no_stamp none = write_by (Some status.ServerFault) (rw (passed, some, low, room, none) refl)

              pub done : is_stamp_left state.changes ≡ true → does limits state now (Argument.Write arguments) ≡ after
              unfolding effect
              done left = write_by None (rw (passed, some, low, room, left) refl) ∙ ap (λ (b : Bool). write b limits state now arguments) some
