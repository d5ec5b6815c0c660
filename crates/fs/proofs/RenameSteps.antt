-- RENAME's tests, one after the other, and what it does.
use Rattle.std.proofs.Common.{ℕ, Bool, true, false, [], ◌∷◌, ◌++◌, ◌≡◌, ◌&&◌, ◌∙◌, not, refl, ap}
use Rattle.std.specs.Prelude.{Option, Some, None, Result, Ok, Err, IfOk, IsTrue, MatchOption, if◌then◌else◌}
use Rattle.std.specs.Global.{Vec}
use Rattle.tree_edits.specs.declared.edit.Edit.{Edit}
use Rattle.model.specs.declared.not_done.NotDone.{NotDone}
use Rattle.model_tree.specs.declared.limits.Limits.{Limits}
use Rattle.model_tree.specs.declared.status.Status.{Status}
use Rattle.model_tree.specs.declared.status.Status.TheVariants as status
use Rattle.model_tree.specs.Trees.Charge.{fits}
use Rattle.model.specs.Operations.Context.{has_current, has_saved, is_same_name}
use Rattle.model_tree.specs.Trees.Tree.{is_named, Tree, is_directory_at}
use Rattle.model_tree.specs.Trees.Keyed.{is_key}
use Rattle.model_tree.specs.Refusals.Name.{name_refusals}
use Rattle.model.specs.Operations.Operation.{Argument, RenameArguments}
use Rattle.model_tree.specs.Refusals.Refusal.{Refusals, first_refusal, refused_or}
use Rattle.model.specs.Operations.Rename.{late_at_rename, rename, rename_rights}
use Rattle.model_tree.specs.Trees.Stamp.{is_stamp_left}
use Rattle.model.specs.Operations.Step.{State, current, saved, late, without_rights, refusals, effect, does, refused, unless_refused, need_first, need_then}
use Rattle.model.proofs.Operations.RefusalLaws.{first-append, or_else}
use Rattle.fs.specs.declared.renaming.Planned.{Planned}
use Rattle.fs.specs.RenameTests.{directory_refusals, moving_refusals, placing_refusals}

or_behind : (test : Bool) (reason : Status) (prefix rest : Option Status) → refused_or test reason (or_else prefix rest) ≡ or_else (refused_or test reason prefix) rest
or_behind true reason prefix rest = refl
or_behind false reason prefix rest = refl

-- Both directories and the old name

module _ (limits : Limits) (tree : Tree) (from to : ℕ) (arguments : RenameArguments) where
  abbrev old_tests : Refusals
  old_tests = name_refusals limits arguments.old_name

  abbrev new_tests : Refusals
  new_tests = name_refusals limits arguments.new_name

  abbrev entry_tests : Refusals
  entry_tests = (not (is_named tree from arguments.old_name), status.NoEnt) ∷ []

  abbrev tests : Refusals
  tests = moving_refusals limits tree from to arguments

  by_directories : (o : Option Status) → first_refusal (directory_refusals tree from to) ≡ o → first_refusal tests ≡ or_else o (first_refusal (old_tests ++ (new_tests ++ entry_tests)))
  by_directories o is = first-append (directory_refusals tree from to) (old_tests ++ (new_tests ++ entry_tests))
      ∙ ap (λ (p : Option Status). or_else p (first_refusal (old_tests ++ (new_tests ++ entry_tests)))) is

  pub bad_directories : (reason : Status) → first_refusal (directory_refusals tree from to) ≡ Some reason → first_refusal tests ≡ Some reason
  bad_directories reason bad = by_directories (Some reason) bad

  module _ (both : first_refusal (directory_refusals tree from to) ≡ None) where
    by_old : (o : Option Status) → first_refusal old_tests ≡ o → first_refusal tests ≡ or_else o (first_refusal (new_tests ++ entry_tests))
    by_old o is = by_directories None both ∙ first-append old_tests (new_tests ++ entry_tests) ∙ ap (λ (p : Option Status). or_else p (first_refusal (new_tests ++ entry_tests))) is

    pub bad_old : (reason : Status) → first_refusal old_tests ≡ Some reason → first_refusal tests ≡ Some reason
    bad_old reason bad = by_old (Some reason) bad

    module _ (old_good : first_refusal old_tests ≡ None) where
      by_new : (o : Option Status) → first_refusal new_tests ≡ o → first_refusal tests ≡ or_else o (first_refusal entry_tests)
      by_new o is = by_old None old_good ∙ first-append new_tests entry_tests ∙ ap (λ (p : Option Status). or_else p (first_refusal entry_tests)) is

      pub bad_new : (reason : Status) → first_refusal new_tests ≡ Some reason → first_refusal tests ≡ Some reason
      bad_new reason bad = by_new (Some reason) bad

      module _ (new_good : first_refusal new_tests ≡ None) where
        pub by_entry : (b : Bool) → is_named tree from arguments.old_name ≡ b → first_refusal tests ≡ refused_or (not b) status.NoEnt None
        by_entry b is = by_new None new_good ∙ ap (λ (named : Bool). refused_or (not named) status.NoEnt None) is

-- In a state

module _ (limits : Limits) (state : State) (now : ℕ) (arguments : RenameArguments) (has : IsTrue (has_current state.context)) (saves : IsTrue (has_saved state.context)) where
  abbrev moving : Refusals
  moving = moving_refusals limits state.tree (saved state) (current state) arguments

  abbrev placing : Refusals
  placing = placing_refusals state.tree state.context.cred (saved state) (current state) arguments

  abbrev names : Refusals
  names = name_refusals limits arguments.old_name ++ (name_refusals limits arguments.new_name
      ++ ((not (is_named state.tree (saved state) arguments.old_name), status.NoEnt) ∷ []))

  -- the tests of rights and those after them, as the definitions have them
  abbrev last : Refusals
  last = (without_rights state (need_first state.tree state.context (Argument.Rename arguments)), status.Access)
      ∷ (without_rights state (need_then state.tree state.context (Argument.Rename arguments)), status.Access)
      ∷ late limits state (Argument.Rename arguments)

  abbrev prefix : Option Status → Option Status
  prefix o = refused_or (not (is_key (saved state) state.tree)) status.Stale
      (refused_or (not (is_directory_at state.tree (saved state))) status.NotDir
      (refused_or (not (is_directory_at state.tree (current state))) status.NotDir o))

  prefix_behind : (o rest : Option Status) → prefix (or_else o rest) ≡ or_else (prefix o) rest
  prefix_behind o rest =
      ap (λ (p : Option Status). refused_or (not (is_key (saved state) state.tree)) status.Stale (refused_or (not (is_directory_at state.tree (saved state))) status.NotDir p))
      (or_behind (not (is_directory_at state.tree (current state))) status.NotDir o rest)
      ∙ ap (λ (p : Option Status). refused_or (not (is_key (saved state) state.tree)) status.Stale p)
      (or_behind (not (is_directory_at state.tree (saved state))) status.NotDir (refused_or (not (is_directory_at state.tree (current state))) status.NotDir o) rest)
      ∙ or_behind (not (is_key (saved state) state.tree)) status.Stale
      (refused_or (not (is_directory_at state.tree (saved state))) status.NotDir (refused_or (not (is_directory_at state.tree (current state))) status.NotDir o)) rest

  all_first : first_refusal (refusals limits state (Argument.Rename arguments)) ≡ or_else (first_refusal moving) (first_refusal last)
  unfolding refusals
  all_first =
      let stale = not (is_key (current state) state.tree) in
      ap (λ (b : Bool). refused_or (not b) status.NoFileHandle (refused_or stale status.Stale
      (refused_or (not (has_saved state.context)) status.NoFileHandle (prefix (first_refusal (names ++ last)))))) has
      ∙ ap (λ (b : Bool). refused_or stale status.Stale (refused_or (not b) status.NoFileHandle (prefix (first_refusal (names ++ last))))) saves
      ∙ ap (λ (o : Option Status). refused_or stale status.Stale (prefix o)) (first-append names last)
      ∙ ap (refused_or stale status.Stale) (prefix_behind (first_refusal names) (first_refusal last))
      ∙ or_behind stale status.Stale (prefix (first_refusal names)) (first_refusal last)

  -- after them comes nothing if a name is renamed to itself
  abbrev behind : Bool → Option Status
  behind true = None
  behind false = first_refusal placing

  last_is : (same : Bool) → is_same_name state.context arguments ≡ same → first_refusal last ≡ behind same
  last_is true is = ap (λ (s : Bool). first_refusal (
      (without_rights state (if s then [] else rename_rights state.tree (saved state) (current state) arguments), status.Access)
      ∷ (without_rights state [], status.Access)
      ∷ (if s then [] else late_at_rename state arguments))) is
  last_is false is = ap (λ (s : Bool). first_refusal (
      (without_rights state (if s then [] else rename_rights state.tree (saved state) (current state) arguments), status.Access)
      ∷ (without_rights state [], status.Access)
      ∷ (if s then [] else late_at_rename state arguments))) is

  abbrev stepped : Bool → Tree
  stepped same = (rename same state now arguments).state.tree

  abbrev changes : Bool → Refusals
  changes same = (not same && not (fits limits (stepped same)), status.NoSpc) ∷ (not same && not (is_stamp_left state.changes), status.ServerFault) ∷ []

  does_is : (same : Bool) → is_same_name state.context arguments ≡ same → (o : Option Status) → or_else (or_else (first_refusal moving) (behind same)) (first_refusal (changes same)) ≡ o
      → does limits state now (Argument.Rename arguments) ≡ unless_refused state (Argument.Rename arguments) o (rename same state now arguments)
  unfolding does effect
  does_is same is o told =
      ap (λ (p : Option Status). unless_refused state (Argument.Rename arguments) p (rename (is_same_name state.context arguments) state now arguments))
      (first-append (refusals limits state (Argument.Rename arguments)) (changes (is_same_name state.context arguments))
      ∙ ap (λ (p : Option Status). or_else p (first_refusal (changes (is_same_name state.context arguments))))
      (all_first ∙ ap (or_else (first_refusal moving)) (last_is same is)))
      ∙ ap (λ (s : Bool). unless_refused state (Argument.Rename arguments) (or_else (or_else (first_refusal moving) (behind same)) (first_refusal (changes s))) (rename s state now arguments)) is
      ∙ ap (λ (p : Option Status). unless_refused state (Argument.Rename arguments) p (rename same state now arguments)) told

  early_by : (same : Bool) → is_same_name state.context arguments ≡ same → (reason : Status) → first_refusal moving ≡ Some reason
      → does limits state now (Argument.Rename arguments) ≡ refused state (Argument.Rename arguments) reason
  early_by same is reason early = does_is same is (Some reason) (rw early refl)

  pub refused_early : (reason : Status) → first_refusal moving ≡ Some reason → does limits state now (Argument.Rename arguments) ≡ refused state (Argument.Rename arguments) reason
  refused_early reason early = early_by (is_same_name state.context arguments) refl reason early

  module _ (moved : first_refusal moving ≡ None) where
    pub itself : is_same_name state.context arguments ≡ true → does limits state now (Argument.Rename arguments) ≡ rename true state now arguments
    itself same = does_is true same None (rw moved refl)

    module _ (other : is_same_name state.context arguments ≡ false) where
      pub refused_late : (reason : Status) → first_refusal placing ≡ Some reason → does limits state now (Argument.Rename arguments) ≡ refused state (Argument.Rename arguments) reason
      refused_late reason late = does_is false other (Some reason) (rw (moved, late) refl)

      module _ (placed : first_refusal placing ≡ None) where
        pub no_room : fits limits (rename false state now arguments).state.tree ≡ false
            → does limits state now (Argument.Rename arguments) ≡ refused state (Argument.Rename arguments) status.NoSpc
        no_room full = does_is false other (Some status.NoSpc) (rw (moved, placed, full) refl)

        module _ (room : fits limits (rename false state now arguments).state.tree ≡ true) where
          pub no_stamp : is_stamp_left state.changes ≡ false → does limits state now (Argument.Rename arguments) ≡ refused state (Argument.Rename arguments) status.ServerFault
          no_stamp none = does_is false other (Some status.ServerFault) (rw (moved, placed, room, none) refl)

          pub done : is_stamp_left state.changes ≡ true → does limits state now (Argument.Rename arguments) ≡ rename false state now arguments
          done left = does_is false other None (rw (moved, placed, room, left) refl)

-- what holds of a plan with edits holds of one that may have none
module _ (P : Planned → Type 0) (Q : Planned → Vec Edit → Type 0) where
  either_edits : (planned : Planned) (edits : Option (Vec Edit)) → MatchOption edits ⊥ (Q planned) → MatchOption edits (P planned) (Q planned)
  either_edits planned None some = absurd some
  either_edits planned (Some edits) some = some

  pub either_planned : (result : Result Planned NotDone) → IfOk result (λ planned. MatchOption planned.edits ⊥ (Q planned)) → IfOk result (λ planned. MatchOption planned.edits (P planned) (Q planned))
  either_planned (Ok planned) some = either_edits planned planned.edits some
  either_planned (Err refused) some = tt
