-- REMOVE's tests, one after the other, and what it does.
use Rattle.std.proofs.Common.{ℕ, Bool, true, false, List, [], ◌∷◌, ◌++◌, ◌≡◌, ◌∙◌, not, refl, sym, ap, is_some}
use Rattle.std.specs.Prelude.{Option, Some, None, IsTrue}
use Rattle.model_tree.specs.declared.acl.Cred.{Cred}
use Rattle.model_tree.specs.declared.limits.Limits.{Limits}
use Rattle.model_tree.specs.declared.status.Status.{Status}
use Rattle.model_tree.specs.declared.status.Status.TheVariants as status
use Rattle.model_tree.specs.Trees.Charge.{fits}
use Rattle.model.specs.Operations.Context.{has_current}
use Rattle.model_tree.specs.Trees.Tree.{is_named, number_named, Tree, Node, is_directory, is_directory_node, is_directory_at}
use Rattle.model_tree.specs.Trees.Keyed.{at, is_key}
use Rattle.model_tree.specs.Refusals.Name.{name_refusals}
use Rattle.model.specs.Operations.Operation.{Argument}
use Rattle.model_tree.specs.Refusals.Refusal.{Refusals, first_refusal, refused_or}
use Rattle.model.specs.Operations.Rename.{has_names, remove}
use Rattle.model_tree.specs.Trees.Stamp.{is_stamp_left}
use Rattle.model.specs.Operations.Step.{State, current, late, without_rights, refusals, change_refusals, effect, does, refused, unless_refused, need_first, need_then}
use Rattle.model.proofs.Operations.RefusalLaws.{first-append, or_else}
use Rattle.model_tree.proofs.Facts.BooleanLaws.{and_true}
use Rattle.fs.specs.Removing.{may_remove, removal_refusals}

module _ (limits : Limits) (tree : Tree) (cred : Cred) (number : ℕ) (name : List ℕ) where
  abbrev tests : Refusals
  tests = removal_refusals limits tree cred number name

  abbrev behind : Refusals
  behind = (not (is_named tree number name), status.NoEnt)
      ∷ (not (may_remove tree cred number name), status.Access)
      ∷ (has_names tree (number_named tree number name), status.NotEmpty)
      ∷ []

  pub no_node : at number tree ≡ None → first_refusal tests ≡ Some status.Stale
  no_node none = ap (λ (o : Option Node). refused_or (not (is_some o)) status.Stale
      (refused_or (not (is_directory_at tree number)) status.NotDir (first_refusal (name_refusals limits name ++ behind)))) none

  module _ (node : Node) (there : at number tree ≡ Some node) where
    by_place : (b : Bool) → is_directory node.content ≡ b → first_refusal tests ≡ refused_or (not b) status.NotDir (first_refusal (name_refusals limits name ++ behind))
    by_place b is =
        ap (λ (o : Option Node). refused_or (not (is_some o)) status.Stale
        (refused_or (not (is_directory_node o)) status.NotDir (first_refusal (name_refusals limits name ++ behind)))) there
        ∙ ap (λ (is : Bool). refused_or (not is) status.NotDir (first_refusal (name_refusals limits name ++ behind))) is

    pub no_place : is_directory node.content ≡ false → first_refusal tests ≡ Some status.NotDir
    no_place file = by_place false file

    module _ (directory : is_directory node.content ≡ true) where
      by_name : (o : Option Status) → first_refusal (name_refusals limits name) ≡ o → first_refusal tests ≡ or_else o (first_refusal behind)
      by_name o is = by_place true directory ∙ first-append (name_refusals limits name) behind ∙ ap (λ (p : Option Status). or_else p (first_refusal behind)) is

      pub bad_name : (reason : Status) → first_refusal (name_refusals limits name) ≡ Some reason → first_refusal tests ≡ Some reason
      bad_name reason bad = by_name (Some reason) bad

      module _ (good : first_refusal (name_refusals limits name) ≡ None) where
        by_entry : (b : Bool) → is_named tree number name ≡ b → first_refusal tests ≡ refused_or (not b) status.NoEnt
            (refused_or (not (may_remove tree cred number name)) status.Access (refused_or (has_names tree (number_named tree number name)) status.NotEmpty None))
        by_entry b is = by_name None good ∙ ap (λ (named : Bool). refused_or (not named) status.NoEnt
            (refused_or (not (may_remove tree cred number name)) status.Access (refused_or (has_names tree (number_named tree number name)) status.NotEmpty None))) is

        pub no_entry : is_named tree number name ≡ false → first_refusal tests ≡ Some status.NoEnt
        no_entry none = by_entry false none

        module _ (named : is_named tree number name ≡ true) where
          by_right : (b : Bool) → may_remove tree cred number name ≡ b
              → first_refusal tests ≡ refused_or (not b) status.Access (refused_or (has_names tree (number_named tree number name)) status.NotEmpty None)
          by_right b is = by_entry true named ∙ ap (λ (may : Bool). refused_or (not may) status.Access (refused_or (has_names tree (number_named tree number name)) status.NotEmpty None)) is

          pub denied : may_remove tree cred number name ≡ false → first_refusal tests ≡ Some status.Access
          denied none = by_right false none

          module _ (may : may_remove tree cred number name ≡ true) where
            by_names : (b : Bool) → has_names tree (number_named tree number name) ≡ b → first_refusal tests ≡ refused_or b status.NotEmpty None
            by_names b is = by_right true may ∙ ap (λ (has : Bool). refused_or has status.NotEmpty None) is

            pub not_empty : has_names tree (number_named tree number name) ≡ true → first_refusal tests ≡ Some status.NotEmpty
            not_empty has = by_names true has

            pub may_go : has_names tree (number_named tree number name) ≡ false → first_refusal tests ≡ None
            may_go none = by_names false none

-- In a state

nested : (prefix : Option Status) (test : Bool) (rest : Option Status)
    → or_else (or_else prefix (refused_or test status.NoEnt None)) rest ≡ or_else prefix (refused_or test status.NoEnt rest)
nested None true rest = refl
nested None false rest = refl
nested (Some reason) test rest = refl

module _ (limits : Limits) (state : State) (now : ℕ) (name : List ℕ) (has : IsTrue (has_current state.context)) where
  abbrev own_tests : Refusals
  own_tests = removal_refusals limits state.tree state.context.cred (current state) name

  abbrev names : Refusals
  names = name_refusals limits name

  abbrev missing : Bool
  missing = not (is_named state.tree (current state) name)

  abbrev filled : Bool
  filled = has_names state.tree (number_named state.tree (current state) name)

  -- the tests of rights and those after them, as the definitions have them
  abbrev last : Refusals
  last = (without_rights state (need_first state.tree state.context (Argument.Remove name)), status.Access)
      ∷ (without_rights state (need_then state.tree state.context (Argument.Remove name)), status.Access)
      ∷ late limits state (Argument.Remove name)

  abbrev prefix : Option Status → Option Status
  prefix o = refused_or (not (is_key (current state) state.tree)) status.Stale
      (refused_or (not (is_directory_at state.tree (current state))) status.NotDir o)

  own_first : first_refusal (refusals limits state (Argument.Remove name)) ≡ first_refusal own_tests
  unfolding refusals
  own_first =
      ap (λ (b : Bool). refused_or (not b) status.NoFileHandle (prefix (first_refusal ((names ++ ((missing, status.NoEnt) ∷ [])) ++ last)))) has
      ∙ ap prefix
      (first-append (names ++ ((missing, status.NoEnt) ∷ [])) last
      ∙ ap (λ (o : Option Status). or_else o (first_refusal last)) (first-append names ((missing, status.NoEnt) ∷ []))
      ∙ nested (first_refusal names) missing (first_refusal last)
      ∙ ap (λ (b : Bool). or_else (first_refusal names) (refused_or missing status.NoEnt (refused_or (not b) status.Access (refused_or filled status.NotEmpty None))))
      (and_true (may_remove state.tree state.context.cred (current state) name))
      ∙ sym (first-append names (behind limits state.tree state.context.cred (current state) name)))

  abbrev after : Tree
  after = (remove state now name).state.tree

  does_is : (o : Option Status) → or_else (first_refusal own_tests) (first_refusal (change_refusals limits state (Argument.Remove name) after)) ≡ o
      → does limits state now (Argument.Remove name) ≡ unless_refused state (Argument.Remove name) o (remove state now name)
  unfolding does effect
  does_is o same =
      ap (λ (p : Option Status). unless_refused state (Argument.Remove name) p (remove state now name))
      (first-append (refusals limits state (Argument.Remove name)) (change_refusals limits state (Argument.Remove name) after)
      ∙ (ap (λ (p : Option Status). or_else p (first_refusal (change_refusals limits state (Argument.Remove name) after))) own_first ∙ same))

  pub refused_early : (reason : Status) → first_refusal own_tests ≡ Some reason
      → does limits state now (Argument.Remove name) ≡ refused state (Argument.Remove name) reason
  refused_early reason early = does_is (Some reason) (rw early refl)

  module _ (passed : first_refusal own_tests ≡ None) (room : fits limits after ≡ true) where
    pub no_stamp : is_stamp_left state.changes ≡ false → does limits state now (Argument.Remove name) ≡ refused state (Argument.Remove name) status.ServerFault
    no_stamp none = does_is (Some status.ServerFault) (rw (passed, room, none) refl)

    pub done : is_stamp_left state.changes ≡ true → does limits state now (Argument.Remove name) ≡ remove state now name
    done left = does_is None (rw (passed, room, left) refl)
