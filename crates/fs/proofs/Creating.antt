-- CREATE's tests, one after the other, and what it does.
use Rattle.std.proofs.Common.{ℕ, Bool, true, false, List, [], ◌∷◌, ◌++◌, ◌≡◌, ◌∙◌, not, refl, sym, ap, is_some}
use Rattle.std.specs.Prelude.{Option, Some, None, IsTrue}
use Rattle.model_tree.specs.declared.acl.Cred.{Cred}
use Rattle.model_tree.specs.declared.limits.Limits.{Limits}
use Rattle.model_tree.specs.declared.node.NodeKind.TheVariants as kind
use Rattle.model_tree.specs.declared.status.Status.{Status}
use Rattle.model_tree.specs.declared.status.Status.TheVariants as status
use Rattle.model_tree.specs.Rights.Acl.{append_data}
use Rattle.model.specs.Attributes.Attribute.{attribute_refusals, settable_at_creation}
use Rattle.model_tree.specs.Trees.Charge.{fits}
use Rattle.model.specs.Operations.Context.{has_current}
use Rattle.model_tree.specs.Trees.Keyed.{at, is_key}
use Rattle.model_tree.specs.Refusals.Name.{name_refusals}
use Rattle.model.specs.Operations.Need.{granted_on}
use Rattle.model.specs.Operations.Operation.{Argument, Attributes, NewDirectory}
use Rattle.model_tree.specs.Refusals.Refusal.{Refusals, first_refusal, refused_or}
use Rattle.model_tree.specs.Trees.Stamp.{is_stamp_left}
use Rattle.model.specs.Operations.Step.{State, current, late, without_rights, refusals, change_refusals, effect, does, refused, made, create, unless_refused, need_first, need_then}
use Rattle.model_tree.specs.Trees.Tree.{Tree, Node, is_directory, is_directory_at, names_of, names_at, entry_of}
use Rattle.model.proofs.Operations.RefusalLaws.{first-append, or_else}
use Rattle.model_tree.proofs.Facts.BooleanLaws.{alone}
use Rattle.fs.specs.OnTree.{IsState, new_directory_refusals}

module _ (limits : Limits) (tree : Tree) (cred : Cred) (number : ℕ) (name : List ℕ) (given : Attributes) (node : Node)
    (there : at number tree ≡ Some node) (directory : is_directory node.content ≡ true) where
  abbrev tests : Refusals
  tests = new_directory_refusals limits tree cred number name given

  tests_are : first_refusal tests
      ≡ or_else (or_else (first_refusal (name_refusals limits name)) (first_refusal (attribute_refusals limits kind.Directory settable_at_creation given)))
      (refused_or (not (granted_on (Some node) cred append_data)) status.Access
      (refused_or (is_some (entry_of name (names_of node.content))) status.Exist None))
  tests_are =
      let late : Refusals = (not (granted_on (Some node) cred append_data), status.Access)
      ∷ (is_some (entry_of name (names_of node.content)), status.Exist) ∷ [] in
      rw (there, directory)
      (first-append (name_refusals limits name ++ attribute_refusals limits kind.Directory settable_at_creation given) late
      ∙ ap (λ (o : Option Status). or_else o (first_refusal late))
      (first-append (name_refusals limits name) (attribute_refusals limits kind.Directory settable_at_creation given)))

  pub bad_name : (reason : Status) → first_refusal (name_refusals limits name) ≡ Some reason → first_refusal tests ≡ Some reason
  bad_name reason bad = tests_are ∙ rw bad refl

  module _ (good : first_refusal (name_refusals limits name) ≡ None) where
    pub bad_attributes : (reason : Status) → first_refusal (attribute_refusals limits kind.Directory settable_at_creation given) ≡ Some reason
        → first_refusal tests ≡ Some reason
    bad_attributes reason bad = tests_are ∙ rw (good, bad) refl

    module _ (set : first_refusal (attribute_refusals limits kind.Directory settable_at_creation given) ≡ None) where
      pub denied : granted_on (Some node) cred append_data ≡ false → first_refusal tests ≡ Some status.Access
      denied refused = tests_are ∙ rw (good, set, refused) refl

      pub stands_already : granted_on (Some node) cred append_data ≡ true → is_some (entry_of name (names_of node.content)) ≡ true
          → first_refusal tests ≡ Some status.Exist
      stands_already allowed taken = tests_are ∙ rw (good, set, allowed, taken) refl

      pub may_be_made : granted_on (Some node) cred append_data ≡ true → is_some (entry_of name (names_of node.content)) ≡ false
          → first_refusal tests ≡ None
      may_be_made allowed free = tests_are ∙ rw (good, set, allowed, free) refl

-- In a state

abbrev create_of : (name : List ℕ) → Attributes → Argument
create_of name given = Argument.Create (NewDirectory name given)

module _ (limits : Limits) (state : State) (now : ℕ) (name : List ℕ) (given : Attributes) (has : IsTrue (has_current state.context)) where
  abbrev own_tests : Refusals
  own_tests = new_directory_refusals limits state.tree state.context.cred (current state) name given

  abbrev arguments : Refusals
  arguments = name_refusals limits name ++ attribute_refusals limits kind.Directory settable_at_creation given

  -- the tests of rights and those after them, as the definitions have them, and these
  abbrev behind : Refusals
  behind = (without_rights state (need_first state.tree state.context (create_of name given)), status.Access)
      ∷ (without_rights state (need_then state.tree state.context (create_of name given)), status.Access)
      ∷ late limits state (create_of name given)

  abbrev own_behind : Refusals
  own_behind = (not (granted_on (at (current state) state.tree) state.context.cred append_data), status.Access)
      ∷ (is_some (entry_of name (names_at state.tree (current state))), status.Exist) ∷ []

  behind_is : first_refusal behind ≡ first_refusal own_behind
  behind_is = ap (λ (b : Bool). refused_or (not b) status.Access
      (refused_or (is_some (entry_of name (names_at state.tree (current state)))) status.Exist None))
      (alone (granted_on (at (current state) state.tree) state.context.cred append_data))

  own_first : first_refusal (refusals limits state (create_of name given)) ≡ first_refusal own_tests
  unfolding refusals
  own_first =
      let prefix : Option Status → Option Status = λ o. refused_or (not (is_key (current state) state.tree)) status.Stale
      (refused_or (not (is_directory_at state.tree (current state))) status.NotDir o) in
      ap (λ (b : Bool). refused_or (not b) status.NoFileHandle (prefix (first_refusal (arguments ++ behind)))) has
      ∙ ap prefix (first-append arguments behind
      ∙ (ap (or_else (first_refusal arguments)) behind_is ∙ sym (first-append arguments own_behind)))

  does_is : (o : Option Status)
      → or_else (first_refusal own_tests) (first_refusal (change_refusals limits state (create_of name given) (made state now name given).tree)) ≡ o
      → does limits state now (create_of name given) ≡ unless_refused state (create_of name given) o (create state now (NewDirectory name given))
  unfolding does effect
  does_is o same =
      let after = (made state now name given).tree in
      ap (λ (p : Option Status). unless_refused state (create_of name given) p (create state now (NewDirectory name given)))
      (first-append (refusals limits state (create_of name given)) (change_refusals limits state (create_of name given) after)
      ∙ (ap (λ (p : Option Status). or_else p (first_refusal (change_refusals limits state (create_of name given) after))) own_first ∙ same))

  pub refused_early : (reason : Status) → first_refusal own_tests ≡ Some reason → does limits state now (create_of name given) ≡ refused state (create_of name given) reason
  refused_early reason early = does_is (Some reason) (rw early refl)

  module _ (passed : first_refusal own_tests ≡ None) where
    pub no_room : fits limits (made state now name given).tree ≡ false → does limits state now (create_of name given) ≡ refused state (create_of name given) status.NoSpc
    no_room full = does_is (Some status.NoSpc) (rw (passed, full) refl)

    module _ (room : fits limits (made state now name given).tree ≡ true) where
      pub no_stamp : is_stamp_left state.changes ≡ false → does limits state now (create_of name given) ≡ refused state (create_of name given) status.ServerFault
      no_stamp none = does_is (Some status.ServerFault) (rw (passed, room, none) refl)

      pub done : is_stamp_left state.changes ≡ true → does limits state now (create_of name given) ≡ create state now (NewDirectory name given)
      done left = does_is None (rw (passed, room, left) refl)

-- In each state of these parameters

module _ (limits : Limits) (tree : Tree) (cred : Cred) (number : ℕ) (name : List ℕ) (given : Attributes) (run changes now : ℕ)
    (state : State) (is : IsState tree cred number state) (run_is : state.context.run ≡ run) (changes_is : state.changes ≡ changes) where
  tests_same : first_refusal (new_directory_refusals limits state.tree state.context.cred (current state) name given)
      ≡ first_refusal (new_directory_refusals limits tree cred number name given)
  tests_same = rw (is.tree_is, is.cred_is, is.current_is) refl

  pub early_refusal : (reason : Status) → first_refusal (new_directory_refusals limits tree cred number name given) ≡ Some reason
      → does limits state now (create_of name given) ≡ refused state (create_of name given) reason
  early_refusal reason early = refused_early limits state now name given is.has_current reason (tests_same ∙ early)
