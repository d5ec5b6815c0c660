-- LOOKUP's tests, one after the other.
use Rattle.std.proofs.Common.{ℕ, true, false, List, [], ◌∷◌, ◌++◌, ◌≡◌, not, refl, ap, ◌∙◌, is_some}
use Rattle.std.specs.Prelude.{Option, Some, None}
use Rattle.model_tree.specs.declared.acl.Cred.{Cred}
use Rattle.model_tree.specs.declared.status.Status.{Status}
use Rattle.model_tree.specs.declared.status.Status.TheVariants as status
use Rattle.model_tree.specs.Rights.Acl.{execute}
use Rattle.model.specs.Operations.Answer.{Answer}
use Rattle.model.specs.Operations.Context.{has_current}
use Rattle.model_tree.specs.Trees.Tree.{number_of_entry, Tree, Node, DirEntry, is_directory_at, is_directory_node, is_directory, names_of, names_of_node, entry_of}
use Rattle.model_tree.specs.Trees.Keyed.{at, is_key}
use Rattle.model_tree.specs.declared.limits.Limits.{Limits}
use Rattle.model_tree.specs.Refusals.Name.{name_refusals}
use Rattle.model.specs.Operations.Need.{granted_on}
use Rattle.model.specs.Operations.Operation.{Argument}
use Rattle.model_tree.specs.Refusals.Refusal.{Refusals, first_refusal, refused_or}
use Rattle.model.specs.Operations.Step.{State, current, is_name_there, refusals, change_refusals, effect, does, refused, answered, moved_to, unless_refused, permitted}
use Rattle.model.proofs.Operations.RefusalLaws.{first-append, or_else}
use Rattle.model_tree.proofs.Facts.BooleanLaws.{alone}
use Rattle.fs.specs.OnTree.{IsState}

-- LOOKUP's tests
lookup_refusal : (limits : Limits) (state : State) (name : List ℕ) (after : Tree)
    → first_refusal (refusals limits state (Argument.Lookup name) ++ change_refusals limits state (Argument.Lookup name) after)
    ≡ refused_or (not (has_current state.context)) status.NoFileHandle
    (refused_or (not (is_key (current state) state.tree)) status.Stale
    (refused_or (not (is_directory_at state.tree (current state))) status.NotDir
    (or_else (or_else (first_refusal (name_refusals limits name))
    (refused_or (not (permitted state.tree state.context (Argument.Lookup name))) status.Access
    (refused_or (not (is_name_there state name)) status.NoEnt None)))
    None)))
unfolding refusals permitted name_refusals
lookup_refusal limits state name after =
    let late : Refusals = (not (permitted state.tree state.context (Argument.Lookup name)), status.Access)
    ∷ (not (is_name_there state name), status.NoEnt) ∷ [] in
    ap (λ (o : Option Status). refused_or (not (has_current state.context)) status.NoFileHandle
    (refused_or (not (is_key (current state) state.tree)) status.Stale
    (refused_or (not (is_directory_at state.tree (current state))) status.NotDir o)))
    (first-append (name_refusals limits name ++ late) (change_refusals limits state (Argument.Lookup name) after)
    ∙ ap (λ (o : Option Status). or_else o None) (first-append (name_refusals limits name) late))

does_is : (limits : Limits) (state : State) (now : ℕ) (name : List ℕ) (o : Option Status)
    → first_refusal (refusals limits state (Argument.Lookup name)
    ++ change_refusals limits state (Argument.Lookup name) (effect limits state now (Argument.Lookup name)).state.tree) ≡ o
    → does limits state now (Argument.Lookup name)
    ≡ unless_refused state (Argument.Lookup name) o (effect limits state now (Argument.Lookup name))
unfolding does
does_is limits state now name o same =
    ap (λ (p : Option Status). unless_refused state (Argument.Lookup name) p (effect limits state now (Argument.Lookup name))) same

permitted_is : (state : State) (name : List ℕ)
    → permitted state.tree state.context (Argument.Lookup name) ≡ granted_on (at (current state) state.tree) state.context.cred execute
unfolding permitted
permitted_is state name = alone (granted_on (at (current state) state.tree) state.context.cred execute)

module _ (limits : Limits) (tree : Tree) (cred : Cred) (number : ℕ) (name : List ℕ) (state : State) (now : ℕ)
    (is : IsState tree cred number state) where
  node_is : at (current state) state.tree ≡ at number tree
  node_is = ap (λ n. at n state.tree) is.current_is ∙ ap (at number) is.tree_is

  -- the tests, by the node that is there
  tests_at : (found : Option Node) → at number tree ≡ found
      → first_refusal (refusals limits state (Argument.Lookup name)
      ++ change_refusals limits state (Argument.Lookup name) (effect limits state now (Argument.Lookup name)).state.tree)
      ≡ refused_or (not (is_some found)) status.Stale
      (refused_or (not (is_directory_node found)) status.NotDir
      (or_else (or_else (first_refusal (name_refusals limits name))
      (refused_or (not (granted_on found cred execute)) status.Access
      (refused_or (not (is_some (entry_of name (names_of_node found)))) status.NoEnt None)))
      None))
  tests_at found there =
      let here : at (current state) state.tree ≡ found = node_is ∙ there in
      let rights : permitted state.tree state.context (Argument.Lookup name) ≡ granted_on found cred execute
      = permitted_is state name ∙ (ap (λ o. granted_on o state.context.cred execute) here ∙ ap (λ c. granted_on found c execute) is.cred_is) in
      lookup_refusal limits state name (effect limits state now (Argument.Lookup name)).state.tree
      ∙ rw (is.has_current, rights, here) refl

  -- the effect, by what the name leads to
  effect_at : (node : Node) → at number tree ≡ Some node
      → effect limits state now (Argument.Lookup name)
      ≡ answered (moved_to state (number_of_entry (entry_of name (names_of node.content)))) Answer.Lookup
  unfolding effect
  effect_at node there =
      ap (λ (o : Option Node). answered (moved_to state (number_of_entry (entry_of name (names_of_node o)))) Answer.Lookup) (node_is ∙ there)

  pub no_node : at number tree ≡ None → does limits state now (Argument.Lookup name) ≡ refused state (Argument.Lookup name) status.Stale
  no_node there = does_is limits state now name (Some status.Stale) (tests_at None there)

  module _ (node : Node) (there : at number tree ≡ Some node) where
    pub no_directory : is_directory node.content ≡ false
        → does limits state now (Argument.Lookup name) ≡ refused state (Argument.Lookup name) status.NotDir
    no_directory file = does_is limits state now name (Some status.NotDir) (tests_at (Some node) there ∙ rw file refl)

    module _ (directory : is_directory node.content ≡ true) where
      pub bad_name : (reason : Status) → first_refusal (name_refusals limits name) ≡ Some reason
          → does limits state now (Argument.Lookup name) ≡ refused state (Argument.Lookup name) reason
      bad_name reason bad = does_is limits state now name (Some reason) (tests_at (Some node) there ∙ rw (directory, bad) refl)

      module _ (good : first_refusal (name_refusals limits name) ≡ None) where
        pub not_granted : granted_on (Some node) cred execute ≡ false
            → does limits state now (Argument.Lookup name) ≡ refused state (Argument.Lookup name) status.Access
        not_granted denied = does_is limits state now name (Some status.Access)
            (tests_at (Some node) there ∙ rw (directory, good, denied) refl)

        pub no_entry : granted_on (Some node) cred execute ≡ true → entry_of name (names_of node.content) ≡ None
            → does limits state now (Argument.Lookup name) ≡ refused state (Argument.Lookup name) status.NoEnt
        no_entry allowed none = does_is limits state now name (Some status.NoEnt)
            (tests_at (Some node) there ∙ rw (directory, good, allowed, none) refl)

        pub found : granted_on (Some node) cred execute ≡ true → (entry : ℕ × DirEntry)
            → entry_of name (names_of node.content) ≡ Some entry
            → does limits state now (Argument.Lookup name) ≡ answered (moved_to state entry.1.number) Answer.Lookup
        found allowed entry some = does_is limits state now name None
            (tests_at (Some node) there ∙ rw (directory, good, allowed, some) refl)
            ∙ (effect_at node there ∙ ap (λ (o : Option (ℕ × DirEntry)). answered (moved_to state (number_of_entry o)) Answer.Lookup) some)
