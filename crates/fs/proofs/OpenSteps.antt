-- OPEN by the definition: its tests, one after the other, and what it does.
use Rattle.std.proofs.Common.{◌≡◌, ℕ, Bool, List, [], ◌∷◌, ◌++◌, not, refl, sym, ap, ap₂, ◌∙◌}
use Rattle.std.specs.Prelude.{Option, Some, None, IsTrue}
use Rattle.model_tree.specs.declared.limits.Limits.{Limits}
use Rattle.model_tree.specs.declared.status.Status.{Status}
use Rattle.model_tree.specs.declared.status.Status.TheVariants as status
use Rattle.model_tree.specs.Rights.Acl.{execute}
use Rattle.model.specs.Operations.Context.{has_current}
use Rattle.model_tree.specs.Trees.Keyed.{at, is_key}
use Rattle.model_tree.specs.Refusals.Name.{name_refusals}
use Rattle.model.specs.Operations.Need.{granted_on, here}
use Rattle.model.specs.Operations.Open.{asked_open, late_at_open, name_opening_refusals, open_file, share_refusals, opening_rights}
use Rattle.model.specs.Operations.Operation.{Argument, OpenArguments, OpenType, Opens as Opening_of, ByName, ByHandle}
use Rattle.model_tree.specs.Refusals.Refusal.{Refusals, first_refusal, refused_or}
use Rattle.model.specs.Sessions.StateIds.{is_table_full}
use Rattle.model.specs.Operations.Step.{State, current, refusals, change_refusals, without_rights, effect, does, unless_refused}
use Rattle.model_tree.specs.Trees.Tree.{is_directory_at}
use Rattle.model.proofs.Operations.RefusalLaws.{first-append, or_else}
use Rattle.model_tree.proofs.Facts.BooleanLaws.{alone}
use Rattle.fs.specs.Opening.{file_tests, handle_tests, place_tests}
use Rattle.fs.proofs.FileSteps.{does_by}

pub grouped : (first second third : Option Status) → or_else first (or_else second third) ≡ or_else (or_else first second) third
grouped None second third = refl
grouped (Some reason) second third = refl

module _ (limits : Limits) (state : State) (now : ℕ) (asked : OpenArguments) (has : IsTrue (has_current state.context)) where
  abbrev full : OpenArguments → Bool
  full arguments = is_table_full limits.opens state.opens (asked_open state arguments)

  -- The current file

  module _ (of : OpenType) where
    abbrev by_handle : OpenArguments
    by_handle = record asked { opening = Opening_of of ByHandle }

    handle_first : first_refusal (refusals limits state (Argument.Open by_handle))
        ≡ or_else (first_refusal (handle_tests state by_handle of)) (first_refusal (late_at_open limits state by_handle))
    unfolding refusals
    handle_first = ap (λ (b : Bool). refused_or (not b) status.NoFileHandle (first_refusal (handle_tests state by_handle of ++ late_at_open limits state by_handle))) has
        ∙ first-append (handle_tests state by_handle of) (late_at_open limits state by_handle)

    pub handle_by : (o : Option Status) → or_else (or_else (first_refusal (handle_tests state by_handle of)) (first_refusal (late_at_open limits state by_handle))) None ≡ o
        → does limits state now (Argument.Open by_handle) ≡ unless_refused state (Argument.Open by_handle) o (open_file state now by_handle)
    unfolding effect
    handle_by o same = does_by limits state now (Argument.Open by_handle) o (ap (λ (p : Option Status). or_else p None) handle_first ∙ same)

  -- A name

  module _ (of : OpenType) (name : List ℕ) where
    abbrev by_name : OpenArguments
    by_name = record asked { opening = Opening_of of (ByName name) }

    abbrev prefix : Refusals
    prefix = (not (is_key (current state) state.tree), status.Stale)
        ∷ (share_refusals by_name ++ ((not (is_directory_at state.tree (current state)), status.NotDir) ∷ []))

    abbrev names : Refusals
    names = name_refusals limits name

    abbrev look_up : Refusals
    look_up = (without_rights state (here state.context execute), status.Access) ∷ []

    abbrev own_look_up : Refusals
    own_look_up = (not (granted_on (at (current state) state.tree) state.context.cred execute), status.Access) ∷ []

    abbrev found : Refusals
    found = name_opening_refusals limits state of name

    abbrev rights : Refusals
    rights = (without_rights state (opening_rights state.tree state.context by_name.access (Opening_of of (ByName name))), status.Access) ∷ []

    look_up_is : first_refusal look_up ≡ first_refusal own_look_up
    look_up_is = ap (λ (b : Bool). refused_or (not b) status.Access None) (alone (granted_on (at (current state) state.tree) state.context.cred execute))

    behind_is : first_refusal (found ++ (rights ++ late_at_open limits state by_name))
        ≡ or_else (first_refusal (file_tests limits state by_name.access of name)) (first_refusal (late_at_open limits state by_name))
    behind_is =
        let late = late_at_open limits state by_name in
        first-append found (rights ++ late)
        ∙ ap (or_else (first_refusal found)) (first-append rights late)
        ∙ grouped (first_refusal found) (first_refusal rights) (first_refusal late)
        ∙ ap (λ (o : Option Status). or_else o (first_refusal late)) (sym (first-append found rights))

    place_is : first_refusal (place_tests limits state by_name name) ≡ or_else (first_refusal prefix) (or_else (first_refusal names) (first_refusal own_look_up))
    place_is = first-append prefix (names ++ own_look_up) ∙ ap (or_else (first_refusal prefix)) (first-append names own_look_up)

    named_first : first_refusal (refusals limits state (Argument.Open by_name))
        ≡ or_else (first_refusal (place_tests limits state by_name name))
        (or_else (first_refusal (file_tests limits state by_name.access of name)) (first_refusal (late_at_open limits state by_name)))
    unfolding refusals
    named_first =
        let late = late_at_open limits state by_name in
        let rest = found ++ (rights ++ late) in
        ap (λ (b : Bool). refused_or (not b) status.NoFileHandle (first_refusal (prefix ++ (names ++ (look_up ++ rest))))) has
        ∙ first-append prefix (names ++ (look_up ++ rest))
        ∙ ap (or_else (first_refusal prefix)) (first-append names (look_up ++ rest) ∙ ap (or_else (first_refusal names))
        (first-append look_up rest ∙ ap₂ or_else look_up_is behind_is))
        ∙ ap (or_else (first_refusal prefix)) (grouped (first_refusal names) (first_refusal own_look_up) (or_else (first_refusal (file_tests limits state by_name.access of name)) (first_refusal late)))
        ∙ grouped (first_refusal prefix) (or_else (first_refusal names) (first_refusal own_look_up)) (or_else (first_refusal (file_tests limits state by_name.access of name)) (first_refusal late))
        ∙ ap (λ (o : Option Status). or_else o (or_else (first_refusal (file_tests limits state by_name.access of name)) (first_refusal late))) (sym place_is)

    pub named_by : (o : Option Status)
        → or_else (or_else (first_refusal (place_tests limits state by_name name))
        (or_else (first_refusal (file_tests limits state by_name.access of name)) (first_refusal (late_at_open limits state by_name))))
        (first_refusal (change_refusals limits state (Argument.Open by_name) (open_file state now by_name).state.tree)) ≡ o
        → does limits state now (Argument.Open by_name) ≡ unless_refused state (Argument.Open by_name) o (open_file state now by_name)
    unfolding effect
    named_by o same = does_by limits state now (Argument.Open by_name) o
        (ap (λ (p : Option Status). or_else p (first_refusal (change_refusals limits state (Argument.Open by_name) (open_file state now by_name).state.tree))) named_first ∙ same)
