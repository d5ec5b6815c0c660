-- One operation is refused, or passes all its tests and has its effect.
use Rattle.std.proofs.Common.{ℕ, true, [], ◌∷◌, ◌++◌, ◌≡◌, ◌⊎◌, ◌&&◌, not, inl, inr, refl}
use Rattle.std.specs.Prelude.{List, Option, Some, None}
use Rattle.std.specs.List.{list_any}
use Rattle.std.proofs.lemmas.Bool.{not-false, and_parts, and_from}
use Rattle.model_tree.specs.declared.status.Status.{Status}
use Rattle.model_tree.specs.declared.status.Status.TheVariants as status
use Rattle.model_tree.specs.Trees.Charge.{fits}
use Rattle.model_tree.specs.declared.limits.Limits.{Limits}
use Rattle.model.specs.Operations.Need.{Right, is_granted, are_granted}
use Rattle.model.specs.Operations.Context.{Context}
use Rattle.model.specs.Operations.Operation.{Argument}
use Rattle.model_tree.specs.Refusals.Refusal.{first_refusal}
use Rattle.model_tree.specs.Trees.Stamp.{is_stamp_left}
use Rattle.model_tree.specs.Trees.Tree.{Tree}
use Rattle.model.specs.Operations.Step.{State, Stepped, early, middle, late, without_rights, refusals, alters, effect, change_refusals, refused, unless_refused, does, need_first, need_then, permitted}
use Rattle.model.proofs.Operations.RefusalLaws.{none_earlier, none_in_both}
use Rattle.model_tree.proofs.Facts.BooleanLaws.{second_held}

-- What an operation passed
pub record Passes (limits : Limits) (state : State) (now : ℕ) (operation : Argument) : Type 0 where
  pub early : first_refusal (early limits state operation) ≡ None
  pub permitted : permitted state.tree state.context operation ≡ true
  pub middle : first_refusal (middle limits state operation) ≡ None
  pub late : first_refusal (late limits state operation) ≡ None
  pub fitting : alters state operation ≡ true → fits limits (effect limits state now operation).state.tree ≡ true
  pub stamp_left : alters state operation ≡ true → is_stamp_left state.changes ≡ true

granted_both : (tree : Tree) (context : Context) (first then : List (List Right)) → are_granted tree context first ≡ true
    → are_granted tree context then ≡ true → are_granted tree context (first ++ then) ≡ true
granted_both tree context [] then not-false others = others
granted_both tree context (one ∷ first) then not-false others =
    let parts = and_parts (list_any (is_granted tree context.cred) one) (are_granted tree context first) not-false in
    and_from (list_any (is_granted tree context.cred) one) (are_granted tree context (first ++ then)) parts.0
    (granted_both tree context first then parts.1 others)

-- What passed every test except those of a change
pub record PassesTests (limits : Limits) (state : State) (operation : Argument) : Type 0 where
  pub early : first_refusal (early limits state operation) ≡ None
  pub permitted : permitted state.tree state.context operation ≡ true
  pub middle : first_refusal (middle limits state operation) ≡ None
  pub late : first_refusal (late limits state operation) ≡ None

pub passes_tests : (limits : Limits) (state : State) (operation : Argument) → first_refusal (refusals limits state operation) ≡ None
    → PassesTests limits state operation
unfolding refusals permitted
passes_tests limits state operation none =
    let first = need_first state.tree state.context operation in
    let then = need_then state.tree state.context operation in
    let before = none_in_both (early limits state operation)
    (((without_rights state first, status.Access) ∷ middle limits state operation)
    ++ ((without_rights state then, status.Access) ∷ late limits state operation)) none in
    let between = none_in_both ((without_rights state first, status.Access) ∷ middle limits state operation)
    ((without_rights state then, status.Access) ∷ late limits state operation) before.1 in
    let rights = none_earlier (without_rights state first) status.Access (first_refusal (middle limits state operation)) between.0 in
    let others = none_earlier (without_rights state then) status.Access (first_refusal (late limits state operation)) between.1 in
    record {
      early = before.0;
      permitted = granted_both state.tree state.context first then (not-false (are_granted state.tree state.context first) rights.0)
          (not-false (are_granted state.tree state.context then) others.0);
      middle = rights.1;
      late = others.1;
    }

passes : (limits : Limits) (state : State) (now : ℕ) (operation : Argument)
    → first_refusal (refusals limits state operation
    ++ change_refusals limits state operation (effect limits state now operation).state.tree) ≡ None
    → Passes limits state now operation
passes limits state now operation none =
    let all = none_in_both (refusals limits state operation)
    (change_refusals limits state operation (effect limits state now operation).state.tree) none in
    let tests = passes_tests limits state operation all.0 in
    let room = none_earlier (alters state operation && not (fits limits (effect limits state now operation).state.tree)) status.NoSpc
    (first_refusal ((alters state operation && not (is_stamp_left state.changes), status.ServerFault) ∷ [])) all.1 in
    let stamp = none_earlier (alters state operation && not (is_stamp_left state.changes)) status.ServerFault None room.1 in
    record {
      early = tests.early;
      permitted = tests.permitted;
      middle = tests.middle;
      late = tests.late;
      fitting = second_held (alters state operation) (fits limits (effect limits state now operation).state.tree) room.0;
      stamp_left = second_held (alters state operation) (is_stamp_left state.changes) stamp.0;
    }

unless_cases : (state : State) (operation : Argument) (reason : Option Status) (stepped : Stepped)
    → ((reason ≡ None) × (unless_refused state operation reason stepped ≡ stepped))
    ⊎ ((of : Status) × (unless_refused state operation reason stepped ≡ refused state operation of))
unless_cases state operation None stepped = inl (refl, refl)
unless_cases state operation (Some of) stepped = inr (of, refl)

-- Passed, with its effect, or refused
pub does_cases : (limits : Limits) (state : State) (now : ℕ) (operation : Argument)
    → (Passes limits state now operation × (does limits state now operation ≡ effect limits state now operation))
    ⊎ ((of : Status) × (does limits state now operation ≡ refused state operation of))
unfolding does
does_cases limits state now operation = elim (unless_cases state operation
    (first_refusal (refusals limits state operation
    ++ change_refusals limits state operation (effect limits state now operation).state.tree))
    (effect limits state now operation)) [
      | inl went ↦ inl (passes limits state now operation went.0, went.1)
      | inr not_gone ↦ inr not_gone
    ]
