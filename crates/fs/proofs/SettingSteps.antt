-- SETATTR by the definition: its tests, one after the other, and what it does.
use Rattle.std.proofs.Common.{◌≡◌, ℕ, Bool, true, false, [], ◌∷◌, ◌++◌, List, ◌&&◌, ◌||◌, not, refl, sym, ap, ap₂, ◌∙◌}
use Rattle.std.specs.Prelude.{Option, Some, None, IsTrue, Result, if◌then◌else◌}
use Rattle.std.specs.List.{list_all, list_any}
use Rattle.model_tree.specs.declared.limits.Limits.{Limits}
use Rattle.model_tree.specs.declared.status.Status.{Status}
use Rattle.model_tree.specs.declared.status.Status.TheVariants as status
use Rattle.model_tree.specs.Rights.Acl.{write_acl, write_data, write_owner}
use Rattle.model.specs.Attributes.Attribute.{acl_number, attribute_refusals, attributes_of, is_among, mode_number, owner_group_number, owner_number, settable_at_setattr, size_number}
use Rattle.model_tree.specs.Trees.Charge.{fits}
use Rattle.model.specs.Operations.Context.{has_current}
use Rattle.model_tree.specs.Trees.Keyed.{at, is_key}
use Rattle.model.specs.Operations.Need.{Right, granted_on, is_granted, right_if}
use Rattle.model.specs.Operations.Operation.{Argument, Attributes, SetAttrArguments}
use Rattle.model_tree.specs.Refusals.Refusal.{Refusals, first_refusal, refused_or}
use Rattle.model.specs.Operations.SetAttr.{kind_at, set_attributes, sets, sets_size, size_refusals, setting_rights}
use Rattle.model_tree.specs.Trees.Stamp.{is_stamp_left}
use Rattle.model.specs.Sessions.StateIds.{state_refusals, write_access}
use Rattle.model.specs.Operations.Step.{State, Stepped, current, refusals, change_refusals, without_rights, effect, does, refused, unless_refused}
use Rattle.model_tree.specs.Trees.Tree.{is_directory_at}
use Rattle.model.proofs.Operations.RefusalLaws.{first-append, or_else}
use Rattle.model_tree.proofs.Facts.BooleanLaws.{alone}
use Rattle.fs.specs.Files.{IsVerdict}
use Rattle.fs.specs.Setting.{may_set, setting_tests, sized_refusals}
use Rattle.fs.proofs.FileSteps.{does_by, verdict_first}
use Rattle.fs.proofs.OpenSteps.{grouped}

module _ (limits : Limits) (state : State) (now : ℕ) (has : IsTrue (has_current state.context)) (arguments : SetAttrArguments) (verdict : Result (Unit {0}) Status)
    (is : IsVerdict state write_access arguments.state verdict) where
  abbrev given : Attributes
  given = arguments.attributes

  abbrev number : ℕ
  number = current state

  abbrev allows : ℕ → Bool
  allows mask = granted_on (at number state.tree) state.context.cred mask

  abbrev are_all : List (List Right) → Bool
  are_all rights = list_all (list_any (is_granted state.tree state.context.cred)) rights

  -- Rights

  or_false : (b : Bool) → (b || false) ≡ b
  or_false true = refl
  or_false false = refl

  first_wanted : (asked : Bool) (mask : ℕ) (second rest : List (List Right)) → are_all ((right_if asked number mask ++ second) ++ rest) ≡ ((not asked || allows mask) && are_all (second ++ rest))
  first_wanted true mask second rest = ap (λ (b : Bool). b && are_all (second ++ rest)) (or_false (allows mask))
  first_wanted false mask second rest = refl

  next_wanted : (asked : Bool) (mask : ℕ) (rest : List (List Right)) → are_all (right_if asked number mask ++ rest) ≡ ((not asked || allows mask) && are_all rest)
  next_wanted true mask rest = ap (λ (b : Bool). b && are_all rest) (or_false (allows mask))
  next_wanted false mask rest = refl

  last_wanted : (asked : Bool) (mask : ℕ) → are_all (right_if asked number mask) ≡ (not asked || allows mask)
  last_wanted true mask = alone (allows mask)
  last_wanted false mask = refl

  rights_are : without_rights state (setting_rights state.context (attributes_of given.bitmap)) ≡ not (may_set allows (attributes_of given.bitmap))
  rights_are =
      let numbers = attributes_of given.bitmap in
      let lists = is_among numbers mode_number || is_among numbers acl_number in
      let owners = is_among numbers owner_number || is_among numbers owner_group_number in
      ap not (first_wanted (is_among numbers size_number) write_data (right_if lists number write_acl) (right_if owners number write_owner)
      ∙ ap (λ (b : Bool). (not (is_among numbers size_number) || allows write_data) && b)
      (next_wanted lists write_acl (right_if owners number write_owner) ∙ ap (λ (b : Bool). (not lists || allows write_acl) && b) (last_wanted owners write_owner)))

  -- Tests

  abbrev own : Refusals
  own = setting_tests limits state.tree state.context.cred number verdict given

  abbrev attributes : Refusals
  attributes = attribute_refusals limits (kind_at state.tree number) settable_at_setattr given

  abbrev right : Refusals
  right = (not (may_set allows (attributes_of given.bitmap)), status.Access) ∷ []

  abbrev behind_attributes : Refusals
  behind_attributes = (without_rights state (setting_rights state.context (attributes_of given.bitmap)), status.Access) ∷ (without_rights state [], status.Access) ∷ []

  sized_first : first_refusal (size_refusals state arguments) ≡ first_refusal (sized_refusals (sets_size given) (is_directory_at state.tree number) verdict)
  sized_first = by_size (sets_size given)
    where
      by_size : (b : Bool) → first_refusal (if b then (is_directory_at state.tree number, status.IsDir) ∷ state_refusals state.opens state.context write_access arguments.state else [])
          ≡ first_refusal (sized_refusals b (is_directory_at state.tree number) verdict)
      by_size true = ap (refused_or (is_directory_at state.tree number) status.IsDir) (verdict_first state write_access arguments.state verdict is)
      by_size false = refl

  set_first : first_refusal (refusals limits state (Argument.SetAttr arguments)) ≡ first_refusal own
  unfolding refusals
  set_first =
      let sized = sized_refusals (sets_size given) (is_directory_at state.tree number) verdict in
      let prefix : Option Status → Option Status = λ o. refused_or (not (is_key number state.tree)) status.Stale o in
      ap (λ (b : Bool). refused_or (not b) status.NoFileHandle (prefix (first_refusal ((attributes ++ size_refusals state arguments) ++ behind_attributes)))) has
      ∙ ap prefix (first-append (attributes ++ size_refusals state arguments) behind_attributes
      ∙ ap₂ or_else (first-append attributes (size_refusals state arguments) ∙ ap (or_else (first_refusal attributes)) sized_first)
      (ap (λ (b : Bool). refused_or b status.Access None) rights_are)
      ∙ sym (grouped (first_refusal attributes) (first_refusal sized) (first_refusal right))
      ∙ sym (first-append attributes (sized ++ right) ∙ ap (or_else (first_refusal attributes)) (first-append sized right)))

  abbrev behind : Option Status
  behind = first_refusal (change_refusals limits state (Argument.SetAttr arguments) (effect limits state now (Argument.SetAttr arguments)).state.tree)

  set_by : (o : Option Status) → or_else (first_refusal own) behind ≡ o
      → does limits state now (Argument.SetAttr arguments) ≡ unless_refused state (Argument.SetAttr arguments) o (set_attributes (sets arguments) state now arguments)
  unfolding effect
  set_by o same = does_by limits state now (Argument.SetAttr arguments) o (ap (λ (p : Option Status). or_else p behind) set_first ∙ same)

  pub set_refused : (reason : Status) → first_refusal own ≡ Some reason → does limits state now (Argument.SetAttr arguments) ≡ refused state (Argument.SetAttr arguments) reason
  set_refused reason first = set_by (Some reason) (rw first refl)

  module _ (passed : first_refusal own ≡ None) where
    -- an empty bitmap is no change
    pub nothing_set : sets arguments ≡ false → does limits state now (Argument.SetAttr arguments) ≡ set_attributes false state now arguments
    nothing_set none = set_by None (rw (passed, none) refl) ∙ ap (λ (b : Bool). set_attributes b state now arguments) none

    module _ (some : sets arguments ≡ true) where
      abbrev after : Stepped
      after = set_attributes true state now arguments

      pub no_room : fits limits after.state.tree ≡ false → does limits state now (Argument.SetAttr arguments) ≡ refused state (Argument.SetAttr arguments) status.NoSpc
      unfolding effect
      no_room full = set_by (Some status.NoSpc) (rw (passed, some, full) refl)

      module _ (room : fits limits after.state.tree ≡ true) where
        pub no_stamp : is_stamp_left state.changes ≡ false → does limits state now (Argument.SetAttr arguments) ≡ refused state (Argument.SetAttr arguments) status.ServerFault
        unfolding effect
        no_stamp none = set_by (Some status.ServerFault) (rw (passed, some, room, none) refl)

        pub done : is_stamp_left state.changes ≡ true → does limits state now (Argument.SetAttr arguments) ≡ after
        unfolding effect
        done left = set_by None (rw (passed, some, room, left) refl) ∙ ap (λ (b : Bool). set_attributes b state now arguments) some
