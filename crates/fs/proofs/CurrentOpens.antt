-- OPEN of the current file, in each state of a COMPOUND.
use Rattle.std.proofs.Common.{◌≡◌, ℕ, Bool, true, false, Option, Some, None, refl, sym, ap, ap₂, ◌∙◌, subst}
use Rattle.model_tree.specs.declared.acl.Cred.{Cred}
use Rattle.model_tree.specs.declared.limits.Limits.{Limits}
use Rattle.model_tree.specs.declared.status.Status.{Status}
use Rattle.model_tree.specs.declared.status.Status.TheVariants as status
use Rattle.model.specs.Operations.Open.{asked_open, late_at_open}
use Rattle.model.specs.Operations.Operation.{Argument, OpenArguments, NoCreate, Opening, Opens as Opening_of, ByHandle}
use Rattle.model_tree.specs.Refusals.Refusal.{first_refusal, refused_or}
use Rattle.model.specs.Sessions.StateIds.{is_table_full}
use Rattle.model.specs.Operations.Step.{State, current, does, refused}
use Rattle.model_tree.specs.Trees.Tree.{Tree}
use Rattle.model.proofs.Operations.RefusalLaws.{or_else}
use Rattle.fs.specs.declared.opening.Share.{Share}
use Rattle.fs.specs.FileSystem.{FileSystem}
use Rattle.fs.specs.Opening.{IsOpeningCurrent, after_open, current_opened, handle_tests}
use Rattle.fs.specs.Operations.{IsOn, does_on}
use Rattle.fs.proofs.OpenSteps as steps

module _ (fs : FileSystem) (cred : Cred) (now number : ℕ) (share : Share) (is_create is_full : Bool) (state : State) (arguments : OpenArguments) (on : IsOn fs cred number state)
    (is : IsOpeningCurrent fs state share is_create is_full arguments) where
  abbrev limits : Limits
  limits = fs.volume.limits

  abbrev by_handle : OpenArguments
  by_handle = record arguments { opening = Opening_of is.how ByHandle }

  same : by_handle ≡ arguments
  same = ap (λ (o : Opening). record arguments { opening = o }) (sym is.opening_is)

  abbrev tests : Option Status
  tests = first_refusal (handle_tests state by_handle is.how)

  abbrev late : (full : Bool) → Option Status
  late full = refused_or full status.Delay None

  full_is : is_table_full limits.opens state.opens (asked_open state by_handle) ≡ is_full
  full_is = ap (λ (a : OpenArguments). is_table_full limits.opens state.opens (asked_open state a)) same ∙ is.full_is

  first_is : (o : Option Status) (full : Bool) → tests ≡ o → is_full ≡ full
      → or_else (or_else tests (first_refusal (late_at_open limits state by_handle))) None ≡ or_else (or_else o (late full)) None
  first_is o full tested told = ap₂ (λ (p : Option Status) (b : Bool). or_else (or_else p (late b)) None) tested (full_is ∙ told)

  pub refused_by : (reason : Status) → first_refusal (handle_tests state arguments is.how) ≡ Some reason
      → does_on fs state now (Argument.Open arguments) ≡ refused state (Argument.Open arguments) reason
  refused_by reason early = subst (λ (a : OpenArguments). does limits state now (Argument.Open a) ≡ refused state (Argument.Open a) reason) same
      (steps.handle_by limits state now arguments on.is_state.has_current is.how (Some reason) (first_is (Some reason) is_full early refl))

  module _ (passed : first_refusal (handle_tests state arguments is.how) ≡ None) where
    pub table_full : is_full ≡ true → does_on fs state now (Argument.Open arguments) ≡ refused state (Argument.Open arguments) status.Delay
    table_full told = subst (λ (a : OpenArguments). does limits state now (Argument.Open a) ≡ refused state (Argument.Open a) status.Delay) same
        (steps.handle_by limits state now arguments on.is_state.has_current is.how (Some status.Delay) (first_is None true passed told))

    pub is_opened : is_full ≡ false → does_on fs state now (Argument.Open arguments) ≡ after_open fs.volume.tree fs.changes state arguments NoCreate (current_opened number)
    is_opened told =
        subst (λ (a : OpenArguments). does limits state now (Argument.Open a) ≡ after_open state.tree state.changes state a NoCreate (current_opened (current state))) same
        (steps.handle_by limits state now arguments on.is_state.has_current is.how None (first_is None false passed told))
        ∙ ap₂ (λ (t : Tree) (count : ℕ). after_open t count state arguments NoCreate (current_opened (current state))) on.is_state.tree_is on.changes
        ∙ ap (λ (n : ℕ). after_open fs.volume.tree fs.changes state arguments NoCreate (current_opened n)) on.is_state.current_is
