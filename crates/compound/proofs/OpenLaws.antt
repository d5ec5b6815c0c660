-- OPEN on a world is that on its file system and what is open.
use Rattle.std.proofs.Common.{◌≡◌, ℕ, List, not, Option, Some, None, refl, ap}
use Rattle.fs.specs.Operations.{current_refusal}
use Rattle.model.specs.Operations.Context.{has_current}
use Rattle.model_tree.specs.Trees.Keyed.{is_key}
use Rattle.model.specs.Operations.Open.{opening_refusals}
use Rattle.model.specs.Operations.Operation.{Argument, OpenArguments, Opening, Opens, Exclusive, ByName, ByHandle, OtherClaim}
use Rattle.model_tree.specs.Refusals.Refusal.{first_refusal}
use Rattle.model.specs.Operations.Step.{State, does, effect, refused, refusals, unless_refused, current}
use Rattle.model.specs.Server.World.{World, InProgress, run, stepped, state_of}
use Rattle.model_tree.specs.declared.limits.Limits.{Limits}
use Rattle.model_tree.specs.declared.status.Status.{Status}
use Rattle.model_tree.specs.declared.status.Status.TheVariants as status
use Rattle.compound.specs.Runs.{with_rest}
use Rattle.compound.proofs.Current.{after_some, after_none}

pub on_tree : (now : ℕ) (request : InProgress) (arguments : OpenArguments) (world : World) (rest : List ℕ) → run world (with_rest request rest) now (Argument.Open arguments)
    ≡ stepped world (with_rest request rest) (does world.limits.volume (state_of world (with_rest request rest)) now (Argument.Open arguments))
unfolding run
on_tree now request arguments world rest = refl

module _ (limits : Limits) (state : State) (now : ℕ) where
  -- the tests of the current filehandle refuse it
  pub refused_current : (arguments : OpenArguments) (reason : Status) → current_refusal state ≡ Some reason
      → does limits state now (Argument.Open arguments) ≡ refused state (Argument.Open arguments) reason
  unfolding does refusals
  refused_current arguments reason is =
      ap (λ (first : Option Status). unless_refused state (Argument.Open arguments) first (effect limits state now (Argument.Open arguments)))
      (after_some (not (has_current state.context)) (not (is_key (current state) state.tree)) reason _ is)

  -- after them, it is not served
  pub refused_opening : (seqid access deny client : ℕ) (owner : List ℕ) (opening : Opening) → current_refusal state ≡ None
      → first_refusal (opening_refusals opening) ≡ Some status.NotSupp
      → does limits state now (Argument.Open (record { seqid = seqid; access = access; deny = deny; client = client; owner = owner; opening = opening }))
      ≡ refused state (Argument.Open (record { seqid = seqid; access = access; deny = deny; client = client; owner = owner; opening = opening })) status.NotSupp
  unfolding does refusals
  refused_opening seqid access deny client owner (Exclusive mode) passed is =
      let kind = Argument.Open (record { seqid = seqid; access = access; deny = deny; client = client; owner = owner; opening = Exclusive mode }) in
      ap (λ (first : Option Status). unless_refused state kind first (effect limits state now kind))
      (after_none (not (has_current state.context)) (not (is_key (current state) state.tree)) (Some status.NotSupp) passed)
  refused_opening seqid access deny client owner (Opens how (OtherClaim claim)) passed is =
      let kind = Argument.Open (record { seqid = seqid; access = access; deny = deny; client = client; owner = owner; opening = Opens how (OtherClaim claim) }) in
      ap (λ (first : Option Status). unless_refused state kind first (effect limits state now kind))
      (after_none (not (has_current state.context)) (not (is_key (current state) state.tree)) (Some status.NotSupp) passed)
  refused_opening seqid access deny client owner (Opens how (ByName name)) passed is = absurd cc
  refused_opening seqid access deny client owner (Opens how ByHandle) passed is = absurd cc
