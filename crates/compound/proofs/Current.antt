-- The current filehandle in each world.
use Rattle.std.proofs.Common.{◌≡◌, ℕ, Bool, true, false, Option, Some, None, refl}
use Rattle.model.specs.Operations.Answer.{Answer, Outcome}
use Rattle.model.specs.Operations.Context.{has_current, at_node}
use Rattle.model.specs.Operations.Operation.{Argument, NewDirectory, OtherType, operation_of}
use Rattle.model_tree.specs.Refusals.Refusal.{refused_or}
use Rattle.model.specs.Operations.Step.{does, refusals, effect, permitted}
use Rattle.model_tree.specs.Trees.Tree.{root}
use Rattle.model.specs.Server.World.{World, InProgress, Gives, run}
use Rattle.model_tree.specs.declared.status.Status.{Status}
use Rattle.model_tree.specs.declared.status.Status.TheVariants as status

pub ran_root : (world : World) (request : InProgress) (now : ℕ)
    → run world request now Argument.PutRootFh ≡ Gives (Outcome.Done Answer.PutRootFh) world (record request { context = at_node request.context root })
unfolding run does refusals permitted effect
ran_root world request now = refl

-- the tests of the current filehandle come before all others
pub after_some : (none gone : Bool) (reason : Status) (others : Option Status) → refused_or none status.NoFileHandle (refused_or gone status.Stale None) ≡ Some reason
    → refused_or none status.NoFileHandle (refused_or gone status.Stale others) ≡ Some reason
after_some true gone reason others is = is
after_some false true reason others is = is
after_some false false reason others is = absurd cc

pub after_none : (none gone : Bool) (others : Option Status) → refused_or none status.NoFileHandle (refused_or gone status.Stale None) ≡ None
    → refused_or none status.NoFileHandle (refused_or gone status.Stale others) ≡ others
after_none true gone others is = absurd cc
after_none false true others is = absurd cc
after_none false false others is = refl

-- the operations served that take the current filehandle
abbrev pub takes_current : Argument → Bool
takes_current (Argument.Access rights) = true
takes_current (Argument.Commit arguments) = true
takes_current (Argument.Create arguments) = true
takes_current (Argument.GetAttr bitmap) = true
takes_current Argument.GetFh = true
takes_current (Argument.Lookup name) = true
takes_current Argument.LookupParent = true
takes_current (Argument.Open arguments) = true
takes_current (Argument.ReadDir arguments) = true
takes_current (Argument.Remove name) = true
takes_current (Argument.Rename arguments) = true
takes_current Argument.SaveFh = true
takes_current (Argument.SetAttr arguments) = true
takes_current (Argument.ReclaimComplete one_fs) = one_fs
takes_current _ = false

pub wants_current : (world : World) (request : InProgress) (now : ℕ) (operation : Argument) → has_current request.context ≡ false
    → takes_current operation ≡ true
    → run world request now operation ≡ Gives (Outcome.Refused (operation_of operation) status.NoFileHandle) world request
unfolding run does refusals permitted effect
wants_current world request now (Argument.Access rights) none takes = rw none refl
wants_current world request now (Argument.Commit arguments) none takes = rw none refl
wants_current world request now (Argument.Create (NewDirectory name given)) none takes = rw none refl
wants_current world request now (Argument.Create (OtherType type_number)) none takes = rw none refl
wants_current world request now (Argument.GetAttr bitmap) none takes = rw none refl
wants_current world request now Argument.GetFh none takes = rw none refl
wants_current world request now (Argument.Lookup name) none takes = rw none refl
wants_current world request now Argument.LookupParent none takes = rw none refl
wants_current world request now (Argument.Open arguments) none takes = rw none refl
wants_current world request now (Argument.ReadDir arguments) none takes = rw none refl
wants_current world request now (Argument.Remove name) none takes = rw none refl
wants_current world request now (Argument.Rename arguments) none takes = rw none refl
wants_current world request now Argument.SaveFh none takes = rw none refl
wants_current world request now (Argument.SetAttr arguments) none takes = rw none refl
wants_current world request now (Argument.ReclaimComplete true) none takes = rw none refl
wants_current world request now operation none takes = absurd cc
