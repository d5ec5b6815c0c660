-- A step of a request is the turn of the definition.
use Rattle.std.proofs.Common.{◌≡◌, ◌+◌, ℕ, Bool, List, refl, sym, ap, ap₂, subst, ◌∙◌}
use Rattle.model.specs.Operations.Answer as model
use Rattle.model.specs.Wire.Record.{framed}
use Rattle.model.specs.Wire.Rpc.{Success, reply_text}
use Rattle.model.specs.Sessions.Session.{Table}
use Rattle.model.specs.Server.World as world
use Rattle.model.specs.Server.World.{World, InProgress, Turned, Replied, with_connection}
use Rattle.compound.specs.Operates.{left_by_effect}
use Rattle.compound.specs.Runs.{noted, with_rest}
use Rattle.compound.specs.Views.{Asked}
use Rattle.compound.specs.States.{SharedState, HasState, with_state}
use Rattle.compound.specs.Steps.{GoesFurther, RequestGoesOn, RequestSteps, stepped_on}
use Rattle.compound.specs.Turns.{TurnsTo, ResultLeaves, repeated}
use Rattle.compound.proofs.Rooms.{state_same}
use Rattle.compound.specs.declared.executed.Effect.{Effect}
use Rattle.compound.specs.declared.executed.Effect.TheVariants as effect
use Rattle.compound.specs.declared.step.Stepped.{Stepped}
use Rattle.compound.specs.declared.step.Stepped.TheVariants as stepped

-- what an operation leaves does not touch the bytes after it, nor whether it altered
pub left_rest : (left : Effect) (altered : Bool) (request : InProgress) (rest : List ℕ)
    → left_by_effect left (noted altered (with_rest request rest)) ≡ noted altered (with_rest (left_by_effect left request) rest)
left_rest effect.Stays altered request rest = refl
left_rest (effect.Moves number) altered request rest = refl
left_rest effect.Saves altered request rest = refl
left_rest effect.Restores altered request rest = refl
left_rest (effect.Opens number state) altered request rest = refl
left_rest effect.Closes altered request rest = refl
left_rest (effect.Joins slot client) altered request rest = refl

-- nor the results before it
pub left_answered : (left : Effect) (request : InProgress) → (left_by_effect left request).answered ≡ request.answered
left_answered effect.Stays request = refl
left_answered (effect.Moves number) request = refl
left_answered effect.Saves request = refl
left_answered effect.Restores request = refl
left_answered (effect.Opens number state) request = refl
left_answered effect.Closes request = refl
left_answered (effect.Joins slot client) request = refl

-- nor whether it has ended, nor its run
pub left_ended : (left : Effect) (request : InProgress) → (left_by_effect left request).ended ≡ request.ended
left_ended effect.Stays request = refl
left_ended (effect.Moves number) request = refl
left_ended effect.Saves request = refl
left_ended effect.Restores request = refl
left_ended (effect.Opens number state) request = refl
left_ended effect.Closes request = refl
left_ended (effect.Joins slot client) request = refl

pub left_run : (left : Effect) (request : InProgress) → (left_by_effect left request).context.run ≡ request.context.run
left_run effect.Stays request = refl
left_run (effect.Moves number) request = refl
left_run effect.Saves request = refl
left_run effect.Restores request = refl
left_run (effect.Opens number state) request = refl
left_run effect.Closes request = refl
left_run (effect.Joins slot client) request = refl

pub steps_to : (now : ℕ) (old middle : SharedState) (new : Table) (asked before : Asked) (request left after : InProgress) (outcome : model.Outcome) (done : Stepped)
    → TurnsTo now old middle request left outcome → before ≡ asked → after ≡ left → ResultLeaves middle.table new before after outcome done
    → RequestSteps now old (record middle { table = new }) asked request done
steps_to now old middle new asked before request left after outcome done turn same is stands = λ world number served.
    let gave = turn world number served in
    let stood = subst (λ (one : Asked). ResultLeaves middle.table new one left outcome done) same (subst (λ (one : InProgress). ResultLeaves middle.table new before one outcome done) is stands) in
    let made = stood (with_state world middle) number gave.0 refl in (
      ap (λ (one : Turned). one.turn) gave.1 ∙ made.0,
      ap (λ (one : Turned). one.world) gave.1 ∙ made.1,
    )

-- a kept reply is sent again
pub repeats_to : (now : ℕ) (old new : SharedState) (request : InProgress) (session : List ℕ) (slot : ℕ) (reply bytes : List ℕ) → new ≡ old
    → ((one : World) (number : ℕ) → HasState one old → stepped_on one number now request ≡ repeated one number request reply session slot)
    → bytes ≡ framed (reply_text request.xid (Success reply))
    → (one : World) (number : ℕ) → HasState one old
    → ((stepped_on one number now request).turn ≡ world.Answered) × ((stepped_on one number now request).world ≡ with_connection (with_state one new) number (Replied bytes))
repeats_to now old new request session slot reply bytes same turn is one number served = (
  ap (λ (t : Turned). t.turn) (turn one number served),
  ap (λ (t : Turned). t.world) (turn one number served)
      ∙ ap₂ (λ (left : World) (sent : List ℕ). with_connection left number (Replied sent)) (sym (ap (with_state one) same ∙ state_same one old served)) (sym is),
)

-- What goes on after a result goes on from the request before it

further_as : (request left : InProgress) (done : Stepped) → left.answered ≡ request.answered → left.ended ≡ request.ended → GoesFurther left done → GoesFurther request done
further_as request left (stepped.Ran progress) counts ends is = (sym ends ∙ is.0, is.1 ∙ ap (λ (n : ℕ). n + 1) counts)
further_as request left (stepped.Answered reply) counts ends is = tt

pub goes_on_as : (run : ℕ) (asked before : Asked) (request left after : InProgress) (done : Stepped) → before ≡ asked → after ≡ left
    → left.context.run ≡ run → left.answered ≡ request.answered → left.ended ≡ request.ended
    → RequestGoesOn after.context.run before after done → RequestGoesOn run asked request done
goes_on_as run asked before request left after done same is runs counts ends goes =
    let at_left = subst (λ (one : InProgress). RequestGoesOn one.context.run before one done) is goes in
    let at_asked = subst (λ (one : Asked). RequestGoesOn left.context.run one left done) same at_left in
    let at_run = subst (λ (r : ℕ). RequestGoesOn r asked left done) runs at_asked in
    record {
      stays = at_run.stays;
      further = further_as request left done counts ends at_run.further;
      fits = at_run.fits;
    }
