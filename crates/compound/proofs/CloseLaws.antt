-- CLOSE on a world is that on its file system and what is open.
use Rattle.std.proofs.Common.{◌≡◌, ◌∷◌, [], ◌++◌, ◌+◌, ℕ, List, length, arith, length-append, Bool, true, false, not, ◌&&◌, ◌==◌, ◌||◌, if◌then◌else◌, Option, Some, None, Result, Ok, Err, IfErr, nat_lt, refl, ap, subst, ◌∙◌}
use Rattle.fs.specs.FileSystem.{FileSystem}
use Rattle.fs.specs.Operations.{current_refusal}
use Rattle.model.specs.Operations.Context.{Context, has_current, current_number, without_stateid}
use Rattle.model_tree.specs.Trees.Keyed.{is_key}
use Rattle.model.specs.Operations.Open.{closed_by}
use Rattle.model.specs.Sessions.Opens.{Open, Opens}
use Rattle.model.specs.Operations.Operation.{Argument, CloseArguments, StateId}
use Rattle.model_tree.specs.Refusals.Refusal.{Refusals, first_refusal, refused_or}
use Rattle.model.specs.Sessions.StateIds.{Found, Anonymous, Refused, Names, found, by_meaning, by_open, by_seqid, is_anonymous, meant, open_named, close_refusals, closed_state, without_open}
use Rattle.model_tree.specs.Refusals.Status.{code_of}
use Rattle.model.specs.Operations.Step.{State, Stepped, does, effect, answered, refused, refusals, unless_refused, current}
use Rattle.xdr.specs.Forms as forms
use Rattle.xdr.specs.Forms.{fixed_opaque}
use Rattle.xdr.proofs.Numbers.{length-number_32}
use Rattle.model.specs.Operations.Answer.{Answer, Done}
use Rattle.model.specs.Server.World.{World, InProgress, run, stepped, state_of, outcome_text}
use Rattle.model_tree.specs.declared.limits.Limits.{Limits}
use Rattle.model_tree.specs.declared.status.Status.{Status}
use Rattle.model_tree.specs.declared.status.Status.TheVariants as status
use Rattle.wire.specs.Short.{IsRefusal}
use Rattle.compound.specs.Beside.{IsBeside, Closes, EndsOpen, closed_answer}
use Rattle.compound.specs.Runs.{with_rest}
use Rattle.compound.specs.Trees.{IsHere}

pub on_tree : (now : ℕ) (request : InProgress) (arguments : CloseArguments) (world : World) (rest : List ℕ) → run world (with_rest request rest) now (Argument.Close arguments)
    ≡ stepped world (with_rest request rest) (does world.limits.volume (state_of world (with_rest request rest)) now (Argument.Close arguments))
unfolding run
on_tree now request arguments world rest = refl

-- A stateid is refused with a status that is not OK

abbrev is_well : Found → Bool
is_well Anonymous = true
is_well (Refused reason) = not (code_of reason == 0)
is_well (Names serial known) = true

either : (test : Bool) (one other : Found) → is_well one ≡ true → is_well other ≡ true → is_well (if test then one else other) ≡ true
either true one other first second = first
either false one other first second = second

well_open : (context : Context) (state : StateId) (named : Option Open) → is_well (by_open context state named) ≡ true
well_open context state None = refl
well_open context state (Some known) =
    either (known.client == context.client && known.number == current_number context) (by_seqid state known) (Refused status.BadStateId)
    (either (state.seqid == 0 || state.seqid == known.seqid) _ _ refl
    (either (nat_lt state.seqid known.seqid) (Refused status.OldStateId) (Refused status.BadStateId) refl refl)) refl

well_meant : (opens : Opens) (context : Context) (state : Option StateId) → is_well (by_meaning opens context state) ≡ true
well_meant opens context None = refl
well_meant opens context (Some state) =
    either (is_anonymous state) Anonymous (by_open context state (open_named opens context.run state.other)) refl
    (well_open context state (open_named opens context.run state.other))

found_well : (opens : Opens) (context : Context) (state : StateId) → is_well (found opens context state) ≡ true
unfolding found
found_well opens context state = well_meant opens context (meant context state)

not_zero : (n : ℕ) → not (n == 0) ≡ true → n ≡ 0 → ⊥
not_zero n bad zero = never (subst (λ (k : ℕ). not (k == 0) ≡ true) zero bad)
  where
    never : not (0 == 0) ≡ true → ⊥
    never is = cc

bad_by : (meaning : Found) (reason : Status) → is_well meaning ≡ true → first_refusal (close_refusals meaning) ≡ Some reason → IsRefusal reason
bad_by Anonymous reason well is = subst IsBad is (λ zero. not_zero (code_of status.BadStateId) refl zero)
  where
    IsBad : Option Status → Type 0
    IsBad None = ⊥
    IsBad (Some one) = IsRefusal one
bad_by (Refused of) reason well is = subst IsBad is (λ zero. not_zero (code_of of) well zero)
  where
    IsBad : Option Status → Type 0
    IsBad None = ⊥
    IsBad (Some one) = IsRefusal one
bad_by (Names serial known) reason well is = absurd cc

pub close_bad : (opens : Opens) (context : Context) (state : StateId) (reason : Status)
    → first_refusal (close_refusals (found opens context state)) ≡ Some reason → IsRefusal reason
close_bad opens context state reason is = bad_by (found opens context state) reason (found_well opens context state) is

-- What it comes to

abbrev tests_of : (none gone : Bool) → Found → Refusals
tests_of none gone meaning =
    (((none, status.NoFileHandle) ∷ (gone, status.Stale) ∷ close_refusals meaning) ++ ((false, status.Access) ∷ (false, status.Access) ∷ []))
    ++ ((false, status.NoSpc) ∷ (false, status.ServerFault) ∷ [])

abbrev ended_by : State → Found → Argument → Option Status → Stepped
ended_by state meaning kind first = unless_refused state kind first
    (answered (record state { opens = closed_by meaning state.opens; context = without_stateid state.context }) closed_answer)

does_close : (limits : Limits) (state : State) (now : ℕ) (arguments : CloseArguments) (meaning : Found) → found state.opens state.context arguments.state ≡ meaning
    → does limits state now (Argument.Close arguments)
    ≡ ended_by state meaning (Argument.Close arguments) (first_refusal (tests_of (not (has_current state.context)) (not (is_key (current state) state.tree)) meaning))
unfolding does refusals effect
does_close limits state now arguments meaning is =
    ap (λ (m : Found). ended_by state m (Argument.Close arguments) (first_refusal (tests_of (not (has_current state.context)) (not (is_key (current state) state.tree)) m))) is

behind_some : (none gone : Bool) (meaning : Found) (reason : Status) → refused_or none status.NoFileHandle (refused_or gone status.Stale None) ≡ Some reason
    → first_refusal (tests_of none gone meaning) ≡ Some reason
behind_some true gone meaning reason is = is
behind_some false true meaning reason is = is
behind_some false false meaning reason is = absurd cc

behind_none : (none gone : Bool) (meaning : Found) → refused_or none status.NoFileHandle (refused_or gone status.Stale None) ≡ None
    → first_refusal (tests_of none gone meaning) ≡ first_refusal (close_refusals meaning)
behind_none true gone meaning is = absurd cc
behind_none false true meaning is = absurd cc
behind_none false false Anonymous is = refl
behind_none false false (Refused reason) is = refl
behind_none false false (Names serial known) is = refl

module _ (limits : Limits) (state : State) (now : ℕ) (arguments : CloseArguments) where
  -- the tests of the current filehandle refuse it
  pub refused_current : (reason : Status) → current_refusal state ≡ Some reason
      → does limits state now (Argument.Close arguments) ≡ refused state (Argument.Close arguments) reason
  refused_current reason is =
      let meaning = found state.opens state.context arguments.state in
      does_close limits state now arguments meaning refl
      ∙ ap (ended_by state meaning (Argument.Close arguments)) (behind_some (not (has_current state.context)) (not (is_key (current state) state.tree)) meaning reason is)

  -- the meaning of its stateid does
  pub refused_meaning : (reason : Status) → current_refusal state ≡ None
      → first_refusal (close_refusals (found state.opens state.context arguments.state)) ≡ Some reason
      → does limits state now (Argument.Close arguments) ≡ refused state (Argument.Close arguments) reason
  refused_meaning reason passed is =
      let meaning = found state.opens state.context arguments.state in
      does_close limits state now arguments meaning refl
      ∙ ap (ended_by state meaning (Argument.Close arguments))
      (behind_none (not (has_current state.context)) (not (is_key (current state) state.tree)) meaning passed ∙ is)

  -- nothing does
  pub ends : (serial : ℕ) (known : Open) → current_refusal state ≡ None
      → found state.opens state.context arguments.state ≡ Names serial known
      → does limits state now (Argument.Close arguments)
      ≡ answered (record state { opens = without_open serial state.opens; context = without_stateid state.context }) closed_answer
  ends serial known passed is =
      does_close limits state now arguments (Names serial known) is
      ∙ ap (ended_by state (Names serial known) (Argument.Close arguments))
      (behind_none (not (has_current state.context)) (not (is_key (current state) state.tree)) (Names serial known) passed)

-- of a request with these opens

module _ (fs : FileSystem) (opens : Opens) (request : InProgress) (state : State) (there : IsBeside fs opens request state) where
  pub found_beside : (stateid : StateId) → found state.opens state.context stateid ≡ found opens request.context stateid
  found_beside stateid =
      ap (λ (known : Opens). found known state.context stateid) there.opens_is
      ∙ ap (λ (context : Context). found opens context stateid) there.here.context_is

  pub ended_beside : (serial : ℕ)
      → answered (record state { opens = without_open serial state.opens; context = without_stateid state.context }) closed_answer
      ≡ answered (record { tree = fs.volume.tree; changes = fs.changes; opens = without_open serial opens; context = without_stateid request.context }) closed_answer
  ended_beside serial = rw (there.here.tree_is, there.here.changes_is, there.opens_is, there.here.context_is) refl

-- by what its stateid means

module _ (fs : FileSystem) (opens : Opens) (request : InProgress) (arguments : CloseArguments) where
  pub closes_by : (result : Result ℕ Status) → ((state : State) → IsHere fs request state → current_refusal state ≡ None)
      → EndsOpen (found opens request.context arguments.state) result → Closes fs opens request arguments result
  closes_by (Ok serial) passed is = λ state now there.
      ends fs.volume.limits state now arguments serial is.0 (passed state there.here) (found_beside fs opens request state there arguments.state ∙ is.1)
      ∙ ended_beside fs opens request state there serial
  closes_by (Err reason) passed is = λ state now there.
      refused_meaning fs.volume.limits state now arguments reason (passed state there.here)
      (ap (λ (meaning : Found). first_refusal (close_refusals meaning)) (found_beside fs opens request state there arguments.state) ∙ is)

  pub closes_bad : (result : Result ℕ Status) → EndsOpen (found opens request.context arguments.state) result → IfErr result IsRefusal
  closes_bad (Ok serial) is = tt
  closes_bad (Err reason) is = close_bad opens request.context arguments.state reason is

-- its answer is brief
text_length : (state : StateId) → length (outcome_text (Done (Answer.Close state))) ≡ 12 + length ((fixed_opaque 12).encoding state.other)
unfolding outcome_text
text_length state = simp (length-append, length-number_32) (omega arith)

pub closed_length : length (outcome_text (Done closed_answer)) ≡ 24
unfolding forms.padded
closed_length = text_length closed_state
