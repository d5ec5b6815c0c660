-- Each refusal by the meaning of a stateid has a status that is not OK.
use Rattle.std.proofs.Common.{◌≡◌, ℕ, ◌==◌, ◌&&◌, ◌||◌, Bool, true, false, if◌then◌else◌, nat_lt, Option, Some, None, refl}
use Rattle.model.specs.Operations.Context.{Context, current_number}
use Rattle.model.specs.Operations.Operation.{StateId}
use Rattle.model.specs.Sessions.Opens.{Open, Opens}
use Rattle.model.specs.Sessions.StateIds.{Found, found, access_refusals, by_meaning, by_open, by_seqid, is_anonymous, meant, open_named, state_refusals}
use Rattle.compound.proofs.Trees.{all_bad}

module _ (access : ℕ) where
  abbrev Refuses : Found → Type 0
  Refuses verdict = all_bad (access_refusals access verdict) ≡ true

  either : (test : Bool) (one other : Found) → Refuses one → Refuses other → Refuses (if test then one else other)
  either true one other first second = first
  either false one other first second = second

  seqid_bad : (state : StateId) (known : Open) → Refuses (by_seqid state known)
  seqid_bad state known = either (state.seqid == 0 || state.seqid == known.seqid) _ _ refl (either (nat_lt state.seqid known.seqid) _ _ refl refl)

  open_bad : (context : Context) (state : StateId) (known : Option Open) → Refuses (by_open context state known)
  open_bad context state None = refl
  open_bad context state (Some known) =
      either (known.client == context.client && known.number == current_number context) _ _ (seqid_bad state known) refl

  meaning_bad : (opens : Opens) (context : Context) (state : Option StateId) → Refuses (by_meaning opens context state)
  meaning_bad opens context None = refl
  meaning_bad opens context (Some state) =
      either (is_anonymous state) _ _ refl (open_bad context state (open_named opens context.run state.other))

  pub verdict_bad : (opens : Opens) (context : Context) (state : StateId) → all_bad (state_refusals opens context access state) ≡ true
  unfolding found
  verdict_bad opens context state = meaning_bad opens context (meant context state)
