-- Which verdicts stateids get, and a state in which each of them occurs.
use Rattle.std.proofs.Common.{◌≡◌, ◌≤◌, ◌<◌, ◌^◌, ◌-◌, ◌⊎◌, ◌==◌, ◌&&◌, ◌||◌, ℕ, Bool, true, false, [], ◌∷◌, Option, Some, None, Result, Ok, Err, if◌then◌else◌, nat_lt, refl, sym, ap, ◌∙◌, arith, inl, inr, subst}
use Rattle.std.specs.Prelude.{bit_and, not}
use Rattle.std.proofs.lemmas.Bool.{cases_eq}
use Rattle.std.proofs.lemmas.Option.{same_Some}
use Rattle.model_tree.specs.declared.acl.Cred.{Cred}
use Rattle.model_tree.specs.declared.status.Status.{Status}
use Rattle.model_tree.specs.declared.status.Status.TheVariants as status
use Rattle.model.specs.Operations.Context.{Context, current_number}
use Rattle.model_tree.specs.Trees.Keyed.{at}
use Rattle.model.specs.Sessions.Opens.{Open, Opens, no_opens}
use Rattle.model.specs.Sessions.OpensLaws.{AreOpens}
use Rattle.model.specs.Operations.Operation.{StateId}
use Rattle.model_tree.specs.Refusals.Refusal.{first_refusal, refused_or}
use Rattle.model.specs.Operations.State.{State}
use Rattle.model.specs.Sessions.StateIdLaws.{IsOwn, OpenStands}
use Rattle.model.specs.Sessions.StateIds.{Found, Anonymous, Refused, Names, access_refusals, by_meaning, by_open, by_seqid, found, is_anonymous, meant, open_named, open_stateid, write_access, zeros}
use Rattle.model_tree.proofs.Trees.KeyedLaws.{at-first, at-rest, some≢none}
use Rattle.model.proofs.Sessions.StateIdLaws.{lower, newest}
use Rattle.wire_attributes.specs.Given.{given_of}
use Rattle.fs.specs.FileSystem.{FileSystem}
use Rattle.fs.specs.Operations.{IsOn}
use Rattle.fs.specs.Verdicts.{EachIsGot, EachSettingIsMeant, EachWriteIsMeant, Gets, IsFileAt, IsPossible, IsUsed, OnlyPossible}

-- What a stateid means is refused as bad or as old

abbrev Low : Found → Type 0
Low Anonymous = Unit {0}
Low (Refused reason) = (reason ≡ status.BadStateId) ⊎ (reason ≡ status.OldStateId)
Low (Names serial known) = Unit {0}

either : (test : Bool) (one other : Found) → Low one → Low other → Low (if test then one else other)
either true one other first second = first
either false one other first second = second

low_seqid : (state : StateId) (known : Open) → Low (by_seqid state known)
low_seqid state known = either (state.seqid == 0 || state.seqid == known.seqid) _ _ tt (either (nat_lt state.seqid known.seqid) _ _ (inr refl) (inl refl))

low_open : (context : Context) (state : StateId) (known : Option Open) → Low (by_open context state known)
low_open context state None = inl refl
low_open context state (Some known) = either (known.client == context.client && known.number == current_number context) _ _ (low_seqid state known) (inl refl)

low_meaning : (opens : Opens) (context : Context) (state : Option StateId) → Low (by_meaning opens context state)
low_meaning opens context None = inl refl
low_meaning opens context (Some state) = either (is_anonymous state) _ _ tt (low_open context state (open_named opens context.run state.other))

low_found : (opens : Opens) (context : Context) (state : StateId) → Low (found opens context state)
unfolding found
low_found opens context state = low_meaning opens context (meant context state)

-- and one that names an open without the access as OPENMODE

of_mode : (lacks : Bool) (reason : Status) → refused_or lacks status.OpenMode None ≡ Some reason → IsPossible (Err reason)
of_mode true reason is = inr (inr (sym (same_Some status.OpenMode reason is)))
of_mode false reason is = absurd (some≢none reason (sym is))

of_refused : (told reason : Status) → (told ≡ status.BadStateId) ⊎ (told ≡ status.OldStateId) → told ≡ reason → IsPossible (Err reason)
of_refused told reason (inl bad) same = inl (sym same ∙ bad)
of_refused told reason (inr old) same = inr (inl (sym same ∙ old))

of_found : (access : ℕ) (verdict : Found) (reason : Status) → Low verdict → first_refusal (access_refusals access verdict) ≡ Some reason → IsPossible (Err reason)
of_found access Anonymous reason low is = absurd (some≢none reason (sym is))
of_found access (Refused told) reason low is = of_refused told reason low (same_Some told reason is)
of_found access (Names serial known) reason low is = of_mode (bit_and known.access access == 0) reason is

pub only_possible : OnlyPossible
only_possible state access stateid (Ok done) is = tt
only_possible state access stateid (Err reason) is =
    of_found access (found state.opens state.context stateid) reason (low_found state.opens state.context stateid) is

-- A state in which it occurs

module _ (fs : FileSystem) (cred : Cred) (number access : ℕ) where
  abbrev context : Context
  context = record { cred = cred; client = 1; run = fs.volume.run; current = Some (record { number = number; state = None }); saved = None }

  abbrev state_with : Opens → State
  state_with opens = record { tree = fs.volume.tree; changes = fs.changes; opens = opens; context = context }

  on : (opens : Opens) → IsOn fs cred number (state_with opens)
  on opens = record {
    is_state = record { tree_is = refl; cred_is = refl; has_current = refl; current_is = refl };
    run = refl;
    changes = refl;
  }

  abbrev Got : Result (Unit {0}) Status → Type 0
  Got verdict = (state : State) × (stateid : StateId) × Gets fs cred number access verdict state stateid

  -- without opens

  none_open : IsFileAt fs.volume.tree number → 1 ≤ fs.volume.limits.opens → AreOpens fs.volume.limits fs.volume.tree no_opens
  none_open file some = record {
    rising = tt;
    given = λ serial known there. absurd (some≢none known (sym there));
    nodes = λ serial known there. absurd (some≢none known (sym there));
    files = λ serial known there. absurd (some≢none known (sym there));
    few = omega arith;
  }

  got_ok : Got (Ok tt)
  unfolding found
  got_ok = (state_with no_opens, record { seqid = 0; other = zeros }, record { on = on no_opens; verdict_is = refl; opens = none_open })

  got_bad : Got (Err status.BadStateId)
  unfolding found
  got_bad = (state_with no_opens, record { seqid = 1; other = zeros }, record { on = on no_opens; verdict_is = refl; opens = none_open })

  -- with one of the client's on the node, for the other access, which was joined once

  abbrev known : Open
  known = record { client = 1; owner = []; number = number; access = 3 - access; seqid = 2 }

  abbrev one : Opens
  one = record { given = 1; known = (1, known) ∷ [] }

  only_one : (serial : ℕ) (other : Open) → at serial one.known ≡ Some other → (serial ≡ 1) × (known ≡ other)
  only_one serial other there = elim (cases_eq serial 1) [
    | inl same ↦ (same, same_Some known other (sym (at-first 1 serial known [] same) ∙ there))
    | inr apart ↦ absurd (some≢none other (sym there ∙ at-rest 1 serial known [] apart))
  ]

  one_open : IsFileAt fs.volume.tree number → 1 ≤ fs.volume.limits.opens → AreOpens fs.volume.limits fs.volume.tree one
  one_open file some = record {
    rising = (omega arith, tt);
    given = λ serial other there. omega (arith, (only_one serial other there).0);
    nodes = λ serial other there. rw (← (only_one serial other there).1) file.there;
    files = λ serial other there. rw (← (only_one serial other there).1) file.is_file;
    few = some;
  }

  module _ (counted : fs.volume.run < 2 ^ 32) where
    stands : OpenStands one context 1 known
    stands = record { given = record { counted = counted; some = omega arith; small = omega arith }; there = refl }

    own : IsOwn context known
    own = record { client = refl; file = refl }

    got_old : Got (Err status.OldStateId)
    got_old = (
      state_with one,
      open_stateid fs.volume.run 1 1,
      record {
        on = on one;
        verdict_is = ap (λ (it : Found). first_refusal (access_refusals access it)) (lower one context 1 known stands own 1 (omega arith) (omega arith));
        opens = one_open;
      },
    )

    no_access : IsUsed access → (bit_and (3 - access) access == 0) ≡ true
    no_access (inl reads) = rw reads refl
    no_access (inr writes) = rw writes refl

    got_mode : IsUsed access → Got (Err status.OpenMode)
    got_mode used = (
      state_with one,
      open_stateid fs.volume.run 1 2,
      record {
        on = on one;
        verdict_is = ap (λ (it : Found). first_refusal (access_refusals access it)) (newest one context 1 known stands own)
            ∙ ap (λ (lacks : Bool). refused_or lacks status.OpenMode None) (no_access used);
        opens = one_open;
      },
    )

    pub got : (verdict : Result (Unit {0}) Status) → IsUsed access → IsPossible verdict → Got verdict
    got (Ok done) used possible = got_ok
    got (Err reason) used (inl bad) = subst (λ (r : Status). Got (Err r)) (sym bad) got_bad
    got (Err reason) used (inr (inl old)) = subst (λ (r : Status). Got (Err r)) (sym old) got_old
    got (Err reason) used (inr (inr mode)) = subst (λ (r : Status). Got (Err r)) (sym mode) (got_mode used)

pub each_is_got : EachIsGot
each_is_got fs cred number access verdict counted used possible = got fs cred number access counted verdict used possible

-- The operations

-- UNSTABLE4 or FILE_SYNC4
stable_of : (is_stable : Bool) → (n : ℕ) × ((n == 0) ≡ not is_stable)
stable_of true = (2, refl)
stable_of false = (0, refl)

pub each_write_is_meant : EachWriteIsMeant
each_write_is_meant fs cred number verdict asked counted possible =
    let it = got fs cred number write_access counted verdict (inr refl) possible in
    let stable = stable_of asked.is_stable in (
      it.0,
      record { state = it.1; offset = asked.offset; stable = stable.0; data_bytes = asked.bytes.now },
      it.2.on,
      record {
        verdict_is = it.2.verdict_is;
        offset_is = refl;
        bytes_are = refl;
        stable_is = stable.1;
      },
    )

pub each_setting_is_meant : EachSettingIsMeant
each_setting_is_meant fs cred asked counted possible =
    let it = got fs cred asked.number write_access counted asked.verdict (inr refl) possible in
    (it.0, record { state = it.1; attributes = given_of asked.attributes }, it.2.on, record { verdict_is = it.2.verdict_is; attributes_are = refl })
