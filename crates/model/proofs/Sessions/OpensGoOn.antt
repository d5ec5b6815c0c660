-- What an operation makes of each open.
use Rattle.std.proofs.Common.{ℕ, Bool, true, false, ◌≡◌, ◌≢◌, ◌+◌, ◌⊎◌, ◌&&◌, ◌==◌, not, inl, inr, refl, sym, ap, ◌∙◌, subst, arith, filter, bytes_eq}
use Rattle.std.specs.Prelude.{Option, Some, None}
use Rattle.std.proofs.lemmas.Bool.{cases_eq, eqb-true, and_parts}
use Rattle.std.proofs.lemmas.Option.{same_Some}
use Rattle.model.specs.Operations.Answer.{Answer, Outcome, OpenAnswer}
use Rattle.model.specs.Operations.Context.{is_same_name}
use Rattle.model.specs.Operations.Files.{has_bytes}
use Rattle.model_tree.specs.Trees.Keyed.{Keyed, at, with, without}
use Rattle.model_tree.specs.declared.limits.Limits.{Limits}
use Rattle.model.specs.Operations.Open.{asked_open, closed_by}
use Rattle.model.specs.Sessions.Opens.{Opens, Open}
use Rattle.model.specs.Sessions.OpensLaws.{AreOpens}
use Rattle.model.specs.Operations.Operation.{Argument, OpenArguments, RenameArguments, NewDirectory, OtherType}
use Rattle.model.specs.Operations.SetAttr.{sets}
use Rattle.model.specs.Sessions.StateIds.{Found, Anonymous, Refused, Names, found, is_like, open_like, upgraded, opened, opened_by, without_number}
use Rattle.model.specs.Sessions.StateIdLaws.{IsAnswered, OpenAnswersNewest, EachOpenGoesOn, EveryOpenGoesOn, is_open, may_end_opens, IsJoined, HasEnded}
use Rattle.model.specs.Operations.Step.{State, Stepped, effect, rename, target_number}
use Rattle.model_tree.proofs.Trees.KeyedLaws.{at-with_same, at-with_other, at-without_same, at-without_other, some≢none}
use Rattle.model_tree.proofs.Trees.KeyedParts.{at-filter, find-at}
use Rattle.model.proofs.Sessions.OpensSteps.{set_opens, write_opens}
use Rattle.model.proofs.Operations.StepCases.{does_cases}

-- OPEN

module _ (limits : Limits) (state : State) (are : AreOpens limits state.tree state.opens) (asked : Open) where
  abbrev known : Keyed Open
  known = state.opens.known

  -- what is opened is there, and is the caller's
  stands : (joins : Option (ℕ × Open)) → at (opened_by state.opens asked joins).serial (opened_by state.opens asked joins).opens.known
      ≡ Some (opened_by state.opens asked joins).state
  stands (Some entry) = at-with_same known entry.0 (upgraded asked.access entry.1)
  stands None = at-with_same known (state.opens.given + 1) asked

  of_caller : (joins : Option (ℕ × Open)) → open_like state.opens asked ≡ joins → (opened_by state.opens asked joins).state.client ≡ asked.client
  of_caller None like = refl
  of_caller (Some entry) like =
      let is = (find-at (is_like asked) known 0 entry are.rising like).1 in
      eqb-true entry.1.client asked.client
      (and_parts (entry.1.client == asked.client) (bytes_eq entry.1.owner asked.owner && entry.1.number == asked.number) is).0

  joins_one : (operation : Argument) → is_open operation ≡ true → (joins : Option (ℕ × Open)) → open_like state.opens asked ≡ joins
      → EachOpenGoesOn operation state.opens (opened_by state.opens asked joins).opens
  joins_one operation opens (Some entry) like =
      let there = (find-at (is_like asked) known 0 entry are.rising like).0 in
      let now = upgraded asked.access entry.1 in
      record {
        each = λ serial of stood. elim (cases_eq serial entry.0) [
          | inl one ↦
              let same : entry.1 ≡ of = same_Some entry.1 of (sym there ∙ (ap (λ k. at k known) (sym one) ∙ stood)) in
              inr (inl (
                opens,
                (
                  asked.access,
                  ap (λ k. at k (with known entry.0 now)) one ∙ (at-with_same known entry.0 now ∙ ap (λ o. Some (upgraded asked.access o)) same),
                ),
              ))
          | inr apart ↦ inl (at-with_other known entry.0 serial now apart ∙ stood)
        ];
        ended = λ serial low none. elim (cases_eq serial entry.0) [
          | inl one ↦ absurd (some≢none entry.1 (sym there ∙ (ap (λ k. at k known) (sym one) ∙ none)))
          | inr apart ↦ at-with_other known entry.0 serial now apart ∙ none
        ];
      }
  joins_one operation opens None like =
      let next = state.opens.given + 1 in
      record {
        each = λ serial of stood.
            let low = are.given serial of stood in
            let apart : serial ≢ next = omega arith in
            inl (at-with_other known next serial asked apart ∙ stood);
        ended = λ serial low none.
            let apart : serial ≢ next = omega arith in
            at-with_other known next serial asked apart ∙ none;
      }

-- Those that stay, and those of which some end

goes_same : (operation : Argument) (old new : Opens) → new ≡ old → EachOpenGoesOn operation old new
goes_same operation old new same = record {
  each = λ serial of stood. inl (ap (λ (o : Opens). at serial o.known) same ∙ stood);
  ended = λ serial low none. ap (λ (o : Opens). at serial o.known) same ∙ none;
}

ends_one : (operation : Argument) (opens : Opens) (serial : ℕ) → may_end_opens operation ≡ true
    → EachOpenGoesOn operation opens (record opens { known = without opens.known serial })
ends_one operation opens serial ends = record {
  each = λ other of stood. elim (cases_eq other serial) [
    | inl one ↦ inr (inr (ends, ap (λ k. at k (without opens.known serial)) one ∙ at-without_same opens.known serial))
    | inr apart ↦ inl (at-without_other opens.known serial other apart ∙ stood)
  ];
  ended = λ other low none. elim (cases_eq other serial) [
    | inl one ↦ ap (λ k. at k (without opens.known serial)) one ∙ at-without_same opens.known serial
    | inr apart ↦ at-without_other opens.known serial other apart ∙ none
  ];
}

closes : (operation : Argument) (opens : Opens) (of : Found) → may_end_opens operation ≡ true → EachOpenGoesOn operation opens (closed_by of opens)
closes operation opens Anonymous ends = goes_same operation opens opens refl
closes operation opens (Refused reason) ends = goes_same operation opens opens refl
closes operation opens (Names serial known) ends = ends_one operation opens serial ends

ends_file : (limits : Limits) (state : State) (are : AreOpens limits state.tree state.opens) (operation : Argument) (number : ℕ)
    → may_end_opens operation ≡ true → EachOpenGoesOn operation state.opens (without_number number state.opens)
ends_file limits state are operation number ends = record {
  each = λ serial of stood. left serial of stood (at serial (filter keeps known)) refl;
  ended = λ serial low none. gone serial none (at serial (filter keeps known)) refl;
}
  where
    known : Keyed Open
    known = state.opens.known

    keeps : ℕ × Open → Bool
    keeps entry = not (entry.1.number == number)

    left : (serial : ℕ) (of : Open) → at serial state.opens.known ≡ Some of → (o : Option Open) → at serial (filter keeps state.opens.known) ≡ o
        → (at serial (filter keeps state.opens.known) ≡ Some of)
        ⊎ (IsJoined operation of (at serial (filter keeps state.opens.known)) ⊎ HasEnded operation (at serial (filter keeps state.opens.known)))
    left serial of stood None is = inr (inr (ends, is))
    left serial of stood (Some other) is =
        let was = (at-filter keeps state.opens.known 0 serial other are.rising is).0 in
        inl (is ∙ (sym was ∙ stood))

    gone : (serial : ℕ) → at serial state.opens.known ≡ None → (o : Option Open) → at serial (filter keeps state.opens.known) ≡ o
        → at serial (filter keeps state.opens.known) ≡ None
    gone serial none None is = is
    gone serial none (Some other) is =
        absurd (some≢none other (sym (at-filter keeps state.opens.known 0 serial other are.rising is).0 ∙ none))

-- Each operation

renames : (limits : Limits) (state : State) (now : ℕ) (arguments : RenameArguments) (same : Bool) → AreOpens limits state.tree state.opens
    → EachOpenGoesOn (Argument.Rename arguments) state.opens (rename same state now arguments).state.opens
renames limits state now arguments true are = goes_same (Argument.Rename arguments) state.opens state.opens refl
renames limits state now arguments false are =
    ends_file limits state are (Argument.Rename arguments) (target_number state arguments) refl

effect_goes : (limits : Limits) (state : State) (now : ℕ) (operation : Argument) → AreOpens limits state.tree state.opens
    → EachOpenGoesOn operation state.opens (effect limits state now operation).state.opens
unfolding effect opened
effect_goes limits state now (Argument.Open arguments) are =
    let asked = asked_open state arguments in
    joins_one limits state are asked (Argument.Open arguments) refl (open_like state.opens asked) refl
effect_goes limits state now (Argument.Close arguments) are =
    closes (Argument.Close arguments) state.opens (found state.opens state.context arguments.state) refl
effect_goes limits state now (Argument.Remove name) are = ends_file limits state are (Argument.Remove name) _ refl
effect_goes limits state now (Argument.Rename arguments) are =
    renames limits state now arguments (is_same_name state.context arguments) are
effect_goes limits state now (Argument.SetAttr arguments) are =
    goes_same (Argument.SetAttr arguments) state.opens _ (set_opens (sets arguments) state now arguments)
effect_goes limits state now (Argument.Write arguments) are =
    goes_same (Argument.Write arguments) state.opens _ (write_opens (has_bytes arguments) limits state now arguments)
effect_goes limits state now (Argument.Create (NewDirectory name given)) are =
    goes_same (Argument.Create (NewDirectory name given)) state.opens state.opens refl
effect_goes limits state now (Argument.Create (OtherType number)) are =
    goes_same (Argument.Create (OtherType number)) state.opens state.opens refl
effect_goes limits state now operation are = goes_same operation state.opens state.opens refl

pub every_open_goes : EveryOpenGoesOn
every_open_goes limits state now operation are = elim (does_cases limits state now operation) [
  | inl went ↦ subst (λ (s : Stepped). EachOpenGoesOn operation state.opens s.state.opens) (sym went.1) (effect_goes limits state now operation are)
  | inr not_gone ↦ subst (λ (s : Stepped). EachOpenGoesOn operation state.opens s.state.opens) (sym not_gone.1) (goes_same operation state.opens state.opens refl)
]

effect_answers : (limits : Limits) (state : State) (now : ℕ) (arguments : OpenArguments) (answer : OpenAnswer) → AreOpens limits state.tree state.opens
    → (effect limits state now (Argument.Open arguments)).outcome ≡ Outcome.Done (Answer.Open answer)
    → IsAnswered answer (effect limits state now (Argument.Open arguments)).state
unfolding effect opened
effect_answers limits state now arguments answer are told =
    let asked = asked_open state arguments in
    let joins = open_like state.opens asked in
    let now' = opened_by state.opens asked joins in
    record {
      serial = now'.serial;
      known = now'.state;
      state = ap (λ (a : OpenAnswer). a.state) (sym (answer_is _ answer told));
      there = stands limits state are asked joins;
      own = record { client = of_caller limits state are asked joins refl; file = refl };
    }
  where
    answer_is : (x y : OpenAnswer) → Outcome.Done (Answer.Open x) ≡ Outcome.Done (Answer.Open y) → x ≡ y
    answer_is x y same = cc

pub open_answers : OpenAnswersNewest
open_answers limits state now arguments answer are told = elim (does_cases limits state now (Argument.Open arguments)) [
  | inl went ↦ subst (λ (s : Stepped). IsAnswered answer s.state) (sym went.1)
      (effect_answers limits state now arguments answer are (ap (λ (s : Stepped). s.outcome) (sym went.1) ∙ told))
  | inr not_gone ↦ absurd (not_done _ _ answer (ap (λ (s : Stepped). s.outcome) (sym not_gone.1) ∙ told))
]
  where
    not_done : (operation : ℕ) (reason : _) (answer : OpenAnswer) → Outcome.Refused operation reason ≡ Outcome.Done (Answer.Open answer) → ⊥
    not_done operation reason answer same = cc
