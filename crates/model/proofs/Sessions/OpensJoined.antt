-- What an operation makes of each open of a run: it stays, an OPEN joins it, or it ends.
use Rattle.std.proofs.Common.{ℕ, Bool, true, false, List, ◌++◌, ◌≡◌, ◌≢◌, ◌+◌, ◌-◌, ◌^◌, ◌<◌, ◌≤◌, ◌⊎◌, ◌&&◌, ◌||◌, ◌==◌, if◌then◌else◌, inl, inr, refl, sym, ap, ◌∙◌, subst, arith, length, filter, drop, bytes_eq, eq-eqb}
use Rattle.std.specs.Prelude.{Option, Some, None, option_to_list, is_none, nat_le}
use Rattle.std.specs.Int.{w32, w64, to_be_bytes, from_be_bytes}
use Rattle.std.proofs.lemmas.Bool.{true≢false, cases_eq, and_from, or_parts, leb-false, false_from_ne_true}
use Rattle.std.proofs.lemmas.Nat.{from_be_bytes-to_be_bytes_8}
use Rattle.std.proofs.lemmas.Slice.Eq.{bytes_eq-Decides}
use Rattle.std.proofs.lemmas.Option.{same_Some}
use Rattle.model_tree.specs.declared.status.Status.{Status}
use Rattle.model_tree.specs.declared.status.Status.TheVariants as status
use Rattle.model.specs.Operations.Answer.{Answer, Outcome, OpenAnswer}
use Rattle.model.specs.Operations.Context.{is_same_name}
use Rattle.model.specs.Operations.Files.{has_bytes}
use Rattle.model_tree.specs.Trees.Keyed.{at, without, IsAbove}
use Rattle.model_tree.specs.declared.limits.Limits.{Limits}
use Rattle.model.specs.Operations.Open.{asked_open, closed_by}
use Rattle.model.specs.Sessions.Opens.{Opens, Open}
use Rattle.model.specs.Operations.Operation.{Argument, OpenArguments, RenameArguments, NewDirectory, OtherType, StateId}
use Rattle.model.specs.Server.Runs.{is_done}
use Rattle.model.specs.Operations.SetAttr.{sets}
use Rattle.model.specs.Sessions.StateIds.{Found, Anonymous, Names, found, is_like, open_like, upgraded, next_seqid, opened, opened_by, Opened, is_table_full, open_stateid}
use Rattle.model.specs.Sessions.StateIdLaws.{IsGiven, is_open}
use Rattle.model.specs.Sessions.StateIdRuns.{IsOpenOf, access_by, joined_by}
use Rattle.model.specs.Operations.Step.{State, Stepped, effect, rename, does, refused}
use Rattle.model_tree.proofs.Trees.KeyedLaws.{at-above, at-with_same, at-with_other, at-without_same, at-without_other, IsAbove-with, IsAbove-without, some≢none}
use Rattle.model_tree.proofs.Trees.KeyedParts.{IsAbove-filter, at-filter, find-at}
use Rattle.model.proofs.Sessions.OpensSteps.{set_opens, write_opens}
use Rattle.model.proofs.Operations.StepCases.{does_cases}
use Rattle.model.proofs.Operations.RefusalLaws.{none_earlier}

-- The serials of a run

pub record AreCounted (opens : Opens) : Type 0 where
  pub rising : IsAbove 0 opens.known
  pub given : (serial : ℕ) (known : Open) → at serial opens.known ≡ Some known → serial ≤ opens.given
  pub small : opens.given < 2 ^ 64

is_given : (run : ℕ) (opens : Opens) → AreCounted opens → run < 2 ^ 32 → (serial : ℕ) (known : Open) → at serial opens.known ≡ Some known → IsGiven run serial
is_given run opens are counted serial known there =
    let low : 0 < serial = at-above opens.known 0 serial known are.rising there in
    let most = are.given serial known there in
    let small = are.small in
    record { counted = counted; some = low; small = omega arith }

-- Opens of which some end

pub record Fewer (old new : Opens) : Type 0 where
  pub rising : IsAbove 0 new.known
  pub each : (serial : ℕ) (known : Open) → at serial old.known ≡ Some known → (at serial new.known ≡ Some known) ⊎ (at serial new.known ≡ None)
  pub gone : (serial : ℕ) → at serial old.known ≡ None → at serial new.known ≡ None
  pub given : new.given ≡ old.given

fewer_counted : (old new : Opens) → AreCounted old → Fewer old new → AreCounted new
fewer_counted old new are fewer = record {
  rising = fewer.rising;
  given = λ serial known there. let same = fewer.given in let low = before serial known there (at serial old.known) refl in omega arith;
  small = let same = fewer.given in let small = are.small in omega arith;
}
  where
    before : (serial : ℕ) (known : Open) → at serial new.known ≡ Some known → (o : Option Open) → at serial old.known ≡ o → serial ≤ old.given
    before serial known there None was = absurd (some≢none known (sym there ∙ fewer.gone serial was))
    before serial known there (Some other) was = are.given serial other was

pub fewer_same : (old new : Opens) → AreCounted old → new ≡ old → Fewer old new
fewer_same old new are same = record {
  rising = subst (λ (o : Opens). IsAbove 0 o.known) (sym same) are.rising;
  each = λ serial known there. inl (ap (λ (o : Opens). at serial o.known) same ∙ there);
  gone = λ serial none. ap (λ (o : Opens). at serial o.known) same ∙ none;
  given = ap (λ (o : Opens). o.given) same;
}

fewer_without : (old : Opens) (serial : ℕ) → AreCounted old → Fewer old (record old { known = without old.known serial })
fewer_without old serial are = record {
  rising = IsAbove-without old.known serial 0 are.rising;
  each = λ other known there. elim (cases_eq other serial) [
    | inl one ↦ inr (ap (λ k. at k (without old.known serial)) one ∙ at-without_same old.known serial)
    | inr apart ↦ inl (at-without_other old.known serial other apart ∙ there)
  ];
  gone = λ other none. elim (cases_eq other serial) [
    | inl one ↦ ap (λ k. at k (without old.known serial)) one ∙ at-without_same old.known serial
    | inr apart ↦ at-without_other old.known serial other apart ∙ none
  ];
  given = refl;
}

pub fewer_filter : (old : Opens) (keeps : ℕ × Open → Bool) → AreCounted old → Fewer old (record old { known = filter keeps old.known })
fewer_filter old keeps are = record {
  rising = IsAbove-filter keeps old.known 0 are.rising;
  each = λ serial known there. left serial known there (at serial (filter keeps old.known)) refl;
  gone = λ serial none. stays serial none (at serial (filter keeps old.known)) refl;
  given = refl;
}
  where
    left : (serial : ℕ) (known : Open) → at serial old.known ≡ Some known → (o : Option Open) → at serial (filter keeps old.known) ≡ o
        → (at serial (filter keeps old.known) ≡ Some known) ⊎ (at serial (filter keeps old.known) ≡ None)
    left serial known there None is = inr is
    left serial known there (Some other) is = inl (is ∙ (sym (at-filter keeps old.known 0 serial other are.rising is).0 ∙ there))

    stays : (serial : ℕ) → at serial old.known ≡ None → (o : Option Open) → at serial (filter keeps old.known) ≡ o → at serial (filter keeps old.known) ≡ None
    stays serial none None is = is
    stays serial none (Some other) is = absurd (some≢none other (sym (at-filter keeps old.known 0 serial other are.rising is).0 ∙ none))

closes : (old : Opens) → AreCounted old → (of : Found) → Fewer old (closed_by of old)
closes old are Anonymous = fewer_same old old are refl
closes old are (Found.Refused reason) = fewer_same old old are refl
closes old are (Names serial known) = fewer_without old serial are

renames : (state : State) (now : ℕ) (arguments : RenameArguments) (same : Bool) → AreCounted state.opens
    → Fewer state.opens (rename same state now arguments).state.opens
renames state now arguments true are = fewer_same state.opens state.opens are refl
renames state now arguments false are = fewer_filter state.opens _ are

effect_fewer : (limits : Limits) (state : State) (now : ℕ) (operation : Argument) → is_open operation ≡ false → AreCounted state.opens
    → Fewer state.opens (effect limits state now operation).state.opens
unfolding effect
effect_fewer limits state now (Argument.Open arguments) other are = absurd (true≢false other)
effect_fewer limits state now (Argument.Close arguments) other are = closes state.opens are (found state.opens state.context arguments.state)
effect_fewer limits state now (Argument.Remove name) other are = fewer_filter state.opens _ are
effect_fewer limits state now (Argument.Rename arguments) other are = renames state now arguments (is_same_name state.context arguments) are
effect_fewer limits state now (Argument.SetAttr arguments) other are = fewer_same state.opens _ are (set_opens (sets arguments) state now arguments)
effect_fewer limits state now (Argument.Write arguments) other are = fewer_same state.opens _ are (write_opens (has_bytes arguments) limits state now arguments)
effect_fewer limits state now (Argument.Create (NewDirectory name given)) other are = fewer_same state.opens state.opens are refl
effect_fewer limits state now (Argument.Create (OtherType number)) other are = fewer_same state.opens state.opens are refl
effect_fewer limits state now operation other are = fewer_same state.opens state.opens are refl

-- What an operation makes of each open

abbrev pub other_of : (run serial : ℕ) → List ℕ
other_of run serial = to_be_bytes w32 run ++ to_be_bytes w64 serial

-- an open that was opened is there, with the stateid that was returned
pub record IsOpened (run : ℕ) (asked : Open) (state : StateId) (new : Opens) : Type 0 where
  pub serial : ℕ
  pub known : Open
  pub is : IsOpenOf run asked state serial known
  pub there : at serial new.known ≡ Some known

pub record Goes (run : ℕ) (state : State) (operation : Argument) (outcome : Outcome) (new : Opens) : Type 0 where
  pub each : (serial : ℕ) (known : Open) → at serial state.opens.known ≡ Some known
      → (at serial new.known ≡ Some (joined_by (option_to_list (access_by (other_of run serial) outcome operation)) known))
      ⊎ (at serial new.known ≡ None)
  pub gone : (serial : ℕ) → serial ≤ state.opens.given → at serial state.opens.known ≡ None → at serial new.known ≡ None
  pub counts : state.opens.given ≤ new.given
  pub counted : AreCounted new
  pub answers : (arguments : OpenArguments) (answer : OpenAnswer) → operation ≡ Argument.Open arguments → outcome ≡ Outcome.Done (Answer.Open answer)
      → IsOpened run (asked_open state arguments) answer.state new

-- it opens nothing: it is another operation, or it is refused
abbrev pub OpensNone : Argument → Outcome → Type 0
OpensNone operation outcome = (is_open operation ≡ false) ⊎ (is_done outcome ≡ false)

no_access : (other : List ℕ) (outcome : Outcome) (operation : Argument) → OpensNone operation outcome → access_by other outcome operation ≡ None
no_access other (Outcome.Refused number reason) operation none = refl
no_access other (Outcome.Done (Answer.Open answer)) (Argument.Open arguments) (inl none) = absurd (true≢false none)
no_access other (Outcome.Done (Answer.Open answer)) (Argument.Open arguments) (inr none) = absurd (true≢false none)
no_access other (Outcome.Done (Answer.Open answer)) operation none = refl
no_access other (Outcome.Done answer) operation none = refl

pub fewer_goes : (run : ℕ) (state : State) (operation : Argument) (outcome : Outcome) (new : Opens) → AreCounted state.opens → OpensNone operation outcome
    → Fewer state.opens new → Goes run state operation outcome new
fewer_goes run state operation outcome new are none fewer = record {
  each = λ serial known there.
      subst (λ (o : Option ℕ). (at serial new.known ≡ Some (joined_by (option_to_list o) known)) ⊎ (at serial new.known ≡ None))
      (sym (no_access (other_of run serial) outcome operation none)) (fewer.each serial known there);
  gone = λ serial low was. fewer.gone serial was;
  counts = let same = fewer.given in omega arith;
  counted = fewer_counted state.opens new are fewer;
  answers = λ arguments answer opens told. absurd (opened_none arguments answer opens told none);
}
  where
    opened_none : (arguments : OpenArguments) (answer : OpenAnswer) → operation ≡ Argument.Open arguments → outcome ≡ Outcome.Done (Answer.Open answer)
        → OpensNone operation outcome → ⊥
    opened_none arguments answer opens told (inl other) = true≢false (sym (ap is_open opens) ∙ other)
    opened_none arguments answer opens told (inr refused) = true≢false (sym (ap is_done told) ∙ refused)

-- OPEN

-- a serial is read back from the bytes
same_serial : (run serial other : ℕ) → IsGiven run serial → IsGiven run other → other_of run serial ≡ other_of run other → serial ≡ other
same_serial run serial other given too same =
    sym (from_be_bytes-to_be_bytes_8 serial given.small) ∙ (ap (from_be_bytes w64) (ap (drop 4) same) ∙ from_be_bytes-to_be_bytes_8 other too.small)

module _ (most : ℕ) (opens : Opens) (are : AreCounted opens) (asked : Open) (fresh : asked.seqid ≡ 1) where
  abbrev behind_open : Option (ℕ × Open) → Opened
  behind_open joins = opened_by opens asked joins

  opened_there : (joins : Option (ℕ × Open)) → at (behind_open joins).serial (behind_open joins).opens.known ≡ Some (behind_open joins).state
  opened_there (Some entry) = at-with_same opens.known entry.0 (upgraded asked.access entry.1)
  opened_there None = at-with_same opens.known (opens.given + 1) asked

  opened_like : (joins : Option (ℕ × Open)) → open_like opens asked ≡ joins → is_like asked ((behind_open joins).serial, (behind_open joins).state) ≡ true
  opened_like (Some entry) like = (find-at (is_like asked) opens.known 0 entry are.rising like).1
  opened_like None like =
      and_from (asked.client == asked.client) (bytes_eq asked.owner asked.owner && asked.number == asked.number) (eq-eqb asked.client asked.client refl)
      (and_from (bytes_eq asked.owner asked.owner) (asked.number == asked.number) ((bytes_eq-Decides asked.owner asked.owner).1 refl)
      (eq-eqb asked.number asked.number refl))

  next_some : (seqid : ℕ) → 0 < next_seqid seqid
  next_some seqid = by_test (seqid == 2 ^ 32 - 1)
    where
      by_test : (b : Bool) → 0 < (if b then 1 else seqid + 1)
      by_test true = omega arith
      by_test false = omega arith

  opened_seqid : (joins : Option (ℕ × Open)) → 0 < (behind_open joins).state.seqid
  opened_seqid (Some entry) = next_some entry.1.seqid
  opened_seqid None = omega (arith, fresh)

  opened_counted : (joins : Option (ℕ × Open)) → open_like opens asked ≡ joins → is_table_full most opens asked ≡ false → AreCounted (behind_open joins).opens
  opened_counted (Some entry) like room =
      let there = (find-at (is_like asked) opens.known 0 entry are.rising like).0 in
      let now = upgraded asked.access entry.1 in
      record {
        rising = IsAbove-with opens.known entry.0 0 now are.rising (at-above opens.known 0 entry.0 entry.1 are.rising there);
        given = λ serial known stands. elim (cases_eq serial entry.0) [
          | inl one ↦ let low = are.given entry.0 entry.1 there in omega (arith, one, low)
          | inr apart ↦ are.given serial known (sym (at-with_other opens.known entry.0 serial now apart) ∙ stands)
        ];
        small = are.small;
      }
  opened_counted None like room =
      let next = opens.given + 1 in
      let full : (nat_le most (length opens.known) || nat_le (2 ^ 64 - 1) opens.given) ≡ false
      = ap (λ (o : Option (ℕ × Open)). is_none o && (nat_le most (length opens.known) || nat_le (2 ^ 64 - 1) opens.given)) (sym like) ∙ room in
      let left = leb-false (2 ^ 64 - 1) opens.given (or_parts (nat_le most (length opens.known)) (nat_le (2 ^ 64 - 1) opens.given) full).1 in
      record {
        rising = IsAbove-with opens.known next 0 asked are.rising (omega arith);
        given = λ serial known stands. elim (cases_eq serial next) [
          | inl one ↦ omega (arith, one)
          | inr apart ↦ let low = are.given serial known (sym (at-with_other opens.known next serial asked apart) ∙ stands) in omega (arith, low)
        ];
        small = omega (arith, left);
      }

  opened_counts : (joins : Option (ℕ × Open)) → opens.given ≤ (behind_open joins).opens.given
  opened_counts (Some entry) = omega arith
  opened_counts None = omega arith

  -- the others stay
  opened_others : (joins : Option (ℕ × Open)) (serial : ℕ) → serial ≢ (behind_open joins).serial
      → at serial (behind_open joins).opens.known ≡ at serial opens.known
  opened_others (Some entry) serial apart = at-with_other opens.known entry.0 serial (upgraded asked.access entry.1) apart
  opened_others None serial apart = at-with_other opens.known (opens.given + 1) serial asked apart

  -- and one that was there under its serial is joined
  opened_joined : (joins : Option (ℕ × Open)) → open_like opens asked ≡ joins → (serial : ℕ) (known : Open) → at serial opens.known ≡ Some known
      → serial ≡ (behind_open joins).serial → (behind_open joins).state ≡ upgraded asked.access known
  opened_joined (Some entry) like serial known there one =
      let was = (find-at (is_like asked) opens.known 0 entry are.rising like).0 in
      ap (upgraded asked.access) (same_Some entry.1 known (sym was ∙ (ap (λ (n : ℕ). at n opens.known) (sym one) ∙ there)))
  opened_joined None like serial known there one = let low = are.given serial known there in absurd (omega (arith, low, one))

  -- one that had ended is not opened again
  opened_apart : (joins : Option (ℕ × Open)) → open_like opens asked ≡ joins → (serial : ℕ) → serial ≤ opens.given → at serial opens.known ≡ None
      → serial ≢ (behind_open joins).serial
  opened_apart (Some entry) like serial low none one =
      let was = (find-at (is_like asked) opens.known 0 entry are.rising like).0 in
      some≢none entry.1 (sym was ∙ (ap (λ (n : ℕ). at n opens.known) (sym one) ∙ none))
  opened_apart None like serial low none one = absurd (omega (arith, low, one))

module _ (run : ℕ) (small_run : run < 2 ^ 32) (limits : Limits) (state : State) (of_run : state.context.run ≡ run) (are : AreCounted state.opens) where
  refused_goes : (operation : Argument) (reason : Status) → Goes run state operation (refused state operation reason).outcome state.opens
  refused_goes operation reason =
      fewer_goes run state operation (refused state operation reason).outcome state.opens are (inr refl) (fewer_same state.opens state.opens are refl)

  module _ (now : ℕ) (arguments : OpenArguments) (room : is_table_full limits.opens state.opens (asked_open state arguments) ≡ false) where
    abbrev asked : Open
    asked = asked_open state arguments

    abbrev result : Opened
    result = opened_by state.opens asked (open_like state.opens asked)

    counted_now : AreCounted result.opens
    counted_now = opened_counted limits.opens state.opens are asked refl (open_like state.opens asked) refl room

    there_now : at result.serial result.opens.known ≡ Some result.state
    there_now = opened_there limits.opens state.opens are asked refl (open_like state.opens asked)

    given_now : IsGiven run result.serial
    given_now = is_given run result.opens counted_now small_run result.serial result.state there_now

    open_goes : (answer : OpenAnswer) → answer.state ≡ open_stateid run result.serial result.state.seqid
        → Goes run state (Argument.Open arguments) (Outcome.Done (Answer.Open answer)) result.opens
    open_goes answer told =
        let joins = open_like state.opens asked in
        record {
          each = λ serial known there. by_serial serial known there (cases_eq serial result.serial);
          gone = λ serial low none.
              opened_others limits.opens state.opens are asked refl joins serial
              (opened_apart limits.opens state.opens are asked refl joins refl serial low none) ∙ none;
          counts = opened_counts limits.opens state.opens are asked refl joins;
          counted = counted_now;
          answers = λ other reply opens same. is_opened other reply (argument_is arguments other opens) (answer_is answer reply same);
        }
      where
        argument_is : (x y : OpenArguments) → Argument.Open x ≡ Argument.Open y → x ≡ y
        argument_is x y same = cc

        answer_is : (x y : OpenAnswer) → Outcome.Done (Answer.Open x) ≡ Outcome.Done (Answer.Open y) → x ≡ y
        answer_is x y same = cc

        is_opened : (other : OpenArguments) (reply : OpenAnswer) → arguments ≡ other → answer ≡ reply
            → IsOpened run (asked_open state other) reply.state result.opens
        is_opened other reply same too =
            subst (λ (a : OpenArguments). IsOpened run (asked_open state a) reply.state result.opens) same
            (subst (λ (r : OpenAnswer). IsOpened run asked r.state result.opens) too
            (record {
              serial = result.serial;
              known = result.state;
              is = record {
                given = given_now;
                counted = opened_seqid limits.opens state.opens are asked refl (open_like state.opens asked);
                is = told;
                like = opened_like limits.opens state.opens are asked refl (open_like state.opens asked) refl;
              };
              there = there_now;
            }))

        by_serial : (serial : ℕ) (known : Open) → at serial state.opens.known ≡ Some known → (serial ≡ result.serial) ⊎ (serial ≢ result.serial)
            → (at serial result.opens.known
            ≡ Some (joined_by (option_to_list (access_by (other_of run serial) (Outcome.Done (Answer.Open answer)) (Argument.Open arguments))) known))
            ⊎ (at serial result.opens.known ≡ None)
        by_serial serial known there (inl one) =
            let mine : bytes_eq answer.state.other (other_of run serial) ≡ true
            = (bytes_eq-Decides answer.state.other (other_of run serial)).1
            (ap (λ (s : StateId). s.other) told ∙ ap (other_of run) (sym one)) in
            let now' = opened_joined limits.opens state.opens are asked refl (open_like state.opens asked) refl serial known there one in
            inl (ap (λ (n : ℕ). at n result.opens.known) one ∙ (there_now ∙ (ap (λ (o : Open). Some o) now'
            ∙ ap (λ b. Some (joined_by (option_to_list (if b then Some arguments.access else None)) known)) (sym mine))))
        by_serial serial known there (inr apart) =
            let before = is_given run state.opens are small_run serial known there in
            let other : bytes_eq answer.state.other (other_of run serial) ≡ false
            = false_from_ne_true (bytes_eq answer.state.other (other_of run serial)) (λ same.
            apart (sym (same_serial run result.serial serial given_now before
            (sym (ap (λ (s : StateId). s.other) told) ∙ (bytes_eq-Decides answer.state.other (other_of run serial)).0 same)))) in
            inl (opened_others limits.opens state.opens are asked refl (open_like state.opens asked) serial apart
            ∙ (there ∙ ap (λ b. Some (joined_by (option_to_list (if b then Some arguments.access else None)) known)) (sym other)))

  abbrev StepGoes : Argument → Stepped → Type 0
  StepGoes operation s = Goes run state operation s.outcome s.state.opens

  others_go : (now : ℕ) (operation : Argument) → is_open operation ≡ false → StepGoes operation (does limits state now operation)
  others_go now operation other = elim (does_cases limits state now operation) [
    | inl went ↦ subst (StepGoes operation) (sym went.1)
        (fewer_goes run state operation (effect limits state now operation).outcome (effect limits state now operation).state.opens are (inl other)
        (effect_fewer limits state now operation other are))
    | inr not_gone ↦ subst (StepGoes operation) (sym not_gone.1) (refused_goes operation not_gone.0)
  ]

  effect_opens : (now : ℕ) (arguments : OpenArguments) → is_table_full limits.opens state.opens (asked_open state arguments) ≡ false
      → StepGoes (Argument.Open arguments) (effect limits state now (Argument.Open arguments))
  unfolding effect opened
  effect_opens now arguments room =
      open_goes now arguments room _ (ap (λ (r : ℕ). open_stateid r (result now arguments room).serial (result now arguments room).state.seqid) of_run)

  pub does_goes : (now : ℕ) (operation : Argument) → StepGoes operation (does limits state now operation)
  does_goes now (Argument.Open arguments) = elim (does_cases limits state now (Argument.Open arguments)) [
    | inl went ↦ subst (StepGoes (Argument.Open arguments)) (sym went.1)
        (effect_opens now arguments (none_earlier (is_table_full limits.opens state.opens (asked_open state arguments)) status.Delay None went.0.late).0)
    | inr not_gone ↦ subst (StepGoes (Argument.Open arguments)) (sym not_gone.1) (refused_goes (Argument.Open arguments) not_gone.0)
  ]
  does_goes now operation = others_go now operation refl
