-- Transactions that are flushed one by one, at each moment of it.
use Rattle.std.proofs.Common.{◌≡◌, ◌⊎◌, ◌≤◌, ◌<◌, ◌+◌, ◌*◌, ℕ, zero, suc, List, [], ◌∷◌, ◌++◌, length, take, drop, refl, sym, ap, ◌∙◌, subst, arith, ⊎_elim}
use Rattle.std.proofs.lemmas.Bool.{cases_lt}
use Rattle.disk.specs.declared.update.Update.{Update}
use Rattle.disk.specs.Moments.{Image, AddsOnly, applied, moment}
use Rattle.disk.proofs.MomentLemmas.{AddsOnly-same, AddsOnly-weaken, AddsOnly-join}
use Rattle.journal.specs.declared.fault.JournalFault.{JournalFault}
use Rattle.journal.specs.declared.fault.JournalFault.TheVariants as faults
use Rattle.journal.specs.declared.layout.LogArea.{LogArea}
use Rattle.journal.specs.Calls.{GoesThroughFirst, IsSafe, HasApplied, flush_cost, list_with}
use Rattle.journal.specs.Log.{Log, MakesAtMost, StandsForPrefix, applied_all}
use Rattle.journal.specs.Settled.{AreSame, Settles}
use Rattle.journal.specs.Transactions.{FitTogether, gathered, sectors_of}
use Rattle.journal.proofs.Prefixes.{settles_same, applied_keeps, applied_all-push}
use Rattle.journal.proofs.Joins.{prefix_moved}
use Rattle.migration.specs.Commits.{Commits, HasCommitted}
use Rattle.migration.specs.Migrations.{StaysInPlace, transaction_cost}

-- The log stays in its place

pub stays_then : {old mid new : Log} → StaysInPlace old mid → StaysInPlace mid new → StaysInPlace old new
stays_then first then = record { area = then.area ∙ first.area; size = then.size ∙ first.size }

-- and its transactions still end at the end of the device
pub whole_stays : (old new : Log) → StaysInPlace old new → old.area.end ≡ old.size → new.area.end ≡ new.size
whole_stays old new place whole = ap (λ (area : LogArea). area.end) place.area ∙ whole ∙ sym place.size

-- The only failure of a transaction that is not too long, on a journal that is up
pub only_fault : (fault : JournalFault) → (fault ≡ faults.TooMany → ⊥) → (fault ≡ faults.Down → ⊥)
    → (fault ≡ faults.TooMany) ⊎ ((fault ≡ faults.Fault) ⊎ (fault ≡ faults.Down)) → fault ≡ faults.Fault
only_fault fault short up refuses = ⊎_elim
    (λ (many : fault ≡ faults.TooMany). absurd (short many))
    (λ (rest : (fault ≡ faults.Fault) ⊎ (fault ≡ faults.Down)). ⊎_elim
    (λ (is : fault ≡ faults.Fault). is)
    (λ (down : fault ≡ faults.Down). absurd (up down))
    rest)
    refuses

-- One transaction

pub no_prefix : (list : List (List Update)) (c : ℕ) (base : Image) → list ≡ [] → applied_all (take c list) base ≡ base
no_prefix [] zero base none = refl
no_prefix [] (suc c) base none = refl
no_prefix (us ∷ list) c base none = absurd (cc)

pub first_moments : (keeps_word : Type 0) (list : List (List Update)) (old mid : Log) → old.list ≡ [] → IsSafe keeps_word old mid
    → keeps_word → AddsOnly (StandsForPrefix old.area old.base list) old.history mid.history
first_moments keeps_word list old mid none safe word =
    AddsOnly-weaken (StandsForPrefix old.area old.base old.list) (StandsForPrefix old.area old.base list) old.history mid.history
    (λ image prefix. record {
      count = 0;
      within = omega arith;
      settles = subst (Settles old.area image) (no_prefix old.list prefix.count old.base none) prefix.settles;
    })
    (safe.moments word)

pub first_commits : (keeps_word : Type 0) (us : List Update) (old mid : Log) → old.list ≡ [] → IsSafe keeps_word old mid → Commits keeps_word (us ∷ []) old mid
first_commits keeps_word us old mid none safe = record {
  place = record { area = safe.area; size = safe.size };
  moments = first_moments keeps_word (us ∷ []) old mid none safe;
  brief = λ word. let few = safe.brief word in omega (arith, few);
}

-- a transaction that nothing waits in front of is put there without a write
put_free : (keeps_word : Type 0) (us : List Update) (was now : List ℕ) (old mid : Log) → old.list ≡ [] → HasApplied keeps_word us old mid
    → GoesThroughFirst keeps_word us was now old mid → keeps_word → moment mid.history ≡ moment old.history
put_free keeps_word us was now old mid none has gate word = ⊎_elim
    (λ (wide : old.area.sectors < length (gathered [] (sectors_of (list_with old us)))).
    let cost : moment mid.history ≡ moment old.history + flush_cost old.area was (sectors_of old.list) = (gate.flushed (λ fit. omega (arith, fit, wide))).cost word in
    let free : flush_cost old.area was (sectors_of old.list) ≡ 0 = ap (λ (list : List (List Update)). flush_cost old.area was (sectors_of list)) none in
    omega (arith, cost, free))
    (λ (fit : FitTogether old.area (list_with old us)). ap (λ (log : Log). moment log.history) (has.kept fit).only)
    (cases_lt old.area.sectors (length (gathered [] (sectors_of (list_with old us)))))

pub both_commit : (keeps_word : Type 0) (us : List Update) (was now : List ℕ) (old mid new : Log) → old.list ≡ [] → IsSafe keeps_word old mid → HasApplied keeps_word us old mid
    → GoesThroughFirst keeps_word us was now old mid → IsSafe keeps_word mid new → Commits keeps_word (us ∷ []) old new
both_commit keeps_word us was now old mid new none safe has gate flushed = record {
  place = record { area = flushed.area ∙ safe.area; size = flushed.size ∙ safe.size };
  moments = λ word. AddsOnly-join (StandsForPrefix old.area old.base (us ∷ [])) old.history mid.history new.history
      (first_moments keeps_word (us ∷ []) old mid none safe word)
      (AddsOnly-weaken (StandsForPrefix mid.area mid.base mid.list) (StandsForPrefix old.area old.base (us ∷ [])) mid.history new.history
      (λ image prefix.
      let before = prefix_moved (list_with old us) old mid (has.moved word) prefix.count prefix.within in
      subst (λ (list : List (List Update)). StandsForPrefix old.area old.base list image) (ap (λ (l : List (List Update)). l ++ us ∷ []) none)
      (record {
        count = before.0;
        within = before.1;
        settles = settles_same old.area image (applied_all (take prefix.count mid.list) mid.base) (applied_all (take before.0 (list_with old us)) old.base)
            (λ n k. sym (before.2 n k)) (subst (λ (area : LogArea). Settles area image (applied_all (take prefix.count mid.list) mid.base)) safe.area prefix.settles);
      }))
      (flushed.moments word));
  brief = λ word.
      let free = put_free keeps_word us was now old mid none has gate word in
      let few : MakesAtMost (transaction_cost old.area) mid new = subst (λ (area : LogArea). MakesAtMost (transaction_cost area) mid new) safe.area (flushed.brief word) in
      omega (arith, free, few);
}

-- The commit record is written again before them

module _ (keeps_word : Type 0) (list : List (List Update)) (old mid new : Log) (base : keeps_word → mid.base ≡ old.base) (place : StaysInPlace old mid) where
  pub then_moments : old.list ≡ [] → IsSafe keeps_word old mid → Commits keeps_word list mid new
      → keeps_word → AddsOnly (StandsForPrefix old.area old.base list) old.history new.history
  then_moments none safe commits word = AddsOnly-join (StandsForPrefix old.area old.base list) old.history mid.history new.history
      (first_moments keeps_word list old mid none safe word)
      (subst (λ (image : Image). AddsOnly (StandsForPrefix old.area image list) mid.history new.history) (base word)
      (subst (λ (area : LogArea). AddsOnly (StandsForPrefix area mid.base list) mid.history new.history) place.area (commits.moments word)))

  pub then_brief : MakesAtMost 2 old mid → Commits keeps_word list mid new → keeps_word → MakesAtMost (2 + length list * transaction_cost old.area) old new
  then_brief first commits word =
      let few : MakesAtMost (length list * transaction_cost old.area) mid new =
      subst (λ (area : LogArea). MakesAtMost (length list * transaction_cost area) mid new) place.area (commits.brief word) in
      omega (arith, first, few)

  pub then_committed : HasCommitted keeps_word list mid new → HasCommitted keeps_word list old new
  then_committed has = record {
    rests = has.rests;
    base = λ word. subst (λ (image : Image). AreSame old.area.end (applied_all list image) new.base) (base word)
        (subst (λ (area : LogArea). AreSame area.end (applied_all list mid.base) new.base) place.area (has.base word));
  }

-- Several

-- the first `count` of them are in the base, and the rest is still to come
pub record Going (keeps_word : Type 0) (list rest : List (List Update)) (old now : Log) : Type 0 where
  pub count : ℕ
  pub within : count ≤ length list
  pub rest_is : drop count list ≡ rest
  pub place : StaysInPlace old now
  pub base : keeps_word → AreSame old.area.end (applied_all (take count list) old.base) now.base
  pub moments : keeps_word → AddsOnly (StandsForPrefix old.area old.base list) old.history now.history
  -- what it has cost, and what the rest costs at most
  pub brief : keeps_word
      → moment now.history + length rest * transaction_cost old.area ≤ moment old.history + length list * transaction_cost old.area

-- one more of them
one_paid : (before now new rest cost all : ℕ) → now + suc rest * cost ≤ before + all → new ≤ now + 1 * cost → new + rest * cost ≤ before + all
one_paid before now new rest cost all paid one = omega (arith, paid, one)

pub going_starts : (keeps_word : Type 0) (list : List (List Update)) (old : Log) → Going keeps_word list list old old
going_starts keeps_word list old = record {
  count = 0;
  within = omega arith;
  rest_is = refl;
  place = record { area = refl; size = refl };
  base = λ word n k. refl;
  moments = λ word. AddsOnly-same (StandsForPrefix old.area old.base list) old.history;
  brief = λ word. omega arith;
}

record IsNext (list : List (List Update)) (count : ℕ) (us : List Update) (rest : List (List Update)) : Type 0 where
  within : count < length list
  prefix : take (suc count) list ≡ take count list ++ us ∷ []
  behind : drop (suc count) list ≡ rest

next : (list : List (List Update)) (count : ℕ) (us : List Update) (rest : List (List Update)) → drop count list ≡ us ∷ rest → IsNext list count us rest
next [] zero us rest e = absurd (cc)
next [] (suc count) us rest e = absurd (cc)
next (vs ∷ list) zero us rest e = record { within = omega arith; prefix = ap (λ (x : List Update). x ∷ []) cc; behind = cc }
next (vs ∷ list) (suc count) us rest e =
    let there = next list count us rest e in
    record { within = omega (arith, there.within); prefix = ap (λ (l : List (List Update)). vs ∷ l) there.prefix; behind = there.behind }

module _ (keeps_word : Type 0) (list rest : List (List Update)) (us : List Update) (old now new : Log) (going : Going keeps_word list (us ∷ rest) old now)
    (commits : Commits keeps_word (us ∷ []) now new) where
  there : IsNext list going.count us rest
  there = next list going.count us rest going.rest_is

  -- with this one
  with_one : keeps_word → AreSame old.area.end (applied_all (take (suc going.count) list) old.base) (applied us now.base)
  with_one word n k =
      ap (λ (l : List (List Update)). applied_all l old.base n) there.prefix
      ∙ ap (λ (f : Image). f n) (applied_all-push (take going.count list) us old.base)
      ∙ applied_keeps old.area.end us (applied_all (take going.count list) old.base) now.base (going.base word) n k

  prefix_here : keeps_word → (image : Image) (c : ℕ) → c ≤ 1 → Settles old.area image (applied_all (take c (us ∷ [])) now.base) → StandsForPrefix old.area old.base list image
  prefix_here word image zero few settles = record {
    count = going.count;
    within = going.within;
    settles = settles_same old.area image now.base (applied_all (take going.count list) old.base) (λ n k. sym (going.base word n k)) settles;
  }
  prefix_here word image (suc zero) few settles = record {
    count = suc going.count;
    within = there.within;
    settles = settles_same old.area image (applied us now.base) (applied_all (take (suc going.count) list) old.base) (λ n k. sym (with_one word n k)) settles;
  }
  prefix_here word image (suc (suc c)) few settles = absurd (omega arith)

  paid : keeps_word → moment new.history + length rest * transaction_cost old.area ≤ moment old.history + length list * transaction_cost old.area
  paid word = one_paid (moment old.history) (moment now.history) (moment new.history) (length rest) (transaction_cost old.area) (length list * transaction_cost old.area)
      (going.brief word)
      (subst (λ (area : LogArea). MakesAtMost (1 * transaction_cost area) now new) going.place.area (commits.brief word))

  pub going_stops : Commits keeps_word list old new
  going_stops = record {
    place = stays_then going.place commits.place;
    moments = λ word. AddsOnly-join (StandsForPrefix old.area old.base list) old.history now.history new.history (going.moments word)
        (AddsOnly-weaken (StandsForPrefix now.area now.base (us ∷ [])) (StandsForPrefix old.area old.base list) now.history new.history
        (λ image prefix. prefix_here word image prefix.count prefix.within (subst (λ (area : LogArea). Settles area image (applied_all (take prefix.count (us ∷ [])) now.base)) going.place.area prefix.settles))
        (commits.moments word));
    brief = λ word. let few = paid word in omega (arith, few);
  }

  pub going_on : HasCommitted keeps_word (us ∷ []) now new → Going keeps_word list rest old new
  going_on has = record {
    count = suc going.count;
    within = there.within;
    rest_is = there.behind;
    place = going_stops.place;
    base = λ word n k. with_one word n k ∙ subst (λ (area : LogArea). AreSame area.end (applied us now.base) new.base) going.place.area (has.base word) n k;
    moments = going_stops.moments;
    brief = paid;
  }
