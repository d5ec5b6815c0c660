-- Prefixes of a list of transactions, and what a flush adds one after the other.
use Rattle.std.proofs.Common.{◌≡◌, ◌≤◌, ◌⊎◌, ◌+◌, ℕ, List, [], ◌∷◌, ◌++◌, length, take, drop, refl, sym, ap, ◌∙◌, subst, ⊎_elim, arith}
use Rattle.std.proofs.lemmas.List.{append-nil, length-append}
use Rattle.std.proofs.lemmas.Bool.{cases_eq}
use Rattle.disk.specs.declared.update.Update.{Update}
use Rattle.disk.specs.Moments.{Image, History, AddsOnly, Left, Among, applied, put, seen, newest}
use Rattle.disk.proofs.MomentLemmas.{AddsOnly-weaken}
use Rattle.journal.specs.declared.layout.LogArea.{LogArea}
use Rattle.journal.specs.Layout.{AreNamed, IsArea, through, targets}
use Rattle.journal.specs.Settled.{AreSame, Settles}
use Rattle.journal.specs.Phase.{IsGated}
use Rattle.journal.specs.Behind.{way_cost}
use Rattle.journal.specs.Calls.{checkpoint_cost, flush_cost}
use Rattle.journal.specs.Commit.{AddsEither}
use Rattle.journal.specs.Log.{Log, applied_all, contents, DoesAs, IsJoined, StandsForPrefix, Moved, ListTakes}
use Rattle.journal.specs.Journal.{listed}
use Rattle.journal.specs.Transactions.{gathered, sectors_of}
use Rattle.journal.proofs.Images.{length-targets, put_same, put_other}
use Rattle.journal.proofs.Lists.{Apart, gathered-append, gathered_apart}
use Rattle.journal.proofs.Stages.{gated_stage}

pub settles_same : (area : LogArea) (image a b : Image) → AreSame area.end a b → Settles area image a → Settles area image b
settles_same area image a b e s = record {
  to = s.to;
  few = s.few;
  fit = s.fit;
  gate_is = s.gate_is;
  same = λ n k. sym (e n k) ∙ s.same n k;
}

put_keeps : (size : ℕ) (u : Update) (a b : Image) → AreSame size a b → AreSame size (put a u) (put b u)
put_keeps size u a b e n k = ⊎_elim
    (λ (q : u.target ≡ n). put_same a u n q ∙ sym (put_same b u n q))
    (λ (q : u.target ≡ n → ⊥). put_other a u n q ∙ e n k ∙ sym (put_other b u n q))
    (cases_eq u.target n)

pub applied_keeps : (size : ℕ) (us : List Update) (a b : Image) → AreSame size a b → AreSame size (applied us a) (applied us b)
applied_keeps size [] a b e = e
applied_keeps size (u ∷ us) a b e = applied_keeps size us (put a u) (put b u) (put_keeps size u a b e)

pub applied_all-push : (list : List (List Update)) (us : List Update) (base : Image) → applied_all (list ++ us ∷ []) base ≡ applied us (applied_all list base)
applied_all-push [] us base = refl
applied_all-push (vs ∷ list) us base = applied_all-push list us (applied vs base)

-- what a crash leaves while nothing is under way
pub settled_of : (area : LogArea) → IsArea area → (to : List ℕ) (h : History) → length to ≤ area.sectors → AreNamed area to → IsGated to h
    → (image : Image) → Left h.now image → Settles area image (through area to (seen h.now))
settled_of area is to h few fit gated image left =
    gated_stage area is to (seen h.now) few fit gated.gate_is image (λ n.
    let P : List Update → Type 0 = λ unsynced. image n ≡ newest unsynced h.now.fixed n in
    subst P (sym gated.rests) (⊎_elim
    (λ (e : image n ≡ h.now.fixed n). e)
    (λ (a : Among h.now.unsynced n (image n)).
    let Q : List Update → Type 0 = λ unsynced. Among unsynced n (image n) in absurd (subst Q gated.rests a))
    (left n)))

-- the list that waits is one transaction
pub listed_applied : (us : List Update) (image : Image) → applied_all (listed us) image ≡ applied us image
listed_applied [] image = refl
listed_applied (u ∷ us) image = refl

pub prefixes_either : (area : LogArea) (us : List Update) (base : Image) (h h1 : History) → AddsEither area us base h h1
    → AddsOnly (StandsForPrefix area base (listed us)) h h1
prefixes_either area us base h h1 w =
    AddsOnly-weaken (λ image. Settles area image base ⊎ Settles area image (applied us base)) (StandsForPrefix area base (listed us)) h h1 (prefix us) w
  where
    prefix : (vs : List Update) (image : Image) → Settles area image base ⊎ Settles area image (applied vs base) → StandsForPrefix area base (listed vs) image
    prefix [] image s = record { count = 0; within = omega arith; settles = ⊎_elim (λ (q : Settles area image base). q) (λ (q : Settles area image base). q) s }
    prefix (v ∷ vs) image s = ⊎_elim
        (λ (q : Settles area image base). record { count = 0; within = omega arith; settles = q })
        (λ (q : Settles area image (applied (v ∷ vs) base)). record { count = 1; within = omega arith; settles = q }) s

take_whole : (list : List (List Update)) → take (length list) list ≡ list
take_whole [] = refl
take_whole (us ∷ list) = ap (λ xs. us ∷ xs) (take_whole list)

drop_whole : (list : List (List Update)) → drop (length list) list ≡ []
drop_whole [] = refl
drop_whole (us ∷ list) = drop_whole list

take_push : (list : List (List Update)) (us : List Update) → take (length list) (list ++ us ∷ []) ≡ list
take_push [] us = refl
take_push (vs ∷ list) us = ap (λ xs. vs ∷ xs) (take_push list us)

drop_push : (list : List (List Update)) (us : List Update) → drop (length list) (list ++ us ∷ []) ≡ us ∷ []
drop_push [] us = refl
drop_push (vs ∷ list) us = drop_push list us

none_joined : (list : List (List Update)) → list ≡ [] → IsJoined list []
none_joined list e image n = ap (λ (xs : List (List Update)). applied_all xs image n) (sym e)

-- if only the base is left, none of the list is
pub prefixes_base : (area : LogArea) (list : List (List Update)) (base : Image) (h h1 : History) → AddsOnly (λ image. Settles area image base) h h1
    → AddsOnly (StandsForPrefix area base list) h h1
prefixes_base area list base h h1 adds = AddsOnly-weaken (λ image. Settles area image base) (StandsForPrefix area base list) h h1
    (λ image settles. record { count = 0; within = omega arith; settles = settles }) adds

-- the cost of copying them home
pub checkpoint_cost_is : (shown : List ℕ) → (length shown ≡ 0 → ⊥) → checkpoint_cost shown ≡ length shown + 3
checkpoint_cost_is [] filled = absurd (filled refl)
checkpoint_cost_is (sector ∷ sectors) filled = refl

pub all_keep : (size : ℕ) (list : List (List Update)) (a b : Image) → AreSame size a b → AreSame size (applied_all list a) (applied_all list b)
all_keep size [] a b e = e
all_keep size (us ∷ list) a b e = all_keep size list (applied us a) (applied us b) (applied_keeps size us a b e)

-- one transaction in the place of all of a list
pub joined_as_one : (list : List (List Update)) (us : List Update) → DoesAs us list → IsJoined list (listed us)
joined_as_one list [] does = does
joined_as_one list (u ∷ us) does = (
  length list,
  omega arith,
  (λ image n. does image n ∙ ap (λ (xs : List (List Update)). applied_all xs image n) (sym (take_whole list))),
  none_joined (drop (length list) list) (drop_whole list),
)

-- one more transaction, joined with those that wait
pub put_does : (us vs ws : List Update) → ((image : Image) (n : ℕ) → applied ws image n ≡ applied vs (applied us image) n) → DoesAs ws (listed us ++ vs ∷ [])
put_does us vs ws e image n =
    e image n
    ∙ ap (λ (f : Image). applied vs f n) (sym (listed_applied us image))
    ∙ ap (λ (f : Image). f n) (sym (applied_all-push (listed us) vs image))

pub put_alone : (us vs ws : List Update) → us ≡ [] → ((image : Image) (n : ℕ) → applied ws image n ≡ applied vs (applied us image) n) → DoesAs ws (vs ∷ [])
put_alone us vs ws none e image n = e image n ∙ ap (λ (xs : List Update). applied vs (applied xs image) n) none

pub moved_takes : (old new : Log) (us : List Update) → ListTakes us old new → Moved (old.list ++ us ∷ []) old new
moved_takes old new us takes = record {
  count = 0;
  within = omega arith;
  base = λ n k. ap (λ (log : Log). log.base n) (sym takes.only);
  list = takes.list;
}

pub moved_flushed : (old new : Log) (us : List Update) → AreSame old.area.end (contents old) new.base → IsJoined (us ∷ []) new.list
    → Moved (old.list ++ us ∷ []) old new
moved_flushed old new us same joined = record {
  count = length old.list;
  within = omega (arith, length-append old.list (us ∷ []));
  base = λ n k. ap (λ (xs : List (List Update)). applied_all xs old.base n) (take_push old.list us) ∙ same n k;
  list = let P : List (List Update) → Type 0 = λ xs. IsJoined xs new.list in subst P (sym (drop_push old.list us)) joined;
}

-- a flush that took all
pub moved_all : (old new : Log) → AreSame old.area.end (contents old) new.base → new.list ≡ [] → Moved old.list old new
moved_all old new same e = record {
  count = length old.list;
  within = omega arith;
  base = λ n k. ap (λ (xs : List (List Update)). applied_all xs old.base n) (take_whole old.list) ∙ same n k;
  list = let P : List (List Update) → Type 0 = λ xs. IsJoined (drop (length old.list) old.list) xs in
      subst P (sym e) (none_joined (drop (length old.list) old.list) (drop_whole old.list));
}

-- the sectors of what waits, and of it with one more
pub listed_sectors : (us : List Update) → length (sectors_of (listed us)) ≡ length us
listed_sectors [] = refl
listed_sectors (u ∷ us) = ap (λ (ts : List ℕ). length ts) (append-nil (targets (u ∷ us))) ∙ length-targets (u ∷ us)

pub listed_sectors_are : (us : List Update) → sectors_of (listed us) ≡ targets us
listed_sectors_are [] = refl
listed_sectors_are (u ∷ us) = append-nil (targets (u ∷ us))

-- the cost of taking them through the gate
pub listed_cost : (area : LogArea) (was : List ℕ) (us : List Update) → (length us ≡ 0 → ⊥)
    → flush_cost area was (sectors_of (listed us)) ≡ way_cost area was (targets us) + (length us + 3)
listed_cost area was [] filled = absurd (filled refl)
listed_cost area was (u ∷ us) filled =
    ap (λ (ts : List ℕ). flush_cost area was ts) (append-nil (targets (u ∷ us)))
    ∙ ap (λ (n : ℕ). way_cost area was (targets (u ∷ us)) + (n + 3)) (length-targets (u ∷ us))

pushed_sectors : (us vs : List Update) → sectors_of (listed us ++ vs ∷ []) ≡ targets us ++ targets vs
pushed_sectors [] vs = append-nil (targets vs)
pushed_sectors (u ∷ us) vs = ap (λ (ts : List ℕ). targets (u ∷ us) ++ ts) (append-nil (targets vs))

pub together : (us vs : List Update) (named : List ℕ) → named ≡ targets us → Apart (targets us)
    → gathered named (targets vs) ≡ gathered [] (sectors_of (listed us ++ vs ∷ []))
together us vs named e apart =
    ap (λ (ts : List ℕ). gathered ts (targets vs)) (e ∙ sym (gathered_apart (targets us) apart))
    ∙ sym (gathered-append [] (targets us) (targets vs))
    ∙ ap (λ (ts : List ℕ). gathered [] ts) (sym (pushed_sectors us vs))
