-- What is kept in memory.
use Rattle.std.proofs.Common.{◌≡◌, ◌≤◌, ◌<◌, ◌⊎◌, ◌+◌, ℕ, suc, zero, true, false, Bool, cond, List, [], ◌∷◌, ◌++◌, length, take, get_or, Contains, IsSome, None, Result, Ok, Err, OnOk, OnErr, nat_eq, eq-eqb, refl, sym, ap, ◌∙◌, subst, inl, inr, ⊎_elim, arith}
use Rattle.std.proofs.lemmas.Bool.{eqb-true}
use Rattle.std.proofs.lemmas.Map.{lookup-remove_entry}
use Rattle.std.proofs.lemmas.Map.Views.{IsSome-lookup_from_Contains}
use Rattle.std.specs.Cmp.{nat_eq_equiv}
use Rattle.std.specs.List.{IsDistinct}
use Rattle.std.specs.Map.{keys_of, lookup, remove_entry}
use Rattle.lru.proofs.CallerLemmas.{Contains-put_entries}
use Rattle.lru.specs.LruCache.{LruCache, lru_cache, put_entries}
use Rattle.lru.proofs.Splits.{Contains-head, Contains-tail, Contains-cons, Contains-nil}
use Rattle.disk.specs.declared.update.Update.{Update}
use Rattle.disk.specs.Moments.{Image, History, applied, put, seen}
use Rattle.journal.specs.Cached.{AreAmong, AreCopies}
use Rattle.journal.specs.declared.layout.LogArea.{LogArea}
use Rattle.journal.specs.Layout.{targets, through}
use Rattle.journal.specs.Settled.{AreSame}
use Rattle.journal.specs.Transactions.{has}
use Rattle.journal.proofs.Images.{Out-join, applied_out, put_other}
use Rattle.journal.proofs.Prefixes.{applied_keeps}
use Rattle.journal.proofs.Journals.{targets_more}
use Rattle.journal.proofs.Lists.{no_update, applied_at, not_has-out, out-not_has}

key_of : (es : List (ℕ × List ℕ)) (n : ℕ) (content : List ℕ) → Contains es (n, content) → Contains (keys_of es) n
key_of [] n content there = absurd (Contains-nil (n, content) there)
key_of (e ∷ es) n content there = elim (Contains-cons e es (n, content) there) [
  | inl same ↦ subst (Contains (keys_of (e ∷ es))) (ap (λ (p : ℕ × List ℕ). p.0) same) (Contains-head e.0 (keys_of es))
  | inr rest ↦ Contains-tail e.0 (keys_of es) n (key_of es n content rest)
]

-- a sector that was taken out is not there any more
pub removed_gone : (es : List (ℕ × List ℕ)) (n : ℕ) (content : List ℕ) → IsDistinct nat_eq (keys_of es)
    → Contains (remove_entry (nat_eq n) es) (n, content) → ⊥
removed_gone es n content distinct there =
    let found : IsSome (lookup (nat_eq n) (remove_entry (nat_eq n) es)) =
    IsSome-lookup_from_Contains nat_eq_equiv n (remove_entry (nat_eq n) es) (key_of (remove_entry (nat_eq n) es) n content there) in
    let one : (x y : ℕ) → nat_eq n x ≡ true → nat_eq n y ≡ nat_eq x y = λ x y e. ap (λ (m : ℕ). nat_eq m y) (eqb-true n x e) in
    let none : lookup (nat_eq n) (remove_entry (nat_eq n) es) ≡ None =
    lookup-remove_entry nat_eq_equiv (nat_eq n) one n es distinct ∙ ap (λ (b : Bool). cond b None (lookup (nat_eq n) es)) (eq-eqb n n refl) in
    let never : false ≡ true = subst IsSome none found in cc

-- one more update's sector is none of these
pub more_gone : (us : List Update) (i n : ℕ) → i < length us → has (targets (take i us)) n ≡ false → ((get_or us i no_update).target ≡ n → ⊥)
    → has (targets (take (i + 1) us)) n ≡ false
more_gone us i n l e other =
    ap (λ (ts : List ℕ). has ts n) (targets_more us i no_update l)
    ∙ out-not_has (targets (take i us) ++ (get_or us i no_update).target ∷ []) n
    (Out-join (targets (take i us)) ((get_or us i no_update).target ∷ []) n (not_has-out (targets (take i us)) n e) (other, tt))

take_whole : (xs : List Update) (i : ℕ) → length xs ≤ i → take i xs ≡ xs
take_whole [] zero l = refl
take_whole [] (suc i) l = refl
take_whole (x ∷ xs) zero l = absurd (omega arith)
take_whole (x ∷ xs) (suc i) l = ap (λ ys. x ∷ ys) (take_whole xs i (omega arith))

pub all_gone : (us : List Update) (i n : ℕ) → length us ≤ i → has (targets (take i us)) n ≡ false → has (targets us) n ≡ false
all_gone us i n l e = ap (λ (xs : List Update). has (targets xs) n) (sym (take_whole us i l)) ∙ e

-- copies stay copies
pub copies_among : (size : ℕ) (image : Image) (old new : List (ℕ × List ℕ)) → AreCopies size image old → AreAmong new old → AreCopies size image new
copies_among size image old new copies among = record { each = λ n content there. copies.each n content (among (n, content) there) }

-- if a flush took the list
pub copies_flushed : (size : ℕ) (us next : List Update) (a b : Image) (es : List (ℕ × List ℕ)) → next ≡ []
    → AreSame size (applied us a) b → AreCopies size (applied us a) es → AreCopies size (applied next b) es
copies_flushed size us next a b es none same copies = record {
  each = λ n content there.
      let was = copies.each n content there in (
        was.0,
        was.1,
        was.2 ∙ same n (inr was.0, was.1) ∙ ap (λ (xs : List Update). applied xs b n) (sym none),
      );
}

-- if the base was copied home
pub copies_home : (size : ℕ) (us : List Update) (a b : Image) (es : List (ℕ × List ℕ))
    → AreSame size a b → AreCopies size (applied us a) es → AreCopies size (applied us b) es
copies_home size us a b es same copies = record {
  each = λ n content there.
      let was = copies.each n content there in (
        was.0,
        was.1,
        was.2 ∙ applied_keeps size us a b same n (inr was.0, was.1),
      );
}

-- if sector 0 was written
pub copies_beside : (size : ℕ) (us : List Update) (a b : Image) (first : List ℕ) (es : List (ℕ × List ℕ))
    → (let u : Update = record { target = 0; content = first } in AreSame size (put a u) b) → AreCopies size (applied us a) es → AreCopies size (applied us b) es
copies_beside size us a b first es same copies = record {
  each = λ n content there.
      let u : Update = record { target = 0; content = first } in
      let was = copies.each n content there in (
        was.0,
        was.1,
        was.2 ∙ applied_at us a b n (sym (put_other a u n (λ e. omega (arith, e, was.0))) ∙ same n (inr was.0, was.1)),
      );
}

-- once the sectors that updates write are forgotten
pub copies_applied : (size : ℕ) (us named : List Update) (a b : Image) (old new : List (ℕ × List ℕ)) → AreCopies size a old → AreAmong new old
    → ((n : ℕ) (content : List ℕ) → Contains new (n, content) → has (targets named) n ≡ false) → named ≡ us
    → ((n : ℕ) → b n ≡ applied us a n) → AreCopies size b new
copies_applied size us named a b old new copies among gone same is = record {
  each = λ n content there.
      let was = copies.each n content (among (n, content) there) in
      let none : has (targets us) n ≡ false = ap (λ (xs : List Update). has (targets xs) n) (sym same) ∙ gone n content there in
      (was.0, was.1, was.2 ∙ sym (is n ∙ applied_out us a n (not_has-out (targets us) n none)));
}

-- one more that was read
pub copies_more : (area : LogArea) (n : ℕ) (us : List Update) (to : List ℕ) (h h1 : History) (content : List ℕ) (old new : List (ℕ × List ℕ)) → h1 ≡ h
    → AreCopies area.end (applied us (through area to (seen h.now))) old
    → ((entry : ℕ × List ℕ) → Contains new entry → Contains old entry ⊎ ((98 ≤ n) × (n < area.end) × (entry ≡ (n, content))))
    → content ≡ applied us (through area to (seen h.now)) n → AreCopies area.end (applied us (through area to (seen h1.now))) new
copies_more area n us to h h1 content old new same copies either is = record {
  each = λ m kept there.
      let now : applied us (through area to (seen h.now)) m ≡ applied us (through area to (seen h1.now)) m =
      ap (λ (k : History). applied us (through area to (seen k.now)) m) (sym same) in
      ⊎_elim
      (λ (was : Contains old (m, kept)).
      let it = copies.each m kept was in (it.0, it.1, it.2 ∙ now))
      (λ (one : (98 ≤ n) × (n < area.end) × ((m, kept) ≡ (n, content))).
      let key : m ≡ n = ap (λ (p : ℕ × List ℕ). p.0) one.2 in (
        omega (arith, key, one.0),
        omega (arith, key, one.1),
        ap (λ (p : ℕ × List ℕ). p.1) one.2 ∙ is ∙ ap (λ (k : ℕ). applied us (through area to (seen h.now)) k) (sym key) ∙ now,
      ))
      (either (m, kept) there);
}

pair_is : (entry : ℕ × List ℕ) (n : ℕ) (content : List ℕ) → entry.0 ≡ n → entry.1 ≡ content → entry ≡ (n, content)
pair_is entry n content key value = ap (λ (m : ℕ). (m, entry.1)) key ∙ ap (λ (bytes : List ℕ). (n, bytes)) value

put_one : (old : LruCache ℕ (List ℕ)) (n : ℕ) (content : List ℕ) (entry : ℕ × List ℕ) → Contains (put_entries nat_eq old n content) entry
    → Contains old.entries entry ⊎ (entry ≡ (n, content))
put_one old n content entry there = elim (Contains-put_entries nat_eq old n content entry there) [
  | inl was ↦ inl was
  | inr put ↦ inr (pair_is entry n content (elim put.1 [ inl key ↦ key | inr equal ↦ sym (eqb-true n entry.0 equal.2) ]) put.0)
]

-- a sector that was kept, if there was memory for it
pub kept_cases : {T E : Type 0} (r : Result T E) (old new : LruCache ℕ (List ℕ)) (n : ℕ) (content : List ℕ)
    → OnOk r (new ≡ lru_cache (put_entries nat_eq old n content) old.cap) → OnErr r (new ≡ old)
    → (entry : ℕ × List ℕ) → Contains new.entries entry → Contains old.entries entry ⊎ (entry ≡ (n, content))
kept_cases (Ok x) old new n content ok err entry there =
    put_one old n content entry (let P : LruCache ℕ (List ℕ) → Type 0 = λ cache. Contains cache.entries entry in subst P ok there)
kept_cases (Err e) old new n content ok err entry there =
    inl (let P : LruCache ℕ (List ℕ) → Type 0 = λ cache. Contains cache.entries entry in subst P err there)
