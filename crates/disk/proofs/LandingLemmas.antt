-- What lands is something that a crash may leave.
use Rattle.std.proofs.Common.{zero, suc, ◌≡◌, ℕ, ◌+◌, ◌-◌, ◌<◌, ◌≤◌, ◌⊎◌, inl, inr, List, [], ◌∷◌, length, get_or, take, drop, refl, sym, ◌∙◌, ap, arith, Bool, true, false, cond, eqb, subst, add-one, drop-cons, Result, Ok, Err, IfOk}
use Rattle.std.specs.Prelude.{reverse}
use Rattle.std.proofs.Math.Path.{fun_ext}
use Rattle.std.proofs.lemmas.Bool.{cases_lt, ne_eqb, eqb-true}
use Rattle.std.proofs.lemmas.List.{get_or_past, get_or-reverse, length-reverse}
use Rattle.disk.specs.declared.update.Update.{Update}
use Rattle.disk.specs.declared.call.Call.{Call}
use Rattle.disk.specs.declared.landing.Landed.{Landed}
use Rattle.disk.specs.Moments.{Image, Moment, History, newest, seen, Among, SectorMayHold, Left, at_rest, written_to}
use Rattle.disk.specs.Calls.{image_of, history_of_calls, written_by, IsLastSync}
use Rattle.disk.specs.Landing.{contents_of, number_for, landed_image}
use Rattle.disk.proofs.RecordLemmas.{IsTold}

number_for-other : (landed : Landed) (landing : List Landed) (n : ℕ) → (landed.sector ≡ n → ⊥) → number_for (landed ∷ landing) n ≡ number_for landing n
number_for-other landed landing n other = rw (ne_eqb landed.sector n other) refl

pub number_for-drop : (landing : List Landed) (n i : ℕ) (d : Landed) → i < length landing → ((get_or landing i d).sector ≡ n → ⊥)
    → number_for (drop i landing) n ≡ number_for (drop (i + 1) landing) n
number_for-drop landing n i d inside other =
    ap (λ rest. number_for rest n) (drop-cons landing i d inside) ∙ number_for-other (get_or landing i d) (drop (suc i) landing) n other
    ∙ ap (λ j. number_for (drop j landing) n) (sym (add-one i))

-- a sector that was not written is as it was
pub newest-unwritten : (updates : List Update) (image : Image) (n : ℕ) → written_to n updates ≡ [] → newest updates image n ≡ image n
newest-unwritten [] image n e = refl
newest-unwritten (update ∷ updates) image n e = go (eqb n update.target) (newest-unwritten updates image n) e where
  go : (b : Bool) → (written_to n updates ≡ [] → newest updates image n ≡ image n)
      → cond b (update.content ∷ written_to n updates) (written_to n updates) ≡ [] → cond b update.content (newest updates image n) ≡ image n
  go true rest e' = absurd cc
  go false rest e' = rest e'

-- past its end a device has nothing, and nothing fixed either
pub fixed-past : (size : ℕ) (rows first : List (List ℕ)) (calls : List Call) (n : ℕ) → length rows ≡ size → IsTold size rows first calls → size ≤ n
    → (history_of_calls first calls).now.fixed n ≡ []
fixed-past size rows first calls n len told past =
    sym (newest-unwritten (history_of_calls first calls).now.unsynced (history_of_calls first calls).now.fixed n (told.within n past))
    ∙ sym (told.told n) ∙ get_or_past rows n [] (omega arith)

-- the rows that replay what was seen at the last sync are what is fixed
pub fixed_rows : (size : ℕ) (sectors first first' rows : List (List ℕ)) (calls calls' calls'' : List Call) (k n : ℕ)
    → length sectors ≡ size → length first ≡ size → length rows ≡ size → IsTold size sectors first calls
    → first' ≡ first → calls' ≡ calls → calls'' ≡ calls → IsLastSync calls' k
    → (n < length first' → image_of rows n ≡ seen (history_of_calls first' (take k calls'')).now n)
    → image_of rows n ≡ (history_of_calls first calls).now.fixed n
fixed_rows size sectors first first' rows calls calls' calls'' k n len first_len rows_len told is_first is_calls is_calls' last below = elim (cases_lt n size) [
  | inl inside ↦
      let last' = rw is_calls at last in
      let below' = rw (is_first, is_calls') at below in
      below' (omega arith) ∙ sym (ap (λ image. image n) (last'.fixed first))
  | inr past ↦ get_or_past rows n [] (omega arith) ∙ sym (fixed-past size sectors first calls n len told past)
]

-- an element of the list, or past its end
written_among : (updates : List Update) (n i : ℕ) (d : List ℕ) → (get_or (written_to n updates) i d ≡ d) ⊎ Among updates n (get_or (written_to n updates) i d)
written_among [] n i d = inl refl
written_among (update ∷ updates) n i d = go (λ j. written_among updates n j d) (eqb n update.target) refl i where
  go : ((j : ℕ) → (get_or (written_to n updates) j d ≡ d) ⊎ Among updates n (get_or (written_to n updates) j d))
      → (b : Bool) → eqb n update.target ≡ b → (j : ℕ) → (get_or (cond b (update.content ∷ written_to n updates) (written_to n updates)) j d ≡ d)
      ⊎ Among (update ∷ updates) n (get_or (cond b (update.content ∷ written_to n updates) (written_to n updates)) j d)
  go rest true is zero = inr (inl (sym (eqb-true n update.target is), refl))
  go rest true is (suc j) = elim (rest j) [ inl e ↦ inl e | inr among ↦ inr (inr among) ]
  go rest false is j = elim (rest j) [ inl e ↦ inl e | inr among ↦ inr (inr among) ]

pub contents_among : (m : Moment) (n k : ℕ) → SectorMayHold m n (get_or (contents_of m n) k (m.fixed n))
contents_among m n zero = inl refl
contents_among m n (suc k) = elim (cases_lt k (length (written_to n m.unsynced))) [
  | inl inside ↦ subst (SectorMayHold m n) (sym (get_or-reverse (written_to n m.unsynced) k (m.fixed n) inside)) (written_among m.unsynced n (length (written_to n m.unsynced) - 1 - k) (m.fixed n))
  | inr past ↦ inl (get_or_past (reverse (written_to n m.unsynced)) k (m.fixed n) (subst (λ len. len ≤ k) (sym (length-reverse (written_to n m.unsynced))) past))
]

pub landed_is_left : (m : Moment) (landing : List Landed) → Left m (landed_image landing m)
landed_is_left m landing n = contents_among m n (number_for landing n)

nothing_there : (k : ℕ) → get_or {A = List ℕ} ([] ∷ []) k [] ≡ []
nothing_there zero = refl
nothing_there (suc k) = refl

-- rows on which each sector has what landed there are the landed image
pub landed_rows : (size : ℕ) (m : Moment) (landing : List Landed) (since : List Call) (fixed fixed' rows : List (List ℕ))
    → fixed' ≡ fixed → length fixed ≡ size → length rows ≡ size
    → ((n : ℕ) → image_of fixed n ≡ m.fixed n)
    → ((n : ℕ) → reverse (written_to n m.unsynced) ≡ written_by n since)
    → ((n : ℕ) → size ≤ n → written_to n m.unsynced ≡ [])
    → ((n : ℕ) → n < length fixed' → image_of rows n ≡ get_or (image_of fixed' n ∷ written_by n since) (number_for landing n) (image_of fixed' n))
    → image_of rows ≡ landed_image landing m
landed_rows size m landing since fixed fixed' rows is_fixed fixed_len rows_len fixed_is since_is within landed = let landed' = rw is_fixed at landed in fun_ext (λ n. elim (cases_lt n size) [
  | inl inside ↦ landed' n (omega arith) ∙ rw (fixed_is n, ← since_is n) refl
  | inr past ↦
      let bare : m.fixed n ≡ [] = sym (fixed_is n) ∙ get_or_past fixed n [] (omega arith) in
      get_or_past rows n [] (omega arith) ∙ sym (rw (within n past, bare) (nothing_there (number_for landing n)))
])

pub at_rest_as : {X E : Type 0} (r : Result X E) (of : X → History) (a b : Image) → IfOk r (λ x. of x ≡ at_rest a) → a ≡ b → IfOk r (λ x. of x ≡ at_rest b)
at_rest_as r of a b h e = subst (λ image. IfOk r (λ x. of x ≡ at_rest image)) e h

pub left_at_rest : {X E : Type 0} (r : Result X E) (of : X → History) (m : Moment) (image : Image) → Left m image → IfOk r (λ x. of x ≡ at_rest image) → IfOk r (λ x. Left m (seen (of x).now))
left_at_rest (Ok x) of m image left h = subst (λ h. Left m (seen h.now)) (sym h) left
left_at_rest (Err e) of m image left h = h
