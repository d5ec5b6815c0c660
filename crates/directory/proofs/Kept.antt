-- What a change of the records keeps.
use Rattle.std.proofs.Common.{◌≡◌, ◌≢◌, ◌<◌, ◌-◌, ℕ, zero, suc, List, [], ◌∷◌, ◌++◌, length, get_or, set, take, sym, ap, ◌∙◌, arith, inl, inr}
use Rattle.std.specs.List.{AllByRecursion}
use Rattle.std.proofs.lemmas.Bool.{cases_eq, cases_lt}
use Rattle.std.proofs.lemmas.List.{length-set, length-take, length_push, get_or-set_same, get_or-set_other, get_or-take, get_or_default, get_or_append_left, get_or_push}
use Rattle.sector.specs.Written.{each_at, each_push}
use Rattle.directory.specs.declared.names.TheConstants.Names.{MAX_NAMES}
use Rattle.directory.specs.Records.{Record, record_from, without_place, name_of, ApartBy, NamesApart, IsRecord, IsDirectory}

pub each_set : (P : Record → Type 0) (xs : List Record) (p : ℕ) (x : Record) → AllByRecursion P xs → P x → AllByRecursion P (set xs p x)
each_set P [] p x all is = tt
each_set P (y ∷ xs) zero x all is = (is, all.1)
each_set P (y ∷ xs) (suc p) x all is = (all.0, each_set P xs p x all.1 is)

pub each_take : (P : Record → Type 0) (n : ℕ) (xs : List Record) → AllByRecursion P xs → AllByRecursion P (take n xs)
each_take P zero xs all = tt
each_take P (suc n) [] all = tt
each_take P (suc n) (x ∷ xs) all = (all.0, each_take P n xs all.1)

-- the same names at the same places
apart_same : (xs ys : List Record) → length ys ≡ length xs → ((i : ℕ) (d : Record) → i < length xs → (get_or ys i d).1.name ≡ (get_or xs i d).1.name) → NamesApart xs → NamesApart ys
apart_same xs ys len same apart i j d lt within = λ e.
    apart i j d lt (omega arith) (sym (same i d (omega arith)) ∙ e ∙ same j d (omega arith))

pub set_name : (xs : List Record) (p : ℕ) (new : Record) → p < length xs → ((d : Record) → (get_or xs p d).1.name ≡ new.1.name) → (i : ℕ) (d : Record) → i < length xs → (get_or (set xs p new) i d).1.name ≡ (get_or xs i d).1.name
set_name xs p new h same i d lt =
    elim (cases_eq i p) [
      | inl e ↦ ap (λ (k : ℕ). (get_or (set xs p new) k d).1.name) e ∙ ap (λ (r : Record). r.1.name) (get_or-set_same xs p new d h) ∙ sym (same d) ∙ ap (λ (k : ℕ). (get_or xs k d).1.name) (sym e)
      | inr apart ↦ ap (λ (r : Record). r.1.name) (get_or-set_other xs p i new d apart)
    ]

pub IsDirectory-set : (xs : List Record) (p : ℕ) (new : Record) → IsDirectory xs → p < length xs → ((d : Record) → (get_or xs p d).1.name ≡ new.1.name) → IsRecord new → IsDirectory (set xs p new)
IsDirectory-set xs p new kept h same is = record {
  few = omega (arith, length-set xs p new, kept.few);
  each = each_set IsRecord xs p new kept.each is;
  apart = apart_same xs (set xs p new) (length-set xs p new) (set_name xs p new h same) kept.apart;
}

pub IsDirectory-push : (xs : List Record) (new : Record) → IsDirectory xs → length xs < MAX_NAMES → ((i : ℕ) (d : Record) → i < length xs → (get_or xs i d).1.name ≢ new.1.name) → IsRecord new → IsDirectory (xs ++ new ∷ [])
IsDirectory-push xs new kept room fresh is = record {
  few = omega (arith, length_push xs new);
  each = each_push IsRecord xs new kept.each is;
  apart = λ i j d lt within.
      let prefix : get_or (xs ++ new ∷ []) i d ≡ get_or xs i d = get_or_append_left xs (new ∷ []) d i (omega (arith, length_push xs new)) in
      elim (cases_lt j (length xs)) [
        | inl old ↦ λ e. kept.apart i j d lt old (ap (λ (r : Record). r.1.name) (sym prefix) ∙ e ∙ ap (λ (r : Record). r.1.name) (get_or_append_left xs (new ∷ []) d j old))
        | inr last ↦
            let back : get_or (xs ++ new ∷ []) j d ≡ new = get_or_push xs new d j (omega (arith, length_push xs new)) in
            λ e. fresh i d (omega (arith, length_push xs new)) (ap (λ (r : Record). r.1.name) (sym prefix) ∙ e ∙ ap (λ (r : Record). r.1.name) back)
      ];
}

-- a key that no record has, in the place of another one or at the end

module _ {K : Type 0} (key_of : Record → K) (xs : List Record) (new : Record) (fresh : (i : ℕ) (d : Record) → i < length xs → key_of (get_or xs i d) ≢ key_of new) (apart : ApartBy key_of xs) where
  pub set_apart : (p : ℕ) → p < length xs → ApartBy key_of (set xs p new)
  set_apart p h i j d lt within =
      let end : j < length xs = omega (arith, length-set xs p new) in
      elim (cases_eq i p) [
        | inl here ↦
            let other : j ≢ p = omega arith in
            λ e. fresh j d end (sym (sym (ap (λ (k : ℕ). key_of (get_or (set xs p new) k d)) here ∙ ap key_of (get_or-set_same xs p new d h)) ∙ e ∙ ap key_of (get_or-set_other xs p j new d other)))
        | inr away ↦
            elim (cases_eq j p) [
              | inl here ↦ λ e. fresh i d (omega arith) (sym (ap key_of (get_or-set_other xs p i new d away)) ∙ e ∙ (ap (λ (k : ℕ). key_of (get_or (set xs p new) k d)) here ∙ ap key_of (get_or-set_same xs p new d h)))
              | inr other ↦ λ e. apart i j d lt end (sym (ap key_of (get_or-set_other xs p i new d away)) ∙ e ∙ ap key_of (get_or-set_other xs p j new d other))
            ]
      ]

  pub push_apart : ApartBy key_of (xs ++ new ∷ [])
  push_apart i j d lt within =
      let prefix : get_or (xs ++ new ∷ []) i d ≡ get_or xs i d = get_or_append_left xs (new ∷ []) d i (omega (arith, length_push xs new)) in
      elim (cases_lt j (length xs)) [
        | inl old ↦ λ e. apart i j d lt old (sym (ap key_of prefix) ∙ e ∙ ap key_of (get_or_append_left xs (new ∷ []) d j old))
        | inr last ↦
            let back : get_or (xs ++ new ∷ []) j d ≡ new = get_or_push xs new d j (omega (arith, length_push xs new)) in
            λ e. fresh i d (omega (arith, length_push xs new)) (sym (ap key_of prefix) ∙ e ∙ ap key_of back)
      ]

-- the last record, and what is at a place once it has moved
module _ (xs : List Record) (p : ℕ) (h : p < length xs) (last : Record) (is : last ≡ get_or xs (length xs - 1) last) where
  pub moved_at : (i : ℕ) (d : Record) → i < length xs - 1 → (i ≢ p) → get_or (take (length xs - 1) (set xs p last)) i d ≡ get_or xs i d
  moved_at i d lt apart = get_or-take (length xs - 1) (set xs p last) i d lt ∙ get_or-set_other xs p i last d apart

  pub moved_here : (i : ℕ) (d : Record) → i < length xs - 1 → i ≡ p → get_or (take (length xs - 1) (set xs p last)) i d ≡ get_or xs (length xs - 1) d
  moved_here i d lt e =
      get_or-take (length xs - 1) (set xs p last) i d lt ∙ ap (λ (k : ℕ). get_or (set xs p last) k d) e ∙ get_or-set_same xs p last d h ∙ is
      ∙ get_or_default xs (length xs - 1) last d (omega arith)

  pub moved_apart : {K : Type 0} (key_of : Record → K) → ApartBy key_of xs → ApartBy key_of (take (length xs - 1) (set xs p last))
  moved_apart key_of distinct i j d lt within =
      let end : j < length xs - 1 = omega (arith, length-take (length xs - 1) (set xs p last), length-set xs p last) in
      elim (cases_eq i p) [
        | inl here ↦
            let other : j ≢ p = omega arith in
            λ e. distinct j (length xs - 1) d end (omega arith) (sym (ap key_of (sym (moved_here i d (omega arith) here)) ∙ e ∙ ap key_of (moved_at j d end other)))
        | inr apart ↦
            elim (cases_eq j p) [
              | inl here ↦ λ e. distinct i (length xs - 1) d (omega arith) (omega arith) (ap key_of (sym (moved_at i d (omega arith) apart)) ∙ e ∙ ap key_of (moved_here j d end here))
              | inr other ↦ λ e. distinct i j d lt (omega arith) (ap key_of (sym (moved_at i d (omega arith) apart)) ∙ e ∙ ap key_of (moved_at j d end other))
            ]
      ]

  IsDirectory-moved : IsDirectory xs → IsDirectory (take (length xs - 1) (set xs p last))
  IsDirectory-moved kept = record {
    few = omega (arith, length-take (length xs - 1) (set xs p last), length-set xs p last, kept.few);
    each = each_take IsRecord (length xs - 1) (set xs p last) (each_set IsRecord xs p last kept.each (rw is (each_at IsRecord xs (length xs - 1) last kept.each (omega arith))));
    apart = moved_apart name_of kept.apart;
  }

nameless : Record
nameless = record_from 0 [] 0

pub IsDirectory-remove : (xs : List Record) (p : ℕ) → IsDirectory xs → p < length xs → IsDirectory (without_place xs p)
unfolding nameless
IsDirectory-remove (x ∷ xs) p kept h =
    let ys = x ∷ xs in
    let last = get_or ys (length ys - 1) nameless in
    IsDirectory-moved ys p h last (get_or_default ys (length ys - 1) nameless last (omega arith)) kept
IsDirectory-remove [] p kept h = absurd (omega arith)
