-- Orders of records: one is put in, one is taken out.
use Rattle.std.proofs.Common.{ℕ, zero, suc, List, [], ◌∷◌, ◌++◌, ◌≡◌, ◌≢◌, ◌<◌, ◌+◌, ◌∙◌, ◌⊎◌, inl, inr, length, get_or, take, drop, Ordering, Less, Equal, Greater, nat_cmp, refl, sym, ap, subst, arith}
use Rattle.std.specs.Ordering.{ordering_then, ordering_reverse}
use Rattle.std.specs.Cmp.{IsTotalOrder}
use Rattle.std.specs.List.{AllByRecursion, Contains, insert, remove}
use Rattle.std.proofs.lemmas.Cmp.{ranked, tied_itself, then_total, on_total, nat_cmp_total, nat_list_cmp_total}
use Rattle.std.proofs.lemmas.Bool.{cases_order, lt-ltb}
use Rattle.std.proofs.lemmas.List.{take-append-drop, get_or-take, get_or-drop, get_or_default, length-take, length-drop}
use Rattle.std.proofs.lemmas.List.Elements.{Contains-append_left, Contains-append_right, Contains-append_cases}
use Rattle.sector.specs.Written.{each_at}
use Rattle.directory.specs.declared.order.By.{By}
use Rattle.directory.specs.declared.order.By.TheVariants as by
use Rattle.directory.specs.Records.{Record, stamp_of, name_of}
use Rattle.directory.specs.Order.{Placed, compare, compare_placed, at_place, IsBefore, AreRising, IsPosition, IsInserted, IsTakenOut}

-- What comes before what

pub compare_total : (by : By) → IsTotalOrder (compare by)
compare_total by.Stamp = on_total stamp_of nat_cmp_total
compare_total by.Name = on_total name_of nat_list_cmp_total

pub placed_total : (by : By) → IsTotalOrder (compare_placed by)
placed_total by = then_total (on_total (λ (x : Placed). x.0) (compare_total by)) (on_total (λ (x : Placed). x.1) nat_cmp_total)

pub less≢equal : (o : Ordering) → o ≡ Less → o ≡ Equal → ⊥
less≢equal o a b = absurd cc

less≢greater : (o : Ordering) → o ≡ Less → o ≡ Greater → ⊥
less≢greater o a b = absurd cc

pub not_before_itself : (by : By) (a : Placed) → IsBefore by a a → ⊥
not_before_itself by a is = less≢equal (compare_placed by a a) is (tied_itself (placed_total by) a)

pub before_trans : (by : By) (a b c : Placed) → IsBefore by a b → IsBefore by b c → IsBefore by a c
before_trans by a b c first second = (placed_total by).trans a b c first second

pub low_first : (a b : ℕ) → nat_cmp a b ≡ Less → a < b
low_first a b is = ranked a b Less (sym is)

pub tied_same : (a b : ℕ) → nat_cmp a b ≡ Equal → a ≡ b
tied_same a b is = ranked a b Equal (sym is)

pub cmp_low : (a b : ℕ) → a < b → nat_cmp a b ≡ Less
cmp_low a b low = rw (lt-ltb a b low) refl

pub cmp_same : (a b : ℕ) → a ≡ b → nat_cmp a b ≡ Equal
cmp_same a b same = ap (nat_cmp a) (sym same) ∙ tied_itself nat_cmp_total a

-- of two the keys decide, and of one key the places
then_less : (x y : Ordering) → ordering_then x y ≡ Less → (x ≡ Less) ⊎ ((x ≡ Equal) × (y ≡ Less))
then_less Less y is = inl refl
then_less Equal y is = inr (refl, is)
then_less Greater y is = absurd (less≢greater Less refl (sym is))

pub then_equal : (x y : Ordering) → ordering_then x y ≡ Equal → (x ≡ Equal) × (y ≡ Equal)
then_equal Less y is = absurd (less≢equal Less refl is)
then_equal Equal y is = (refl, is)
then_equal Greater y is = absurd cc

pub before_cases : (by : By) (a b : Placed) → IsBefore by a b → (compare by a.0 b.0 ≡ Less) ⊎ ((compare by a.0 b.0 ≡ Equal) × (a.1 < b.1))
before_cases by a b is = elim (then_less (compare by a.0 b.0) (nat_cmp a.1 b.1) is) [
  | inl less ↦ inl less
  | inr tied ↦ inr (tied.0, low_first a.1 b.1 tied.1)
]

pub less_before : (by : By) (a b : Placed) → compare by a.0 b.0 ≡ Less → IsBefore by a b
less_before by a b is = ap (λ o. ordering_then o (nat_cmp a.1 b.1)) is

pub tied_less : (by : By) (a b : Placed) → compare by a.0 b.0 ≡ Equal → a.1 < b.1 → IsBefore by a b
tied_less by a b is low = ap (λ o. ordering_then o (nat_cmp a.1 b.1)) is ∙ cmp_low a.1 b.1 low

-- of two places one is before the other
pub other_before : (by : By) (a b : Placed) → a.1 ≢ b.1 → (IsBefore by a b → ⊥) → IsBefore by b a
other_before by a b apart never = which (compare_placed by a b) refl
  where
    which : (o : Ordering) → compare_placed by a b ≡ o → IsBefore by b a
    which Less is = absurd (never is)
    which Equal is = absurd (apart (tied_same a.1 b.1 (then_equal (compare by a.0 b.0) (nat_cmp a.1 b.1) is).1))
    which Greater is = (placed_total by).antisymm b a ∙ ap ordering_reverse is

module _ (by : By) (records : List Record) where
  abbrev Before : ℕ → ℕ → Type 0
  Before a b = IsBefore by (at_place records a) (at_place records b)

  -- Lists that rise

  pub rising_at : (xs : List ℕ) (i j : ℕ) (d : ℕ) → AreRising by records xs → i < j → j < length xs → Before (get_or xs i d) (get_or xs j d)
  rising_at [] i j d rising before within = absurd (omega arith)
  rising_at (x ∷ xs) zero zero d rising before within = absurd (omega arith)
  rising_at (x ∷ xs) zero (suc j) d rising before within = each_at (λ other. Before x other) xs j d rising.0 (omega arith)
  rising_at (x ∷ xs) (suc i) zero d rising before within = absurd (omega arith)
  rising_at (x ∷ xs) (suc i) (suc j) d rising before within = rising_at xs i j d rising.1 (omega arith) (omega arith)

  all_with : (P : ℕ → Type 0) (xs ys : List ℕ) (y : ℕ) → AllByRecursion P (xs ++ ys) → P y → AllByRecursion P (xs ++ y ∷ ys)
  all_with P [] ys y all is = (is, all)
  all_with P (x ∷ xs) ys y all is = (all.0, all_with P xs ys y all.1 is)

  all_without : (P : ℕ → Type 0) (xs ys : List ℕ) (y : ℕ) → AllByRecursion P (xs ++ y ∷ ys) → AllByRecursion P (xs ++ ys) × P y
  all_without P [] ys y all = (all.1, all.0)
  all_without P (x ∷ xs) ys y all = let rest = all_without P xs ys y all.1 in ((all.0, rest.0), rest.1)

  rising_with : (xs ys : List ℕ) (y : ℕ) → AreRising by records (xs ++ ys) → AllByRecursion (λ x. Before x y) xs → AllByRecursion (λ x. Before y x) ys
      → AreRising by records (xs ++ y ∷ ys)
  rising_with [] ys y rising low high = (high, rising)
  rising_with (x ∷ xs) ys y rising low high =
      (all_with (λ other. Before x other) xs ys y rising.0 low.0, rising_with xs ys y rising.1 low.1 high)

  -- what is left when one is removed rises, and no longer has it
  rising_without : (xs ys : List ℕ) (y : ℕ) → AreRising by records (xs ++ y ∷ ys) → AreRising by records (xs ++ ys)
  rising_without [] ys y rising = rising.1
  rising_without (x ∷ xs) ys y rising = ((all_without (λ other. Before x other) xs ys y rising.0).0, rising_without xs ys y rising.1)

  gone_from : (xs ys : List ℕ) (y : ℕ) → AreRising by records (xs ++ y ∷ ys) → AllByRecursion (λ x. x ≢ y) (xs ++ ys)
  gone_from [] ys y rising = behind ys rising.0
    where
      behind : (zs : List ℕ) → AllByRecursion (λ x. Before y x) zs → AllByRecursion (λ x. x ≢ y) zs
      behind [] all = tt
      behind (z ∷ zs) all = (λ same. not_before_itself by (at_place records y) (subst (λ x. Before y x) same all.0), behind zs all.1)
  gone_from (x ∷ xs) ys y rising = (
    λ same. not_before_itself by (at_place records y) (subst (λ z. Before z y) same (all_without (λ other. Before x other) xs ys y rising.0).1),
    gone_from xs ys y rising.1,
  )

-- What a list has

has_first : (xs : List ℕ) (x : ℕ) → Contains (x ∷ xs) x
has_first xs x = (0, omega arith, refl)

has_behind : (xs : List ℕ) (x y : ℕ) → Contains xs y → Contains (x ∷ xs) y
has_behind xs x y has = (suc has.0, omega (arith, has.1), has.2)

has_cases : (xs : List ℕ) (x y : ℕ) → Contains (x ∷ xs) y → (y ≡ x) ⊎ Contains xs y
has_cases xs x y (zero, within, is) = inl (sym is)
has_cases xs x y (suc k, within, is) = inr (k, omega arith, is)

has_one_more : (xs ys : List ℕ) (y other : ℕ) → (other ≡ y) ⊎ Contains (xs ++ ys) other → Contains (xs ++ y ∷ ys) other
has_one_more xs ys y other (inl same) = subst (Contains (xs ++ y ∷ ys)) (sym same) (Contains-append_right xs (y ∷ ys) y (has_first ys y))
has_one_more xs ys y other (inr has) = elim (Contains-append_cases xs ys other has) [
  | inl prefix ↦ Contains-append_left xs (y ∷ ys) other prefix
  | inr back ↦ Contains-append_right xs (y ∷ ys) other (has_behind ys y other back)
]

was_one_more : (xs ys : List ℕ) (y other : ℕ) → Contains (xs ++ y ∷ ys) other → (other ≡ y) ⊎ Contains (xs ++ ys) other
was_one_more xs ys y other has = elim (Contains-append_cases xs (y ∷ ys) other has) [
  | inl prefix ↦ inr (Contains-append_left xs ys other prefix)
  | inr back ↦ elim (has_cases ys y other back) [
    | inl same ↦ inl same
    | inr further ↦ inr (Contains-append_right xs ys other further)
  ]
]

has_none_of : (P : ℕ → Type 0) (xs : List ℕ) (x : ℕ) → AllByRecursion P xs → Contains xs x → P x
has_none_of P xs x all has = subst P has.2 (each_at P xs has.0 x all has.1)

-- The place that a search finds

pub all_from_at : (P : ℕ → Type 0) (xs : List ℕ) → ((k : ℕ) → k < length xs → P (get_or xs k 0)) → AllByRecursion P xs
all_from_at P [] at = tt
all_from_at P (x ∷ xs) at = (at 0 (omega arith), all_from_at P xs (λ k within. at (suc k) (omega arith)))

module _ (by : By) (records : List Record) (xs : List ℕ) (place i : ℕ) (rising : AreRising by records xs)
    (point : IsPosition by records xs (at_place records place) i) where
  pub inserted : (Contains xs place → ⊥) → IsInserted by records xs (insert xs i place) place
  inserted new = record {
    rising = rising_with by records (take i xs) (drop i xs) place (subst (AreRising by records) (sym (take-append-drop i xs)) rising)
        (all_from_at (λ x. Before by records x place) (take i xs) (λ k low.
        let before : k < i = omega (arith, length-take i xs) in
        subst (λ x. Before by records x place) (sym (get_or-take i xs k 0 before)) (point.before k before)))
        (all_from_at (λ x. Before by records place x) (drop i xs) (λ k low.
        let far : i + k < length xs = omega (arith, length-drop i xs) in
        subst (λ x. Before by records place x) (sym (get_or-drop i xs k 0))
        (other_before by (at_place records (get_or xs (i + k) 0)) (at_place records place)
        (λ same. new (i + k, far, get_or_default xs (i + k) place 0 far ∙ same)) (point.behind (i + k) (omega arith) far))));
    all = λ other. (
      λ has. subst (λ zs. (other ≡ place) ⊎ Contains zs other) (take-append-drop i xs) (was_one_more (take i xs) (drop i xs) place other has),
      λ has. has_one_more (take i xs) (drop i xs) place other (subst (λ zs. (other ≡ place) ⊎ Contains zs other) (sym (take-append-drop i xs)) has),
    );
  }

  -- one that is contained is at the place
  at_point : (has : Contains xs place) → has.0 ≡ i
  at_point has = elim (cases_order has.0 i) [
    | inl same ↦ same
    | inr off ↦ elim off [
      | inl low ↦
          absurd (not_before_itself by (at_place records place)
          (subst (λ x. Before by records x place) (get_or_default xs has.0 0 place has.1 ∙ has.2) (point.before has.0 low)))
      | inr high ↦
          absurd (point.behind i (omega arith) (omega (arith, has.1))
          (subst (λ x. Before by records (get_or xs i 0) x) (get_or_default xs has.0 0 place has.1 ∙ has.2) (rising_at by records xs i has.0 0 rising high has.1)))
    ]
  ]

  pub there : Contains xs place → i < length xs
  there has = subst (λ k. k < length xs) (at_point has) has.1

  pub taken_out : Contains xs place → IsTakenOut by records xs (remove xs i) place
  taken_out has =
      let split : xs ≡ take i xs ++ place ∷ drop (suc i) xs = around xs i (there has) (subst (λ k. get_or xs k place ≡ place) (at_point has) has.2) in
      let risen : AreRising by records (take i xs ++ place ∷ drop (suc i) xs) = subst (AreRising by records) split rising in
      record {
        rising = rising_without by records (take i xs) (drop (suc i) xs) place risen;
        all = λ other. (
          λ left. (
            has_none_of (λ x. x ≢ place) (remove xs i) other (gone_from by records (take i xs) (drop (suc i) xs) place risen) left,
            subst (λ zs. Contains zs other) (sym split) (has_one_more (take i xs) (drop (suc i) xs) place other (inr left)),
          ),
          λ was. elim (was_one_more (take i xs) (drop (suc i) xs) place other (subst (λ zs. Contains zs other) split was.1)) [
            | inl same ↦ absurd (was.0 same)
            | inr left ↦ left
          ],
        );
      }
    where
      around : (zs : List ℕ) (k : ℕ) → k < length zs → get_or zs k place ≡ place → zs ≡ take k zs ++ place ∷ drop (suc k) zs
      around [] k within is = absurd (omega arith)
      around (z ∷ zs) zero within is = ap (λ x. x ∷ zs) is
      around (z ∷ zs) (suc k) within is = ap (λ l. z ∷ l) (around zs k (omega arith) is)

-- Other records that compare the same

pub rising_same : (by : By) (records others : List Record) (xs : List ℕ)
    → ((a b : ℕ) → Contains xs a → Contains xs b → compare_placed by (at_place others a) (at_place others b) ≡ compare_placed by (at_place records a) (at_place records b))
    → AreRising by records xs → AreRising by others xs
rising_same by records others [] same rising = tt
rising_same by records others (x ∷ xs) same rising = (
  each xs (λ b has. same x b (has_first xs x) (has_behind xs x b has)) rising.0,
  rising_same by records others xs (λ a b has has_b. same a b (has_behind xs x a has) (has_behind xs x b has_b)) rising.1,
)
  where
    each : (ys : List ℕ)
        → ((b : ℕ) → Contains ys b → compare_placed by (at_place others x) (at_place others b) ≡ compare_placed by (at_place records x) (at_place records b))
        → AllByRecursion (λ y. Before by records x y) ys → AllByRecursion (λ y. Before by others x y) ys
    each [] alike all = tt
    each (y ∷ ys) alike all = (alike y (has_first ys y) ∙ all.0, each ys (λ b has. alike b (has_behind ys y b has)) all.1)
