-- The connections by rising number, over the slots of a slab.
use Rattle.std.proofs.Common.{◌≡◌, ◌≢◌, ℕ, zero, suc, ◌+◌, ◌<◌, List, [], ◌∷◌, length, get_or, map, Option, None, Some, refl, sym, ap, ◌∙◌, subst, arith, eq-eqb, ne_eqb, lt-ltb, le-ltb, add-zero, zero-add}
use Rattle.std.specs.Option.{option_map}
use Rattle.std.proofs.lemmas.Bool.{cases_eq}
use Rattle.std.proofs.lemmas.List.{length-map}
use Rattle.std.proofs.Common.{◌≤◌, inl, inr, Bool, true, false, IsTrue, IsSome, OnSome, IfNone, is_some, cond}
use Rattle.std.proofs.lemmas.List.Sums.{sum_by-set}
use Rattle.slab.specs.Slab.{Slab, get, ContainsKey, slab_len, with_value, Updates, entries_from, entries}
use Rattle.slab.proofs.SlabLemmas.{length-entries, Updates-with_value, ContainsKey-within}
use Rattle.model_tree.specs.Trees.Keyed.{Keyed, at, with, without, IsAbove}
use Rattle.model.specs.Server.World as world
use Rattle.model_tree.proofs.Trees.KeyedLaws.{at-below, at-first, at-rest}
use Rattle.server.specs.Connections.{connection_view, numbered, connections_of, IsRising}
use Rattle.server.specs.declared.connection.Connection.{Connection}

abbrev pub from : ℕ → List (Option Connection) → Keyed world.Connection
from key slots = map numbered (entries_from key slots)

above : (key least : ℕ) (slots : List (Option Connection)) → least < key → IsAbove least (from key slots)
above key least [] low = tt
above key least (None ∷ rest) low = above (key + 1) least rest (omega arith)
above key least (Some value ∷ rest) low = (low, above (key + 1) key rest (omega arith))

rising : (key : ℕ) (slots : List (Option Connection)) → IsRising (from key slots)
rising key [] = tt
rising key (None ∷ rest) = rising (key + 1) rest
rising key (Some value ∷ rest) = above (key + 1) key rest (omega arith)

pub numbers_rise : (slab : Slab Connection) → IsRising (connections_of slab)
unfolding connections_of
numbers_rise slab = rising 0 slab.slots

-- What is at a number

at_slot : (key k : ℕ) (slots : List (Option Connection)) → at (key + k) (from key slots) ≡ option_map connection_view (get_or slots k None)
at_slot key k [] = refl
at_slot key zero (None ∷ rest) = at-below (from (key + 1) rest) (key + zero) (key + zero) (above (key + 1) (key + zero) rest (omega arith)) (omega arith)
at_slot key (suc k) (None ∷ rest) =
    let shift : key + suc k ≡ key + 1 + k = omega arith in
    rw shift (at_slot (key + 1) k rest)
at_slot key zero (Some value ∷ rest) = at-first key (key + zero) (connection_view value) (from (key + 1) rest) (omega arith)
at_slot key (suc k) (Some value ∷ rest) =
    let shift : key + suc k ≡ key + 1 + k = omega arith in
    at-rest key (key + suc k) (connection_view value) (from (key + 1) rest) (omega arith)
    ∙ (ap (λ (n : ℕ). at n (from (key + 1) rest)) shift ∙ at_slot (key + 1) k rest)

pub at_number : (slab : Slab Connection) (n : ℕ) → at n (connections_of slab) ≡ option_map connection_view (get slab n)
unfolding connections_of
at_number slab n = ap (λ (k : ℕ). at k (from 0 slab.slots)) (sym (zero-add n)) ∙ at_slot 0 n slab.slots

pub count_of : (slab : Slab Connection) → length (connections_of slab) ≡ slab_len slab
unfolding connections_of
count_of slab = length-map (entries slab) numbered ∙ length-entries slab

-- Slots that hold the same

abbrev Same : List (Option Connection) → List (Option Connection) → Type 0
Same old new = (k : ℕ) → get_or new k None ≡ get_or old k None

abbrev slots_from : ℕ → Option Connection → List (Option Connection) → Keyed world.Connection
slots_from key slot rest = from key (slot ∷ rest)

same_from : (key : ℕ) (old new : List (Option Connection)) → Same old new → from key new ≡ from key old
same_from key [] [] same = refl
same_from key [] (slot ∷ new) same =
    ap (λ (s : Option Connection). slots_from key s new) (same 0) ∙ same_from (key + 1) [] new (λ k. same (suc k))
same_from key (slot ∷ old) [] same =
    same_from (key + 1) old [] (λ k. same (suc k)) ∙ ap (λ (s : Option Connection). slots_from key s old) (same 0)
same_from key (None ∷ old) (new_slot ∷ new) same =
    ap (λ (s : Option Connection). slots_from key s new) (same 0) ∙ same_from (key + 1) old new (λ k. same (suc k))
same_from key (Some value ∷ old) (new_slot ∷ new) same =
    ap (λ (s : Option Connection). slots_from key s new) (same 0)
    ∙ ap (λ (rest : Keyed world.Connection). (key, connection_view value) ∷ rest) (same_from (key + 1) old new (λ k. same (suc k)))

-- A value at a number

module _ {A : Type 0} where
  with_here : (entry : ℕ × A) (rest : Keyed A) (key : ℕ) (value : A) → key ≡ entry.0 → with (entry ∷ rest) key value ≡ (key, value) ∷ rest
  with_here entry rest key value same = rw (eq-eqb key entry.0 same)

  with_behind : (entry : ℕ × A) (rest : Keyed A) (key : ℕ) (value : A) → entry.0 < key → with (entry ∷ rest) key value ≡ entry ∷ with rest key value
  with_behind entry rest key value high =
      let apart : key ≢ entry.0 = omega arith in
      rw (ne_eqb key entry.0 apart, le-ltb key entry.0 (omega arith))

  with_lowest : (entries : Keyed A) (key : ℕ) (value : A) → IsAbove key entries → with entries key value ≡ (key, value) ∷ entries
  with_lowest [] key value above = refl
  with_lowest (entry ∷ rest) key value above =
      let low : key < entry.0 = above.0 in
      let apart : key ≢ entry.0 = omega arith in
      rw (ne_eqb key entry.0 apart, lt-ltb key entry.0 low)

  without_here : (entry : ℕ × A) (rest : Keyed A) (key : ℕ) → key ≡ entry.0 → without (entry ∷ rest) key ≡ without rest key
  without_here entry rest key same = rw (eq-eqb key entry.0 same)

  without_elsewhere : (entry : ℕ × A) (rest : Keyed A) (key : ℕ) → key ≢ entry.0 → without (entry ∷ rest) key ≡ entry ∷ without rest key
  without_elsewhere entry rest key apart = rw (ne_eqb key entry.0 apart)

  without_lowest : (entries : Keyed A) (least key : ℕ) → IsAbove least entries → key < least + 1 → without entries key ≡ entries
  without_lowest [] least key above low = refl
  without_lowest (entry ∷ rest) least key above low =
      without_elsewhere entry rest key (omega (arith, above.0)) ∙ ap (λ (r : Keyed A). entry ∷ r) (without_lowest rest entry.0 key above.1 (omega (arith, above.0)))

-- every other slot holds the same
abbrev Others : ℕ → List (Option Connection) → List (Option Connection) → Type 0
Others k old new = (other : ℕ) → other ≢ k → get_or new other None ≡ get_or old other None

-- after the first slot
later : (k : ℕ) (slot new_slot : Option Connection) (old new : List (Option Connection)) → Others (suc k) (slot ∷ old) (new_slot ∷ new) → Others k old new
later k slot new_slot old new others other apart = others (suc other) (λ e. apart (omega (arith, e)))

written : (key k : ℕ) (value : Connection) (old new : List (Option Connection)) → get_or new k None ≡ Some value → Others k old new
    → from key new ≡ with (from key old) (key + k) (connection_view value)
written key k value old [] is others = let never : ⊥ = cc in absurd never
written key zero value [] (slot ∷ new) is others =
    ap (λ (s : Option Connection). slots_from key s new) is
    ∙ (ap (λ (rest : Keyed world.Connection). (key, connection_view value) ∷ rest) (same_from (key + 1) [] new (λ k. others (suc k) (omega arith)))
    ∙ ap (λ (n : ℕ). (n, connection_view value) ∷ []) (sym (add-zero key)))
written key (suc k) value [] (slot ∷ new) is others =
    let shift : key + 1 + k ≡ key + suc k = omega arith in
    ap (λ (s : Option Connection). slots_from key s new) (others 0 (omega arith))
    ∙ (written (key + 1) k value [] new is (λ other apart. others (suc other) (λ e. apart (omega (arith, e))))
    ∙ ap (λ (n : ℕ). (n, connection_view value) ∷ []) shift)
written key zero value (None ∷ old) (slot ∷ new) is others =
    ap (λ (s : Option Connection). slots_from key s new) is
    ∙ (ap (λ (rest : Keyed world.Connection). (key, connection_view value) ∷ rest) (same_from (key + 1) old new (λ k. others (suc k) (omega arith)))
    ∙ (sym (with_lowest (from (key + 1) old) key (connection_view value) (above (key + 1) key old (omega arith)))
    ∙ ap (λ (n : ℕ). with (from (key + 1) old) n (connection_view value)) (sym (add-zero key))))
written key zero value (Some before ∷ old) (slot ∷ new) is others =
    ap (λ (s : Option Connection). slots_from key s new) is
    ∙ (ap (λ (rest : Keyed world.Connection). (key, connection_view value) ∷ rest) (same_from (key + 1) old new (λ k. others (suc k) (omega arith)))
    ∙ (sym (with_here (key, connection_view before) (from (key + 1) old) key (connection_view value) refl)
    ∙ ap (λ (n : ℕ). with (from key (Some before ∷ old)) n (connection_view value)) (sym (add-zero key))))
written key (suc k) value (None ∷ old) (slot ∷ new) is others =
    let shift : key + 1 + k ≡ key + suc k = omega arith in
    ap (λ (s : Option Connection). slots_from key s new) (others 0 (omega arith))
    ∙ (written (key + 1) k value old new is (later k None slot old new others)
    ∙ ap (λ (n : ℕ). with (from (key + 1) old) n (connection_view value)) shift)
written key (suc k) value (Some before ∷ old) (slot ∷ new) is others =
    let shift : key + 1 + k ≡ key + suc k = omega arith in
    ap (λ (s : Option Connection). slots_from key s new) (others 0 (omega arith))
    ∙ (ap (λ (rest : Keyed world.Connection). (key, connection_view before) ∷ rest)
    (written (key + 1) k value old new is (later k (Some before) slot old new others)
    ∙ ap (λ (n : ℕ). with (from (key + 1) old) n (connection_view value)) shift)
    ∙ sym (with_behind (key, connection_view before) (from (key + 1) old) (key + suc k) (connection_view value) (omega arith)))

removed : (key k : ℕ) (old new : List (Option Connection)) → get_or new k None ≡ None → Others k old new
    → from key new ≡ without (from key old) (key + k)
removed key k [] new is others =
    same_from key [] new (λ other. emptied other)
  where
    emptied : (other : ℕ) → get_or new other None ≡ None
    emptied other = elim (cases_eq other k) [
      | inl here ↦ ap (λ (n : ℕ). get_or new n None) here ∙ is
      | inr apart ↦ others other apart
    ]
removed key zero (None ∷ old) [] is others =
    same_from (key + 1) old [] (λ k. others (suc k) (omega arith))
    ∙ sym (without_lowest (from (key + 1) old) key (key + 0) (above (key + 1) key old (omega arith)) (omega arith))
removed key zero (Some before ∷ old) [] is others =
    same_from (key + 1) old [] (λ k. others (suc k) (omega arith))
    ∙ (sym (without_lowest (from (key + 1) old) key (key + 0) (above (key + 1) key old (omega arith)) (omega arith))
    ∙ sym (without_here (key, connection_view before) (from (key + 1) old) (key + 0) (omega arith)))
removed key (suc k) (None ∷ old) [] is others =
    let shift : key + 1 + k ≡ key + suc k = omega arith in
    removed (key + 1) k old [] is (λ other apart. others (suc other) (λ e. apart (omega (arith, e))))
    ∙ ap (λ (n : ℕ). without (from (key + 1) old) n) shift
removed key (suc k) (Some before ∷ old) [] is others =
    let clash : None ≡ Some before = others 0 (omega arith) in
    let never : ⊥ = cc in absurd never
removed key zero (None ∷ old) (slot ∷ new) is others =
    ap (λ (s : Option Connection). slots_from key s new) is
    ∙ (same_from (key + 1) old new (λ k. others (suc k) (omega arith))
    ∙ sym (without_lowest (from (key + 1) old) key (key + 0) (above (key + 1) key old (omega arith)) (omega arith)))
removed key zero (Some before ∷ old) (slot ∷ new) is others =
    ap (λ (s : Option Connection). slots_from key s new) is
    ∙ (same_from (key + 1) old new (λ k. others (suc k) (omega arith))
    ∙ (sym (without_lowest (from (key + 1) old) key (key + 0) (above (key + 1) key old (omega arith)) (omega arith))
    ∙ sym (without_here (key, connection_view before) (from (key + 1) old) (key + 0) (omega arith))))
removed key (suc k) (None ∷ old) (slot ∷ new) is others =
    let shift : key + 1 + k ≡ key + suc k = omega arith in
    ap (λ (s : Option Connection). slots_from key s new) (others 0 (omega arith))
    ∙ (removed (key + 1) k old new is (later k None slot old new others)
    ∙ ap (λ (n : ℕ). without (from (key + 1) old) n) shift)
removed key (suc k) (Some before ∷ old) (slot ∷ new) is others =
    let shift : key + 1 + k ≡ key + suc k = omega arith in
    ap (λ (s : Option Connection). slots_from key s new) (others 0 (omega arith))
    ∙ (ap (λ (rest : Keyed world.Connection). (key, connection_view before) ∷ rest)
    (removed (key + 1) k old new is (later k (Some before) slot old new others)
    ∙ ap (λ (n : ℕ). without (from (key + 1) old) n) shift)
    ∙ sym (without_elsewhere (key, connection_view before) (from (key + 1) old) (key + suc k) (omega arith)))

pub with_slot : (old new : Slab Connection) (n : ℕ) (value : Connection) → Updates old new n (Some value)
    → connections_of new ≡ with (connections_of old) n (connection_view value)
unfolding connections_of
with_slot old new n value updates =
    written 0 n value old.slots new.slots updates.changed updates.others
    ∙ ap (λ (k : ℕ). with (from 0 old.slots) k (connection_view value)) (zero-add n)

pub without_slot : (old new : Slab Connection) (n : ℕ) → Updates old new n None → connections_of new ≡ without (connections_of old) n
unfolding connections_of
without_slot old new n updates =
    removed 0 n old.slots new.slots updates.changed updates.others ∙ ap (λ (k : ℕ). without (from 0 old.slots) k) (zero-add n)

-- What a reference into the slab represents, and what is written through it

module _ (slab : Slab Connection) (n : ℕ) where
  pub stands : (before : Connection) → Some before ≡ get slab n → at n (connections_of slab) ≡ Some (connection_view before)
  stands before is = at_number slab n ∙ ap (λ (slot : Option Connection). option_map connection_view slot) (sym is)

  pub stands_none : None ≡ get slab n → at n (connections_of slab) ≡ None
  stands_none is = at_number slab n ∙ ap (λ (slot : Option Connection). option_map connection_view slot) (sym is)

  pub stands_some : (view : world.Connection) → at n (connections_of slab) ≡ Some view → (before : Connection) × (get slab n ≡ Some before) × (connection_view before ≡ view)
  stands_some view is = by_slot (get slab n) refl
    where
      by_slot : (slot : Option Connection) → get slab n ≡ slot → (before : Connection) × (get slab n ≡ Some before) × (connection_view before ≡ view)
      by_slot None e =
          let free : at n (connections_of slab) ≡ None = stands_none (sym e) in
          let never : ⊥ = cc in absurd never
      by_slot (Some before) e =
          let there : at n (connections_of slab) ≡ Some (connection_view before) = stands before (sym e) in
          let same : connection_view before ≡ view = cc in
          (before, e, same)

  pub wrote : (before value : Connection) → Some before ≡ get slab n → connections_of (with_value slab n value) ≡ with (connections_of slab) n (connection_view value)
  wrote before value is = with_slot slab (with_value slab n value) n value (Updates-with_value slab n value (subst IsSome is refl))

  pub wrote_count : (before value : Connection) → Some before ≡ get slab n → slab_len (with_value slab n value) ≡ slab_len slab
  wrote_count before value is =
      let within : n < length slab.slots = ContainsKey-within slab n (subst IsSome is refl) in
      let here : cond {A = ℕ} (is_some (get_or slab.slots n None)) 1 0 ≡ 1 = ap (λ (slot : Option Connection). cond (is_some slot) 1 0) (sym is) in
      omega (arith, sum_by-set (λ (slot : Option Connection). cond (is_some slot) 1 0) slab.slots n (Some value) None within)

pub grew : (old new : Slab Connection) → new ≡ record old { capacity = new.capacity } → connections_of new ≡ connections_of old
unfolding connections_of
grew old new is = ap (λ (slab : Slab Connection). from 0 slab.slots) is

pub grew_count : (old new : Slab Connection) → new ≡ record old { capacity = new.capacity } → slab_len new ≡ slab_len old
grew_count old new is = ap slab_len is

module _ (slab : Slab Connection) (n : ℕ) where
  unchanged : (before : Connection) → Some before ≡ get slab n → connections_of (with_value slab n before) ≡ connections_of slab
  unfolding connections_of
  unchanged before is =
      let updates = Updates-with_value slab n before (subst IsSome is refl) in
      same_from 0 slab.slots (with_value slab n before).slots (λ k. elim (cases_eq k n) [
        | inl here ↦ ap (get (with_value slab n before)) here ∙ (updates.changed ∙ (is ∙ ap (get slab) (sym here)))
        | inr apart ↦ updates.others k apart
      ])

  -- what represents the same is written
  pub rewrote : (before value : Connection) → Some before ≡ get slab n → connection_view value ≡ connection_view before
      → connections_of (with_value slab n value) ≡ connections_of slab
  rewrote before value is same =
      wrote slab n before value is ∙ (ap (with (connections_of slab) n) same ∙ (sym (wrote slab n before before is) ∙ unchanged before is))

-- What a test of a number says

pub absent : (slab : Slab Connection) (n : ℕ) (tested : Bool) → (ContainsKey slab n → IsTrue tested) → tested ≡ false → at n (connections_of slab) ≡ None
absent slab n tested tells no_value = stands_none slab n (by_slot (get slab n) tells)
  where
    by_slot : (slot : Option Connection) → (IsSome slot → IsTrue tested) → None ≡ slot
    by_slot None tells = refl
    by_slot (Some value) tells =
        let yes : tested ≡ true = tells refl in
        let never : ⊥ = cc in absurd never

pub present : (slab : Slab Connection) (n : ℕ) → ContainsKey slab n → at n (connections_of slab) ≡ None → ⊥
present slab n contains free = by_slot (get slab n) refl contains
  where
    by_slot : (slot : Option Connection) → get slab n ≡ slot → IsSome slot → ⊥
    by_slot None e some = let never : ⊥ = cc in never
    by_slot (Some value) e some =
        let there : at n (connections_of slab) ≡ Some (connection_view value) = stands slab n value (sym e) in
        let never : ⊥ = cc in never

pub removed_count : (old new : Slab Connection) (removed : Option Connection) → OnSome removed (slab_len new + 1 ≡ slab_len old) → IfNone removed (new ≡ old)
    → slab_len new ≤ slab_len old
removed_count old new None count none = omega (arith, ap slab_len none)
removed_count old new (Some value) count none = omega (arith, count)
