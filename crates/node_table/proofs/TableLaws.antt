-- What a table keeps besides its cached nodes, after each change.
use Rattle.std.proofs.Common.{◌≡◌, ◌≢◌, ◌≤◌, ◌<◌, ◌+◌, ◌*◌, ℕ, zero, suc, List, [], ◌∷◌, ◌++◌, Option, Some, None, length, get_or, set, replicate, inl, inr, refl, sym, ap, ◌∙◌, subst, arith, eqb, eq-eqb, ne_eqb}
use Rattle.std.specs.List.{remove}
use Rattle.std.proofs.lemmas.Bool.{cases_eq, cases_lt}
use Rattle.std.proofs.lemmas.List.{length-append, length-set, get_or-set_same, get_or-set_other, get_or_past, length-replicate}
use Rattle.std.proofs.lemmas.Option.{slice_get_within, get_or_from_slice_get, same_Some}
use Rattle.std.specs.Prelude.{IfSome, slice_get}
use Rattle.std.proofs.lemmas.List.Edits.{length-remove}
use Rattle.model_tree.specs.Trees.Keyed.{Keyed, at, with, without, IsAbove}
use Rattle.model_tree.proofs.Trees.KeyedLaws.{at-with_same, at-with_other, at-without_same, at-without_other, IsAbove-with, IsAbove-without}
use Rattle.model_tree.proofs.Facts.OptionLaws.{some≢none}
use Rattle.layout.specs.CachedNodes.{CachedNode}
use Rattle.layout.specs.Marks.{once_if, times}
use Rattle.layout.specs.SumLaws.{sum_over}
use Rattle.layout.proofs.Formatted.{nones-at}
use Rattle.node_table.specs.declared.table.TheConstants.Table.{MAX_NODES}
use Rattle.node_table.specs.Index.{key_at}
use Rattle.node_table.specs.Tables.{node_number, node_number_at, HaveOwnPlaces, AreBelow, IsFree, charge_of, charge_there, charge_of_all, count_of_all, vacancy, vacant, IsIndexed}
use Rattle.node_table.proofs.IndexLaws.{with-last, without-entry}

-- ---- sums

abbrev worth_there : (CachedNode → ℕ) → Option CachedNode → ℕ
worth_there worth None = 0
worth_there worth (Some cached) = worth cached

sum-set : (worth : CachedNode → ℕ) (cached_nodes : List (Option CachedNode)) (place : ℕ) (cached : Option CachedNode) → place < length cached_nodes
    → sum_over worth (set cached_nodes place cached) + worth_there worth (get_or cached_nodes place None) ≡ sum_over worth cached_nodes + worth_there worth cached
sum-set worth [] place cached h = absurd (omega arith)
sum-set worth (None ∷ cached_nodes) zero None h = refl
sum-set worth (None ∷ cached_nodes) zero (Some cached) h = omega arith
sum-set worth (Some one ∷ cached_nodes) zero None h = omega arith
sum-set worth (Some one ∷ cached_nodes) zero (Some cached) h = omega arith
sum-set worth (None ∷ cached_nodes) (suc place) cached h = sum-set worth cached_nodes place cached (omega arith)
sum-set worth (Some one ∷ cached_nodes) (suc place) cached h = omega (arith, sum-set worth cached_nodes place cached (omega arith))

charge-there : (cached : Option CachedNode) → worth_there charge_of cached ≡ charge_there cached
charge-there None = refl
charge-there (Some cached) = refl

pub charge-set : (cached_nodes : List (Option CachedNode)) (place : ℕ) (cached : Option CachedNode) → place < length cached_nodes
    → charge_of_all (set cached_nodes place cached) + charge_there (get_or cached_nodes place None) ≡ charge_of_all cached_nodes + charge_there cached
charge-set cached_nodes place cached h = omega (arith, sum-set charge_of cached_nodes place cached h, charge-there (get_or cached_nodes place None), charge-there cached)

pub charge-most : (cached : CachedNode) → length cached.blocks ≤ 4096 → charge_of cached ≤ 4105
charge-most cached few = omega arith

pub charges-most : (cached_nodes : List (Option CachedNode)) → ((place : ℕ) (cached : CachedNode) → get_or cached_nodes place None ≡ Some cached → length cached.blocks ≤ 4096) → charge_of_all cached_nodes ≤ 4105 * length cached_nodes
charges-most [] each = omega arith
charges-most (None ∷ cached_nodes) each = omega (arith, charges-most cached_nodes (λ place cached is. each (suc place) cached is))
charges-most (Some one ∷ cached_nodes) each = omega (arith, charge-most one (each 0 one refl), charges-most cached_nodes (λ place cached is. each (suc place) cached is))

-- what is there is part of the sum
pub charge-within : (cached_nodes : List (Option CachedNode)) (place : ℕ) → charge_there (get_or cached_nodes place None) ≤ charge_of_all cached_nodes
charge-within [] place = omega arith
charge-within (None ∷ cached_nodes) zero = omega arith
charge-within (Some one ∷ cached_nodes) zero = omega arith
charge-within (None ∷ cached_nodes) (suc place) = charge-within cached_nodes place
charge-within (Some one ∷ cached_nodes) (suc place) = omega (arith, charge-within cached_nodes place)

-- ---- free places

vacant-here : (cached_nodes : List (Option CachedNode)) (place : ℕ) (cached : Option CachedNode) → place < length cached_nodes → vacant place (set cached_nodes place cached) ≡ vacancy cached
vacant-here [] place cached h = absurd (omega arith)
vacant-here (one ∷ cached_nodes) zero cached h = refl
vacant-here (one ∷ cached_nodes) (suc place) cached h = vacant-here cached_nodes place cached (omega arith)

vacant-elsewhere : (cached_nodes : List (Option CachedNode)) (place : ℕ) (cached : Option CachedNode) (n : ℕ) → n ≢ place → vacant n (set cached_nodes place cached) ≡ vacant n cached_nodes
vacant-elsewhere [] place cached n off = refl
vacant-elsewhere (one ∷ cached_nodes) zero cached zero off = absurd (off refl)
vacant-elsewhere (one ∷ cached_nodes) zero cached (suc n) off = refl
vacant-elsewhere (one ∷ cached_nodes) (suc place) cached zero off = refl
vacant-elsewhere (one ∷ cached_nodes) (suc place) cached (suc n) off = vacant-elsewhere cached_nodes place cached n (omega arith)

pub times-remove : (n : ℕ) (numbers : List ℕ) (i d : ℕ) → i < length numbers → times n (remove numbers i) + once_if (eqb n (get_or numbers i d)) ≡ times n numbers
times-remove n [] i d h = absurd (omega arith)
times-remove n (one ∷ numbers) zero d h = omega arith
times-remove n (one ∷ numbers) (suc i) d h = omega (arith, times-remove n numbers i d (omega arith))

pub times-push : (n : ℕ) (numbers : List ℕ) (one : ℕ) → times n (numbers ++ one ∷ []) ≡ times n numbers + once_if (eqb n one)
times-push n [] one = omega arith
times-push n (x ∷ numbers) one = omega (arith, times-push n numbers one)

pub vacant-free : (cached_nodes : List (Option CachedNode)) (place : ℕ) → IsFree cached_nodes place → vacant place cached_nodes ≡ 1
vacant-free [] place free = absurd (omega (arith, free.within))
vacant-free (one ∷ cached_nodes) zero free = ap vacancy free.free
vacant-free (one ∷ cached_nodes) (suc place) free = vacant-free cached_nodes place (record { within = omega (arith, free.within); free = free.free })

pub free-vacant : (cached_nodes : List (Option CachedNode)) (place : ℕ) → 0 < vacant place cached_nodes → IsFree cached_nodes place
free-vacant [] place some = absurd (omega arith)
free-vacant (None ∷ cached_nodes) zero some = record { within = omega arith; free = refl }
free-vacant (Some one ∷ cached_nodes) zero some = absurd (omega arith)
free-vacant (one ∷ cached_nodes) (suc place) some = let rest = free-vacant cached_nodes place some in record { within = omega (arith, rest.within); free = rest.free }

vacant-taken : (cached_nodes : List (Option CachedNode)) (place number : ℕ) → node_number_at cached_nodes place ≡ Some number → vacant place cached_nodes ≡ 0
vacant-taken [] place number is = refl
vacant-taken (None ∷ cached_nodes) zero number is = absurd (some≢none number (sym is))
vacant-taken (Some one ∷ cached_nodes) zero number is = refl
vacant-taken (one ∷ cached_nodes) (suc place) number is = vacant-taken cached_nodes place number is

-- ---- numbers

pub within-numbered : (cached_nodes : List (Option CachedNode)) (place number : ℕ) → node_number_at cached_nodes place ≡ Some number → place < length cached_nodes
within-numbered cached_nodes place number is = elim (cases_lt place (length cached_nodes)) [
  | inl low ↦ low
  | inr high ↦ absurd (some≢none number (sym is ∙ ap node_number (get_or_past cached_nodes place None high)))
]

number-here : (cached_nodes : List (Option CachedNode)) (place : ℕ) (cached : Option CachedNode) → place < length cached_nodes → node_number_at (set cached_nodes place cached) place ≡ node_number cached
number-here cached_nodes place cached h = ap node_number (get_or-set_same cached_nodes place cached None h)

number-elsewhere : (cached_nodes : List (Option CachedNode)) (place : ℕ) (cached : Option CachedNode) (n : ℕ) → n ≢ place → node_number_at (set cached_nodes place cached) n ≡ node_number_at cached_nodes n
number-elsewhere cached_nodes place cached n off = ap node_number (get_or-set_other cached_nodes place n cached None off)

each-set : (cached_nodes : List (Option CachedNode)) (place : ℕ) (cached : Option CachedNode) → place < length cached_nodes → ((one : CachedNode) → cached ≡ Some one → length one.blocks ≤ 4096)
    → ((p : ℕ) (one : CachedNode) → get_or cached_nodes p None ≡ Some one → length one.blocks ≤ 4096) → (p : ℕ) (one : CachedNode) → get_or (set cached_nodes place cached) p None ≡ Some one → length one.blocks ≤ 4096
each-set cached_nodes place cached h few each p one is = elim (cases_eq p place) [
  | inl here ↦ few one (sym (get_or-set_same cached_nodes place cached None h) ∙ ap (λ (n : ℕ). get_or (set cached_nodes place cached) n None) (sym here) ∙ is)
  | inr off ↦ each p one (sym (get_or-set_other cached_nodes place p cached None off) ∙ is)
]

counts : (cached_nodes : List (Option CachedNode)) (place : ℕ) (cached : Option CachedNode)
    → place < length cached_nodes
    → count_of_all (set cached_nodes place cached) + worth_there (λ c. 1) (get_or cached_nodes place None) ≡ count_of_all cached_nodes + worth_there (λ c. 1) cached
counts = sum-set (λ c. 1)

count-there : (cached : Option CachedNode) (number : ℕ) → node_number cached ≡ Some number → worth_there (λ c. 1) cached ≡ 1
count-there None number is = absurd (some≢none number (sym is))
count-there (Some cached) number is = refl

-- ---- a node is made

module _ (cached_nodes : List (Option CachedNode)) (index : Keyed ℕ) (free : List ℕ) (charge place : ℕ) (cached : CachedNode) (kept : IsIndexed cached_nodes index free charge) (is_free : IsFree cached_nodes place) (some : 0 < cached.fields.number) (below : AreBelow cached_nodes cached.fields.number) where
  number_of_none : node_number_at cached_nodes place ≡ None
  number_of_none = ap node_number is_free.free

  fresh : (n : ℕ) → at cached.fields.number index ≡ Some n → ⊥
  fresh n is = let under : cached.fields.number < cached.fields.number = below n cached.fields.number (kept.found cached.fields.number n is) in omega arith

  pushed : with index cached.fields.number place ≡ index ++ (cached.fields.number, place) ∷ []
  pushed = with-last index 0 cached.fields.number place kept.rising (λ k v is. below v k (kept.found k v is))

  found_made : (number n : ℕ) → at number (with index cached.fields.number place) ≡ Some n → node_number_at (set cached_nodes place (Some cached)) n ≡ Some number
  found_made number n is = elim (cases_eq number cached.fields.number) [
    | inl one ↦
        let here : place ≡ n = same_Some place n (sym (at-with_same index cached.fields.number place) ∙ ap (λ (k : ℕ). at k (with index cached.fields.number place)) (sym one) ∙ is) in
        ap (node_number_at (set cached_nodes place (Some cached))) (sym here) ∙ number-here cached_nodes place (Some cached) is_free.within ∙ ap (λ (k : ℕ). Some k) (sym one)
    | inr off ↦
        let there : node_number_at cached_nodes n ≡ Some number = kept.found number n (sym (at-with_other index cached.fields.number number place off) ∙ is) in
        number-elsewhere cached_nodes place (Some cached) n (λ e. some≢none number (sym there ∙ ap (node_number_at cached_nodes) e ∙ number_of_none)) ∙ there
  ]

  indexed_made : (number n : ℕ) → node_number_at (set cached_nodes place (Some cached)) n ≡ Some number → at number (with index cached.fields.number place) ≡ Some n
  indexed_made number n is = elim (cases_eq n place) [
    | inl here ↦
        let one : cached.fields.number ≡ number = same_Some cached.fields.number number (sym (number-here cached_nodes place (Some cached) is_free.within) ∙ ap (node_number_at (set cached_nodes place (Some cached))) (sym here) ∙ is) in
        ap (λ (k : ℕ). at k (with index cached.fields.number place)) (sym one) ∙ at-with_same index cached.fields.number place ∙ ap (λ (k : ℕ). Some k) (sym here)
    | inr off ↦
        let there : at number index ≡ Some n = kept.indexed number n (sym (number-elsewhere cached_nodes place (Some cached) n off) ∙ is) in
        at-with_other index cached.fields.number number place (λ e. fresh n (ap (λ (k : ℕ). at k index) (sym e) ∙ there)) ∙ there
  ]

  pub made : (left : List ℕ) (charged : ℕ) → length cached.blocks ≤ 4096 → ((n : ℕ) → times n left + times n (place ∷ []) ≡ times n free) → length left + 1 ≡ length free → charged ≡ charge + charge_of cached
      → IsIndexed (set cached_nodes place (Some cached)) (index ++ (cached.fields.number, place) ∷ []) left charged
  made left charged few taken len charged_is =
      let none : get_or cached_nodes place None ≡ None = is_free.free in
      let no_charge : charge_there (get_or cached_nodes place None) ≡ 0 = ap charge_there none in
      let no_count : worth_there (λ c. 1) (get_or cached_nodes place None) ≡ 0 = ap (worth_there (λ c. 1)) none in
      let longer = length-append index ((cached.fields.number, place) ∷ []) in
      record {
        few = omega (arith, length-set cached_nodes place (Some cached), kept.few);
        each = each-set cached_nodes place (Some cached) is_free.within (λ one is. subst (λ (c : CachedNode). length c.blocks ≤ 4096) (same_Some cached one is) few) kept.each;
        rising = subst (IsAbove 0) pushed (IsAbove-with index cached.fields.number 0 place kept.rising some);
        found = λ number n is. found_made number n (ap (at number) pushed ∙ is);
        indexed = λ number n is. ap (at number) (sym pushed) ∙ indexed_made number n is;
        places = λ n. elim (cases_eq n place) [
          | inl e ↦ omega (arith, taken n, kept.places n, vacant-here cached_nodes place (Some cached) is_free.within, vacant-free cached_nodes place is_free, ap (λ (k : ℕ). vacant k cached_nodes) e, ap (λ (k : ℕ). vacant k (set cached_nodes place (Some cached))) e, ap once_if (eq-eqb n place e))
          | inr off ↦ omega (arith, taken n, kept.places n, vacant-elsewhere cached_nodes place (Some cached) n off, ap once_if (ne_eqb n place off))
        ];
        whole = omega (arith, kept.whole, length-set cached_nodes place (Some cached));
        count_is = omega (arith, kept.count_is, counts cached_nodes place (Some cached) is_free.within);
        charge_is = omega (arith, kept.charge_is, charge-set cached_nodes place (Some cached) is_free.within);
      }

-- ---- a node is replaced

pub replaced : (cached_nodes : List (Option CachedNode)) (index : Keyed ℕ) (free : List ℕ) (charge place charged : ℕ) (cached : CachedNode) → IsIndexed cached_nodes index free charge → node_number_at cached_nodes place ≡ Some cached.fields.number
    → length cached.blocks ≤ 4096 → charged + charge_there (get_or cached_nodes place None) ≡ charge + charge_of cached → IsIndexed (set cached_nodes place (Some cached)) index free charged
replaced cached_nodes index free charge place charged cached kept there few charged_is =
    let within = within-numbered cached_nodes place cached.fields.number there in
    let same : (n : ℕ) → node_number_at (set cached_nodes place (Some cached)) n ≡ node_number_at cached_nodes n = λ n. elim (cases_eq n place) [
      | inl here ↦ ap (node_number_at (set cached_nodes place (Some cached))) here ∙ number-here cached_nodes place (Some cached) within ∙ sym there ∙ ap (node_number_at cached_nodes) (sym here)
      | inr off ↦ number-elsewhere cached_nodes place (Some cached) n off
    ] in
    record {
      few = omega (arith, length-set cached_nodes place (Some cached), kept.few);
      each = each-set cached_nodes place (Some cached) within (λ one is. subst (λ (c : CachedNode). length c.blocks ≤ 4096) (same_Some cached one is) few) kept.each;
      rising = kept.rising;
      found = λ number n is. same n ∙ kept.found number n is;
      indexed = λ number n is. kept.indexed number n (sym (same n) ∙ is);
      places = λ n. kept.places n ∙ elim (cases_eq n place) [
        | inl e ↦ ap (λ (k : ℕ). vacant k cached_nodes) e ∙ vacant-taken cached_nodes place cached.fields.number there ∙ sym (vacant-here cached_nodes place (Some cached) within) ∙ ap (λ (k : ℕ). vacant k (set cached_nodes place (Some cached))) (sym e)
        | inr off ↦ sym (vacant-elsewhere cached_nodes place (Some cached) n off)
      ];
      whole = omega (arith, kept.whole, length-set cached_nodes place (Some cached));
      count_is = omega (arith, kept.count_is, counts cached_nodes place (Some cached) within, count-there (get_or cached_nodes place None) cached.fields.number there);
      charge_is = omega (arith, kept.charge_is, charge-set cached_nodes place (Some cached) within);
    }

-- ---- a node is removed

module _ (cached_nodes : List (Option CachedNode)) (index : Keyed ℕ) (free : List ℕ) (charge place number : ℕ) (kept : IsIndexed cached_nodes index free charge) (there : node_number_at cached_nodes place ≡ Some number) where
  within : place < length cached_nodes
  within = within-numbered cached_nodes place number there

  gone : node_number_at (set cached_nodes place None) place ≡ None
  gone = number-here cached_nodes place None within

  found_removed : (other n : ℕ) → at other (without index number) ≡ Some n → node_number_at (set cached_nodes place None) n ≡ Some other
  found_removed other n is = elim (cases_eq other number) [
    | inl one ↦ absurd (some≢none n (sym is ∙ ap (λ (k : ℕ). at k (without index number)) one ∙ at-without_same index number))
    | inr off ↦
        let found : node_number_at cached_nodes n ≡ Some other = kept.found other n (sym (at-without_other index number other off) ∙ is) in
        number-elsewhere cached_nodes place None n (λ e. off (same_Some other number (sym found ∙ ap (node_number_at cached_nodes) e ∙ there))) ∙ found
  ]

  indexed_removed : (other n : ℕ) → node_number_at (set cached_nodes place None) n ≡ Some other → at other (without index number) ≡ Some n
  indexed_removed other n is = elim (cases_eq n place) [
    | inl here ↦ absurd (some≢none other (sym is ∙ ap (node_number_at (set cached_nodes place None)) here ∙ gone))
    | inr off ↦
        let at_n : at other index ≡ Some n = kept.indexed other n (sym (number-elsewhere cached_nodes place None n off) ∙ is) in
        at-without_other index number other (λ e. off (same_Some n place (sym at_n ∙ ap (λ (k : ℕ). at k index) e ∙ kept.indexed number place there))) ∙ at_n
  ]

  pub removed : (i charged : ℕ) → i < length index → key_at index i ≡ number → charged + charge_there (get_or cached_nodes place None) ≡ charge
      → IsIndexed (set cached_nodes place None) (remove index i) (free ++ place ∷ []) charged
  removed i charged h is charged_is =
      let left : without index number ≡ remove index i = ap (without index) (sym is) ∙ without-entry index 0 i kept.rising h in
      let longer = length-append free (place ∷ []) in
      record {
        few = omega (arith, length-set cached_nodes place None, kept.few);
        each = each-set cached_nodes place None within (λ one e. absurd (some≢none one (sym e))) kept.each;
        rising = subst (IsAbove 0) left (IsAbove-without index number 0 kept.rising);
        found = λ other n e. found_removed other n (ap (at other) left ∙ e);
        indexed = λ other n e. ap (at other) (sym left) ∙ indexed_removed other n e;
        places = λ n. elim (cases_eq n place) [
          | inl e ↦ omega (arith, times-push n free place, kept.places n, vacant-here cached_nodes place None within, vacant-taken cached_nodes place number there, ap (λ (k : ℕ). vacant k cached_nodes) e, ap (λ (k : ℕ). vacant k (set cached_nodes place None)) e, ap once_if (eq-eqb n place e))
          | inr off ↦ omega (arith, times-push n free place, kept.places n, vacant-elsewhere cached_nodes place None n off, ap once_if (ne_eqb n place off))
        ];
        whole = omega (arith, kept.whole, length-set cached_nodes place None, length-remove index i h);
        count_is = omega (arith, kept.count_is, counts cached_nodes place None within, count-there (get_or cached_nodes place None) number there, length-remove index i h);
        charge_is = omega (arith, kept.charge_is, charge-set cached_nodes place None within);
      }

-- ---- a table of free places

pub times-off : (n : ℕ) (numbers : List ℕ) → ((i : ℕ) → i < length numbers → get_or numbers i 0 ≢ n) → times n numbers ≡ 0
times-off n [] off = refl
times-off n (one ∷ numbers) off = omega (arith, ap once_if (ne_eqb n one (λ e. off 0 (omega arith) (sym e))), times-off n numbers (λ i h. off (suc i) (omega arith)))

pub times-some : (n : ℕ) (numbers : List ℕ) (i d : ℕ) → i < length numbers → get_or numbers i d ≡ n → 0 < times n numbers
times-some n [] i d h is = absurd (omega arith)
times-some n (one ∷ numbers) zero d h is = omega (arith, ap once_if (eq-eqb n one (sym is)))
times-some n (one ∷ numbers) (suc i) d h is = omega (arith, times-some n numbers i d (omega arith) is)

-- the first free places
abbrev pub AreFirst : (done : ℕ) → List ℕ → Type 0
AreFirst done free = (n : ℕ) → times n free ≡ vacant n (replicate done None)

vacant-end : (done : ℕ) → vacant done (replicate done None) ≡ 0
vacant-end zero = refl
vacant-end (suc done) = vacant-end done

vacant-last : (done : ℕ) → vacant done (replicate (suc done) None) ≡ 1
vacant-last zero = refl
vacant-last (suc done) = vacant-last done

vacant-off : (done n : ℕ) → n ≢ done → vacant n (replicate (suc done) None) ≡ vacant n (replicate done None)
vacant-off zero zero off = absurd (off refl)
vacant-off zero (suc n) off = refl
vacant-off (suc done) zero off = refl
vacant-off (suc done) (suc n) off = vacant-off done n (omega arith)

pub first-more : (done : ℕ) (free : List ℕ) → AreFirst done free → AreFirst (done + 1) (free ++ done ∷ [])
first-more done free are n =
    let next : done + 1 ≡ suc done = omega arith in
    let named : vacant n (replicate (done + 1) None) ≡ vacant n (replicate (suc done) None) = ap (λ (k : ℕ). vacant n (replicate k None)) next in
    elim (cases_eq n done) [
      | inl e ↦ omega (arith, times-push n free done, are n, named, ap once_if (eq-eqb n done e), ap (λ (k : ℕ). vacant k (replicate done None)) e, ap (λ (k : ℕ). vacant k (replicate (suc done) None)) e, vacant-end done, vacant-last done)
      | inr off ↦ omega (arith, times-push n free done, are n, named, ap once_if (ne_eqb n done off), vacant-off done n off)
    ]

pub nones-more : (count : ℕ) → replicate {A = Option CachedNode} count None ++ None ∷ [] ≡ replicate (count + 1) None
nones-more zero = refl
nones-more (suc count) = let next : suc count + 1 ≡ suc (count + 1) = omega arith in ap (λ (l : List (Option CachedNode)). None ∷ l) (nones-more count) ∙ ap (λ (n : ℕ). replicate n None) (sym next)

-- the last free place, if there is one
pub free_found : (cached_nodes : List (Option CachedNode)) (index : Keyed ℕ) (free : List ℕ) (charge i : ℕ) (found : Option ℕ) → IsIndexed cached_nodes index free charge → found ≡ slice_get free i → IfSome found (IsFree cached_nodes)
free_found cached_nodes index free charge i None kept is = tt
free_found cached_nodes index free charge i (Some place) kept is =
    let there = times-some place free i 0 (slice_get_within free i place (sym is)) (get_or_from_slice_get free i place 0 (sym is)) in
    free-vacant cached_nodes place (omega (arith, kept.places place))

none-worth : (worth : CachedNode → ℕ) (count : ℕ) → sum_over worth (replicate count None) ≡ 0
none-worth worth zero = refl
none-worth worth (suc count) = none-worth worth count

pub kept_none : (count : ℕ) (free : List ℕ) → count ≤ MAX_NODES → AreFirst count free → length free ≡ count → IsIndexed (replicate count None) [] free 0
kept_none count free few are len = record {
  few = omega (arith, length-replicate {A = Option CachedNode} count None);
  each = λ place cached is. absurd (some≢none cached (sym is ∙ nones-at count place));
  rising = tt;
  found = λ number place is. absurd (some≢none place (sym is));
  indexed = λ number place is. absurd (some≢none number (sym is ∙ ap node_number (nones-at count place)));
  places = are;
  whole = omega (arith, length-replicate {A = Option CachedNode} count None);
  count_is = sym (none-worth (λ c. 1) count);
  charge_is = sym (none-worth charge_of count);
}

-- each number has one place, also among the cached nodes by their other name
pub own-places : (cached_nodes : List (Option CachedNode)) (index : Keyed ℕ) (free : List ℕ) (charge : ℕ) (seen : List (Option CachedNode)) → IsIndexed cached_nodes index free charge → cached_nodes ≡ seen → HaveOwnPlaces seen
own-places cached_nodes index free charge seen kept is =
    subst HaveOwnPlaces is (λ place other number here there. same_Some place other (sym (kept.indexed number place here) ∙ kept.indexed number other there))
