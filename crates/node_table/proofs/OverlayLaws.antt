-- Cached nodes with changes, and what changes keep.
use Rattle.std.proofs.Common.{◌≡◌, ◌≢◌, ◌<◌, ◌⊎◌, ℕ, zero, suc, List, [], ◌∷◌, ◌++◌, Option, Some, None, length, get_or, set, inl, inr, refl, sym, ap, ◌∙◌, subst, arith}
use Rattle.std.proofs.lemmas.Bool.{cases_eq, cases_lt}
use Rattle.std.proofs.lemmas.List.{length-set, get_or-set_same, get_or-set_other, get_or_past, get_or_default, set-set, set_comm}
use Rattle.std.proofs.Common.{Bor}
use Rattle.std.specs.Option.{MatchOption, IsSomeAnd}
use Rattle.std.specs.Prelude.{IfSome, IfNone}
use Rattle.std.proofs.lemmas.Option.{same_Some}
use Rattle.model_tree.specs.Trees.Keyed.{Keyed, at}
use Rattle.model_tree.proofs.Trees.KeyedLaws.{at-first, at-rest}
use Rattle.model_tree.proofs.Facts.OptionLaws.{some≢none}
use Rattle.layout.specs.CachedNodes.{CachedNode}
use Rattle.node_table.specs.Tables.{node_number, node_number_at, HaveOwnPlaces, HasNoNode}
use Rattle.node_table.specs.Overlays.{overlaid, HaveOwnPlace, PlacesWithin, change_at, Overlaid, IsMade, IsFresh, CanBecome}

number_same : (found : Option ℕ) (number : ℕ) → (found ≡ Some number) ⊎ (found ≢ Some number)
number_same None number = inr (λ e. some≢none number (sym e))
number_same (Some other) number = elim (cases_eq other number) [ inl e ↦ inl (ap (λ (n : ℕ). Some n) e) | inr off ↦ inr (λ e. off (same_Some other number e)) ]

-- ---- which places have changes

pub at-off : (changes : Keyed (Option CachedNode)) (place : ℕ) → ((i : ℕ) → i < length changes → (change_at changes i).0 ≢ place) → at place changes ≡ None
at-off [] place off = refl
at-off (change ∷ changes) place off = at-rest change.0 place change.1 changes (λ e. off 0 (omega arith) (sym e)) ∙ at-off changes place (λ i h. off (suc i) (omega arith))

-- no change of the list is for a place without a change
other-place : (change : ℕ × Option CachedNode) (changes : Keyed (Option CachedNode)) (place : ℕ) → at place (change ∷ changes) ≡ None → place ≢ change.0
other-place change changes place none e = some≢none change.1 (sym (at-first change.0 place change.1 changes e) ∙ none)

rest-none : (change : ℕ × Option CachedNode) (changes : Keyed (Option CachedNode)) (place : ℕ) → at place (change ∷ changes) ≡ None → at place changes ≡ None
rest-none change changes place none = sym (at-rest change.0 place change.1 changes (other-place change changes place none)) ∙ none

none-more : (change : ℕ × Option CachedNode) (changes : Keyed (Option CachedNode)) (place : ℕ) → place ≢ change.0 → at place changes ≡ None → at place (change ∷ changes) ≡ None
none-more change changes place off none = at-rest change.0 place change.1 changes off ∙ none

off-each : (changes : Keyed (Option CachedNode)) (place i : ℕ) → at place changes ≡ None → i < length changes → (change_at changes i).0 ≢ place
off-each [] place i none h e = absurd (omega arith)
off-each (change ∷ changes) place zero none h e = other-place change changes place none (sym e)
off-each (change ∷ changes) place (suc i) none h e = off-each changes place i (rest-none change changes place none) (omega arith) e

pub at-some : (changes : Keyed (Option CachedNode)) (place i : ℕ) → i < length changes → (change_at changes i).0 ≡ place → at place changes ≢ None
at-some changes place i h key none = off-each changes place i none h key

-- ---- the cached nodes with changes

pub changed-length : (cached_nodes : List (Option CachedNode)) (changes : Keyed (Option CachedNode)) → length (overlaid cached_nodes changes) ≡ length cached_nodes
changed-length cached_nodes [] = refl
changed-length cached_nodes (change ∷ changes) = length-set (overlaid cached_nodes changes) change.0 change.1 ∙ changed-length cached_nodes changes

pub changed-off : (cached_nodes : List (Option CachedNode)) (changes : Keyed (Option CachedNode)) (place : ℕ) → at place changes ≡ None → get_or (overlaid cached_nodes changes) place None ≡ get_or cached_nodes place None
changed-off cached_nodes [] place none = refl
changed-off cached_nodes (change ∷ changes) place none =
    get_or-set_other (overlaid cached_nodes changes) change.0 place change.1 None (other-place change changes place none) ∙ changed-off cached_nodes changes place (rest-none change changes place none)

pub changed-here : (cached_nodes : List (Option CachedNode)) (changes : Keyed (Option CachedNode)) (i : ℕ) → HaveOwnPlace changes → PlacesWithin (length cached_nodes) changes → i < length changes
    → get_or (overlaid cached_nodes changes) (change_at changes i).0 None ≡ (change_at changes i).1
changed-here cached_nodes [] i own within h = absurd (omega arith)
changed-here cached_nodes (change ∷ changes) zero own within h = get_or-set_same (overlaid cached_nodes changes) change.0 change.1 None (omega (arith, changed-length cached_nodes changes, within.0))
changed-here cached_nodes (change ∷ changes) (suc i) own within h =
    get_or-set_other (overlaid cached_nodes changes) change.0 (change_at changes i).0 change.1 None (off-each changes change.0 i own.0 (omega arith)) ∙ changed-here cached_nodes changes i own.1 within.1 (omega arith)

-- a change that is read gives the cached node of its place
pub read-change : (cached_nodes : List (Option CachedNode)) (changes : Keyed (Option CachedNode)) (i place : ℕ) (read : ℕ × Option CachedNode) → HaveOwnPlace changes → PlacesWithin (length cached_nodes) changes → i < length changes
    → (change_at changes i).0 ≡ place → read ≡ get_or changes i read → get_or (overlaid cached_nodes changes) place None ≡ read.1
read-change cached_nodes changes i place read own within h key is =
    ap (λ (k : ℕ). get_or (overlaid cached_nodes changes) k None) (sym key) ∙ changed-here cached_nodes changes i own within h
    ∙ ap (λ (change : ℕ × Option CachedNode). change.1) (sym (is ∙ get_or_default changes i read (0, None) h))

pub lent-some : (read : Option CachedNode) (found : Option (Bor CachedNode)) (there : Option CachedNode) → there ≡ read → MatchOption read (found ≡ None) (λ one. IsSomeAnd found (λ cached. cached.now ≡ one))
    → IfSome found (λ cached. there ≡ Some cached.now)
lent-some read None there same is = tt
lent-some None (Some cached) there same is = absurd cc
lent-some (Some one) (Some cached) there same is = same ∙ ap (λ (cached : CachedNode). Some cached) (sym is)

pub lent-none : (read : Option CachedNode) (found : Option (Bor CachedNode)) (there : Option CachedNode) → there ≡ read → MatchOption read (found ≡ None) (λ one. IsSomeAnd found (λ cached. cached.now ≡ one))
    → IfNone found (there ≡ None)
lent-none None None there same is = same
lent-none (Some one) None there same is = absurd is
lent-none read (Some cached) there same is = tt

-- no change is for the place, so it has the table's cached node
pub unchanged : (table : List (Option CachedNode)) (changes : Keyed (Option CachedNode)) (looked : Keyed (Option CachedNode)) (seen : Overlaid) (place : ℕ) → looked ≡ changes → record { table = table; cached_nodes = overlaid table changes } ≡ seen
    → ((i : ℕ) → i < length looked → (change_at looked i).0 ≢ place) → record { none : at place changes ≡ None; same : get_or seen.cached_nodes place None ≡ get_or table place None }
unchanged table changes looked seen place is view off =
    let none = at-off changes place (subst (λ (l : Keyed (Option CachedNode)). (i : ℕ) → i < length l → (change_at l i).0 ≢ place) is off) in
    record { none = none; same = ap (λ (overlay : Overlaid). get_or overlay.cached_nodes place None) (sym view) ∙ changed-off table changes place none }

-- ---- another cached node in a change

pub changed-exchange : (cached_nodes : List (Option CachedNode)) (changes : Keyed (Option CachedNode)) (i : ℕ) (cached : Option CachedNode) → HaveOwnPlace changes → i < length changes
    → overlaid cached_nodes (set changes i ((change_at changes i).0, cached)) ≡ set (overlaid cached_nodes changes) (change_at changes i).0 cached
changed-exchange cached_nodes [] i cached own h = absurd (omega arith)
changed-exchange cached_nodes (change ∷ changes) zero cached own h = sym (set-set (overlaid cached_nodes changes) change.0 change.1 cached)
changed-exchange cached_nodes (change ∷ changes) (suc i) cached own h =
    ap (λ (l : List (Option CachedNode)). set l change.0 change.1) (changed-exchange cached_nodes changes i cached own.1 (omega arith))
    ∙ set_comm (overlaid cached_nodes changes) (change_at changes i).0 change.0 cached change.1 (off-each changes change.0 i own.0 (omega arith))

at-exchange : (changes : Keyed (Option CachedNode)) (place i : ℕ) (cached : Option CachedNode) → at place changes ≡ None → at place (set changes i ((change_at changes i).0, cached)) ≡ None
at-exchange [] place i cached none = none
at-exchange (change ∷ changes) place zero cached none = none-more (change.0, cached) changes place (other-place change changes place none) (rest-none change changes place none)
at-exchange (change ∷ changes) place (suc i) cached none =
    none-more change (set changes i ((change_at changes i).0, cached)) place (other-place change changes place none) (at-exchange changes place i cached (rest-none change changes place none))

pub own-exchange : (changes : Keyed (Option CachedNode)) (i : ℕ) (cached : Option CachedNode) → HaveOwnPlace changes → HaveOwnPlace (set changes i ((change_at changes i).0, cached))
own-exchange [] i cached own = tt
own-exchange (change ∷ changes) zero cached own = own
own-exchange (change ∷ changes) (suc i) cached own = (at-exchange changes change.0 i cached own.0, own-exchange changes i cached own.1)

pub within-exchange : (count : ℕ) (changes : Keyed (Option CachedNode)) (i : ℕ) (cached : Option CachedNode) → PlacesWithin count changes → PlacesWithin count (set changes i ((change_at changes i).0, cached))
within-exchange count [] i cached within = tt
within-exchange count (change ∷ changes) zero cached within = within
within-exchange count (change ∷ changes) (suc i) cached within = (within.0, within-exchange count changes i cached within.1)

-- ---- a further change

changed-first : (cached_nodes : List (Option CachedNode)) (changes : Keyed (Option CachedNode)) (place : ℕ) (cached : Option CachedNode) → at place changes ≡ None
    → overlaid (set cached_nodes place cached) changes ≡ set (overlaid cached_nodes changes) place cached
changed-first cached_nodes [] place cached none = refl
changed-first cached_nodes (change ∷ changes) place cached none =
    ap (λ (l : List (Option CachedNode)). set l change.0 change.1) (changed-first cached_nodes changes place cached (rest-none change changes place none))
    ∙ set_comm (overlaid cached_nodes changes) place change.0 cached change.1 (other-place change changes place none)

-- the last change may be made first
pub changed-last : (cached_nodes : List (Option CachedNode)) (changes : Keyed (Option CachedNode)) (place : ℕ) (cached : Option CachedNode)
    → overlaid cached_nodes (changes ++ (place, cached) ∷ []) ≡ overlaid (set cached_nodes place cached) changes
changed-last cached_nodes [] place cached = refl
changed-last cached_nodes (change ∷ changes) place cached = ap (λ (l : List (Option CachedNode)). set l change.0 change.1) (changed-last cached_nodes changes place cached)

pub changed-push : (cached_nodes : List (Option CachedNode)) (changes : Keyed (Option CachedNode)) (place : ℕ) (cached : Option CachedNode) → at place changes ≡ None
    → overlaid cached_nodes (changes ++ (place, cached) ∷ []) ≡ set (overlaid cached_nodes changes) place cached
changed-push cached_nodes changes place cached none = changed-last cached_nodes changes place cached ∙ changed-first cached_nodes changes place cached none

at-push : (changes : Keyed (Option CachedNode)) (other place : ℕ) (cached : Option CachedNode) → at other changes ≡ None → other ≢ place → at other (changes ++ (place, cached) ∷ []) ≡ None
at-push [] other place cached none off = at-rest place other cached [] off
at-push (change ∷ changes) other place cached none off =
    none-more change (changes ++ (place, cached) ∷ []) other (other-place change changes other none) (at-push changes other place cached (rest-none change changes other none) off)

pub own-push : (changes : Keyed (Option CachedNode)) (place : ℕ) (cached : Option CachedNode) → HaveOwnPlace changes → at place changes ≡ None → HaveOwnPlace (changes ++ (place, cached) ∷ [])
own-push [] place cached own none = (refl, tt)
own-push (change ∷ changes) place cached own none =
    (at-push changes change.0 place cached own.0 (λ e. other-place change changes place none (sym e)), own-push changes place cached own.1 (rest-none change changes place none))

pub within-push : (count : ℕ) (changes : Keyed (Option CachedNode)) (place : ℕ) (cached : Option CachedNode) → PlacesWithin count changes → place < count → PlacesWithin count (changes ++ (place, cached) ∷ [])
within-push count [] place cached within h = (h, tt)
within-push count (change ∷ changes) place cached within h = (within.0, within-push count changes place cached within.1 h)

-- ---- without the last change

at-prefix : (changes : Keyed (Option CachedNode)) (other place : ℕ) (cached : Option CachedNode) → at other (changes ++ (place, cached) ∷ []) ≡ None → (at other changes ≡ None) × (other ≢ place)
at-prefix [] other place cached none = (refl, other-place (place, cached) [] other none)
at-prefix (change ∷ changes) other place cached none =
    let off = other-place change (changes ++ (place, cached) ∷ []) other none in
    let rest = at-prefix changes other place cached (rest-none change (changes ++ (place, cached) ∷ []) other none) in
    (none-more change changes other off rest.0, rest.1)

pub own-prefix : (changes : Keyed (Option CachedNode)) (place : ℕ) (cached : Option CachedNode) → HaveOwnPlace (changes ++ (place, cached) ∷ []) → HaveOwnPlace changes × (at place changes ≡ None)
own-prefix [] place cached own = (tt, refl)
own-prefix (change ∷ changes) place cached own =
    let rest = own-prefix changes place cached own.1 in
    let off = at-prefix changes change.0 place cached own.0 in
    ((off.0, rest.0), none-more change changes place (λ e. off.1 (sym e)) rest.1)

-- ---- the place of a number

-- if no change puts the number, a node has it only at a place without a change
there-unchanged : (cached_nodes : List (Option CachedNode)) (changes : Keyed (Option CachedNode)) (place number : ℕ) → ((i : ℕ) → i < length changes → node_number (change_at changes i).1 ≢ Some number)
    → node_number_at (overlaid cached_nodes changes) place ≡ Some number → (at place changes ≡ None) × (node_number_at cached_nodes place ≡ Some number)
there-unchanged cached_nodes [] place number none is = (refl, is)
there-unchanged cached_nodes (change ∷ changes) place number none is = elim (cases_eq place change.0) [
  | inl here ↦
      elim (cases_lt change.0 (length (overlaid cached_nodes changes))) [
        | inl low ↦ absurd (none 0 (omega arith) (ap node_number (sym (get_or-set_same (overlaid cached_nodes changes) change.0 change.1 None low)) ∙ ap (node_number_at (set (overlaid cached_nodes changes) change.0 change.1)) (sym here) ∙ is))
        | inr high ↦ absurd (some≢none number (sym is ∙ ap node_number (get_or_past (set (overlaid cached_nodes changes) change.0 change.1) place None (omega (arith, length-set (overlaid cached_nodes changes) change.0 change.1)))))
      ]
  | inr off ↦
      let rest = there-unchanged cached_nodes changes place number (λ i h. none (suc i) (omega arith)) (ap node_number (sym (get_or-set_other (overlaid cached_nodes changes) change.0 place change.1 None off)) ∙ is) in
      (none-more change changes place off rest.0, rest.1)
]

pub has-not : (cached_nodes : List (Option CachedNode)) (changes : Keyed (Option CachedNode)) (number : ℕ) → ((i : ℕ) → i < length changes → node_number (change_at changes i).1 ≢ Some number)
    → HasNoNode cached_nodes number → HasNoNode (overlaid cached_nodes changes) number
has-not cached_nodes changes number none absent place is = absent place (there-unchanged cached_nodes changes place number none is).1

pub has-not_changed : (cached_nodes : List (Option CachedNode)) (changes : Keyed (Option CachedNode)) (number place : ℕ) → ((i : ℕ) → i < length changes → node_number (change_at changes i).1 ≢ Some number)
    → HaveOwnPlaces cached_nodes → node_number_at cached_nodes place ≡ Some number → at place changes ≢ None → HasNoNode (overlaid cached_nodes changes) number
has-not_changed cached_nodes changes number place none own there put other is =
    let left = there-unchanged cached_nodes changes other number none is in
    put (ap (λ (k : ℕ). at k changes) (own place other number there left.1) ∙ left.0)

-- ---- a table becomes another, place by place

module _ (cached_nodes target : List (Option CachedNode)) (place : ℕ) (cached : Option CachedNode) (here : place < length cached_nodes → get_or target place None ≡ cached) (long : length target ≡ length cached_nodes) where
  -- the place has the target's number
  same-here : node_number_at (set cached_nodes place cached) place ≡ node_number_at target place
  same-here = elim (cases_lt place (length cached_nodes)) [
    | inl low ↦ ap node_number (get_or-set_same cached_nodes place cached None low ∙ sym (here low))
    | inr high ↦ ap node_number (get_or_past (set cached_nodes place cached) place None (omega (arith, length-set cached_nodes place cached)) ∙ sym (get_or_past target place None (omega (arith, long))))
  ]

  made-before : (other number : ℕ) → IsMade (set cached_nodes place cached) target other number → (other ≢ place) × IsMade cached_nodes target other number
  made-before other number made = elim (cases_eq other place) [
    | inl e ↦ absurd (made.before (ap (node_number_at (set cached_nodes place cached)) e ∙ same-here ∙ ap (node_number_at target) (sym e) ∙ made.now))
    | inr off ↦ (off, record { now = made.now; before = λ was. made.before (ap node_number (get_or-set_other cached_nodes place other cached None off) ∙ was) })
  ]

  pub nearer : CanBecome cached_nodes target → CanBecome (set cached_nodes place cached) target
  nearer can = record {
    fresh = λ other number made. let was = made-before other number made in let fresh = can.fresh other number was.1 in record {
      some = fresh.some;
      above = λ one less is. elim (cases_eq one place) [
        | inl e ↦
            let now : node_number_at target place ≡ Some less = sym same-here ∙ ap (node_number_at (set cached_nodes place cached)) (sym e) ∙ is in
            elim (number_same (node_number_at cached_nodes place) less) [
              | inl there ↦ fresh.above place less there
              | inr apart ↦ absurd (was.0 (can.one other number place less was.1 (record { now = now; before = apart })))
            ]
        | inr off ↦ fresh.above one less (ap node_number (sym (get_or-set_other cached_nodes place one cached None off)) ∙ is)
      ];
    };
    one = λ other number another less made made_too. can.one other number another less (made-before other number made).1 (made-before another less made_too).1;
  }

-- ---- changes go into a table one by one, from the last one back

pub record IsSettling (cached_nodes target : List (Option CachedNode)) (left : Keyed (Option CachedNode)) : Type 0 where
  pub can : CanBecome cached_nodes target
  pub leads : overlaid cached_nodes left ≡ target
  pub own : HaveOwnPlace left

module _ (cached_nodes target : List (Option CachedNode)) (left : Keyed (Option CachedNode)) (place : ℕ) (cached : Option CachedNode) (settling : IsSettling cached_nodes target (left ++ (place, cached) ∷ [])) where
  prefix : HaveOwnPlace left × (at place left ≡ None)
  prefix = own-prefix left place cached settling.own

  led : overlaid (set cached_nodes place cached) left ≡ target
  led = sym (changed-last cached_nodes left place cached) ∙ settling.leads

  target-here : place < length cached_nodes → get_or target place None ≡ cached
  target-here low = ap (λ (l : List (Option CachedNode)). get_or l place None) (sym led) ∙ changed-off (set cached_nodes place cached) left place prefix.1 ∙ get_or-set_same cached_nodes place cached None low

  pub settle-fresh : (number : ℕ) → node_number cached ≡ Some number → place < length cached_nodes → node_number_at cached_nodes place ≢ Some number → IsFresh cached_nodes number
  settle-fresh number is low before = settling.can.fresh place number (record { now = ap node_number (target-here low) ∙ is; before = before })

  pub settle-step : IsSettling (set cached_nodes place cached) target left
  settle-step = record {
    can = nearer cached_nodes target place cached target-here (ap length (sym settling.leads) ∙ changed-length cached_nodes (left ++ (place, cached) ∷ [])) settling.can;
    leads = led;
    own = prefix.0;
  }
