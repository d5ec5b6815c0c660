-- What the calls of a listing show.
use Rattle.std.proofs.Common.{ℕ, Bool, true, false, zero, suc, List, [], ◌∷◌, ◌++◌, ◌≡◌, ◌<◌, ◌≤◌, ◌==◌, ◌∙◌, Option, Some, None, inl, inr, length, get_or, refl, sym, ap, subst, arith}
use Rattle.std.proofs.lemmas.Bool.{cases_lt}
use Rattle.std.proofs.lemmas.List.{append-nil}
use Rattle.std.specs.List.{AllByRecursion}
use Rattle.model_tree.specs.Trees.Keyed.{Keyed, at, here_or, IsAbove}
use Rattle.model_tree.specs.Trees.Tree.{DirEntry}
use Rattle.model_tree.proofs.Trees.KeyedLaws.{at-below, at-rest, some≢none}
use Rattle.directory.specs.Records.{Record}
use Rattle.directory.specs.Listing.{by_stamp, after, behind, last_cookie, Page, IsListing, all_shown, EveryPaging}
use Rattle.directory.proofs.ByStamp.{IsRising, rising_above, rising_by_stamp, after_all, keeps, drops}

-- What comes after a cookie is above it, and has what the map has there

pub after_above : (cookie : ℕ) (entries : Keyed DirEntry) → IsRising entries → IsAbove cookie (after cookie entries)
after_above cookie [] rising = tt
after_above cookie (entry ∷ rest) rising = elim (cases_lt cookie entry.0) [
  | inl above ↦
      subst (IsAbove cookie) (sym (keeps cookie entry rest above ∙ ap (λ l. entry ∷ l) (after_all cookie entry.0 rest (omega arith) rising)))
      (above, rising)
  | inr below ↦
      subst (IsAbove cookie) (sym (drops cookie entry rest below)) (after_above cookie rest (rising_above rest entry.0 rising))
]

pub at_after : (cookie key : ℕ) (entries : Keyed DirEntry) → cookie < key → at key (after cookie entries) ≡ at key entries
at_after cookie key [] above = refl
at_after cookie key (entry ∷ rest) above = elim (cases_lt cookie entry.0) [
  | inl kept ↦
      ap (at key) (keeps cookie entry rest kept) ∙ ap (λ o. here_or (key == entry.0) entry.1 o) (at_after cookie key rest above)
  | inr dropped ↦
      ap (at key) (drops cookie entry rest dropped)
      ∙ (at_after cookie key rest above ∙ sym (at-rest entry.0 key entry.1 rest (omega arith)))
]

-- Entries one after another

last_high : (cookie : ℕ) (entries : Keyed DirEntry) → IsAbove cookie entries → cookie ≤ last_cookie cookie entries
last_high cookie [] above = omega arith
last_high cookie (entry ∷ rest) above = omega (arith, last_high entry.0 rest above.1, above.0)

above_append : (cookie : ℕ) (prefix rest : Keyed DirEntry) → IsAbove cookie prefix → IsAbove (last_cookie cookie prefix) rest → IsAbove cookie (prefix ++ rest)
above_append cookie [] rest above behind = behind
above_append cookie (entry ∷ prefix) rest above behind = (above.0, above_append entry.0 prefix rest above.1 behind)

above_prefix : (cookie : ℕ) (prefix rest : Keyed DirEntry) → IsAbove cookie (prefix ++ rest) → IsAbove cookie prefix
above_prefix cookie [] rest above = tt
above_prefix cookie (entry ∷ prefix) rest above = (above.0, above_prefix entry.0 prefix rest above.1)

above_back : (cookie : ℕ) (prefix rest : Keyed DirEntry) → IsAbove cookie (prefix ++ rest) → IsAbove (last_cookie cookie prefix) rest
above_back cookie [] rest above = above
above_back cookie (entry ∷ prefix) rest above = above_back entry.0 prefix rest above.1

at_prefix : (key : ℕ) (value : DirEntry) (prefix rest : Keyed DirEntry) → at key prefix ≡ Some value → at key (prefix ++ rest) ≡ Some value
at_prefix key value [] rest is = absurd (some≢none value (sym is))
at_prefix key value (first ∷ prefix) rest is = step (key == first.0) is (λ others. at_prefix key value prefix rest others)
  where
    step : (is_here : Bool) → here_or is_here first.1 (at key prefix) ≡ Some value → (at key prefix ≡ Some value → at key (prefix ++ rest) ≡ Some value)
        → here_or is_here first.1 (at key (prefix ++ rest)) ≡ Some value
    step true is others = is
    step false is others = others is

at_back : (key : ℕ) (prefix rest : Keyed DirEntry) → at key prefix ≡ None → at key (prefix ++ rest) ≡ at key rest
at_back key [] rest none = refl
at_back key (first ∷ prefix) rest none = step (key == first.0) none (λ others. at_back key prefix rest others)
  where
    step : (is_here : Bool) → here_or is_here first.1 (at key prefix) ≡ None → (at key prefix ≡ None → at key (prefix ++ rest) ≡ at key rest)
        → here_or is_here first.1 (at key (prefix ++ rest)) ≡ at key rest
    step true none others = absurd (some≢none first.1 none)
    step false none others = others none

-- the last of rising keys is the greatest
at_past : (cookie key : ℕ) (entries : Keyed DirEntry) → IsAbove cookie entries → last_cookie cookie entries < key → at key entries ≡ None
at_past cookie key [] above past = refl
at_past cookie key (entry ∷ rest) above past =
    let high : entry.0 ≤ last_cookie entry.0 rest = last_high entry.0 rest above.1 in
    at-rest entry.0 key entry.1 rest (omega arith) ∙ at_past entry.0 key rest above.1 past

-- an entry of all that does not come after the last of `prefix` is in `prefix`
is_before : (cookie key : ℕ) (value : DirEntry) (prefix rest : Keyed DirEntry) → IsAbove cookie (prefix ++ rest) → key ≤ last_cookie cookie prefix
    → at key (prefix ++ rest) ≡ Some value → at key prefix ≡ Some value
is_before cookie key value prefix rest above low is = step (at key prefix) refl
  where
    step : (found : Option DirEntry) → at key prefix ≡ found → at key prefix ≡ Some value
    step None none = absurd (some≢none value (sym is ∙ (at_back key prefix rest none ∙ at-below rest (last_cookie cookie prefix) key (above_back cookie prefix rest above) low)))
    step (Some other) there = there ∙ (sym (at_prefix key other prefix rest there) ∙ is)

-- Listings

rising_pages : (cookie : ℕ) (pages : List Page) → IsListing cookie pages → IsAbove cookie (all_shown pages)
rising_pages cookie [] listing = absurd listing
rising_pages cookie (page ∷ []) listing =
    subst (IsAbove cookie) (listing ∙ sym (append-nil page.shown)) (after_above cookie (by_stamp page.records) (rising_by_stamp page.records))
rising_pages cookie (page ∷ next ∷ rest) listing =
    let whole = subst (IsAbove cookie) listing.0.1 (after_above cookie (by_stamp page.records) (rising_by_stamp page.records)) in
    above_append cookie page.shown (all_shown (next ∷ rest)) (above_prefix cookie page.shown listing.0.0 whole)
    (rising_pages (last_cookie cookie page.shown) (next ∷ rest) listing.1)

-- there is something of this kind at a key
abbrev pub Has : (DirEntry → Type 0) → (key : ℕ) → Keyed DirEntry → Type 0
Has P key entries = (entry : DirEntry) × (at key entries ≡ Some entry) × P entry

pub shown_pages : (P : DirEntry → Type 0) (cookie : ℕ) (pages : List Page) → IsListing cookie pages → (stamp : ℕ) → cookie < stamp
    → AllByRecursion (λ page. Has P stamp (by_stamp page.records)) pages → Has P stamp (all_shown pages)
shown_pages P cookie [] listing stamp above there = absurd listing
shown_pages P cookie (page ∷ []) listing stamp above there = (
  there.0.0,
  ap (at stamp) (append-nil page.shown ∙ sym listing) ∙ (at_after cookie stamp (by_stamp page.records) above ∙ there.0.1),
  there.0.2,
)
shown_pages P cookie (page ∷ next ∷ rest) listing stamp above there =
    let whole = subst (IsAbove cookie) listing.0.1 (after_above cookie (by_stamp page.records) (rising_by_stamp page.records)) in
    let others = all_shown (next ∷ rest) in
    elim (cases_lt (last_cookie cookie page.shown) stamp) [
      | inl past ↦
          let behind = shown_pages P (last_cookie cookie page.shown) (next ∷ rest) listing.1 stamp past there.1 in (
            behind.0,
            at_back stamp page.shown others (at_past cookie stamp page.shown (above_prefix cookie page.shown listing.0.0 whole) past) ∙ behind.1,
            behind.2,
          )
      | inr within ↦ (
        there.0.0,
        at_prefix stamp there.0.0 page.shown others
            (is_before cookie stamp there.0.0 page.shown listing.0.0 whole within
            (ap (at stamp) (sym listing.0.1) ∙ (at_after cookie stamp (by_stamp page.records) above ∙ there.0.1))),
        there.0.2,
      )
    ]

-- this very one is there
is_it : (entry : DirEntry) (stamp : ℕ) (pages : List Page) → AllByRecursion (λ page. at stamp (by_stamp page.records) ≡ Some entry) pages
    → AllByRecursion (λ page. Has (λ other. other ≡ entry) stamp (by_stamp page.records)) pages
is_it entry stamp [] there = tt
is_it entry stamp (page ∷ pages) there = ((entry, there.0, refl), is_it entry stamp pages there.1)

-- rising keys differ

module _ {A : Type 0} where
  above_index : (least : ℕ) (entries : Keyed A) (i : ℕ) (d : ℕ × A) → IsAbove least entries → i < length entries → least < (get_or entries i d).0
  above_index least [] i d above within = absurd (omega arith)
  above_index least (entry ∷ rest) zero d above within = above.0
  above_index least (entry ∷ rest) (suc i) d above within =
      let further : entry.0 < (get_or rest i d).0 = above_index entry.0 rest i d above.1 (omega arith) in omega (arith, further, above.0)

  pub rising_index : (least : ℕ) (entries : Keyed A) (i j : ℕ) (d : ℕ × A) → IsAbove least entries → i < j → j < length entries
      → (get_or entries i d).0 < (get_or entries j d).0
  rising_index least [] i j d above before within = absurd (omega arith)
  rising_index least (entry ∷ rest) i zero d above before within = absurd (omega arith)
  rising_index least (entry ∷ rest) zero (suc j) d above before within = above_index entry.0 rest j d above.1 (omega arith)
  rising_index least (entry ∷ rest) (suc i) (suc j) d above before within = rising_index entry.0 rest i j d above.1 (omega arith) (omega arith)

pub every_paging_lem : EveryPaging
every_paging_lem pages listing = record {
  rising = rising_pages 0 pages listing;
  not_twice = λ i j d before within same.
      let rise : (get_or (all_shown pages) i d).0 < (get_or (all_shown pages) j d).0 = rising_index 0 (all_shown pages) i j d (rising_pages 0 pages listing) before within in
      let one : (get_or (all_shown pages) i d).0 ≡ (get_or (all_shown pages) j d).0 = ap (λ (r : Record). r.0) same in
      omega arith;
  shown = λ stamp entry above there.
      let has = shown_pages (λ other. other ≡ entry) 0 pages listing stamp above (is_it entry stamp pages there) in
      has.1 ∙ ap (λ (e : DirEntry). Some e) has.2;
}
