-- The results of READDIR over the calls of a listing.
use Rattle.std.proofs.Common.{ℕ, Bool, true, false, List, [], ◌∷◌, ◌++◌, ◌≡◌, ◌≢◌, ◌+◌, ◌<◌, ◌≤◌, ◌==◌, ◌∙◌, Some, inl, inr, bytes_eq, length, map, refl, sym, ap, subst, arith, length-append, ne_eqb, lt-ltb}
use Rattle.std.proofs.lemmas.Bool.{cases_eq, eqb-true}
use Rattle.std.proofs.lemmas.List.{append-nil, map-append, get_or-map, length-map}
use Rattle.std.proofs.lemmas.Option.{same_Some}
use Rattle.std.specs.List.{AllByRecursion}
use Rattle.model.specs.Operations.Answer.{Answer, Outcome, Entry, ReadDirAnswer}
use Rattle.model_tree.specs.Trees.Keyed.{Keyed, at, with, here_or, without, worth_at, total, IsAbove}
use Rattle.model.specs.Operations.Operation.{Argument}
use Rattle.model.specs.Operations.ReadDir.{all_entries, listed_entry, page}
use Rattle.model.specs.Operations.Step.{Stepped, current, effect}
use Rattle.model_tree.specs.Trees.Tree.{DirEntry}
use Rattle.model_tree.specs.Trees.WellFormed.{one_if, AreNames, IsWellFormed}
use Rattle.model_tree.proofs.Trees.ChangeLaws.{names_in}
use Rattle.model_tree.proofs.Trees.EditLaws.{forest_of}
use Rattle.model_tree.proofs.Trees.KeyedLaws.{some≢none, at-first, at-rest, at-above, at-without_other, IsAbove-without, total-without}
use Rattle.model.proofs.Operations.PageLaws.{every_page}
use Rattle.model.proofs.Operations.StepCases.{does_cases}
use Rattle.directory.specs.Records.{Record, record_from}
use Rattle.directory.specs.Listing.{by_stamp, after, behind, IsListing, last_cookie, all_shown}
use Rattle.listings.specs.Readings.{Reading, names_found, number_shown, record_shown, page_of, last_answered, AreReadings, all_answered, cookie_and_name, stamp_and_name, cookies_of, StandsUnder, AnswersWhatStands, AreWellFormed, EveryReading}
use Rattle.directory.proofs.ByStamp.{IsRising, rising_above}
use Rattle.directory.proofs.PagingLaw.{after_above, at_after, Has, shown_pages, rising_index, every_paging_lem}
use Rattle.directory.proofs.Places.{bytes_eq-true, bytes_eq-same}

-- The result is the page of the state that the call found

same_answer : (a b : ReadDirAnswer) → Outcome.Done (Answer.ReadDir a) ≡ Outcome.Done (Answer.ReadDir b) → a ≡ b
same_answer a b same = cc

answer_is : (reading : Reading) → reading.answer ≡ page reading.limits reading.state reading.arguments
unfolding effect
answer_is reading = elim (does_cases reading.limits reading.state reading.now (Argument.ReadDir reading.arguments)) [
  | inl went ↦ same_answer reading.answer (page reading.limits reading.state reading.arguments)
      (sym reading.answered ∙ ap (λ (stepped : Stepped). stepped.outcome) went.1)
  | inr not_gone ↦
      let never = sym reading.answered ∙ ap (λ (stepped : Stepped). stepped.outcome) not_gone.1 in absurd cc
]

record IsPrefix (reading : Reading) : Type 0 where
  pub rest : List Entry
  pub prefix : all_entries reading.limits reading.state reading.arguments ≡ reading.answer.entries ++ rest
  pub whole : reading.answer.is_end ≡ true → rest ≡ []

nothing_more : (xs rest : List Entry) → length xs ≡ length (xs ++ rest) → rest ≡ []
nothing_more xs [] same = refl
nothing_more xs (entry ∷ rest) same = absurd (omega (arith, same, length-append xs (entry ∷ rest)))

is_prefix : (reading : Reading) → IsPrefix reading
unfolding page
is_prefix reading =
    let of = every_page reading.limits reading.state reading.arguments in
    let is = answer_is reading in
    let all = all_entries reading.limits reading.state reading.arguments in
    let shown = (page reading.limits reading.state reading.arguments).entries in
    record {
      rest = of.rest;
      prefix = of.prefix ∙ ap (λ (answer : ReadDirAnswer). answer.entries ++ of.rest) (sym is);
      whole = λ end. nothing_more shown of.rest
          (eqb-true (length shown) (length all) (sym (ap (λ (answer : ReadDirAnswer). answer.is_end) is) ∙ end) ∙ ap (λ (l : List Entry). length l) of.prefix);
    }

-- The names that a call found rise by their stamps, so that they are the map by stamp

with_first : (names : Keyed DirEntry) (entry : Record) → IsAbove entry.0 names → with names entry.0 entry.1 ≡ entry ∷ names
with_first [] entry above = refl
with_first (next ∷ rest) entry above =
    let apart : entry.0 ≢ next.0 = omega (arith, above.0) in rw (ne_eqb entry.0 next.0 apart, lt-ltb entry.0 next.0 above.0) refl

by_stamp-rising : (names : Keyed DirEntry) → IsRising names → by_stamp names ≡ names
by_stamp-rising [] rising = refl
by_stamp-rising (entry ∷ rest) rising =
    ap (λ l. with l entry.0 entry.1) (by_stamp-rising rest (rising_above rest entry.0 rising)) ∙ with_first rest entry rising

-- each entry is under its own stamp
each_there : (whole names : Keyed DirEntry) (least : ℕ) → IsAbove least names → ((key : ℕ) → least < key → at key whole ≡ at key names)
    → AllByRecursion (λ entry. at entry.0 whole ≡ Some entry.1) names
each_there whole [] least above same = tt
each_there whole (entry ∷ rest) least above same = (
  same entry.0 above.0 ∙ at-first entry.0 entry.0 entry.1 rest refl,
  each_there whole rest entry.0 above.1 (λ key high.
      let up : least < key = omega (arith, high, above.0) in
      same key up ∙ at-rest entry.0 key entry.1 rest (omega (arith, high))),
)

-- Returned entries, taken back to the names that they are of

back : (f : Record → Entry) (of : Entry → Record) (names : Keyed DirEntry) (entries rest : List Entry)
    → AllByRecursion (λ name. of (f name) ≡ name) names → map f names ≡ entries ++ rest
    → (left : Keyed DirEntry) × (names ≡ map of entries ++ left) × (map f left ≡ rest)
back f of names [] rest each same = (names, refl, same)
back f of [] (entry ∷ entries) rest each same = absurd cc
back f of (name ∷ names) (entry ∷ entries) rest each same =
    let here : f name ≡ entry = cc in
    let others : map f names ≡ entries ++ rest = cc in
    let further = back f of names entries rest each.1 others in (
      further.0,
      ap (λ (n : Record). n ∷ names) (sym each.0 ∙ ap of here) ∙ ap (λ (l : Keyed DirEntry). of entry ∷ l) further.1,
      further.2,
    )

each_of : {A : Type 0} (P Q : A → Type 0) → ((x : A) → P x → Q x) → (xs : List A) → AllByRecursion P xs → AllByRecursion Q xs
each_of P Q so [] each = tt
each_of P Q so (x ∷ xs) each = (so x each.0, each_of P Q so xs each.1)

each_append : {A : Type 0} (P : A → Type 0) → (xs ys : List A) → AllByRecursion P xs → AllByRecursion P ys → AllByRecursion P (xs ++ ys)
each_append P [] ys prefix behind = behind
each_append P (x ∷ xs) ys prefix behind = (prefix.0, each_append P xs ys prefix.1 behind)

none_mapped : (f : Record → Entry) → (names : Keyed DirEntry) → map f names ≡ [] → names ≡ []
none_mapped f [] none = refl
none_mapped f (name ∷ names) none = absurd cc

well_named : (reading : Reading) → IsWellFormed reading.limits reading.state.tree → AreNames reading.limits (names_found reading)
well_named reading well =
    names_in reading.limits reading.state.tree (forest_of reading.limits reading.state.tree well) (current reading.state)

-- One call

module _ (reading : Reading) (well : IsWellFormed reading.limits reading.state.tree) where
  abbrev its_names : Keyed DirEntry
  its_names = names_found reading

  abbrev behind_it : Keyed DirEntry
  behind_it = after reading.arguments.cookie its_names

  abbrev listed : Record → Entry
  listed = listed_entry reading.limits reading.state.tree reading.state.context.cred reading.arguments.bitmap

  rising : IsAbove 0 its_names
  rising = (well_named reading well).rising

  by_stamp-its : by_stamp its_names ≡ its_names
  by_stamp-its = by_stamp-rising its_names (rising_above its_names 0 rising)

  each_behind : AllByRecursion (λ entry. at entry.0 its_names ≡ Some entry.1) behind_it
  each_behind = each_there its_names behind_it reading.arguments.cookie
      (after_above reading.arguments.cookie its_names (rising_above its_names 0 rising))
      (λ key high. sym (at_after reading.arguments.cookie key its_names high))

  -- a listed name is shown as it is
  shown_again : (name : Record) → at name.0 its_names ≡ Some name.1 → record_shown its_names (listed name) ≡ name
  shown_again name is = ap (λ o. record_from name.0 name.1.name (number_shown o)) is

  pub record IsPageOf : Type 0 where
    pub left : Keyed DirEntry
    pub prefix : behind_it ≡ map (record_shown its_names) reading.answer.entries ++ left
    pub whole : reading.answer.is_end ≡ true → left ≡ []

  pub is_page : IsPageOf
  is_page =
      let of = is_prefix reading in
      let again = each_of (λ name. at name.0 its_names ≡ Some name.1) (λ name. record_shown its_names (listed name) ≡ name) shown_again behind_it each_behind in
      let taken = back listed (record_shown its_names) behind_it reading.answer.entries of.rest again of.prefix in
      record { left = taken.0; prefix = taken.1; whole = λ end. none_mapped listed taken.0 (taken.2 ∙ of.whole end) }

  stand : (entries : List Entry) (left : Keyed DirEntry)
      → AllByRecursion (λ entry. at entry.0 its_names ≡ Some entry.1) (map (record_shown its_names) entries ++ left)
      → AllByRecursion (λ entry. StandsUnder entry.cookie entry.name reading) entries
  stand [] left each = tt
  stand (entry ∷ entries) left each = (record { entry = (record_shown its_names entry).1; found = each.0; named = refl }, stand entries left each.1)

  pub they_stand : AnswersWhatStands reading
  they_stand = stand reading.answer.entries is_page.left
      (subst (λ l. AllByRecursion (λ entry. at entry.0 its_names ≡ Some entry.1) l) is_page.prefix each_behind)

  pub behind_is : (cookie : ℕ) → reading.arguments.cookie ≡ cookie → behind cookie (page_of reading) ≡ (page_of reading).shown ++ is_page.left
  behind_is cookie same = ap (λ c. after c (by_stamp its_names)) (sym same) ∙ (ap (after reading.arguments.cookie) by_stamp-its ∙ is_page.prefix)

  -- a name is there once
  stands_once : (name : List ℕ) (a b : ℕ) → StandsUnder a name reading → StandsUnder b name reading → a ≡ b
  stands_once name a b one other = elim (cases_eq a b) [
    | inl same ↦ same
    | inr apart ↦
        let worth : DirEntry → ℕ = λ entry. one_if (bytes_eq name entry.name) in
        let less = without its_names a in
        let first : total worth less + worth_at worth (at a its_names) ≡ total worth its_names = total-without worth its_names a 0 rising in
        let second : total worth (without less b) + worth_at worth (at b less) ≡ total worth less
        = total-without worth less b 0 (IsAbove-without its_names a 0 rising) in
        let it : worth_at worth (at a its_names) ≡ 1 = ap (worth_at worth) one.found ∙ its_worth one.entry one.named in
        let too : worth_at worth (at b less) ≡ 1
        = ap (worth_at worth) (at-without_other its_names a b (λ same. apart (sym same)) ∙ other.found) ∙ its_worth other.entry other.named in
        let most : total worth its_names ≤ 1 = (well_named reading well).once name in
        absurd (omega (arith, first, second, it, too, most))
  ]
    where
      its_worth : (entry : DirEntry) → entry.name ≡ name → one_if (bytes_eq name entry.name) ≡ 1
      its_worth entry named = ap one_if (ap (bytes_eq name) named ∙ bytes_eq-same name)

  -- so if it is under a cookie, it is returned with that one
  pub only_cookie : (cookie : ℕ) (name : List ℕ) → StandsUnder cookie name reading
      → AllByRecursion (λ entry. bytes_eq name entry.name ≡ true → entry.cookie ≡ cookie) reading.answer.entries
  only_cookie cookie name has =
      each_of (λ entry. StandsUnder entry.cookie entry.name reading) (λ entry. bytes_eq name entry.name ≡ true → entry.cookie ≡ cookie)
      (λ entry it same.
      let its : StandsUnder entry.cookie name reading
      = record { entry = it.entry; found = it.found; named = it.named ∙ sym (bytes_eq-true name entry.name same) } in
      stands_once name entry.cookie cookie its has)
      reading.answer.entries they_stand

  pub has_name : (cookie : ℕ) (name : List ℕ) → StandsUnder cookie name reading → Has (λ entry. entry.name ≡ name) cookie (by_stamp its_names)
  has_name cookie name has = (has.entry, ap (at cookie) by_stamp-its ∙ has.found, has.named)

  pub high_enough : (cookie : ℕ) (name : List ℕ) → StandsUnder cookie name reading → 0 < cookie
  high_enough cookie name has = at-above its_names 0 cookie has.entry rising has.found

-- The calls

last_is : (names : Keyed DirEntry) (cookie : ℕ) (entries : List Entry) → last_cookie cookie (map (record_shown names) entries) ≡ last_answered cookie entries
last_is names cookie [] = refl
last_is names cookie (entry ∷ rest) = last_is names entry.cookie rest

listing_of : (cookie : ℕ) (readings : List Reading) → AreWellFormed readings → AreReadings cookie readings → IsListing cookie (map page_of readings)
listing_of cookie [] well are = absurd are
listing_of cookie (reading ∷ []) well are =
    let shown = (page_of reading).shown in
    behind_is reading well.0 cookie are.0
    ∙ (ap (λ (l : Keyed DirEntry). shown ++ l) ((is_page reading well.0).whole are.1) ∙ append-nil shown)
listing_of cookie (reading ∷ next ∷ rest) well are = (
  ((is_page reading well.0).left, behind_is reading well.0 cookie are.0),
  subst (λ c. IsListing c (map page_of (next ∷ rest))) (sym (last_is (names_found reading) cookie reading.answer.entries))
      (listing_of (last_answered cookie reading.answer.entries) (next ∷ rest) well.1 are.2),
)

there_of : (readings : List Reading) → AreWellFormed readings → AllByRecursion AnswersWhatStands readings
there_of [] well = tt
there_of (reading ∷ rest) well = (they_stand reading well.0, there_of rest well.1)

only_cookies : (cookie : ℕ) (name : List ℕ) (readings : List Reading) → AreWellFormed readings → AllByRecursion (StandsUnder cookie name) readings
    → AllByRecursion (λ entry. bytes_eq name entry.name ≡ true → entry.cookie ≡ cookie) (all_answered readings)
only_cookies cookie name [] well has = tt
only_cookies cookie name (reading ∷ rest) well has =
    each_append (λ entry. bytes_eq name entry.name ≡ true → entry.cookie ≡ cookie) reading.answer.entries (all_answered rest)
    (only_cookie reading well.0 cookie name has.0) (only_cookies cookie name rest well.1 has.1)

have_name : (cookie : ℕ) (name : List ℕ) (readings : List Reading) → AreWellFormed readings → AllByRecursion (StandsUnder cookie name) readings
    → AllByRecursion (λ page. Has (λ entry. entry.name ≡ name) cookie (by_stamp page.records)) (map page_of readings)
have_name cookie name [] well has = tt
have_name cookie name (reading ∷ rest) well has = (has_name reading well.0 cookie name has.0, have_name cookie name rest well.1 has.1)

-- Cookies and names

told_by : (names : Keyed DirEntry) (entries : List Entry) → map stamp_and_name (map (record_shown names) entries) ≡ map cookie_and_name entries
told_by names [] = refl
told_by names (entry ∷ rest) = ap (λ (l : Keyed (List ℕ)). cookie_and_name entry ∷ l) (told_by names rest)

told_all : (readings : List Reading) → map stamp_and_name (all_shown (map page_of readings)) ≡ map cookie_and_name (all_answered readings)
told_all [] = refl
told_all (reading ∷ rest) =
    let others = all_shown (map page_of rest) in
    let entries = reading.answer.entries in
    map-append stamp_and_name (page_of reading).shown others
    ∙ (ap (λ (l : Keyed (List ℕ)). l ++ map stamp_and_name others) (told_by (names_found reading) entries)
    ∙ (ap (λ (l : Keyed (List ℕ)). map cookie_and_name entries ++ l) (told_all rest)
    ∙ sym (map-append cookie_and_name entries (all_answered rest))))

above_named : (least : ℕ) (entries : Keyed DirEntry) → IsAbove least entries → IsAbove least (map stamp_and_name entries)
above_named least [] above = tt
above_named least (entry ∷ rest) above = (above.0, above_named entry.0 rest above.1)

at_named : (key : ℕ) (entries : Keyed DirEntry) (found : DirEntry) → at key entries ≡ Some found → at key (map stamp_and_name entries) ≡ Some found.name
at_named key [] found is = absurd (some≢none found (sym is))
at_named key (entry ∷ rest) found is = step (key == entry.0) is (λ others. at_named key rest found others)
  where
    step : (b : Bool) → here_or b entry.1 (at key rest) ≡ Some found
        → (at key rest ≡ Some found → at key (map stamp_and_name rest) ≡ Some found.name)
        → here_or b entry.1.name (at key (map stamp_and_name rest)) ≡ Some found.name
    step true is others = ap (λ (e : DirEntry). Some e.name) (same_Some entry.1 found is)
    step false is others = others is

-- A name that rising entries have under only one cookie

module _ (name : List ℕ) (cookie : ℕ) where
  abbrev IsOnly : Entry → Type 0
  IsOnly entry = bytes_eq name entry.name ≡ true → entry.cookie ≡ cookie

  kept : (entry : Entry) (rest : List Entry) → bytes_eq name entry.name ≡ true → cookies_of name (entry ∷ rest) ≡ entry.cookie ∷ cookies_of name rest
  kept entry rest named = rw named refl

  passed : (entry : Entry) (rest : List Entry) → bytes_eq name entry.name ≡ false → cookies_of name (entry ∷ rest) ≡ cookies_of name rest
  passed entry rest other = rw other refl

  none_named : (least : ℕ) (entries : List Entry) → IsAbove least (map cookie_and_name entries) → cookie ≤ least → AllByRecursion IsOnly entries
      → cookies_of name entries ≡ []
  none_named least [] above low only = refl
  none_named least (entry ∷ rest) above low only =
      step (bytes_eq name entry.name) refl (none_named entry.cookie rest above.1 (omega (arith, low, above.0)) only.1)
    where
      step : (b : Bool) → bytes_eq name entry.name ≡ b → cookies_of name rest ≡ [] → cookies_of name (entry ∷ rest) ≡ []
      step true named none = absurd (omega (arith, only.0 named, low, above.0))
      step false other none = passed entry rest other ∙ none

  pub one_named : (least : ℕ) (entries : List Entry) → IsAbove least (map cookie_and_name entries) → AllByRecursion IsOnly entries
      → at cookie (map cookie_and_name entries) ≡ Some name → cookies_of name entries ≡ cookie ∷ []
  one_named least [] above only is = absurd (some≢none name (sym is))
  one_named least (entry ∷ rest) above only is = elim (cases_eq cookie entry.cookie) [
    | inl same ↦
        let its : entry.name ≡ name
        = same_Some entry.name name (sym (at-first entry.cookie cookie entry.name (map cookie_and_name rest) same) ∙ is) in
        kept entry rest (ap (bytes_eq name) its ∙ bytes_eq-same name)
        ∙ (ap (λ (l : List ℕ). entry.cookie ∷ l) (none_named entry.cookie rest above.1 (omega (arith, same)) only.1)
        ∙ ap (λ (c : ℕ). c ∷ []) (sym same))
    | inr apart ↦
        let others : at cookie (map cookie_and_name rest) ≡ Some name = sym (at-rest entry.cookie cookie entry.name (map cookie_and_name rest) apart) ∙ is in
        step (bytes_eq name entry.name) refl apart (one_named entry.cookie rest above.1 only.1 others)
  ]
    where
      step : (b : Bool) → bytes_eq name entry.name ≡ b → cookie ≢ entry.cookie → cookies_of name rest ≡ cookie ∷ []
          → cookies_of name (entry ∷ rest) ≡ cookie ∷ []
      step true named apart others = absurd (apart (sym (only.0 named)))
      step false other apart others = passed entry rest other ∙ others

-- The law

first_high : (cookie : ℕ) (name : List ℕ) (readings : List Reading) → AreWellFormed readings → AreReadings 0 readings → AllByRecursion (StandsUnder cookie name) readings
    → 0 < cookie
first_high cookie name [] well are has = absurd are
first_high cookie name (reading ∷ rest) well are has = high_enough reading well.0 cookie name has.0

pub every_reading_lem : EveryReading
every_reading_lem readings well are =
    let pages = map page_of readings in
    let entries = all_answered readings in
    let listing : IsListing 0 pages = listing_of 0 readings well are in
    let each = every_paging_lem pages listing in
    let told = told_all readings in
    let rises : IsAbove 0 (map cookie_and_name entries) = subst (λ (l : Keyed (List ℕ)). IsAbove 0 l) told (above_named 0 (all_shown pages) each.rising) in
    record {
      listing = listing;
      pages = each;
      told = told;
      rising = rises;
      not_twice = λ i j d before within same.
          let few : length (map cookie_and_name entries) ≡ length entries = length-map entries cookie_and_name in
          let up = rising_index 0 (map cookie_and_name entries) i j (cookie_and_name d) rises before (omega (arith, within, few)) in
          let one = ap (λ (e : ℕ × List ℕ). e.0) (get_or-map cookie_and_name entries i d (cookie_and_name d) (omega (arith, before, within))) in
          let other = ap (λ (e : ℕ × List ℕ). e.0) (get_or-map cookie_and_name entries j d (cookie_and_name d) within) in
          omega (arith, up, one, other, same);
      there = there_of readings well;
      once = λ cookie name has.
          let shown = shown_pages (λ entry. entry.name ≡ name) 0 pages listing cookie (first_high cookie name readings well are has)
          (have_name cookie name readings well has) in
          one_named name cookie 0 entries rises (only_cookies cookie name readings well has)
          (ap (at cookie) (sym told) ∙ (at_named cookie (all_shown pages) shown.0 shown.1 ∙ ap (λ (n : List ℕ). Some n) shown.2));
    }
