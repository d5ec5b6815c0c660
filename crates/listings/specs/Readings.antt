-- A client's listing of a directory by READDIR: RFC 8881, section 18.23. The first call has the
-- cookie 0, and each next one that of the last entry it got, until a result says eof. Between the
-- calls anything may change, so each has the state that it found.
use Rattle.std.specs.Prelude.{ℕ, true, false, List, [], ◌∷◌, Option, Some, None, ◌≡◌, ◌≢◌, ◌<◌, bytes_eq, length, map, filter, slice_index_or}
use Rattle.std.specs.List.{flat_map, AllByRecursion}
use Rattle.model.specs.Operations.Answer.{Answer, Outcome, Entry, ReadDirAnswer}
use Rattle.model_tree.specs.Trees.Keyed.{Keyed, at, IsAbove}
use Rattle.model_tree.specs.declared.limits.Limits.{Limits}
use Rattle.model.specs.Operations.Operation.{Argument, ReadDirArguments}
use Rattle.model.specs.Operations.Step.{State, current, does}
use Rattle.model_tree.specs.Trees.Tree.{DirEntry, names_at}
use Rattle.model_tree.specs.Trees.WellFormed.{IsWellFormed}
use Rattle.directory.specs.Listing.{Page, IsListing, ShowsEachOnce, all_shown}
use Rattle.directory.specs.Records.{Record, record_from}

-- a READDIR that succeeded: the state that it found, when, its arguments, and its result
pub record Reading : Type 0 where
  pub limits : Limits
  pub state : State
  pub now : ℕ
  pub arguments : ReadDirArguments
  pub answer : ReadDirAnswer
  pub answered : (does limits state now (Argument.ReadDir arguments)).outcome
      ≡ Outcome.Done (Answer.ReadDir answer)

-- the names of the directory, as it found them
abbrev pub names_found : Reading → Keyed DirEntry
names_found reading = names_at reading.state.tree (current reading.state)

-- Its page: a returned entry has a cookie and a name. The number that the name leads to is not
-- among them, and is the one that the directory has at the cookie.

abbrev pub number_shown : Option DirEntry → ℕ
number_shown None = 0
number_shown (Some entry) = entry.number

abbrev pub record_shown : Keyed DirEntry → Entry → Record
record_shown names entry =
    record_from entry.cookie entry.name (number_shown (at entry.cookie names))

abbrev pub page_of : Reading → Page
page_of reading = record {
  records = names_found reading;
  shown = map (record_shown (names_found reading)) reading.answer.entries;
}

-- The calls of a listing

-- the cookie of the next call: that of the last entry returned
abbrev pub last_answered : (cookie : ℕ) → List Entry → ℕ
last_answered cookie [] = cookie
last_answered cookie (entry ∷ rest) = last_answered entry.cookie rest

-- from a cookie on, each goes on after the last entry returned; only the last call returns eof
abbrev pub AreReadings : (cookie : ℕ) → List Reading → Type 0
AreReadings cookie [] = ⊥
AreReadings cookie (reading ∷ []) =
    (reading.arguments.cookie ≡ cookie) × (reading.answer.is_end ≡ true)
AreReadings cookie (reading ∷ next ∷ rest) =
    (reading.arguments.cookie ≡ cookie) × (reading.answer.is_end ≡ false)
    × AreReadings (last_answered cookie reading.answer.entries) (next ∷ rest)

-- The results

abbrev pub all_answered : List Reading → List Entry
all_answered readings = flat_map (λ reading. reading.answer.entries) readings

abbrev pub cookie_and_name : Entry → ℕ × List ℕ
cookie_and_name entry = (entry.cookie, entry.name)

abbrev pub stamp_and_name : Record → ℕ × List ℕ
stamp_and_name entry = (entry.0, entry.1.name)

-- the cookies that a name is returned with
abbrev pub cookies_of : (name : List ℕ) → List Entry → List ℕ
cookies_of name entries =
    map (λ entry. entry.cookie) (filter (λ entry. bytes_eq name entry.name) entries)

-- a call found a name in the directory, under this cookie
pub record StandsUnder (cookie : ℕ) (name : List ℕ) (reading : Reading) : Type 0 where
  pub entry : DirEntry
  pub found : at cookie (names_found reading) ≡ Some entry
  pub named : entry.name ≡ name

-- each entry that a call returns is in the directory that it found
abbrev pub AnswersWhatStands : Reading → Type 0
AnswersWhatStands reading =
    AllByRecursion (λ entry. StandsUnder entry.cookie entry.name reading) reading.answer.entries

-- What the calls of a listing return, whatever the changes between them
pub record ReadsEachOnce (readings : List Reading) : Type 0 where
  -- the pages of the calls are a listing, and show each entry once
  pub listing : IsListing 0 (map page_of readings)
  pub pages : ShowsEachOnce (map page_of readings)
  -- they show what was returned: these cookies and names, in this order
  pub told : map stamp_and_name (all_shown (map page_of readings))
      ≡ map cookie_and_name (all_answered readings)
  -- so cookies rise over all results
  pub rising : IsAbove 0 (map cookie_and_name (all_answered readings))
  -- and none is returned twice
  pub not_twice : (i j : ℕ) (default : Entry) → i < j → j < length (all_answered readings)
      → (slice_index_or (all_answered readings) i default).cookie
      ≢ (slice_index_or (all_answered readings) j default).cookie
  -- nothing is returned that is not there
  pub there : AllByRecursion AnswersWhatStands readings
  -- a name that is under one cookie at every call is returned once, with that cookie
  pub once : (cookie : ℕ) (name : List ℕ) → AllByRecursion (StandsUnder cookie name) readings
      → cookies_of name (all_answered readings) ≡ cookie ∷ []

-- each call finds a well-formed tree, as it does in every run
abbrev pub AreWellFormed : List Reading → Type 0
AreWellFormed readings =
    AllByRecursion (λ reading. IsWellFormed reading.limits reading.state.tree) readings

abbrev pub EveryReading : Type 0
EveryReading =
    (readings : List Reading) → AreWellFormed readings → AreReadings 0 readings
    → ReadsEachOnce readings
