-- The names of a directory as a map by entry stamp, and how a client lists them page by page (RFC
-- 8881, section 18.23). A stamp is the name's cookie: it stays the name's as long as the name
-- exists, whatever record holds it.
use Rattle.std.specs.Prelude.{ℕ, List, [], ◌∷◌, ◌++◌, Option, Some, None, ◌≡◌, ◌≢◌, ◌<◌, nat_lt, length, filter, slice_index_or}
use Rattle.std.specs.List.{flat_map, AllByRecursion}
use Rattle.model_tree.specs.Trees.Keyed.{Keyed, at, with, without, IsAbove}
use Rattle.model_tree.specs.Trees.Tree.{DirEntry, entry_of}
use Rattle.directory.specs.Records.{Record, name_of, stamp_of, NamesStamped}

-- the map of these records, by rising stamp: of two records of one stamp it has the first
abbrev pub by_stamp : List Record → Keyed DirEntry
by_stamp [] = []
by_stamp (entry ∷ rest) = with (by_stamp rest) entry.0 entry.1

-- the map without an entry that was found
abbrev pub without_entry : Keyed DirEntry → Option Record → Keyed DirEntry
without_entry entries None = entries
without_entry entries (Some entry) = without entries entry.0

-- How putting a name under a new stamp changes the map: stamps stay apart, and the name has only
-- the new one.
pub record PutsByStamp (old new : List Record) (entry : Record) : Type 0 where
  pub stamped : NamesStamped new
  pub entries : by_stamp new
      ≡ with (without_entry (by_stamp old) (entry_of (name_of entry) old)) (stamp_of entry) entry.1

-- how removing a name changes it
pub record RemovesByStamp (old new : List Record) (name : List ℕ) : Type 0 where
  pub stamped : NamesStamped new
  pub entries : by_stamp new ≡ without_entry (by_stamp old) (entry_of name old)

-- what comes after a cookie
abbrev pub after : (cookie : ℕ) → Keyed DirEntry → Keyed DirEntry
after cookie entries = filter (λ entry. nat_lt cookie entry.0) entries

-- Pages

-- one call of a listing: the records of the directory at that moment, which may have changed since
-- the call before, and the entries that were shown
pub record Page : Type 0 where
  pub records : List Record
  pub shown : Keyed DirEntry

abbrev pub behind : (cookie : ℕ) → Page → Keyed DirEntry
behind cookie page = after cookie (by_stamp page.records)

-- the cookie of the next call: the stamp of the last entry shown
abbrev pub last_cookie : (cookie : ℕ) → Keyed DirEntry → ℕ
last_cookie cookie [] = cookie
last_cookie cookie (entry ∷ rest) = last_cookie entry.0 rest

-- a page shows as many of the entries after the cookie, from the first on, as fit
abbrev pub IsPage : (cookie : ℕ) → Page → Type 0
IsPage cookie page = (rest : Keyed DirEntry) × (behind cookie page ≡ page.shown ++ rest)

-- the calls of a listing that begins after a cookie: each next one goes on after the last entry
-- shown, and the last one shows all that is left
abbrev pub IsListing : (cookie : ℕ) → List Page → Type 0
IsListing cookie [] = ⊥
IsListing cookie (page ∷ []) = behind cookie page ≡ page.shown
IsListing cookie (page ∷ next ∷ rest) =
    IsPage cookie page × IsListing (last_cookie cookie page.shown) (next ∷ rest)

abbrev pub all_shown : List Page → Keyed DirEntry
all_shown pages = flat_map (λ page. page.shown) pages

-- What a listing from the start on shows, whatever the changes between its calls
pub record ShowsEachOnce (pages : List Page) : Type 0 where
  -- stamps rise over all pages
  pub rising : IsAbove 0 (all_shown pages)
  -- so no entry is shown twice
  pub not_twice : (i j : ℕ) (default : Record) → i < j → j < length (all_shown pages)
      → slice_index_or (all_shown pages) i default ≢ slice_index_or (all_shown pages) j default
  -- an entry that is there at every call is shown
  pub shown : (stamp : ℕ) (entry : DirEntry) → 0 < stamp
      → AllByRecursion (λ page. at stamp (by_stamp page.records) ≡ Some entry) pages
      → at stamp (all_shown pages) ≡ Some entry

abbrev pub EveryPaging : Type 0
EveryPaging = (pages : List Page) → IsListing 0 pages → ShowsEachOnce pages
