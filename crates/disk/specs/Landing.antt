-- What lands in a crash, sector by sector, by a list that chooses it.
use Rattle.std.specs.Prelude.{◌==◌, ℕ, zero, suc, List, [], ◌∷◌, ◌++◌, length, find, fold, map, flat_map, reverse, slice_index_or, if◌then◌else◌}
use Rattle.std.specs.Option.{option_map_or}
use Rattle.disk.specs.declared.landing.Landed.{Landed}
use Rattle.disk.specs.declared.landing.Unsynced.{Unsynced}
use Rattle.disk.specs.Moments.{Image, Moment, written_to}

-- the contents that sector n may hold after a crash at this moment: the fixed one is number 0, and
-- those written since follow, the first of them first
abbrev pub contents_of : Moment → ℕ → List (List ℕ)
contents_of m n = m.fixed n ∷ reverse (written_to n m.unsynced)

-- which content of sector n landed: that of the first entry that names it, and the fixed one if
-- none does
abbrev pub number_for : List Landed → ℕ → ℕ
number_for landing n =
    option_map_or (λ landed. landed.content) (find (λ landed. landed.sector == n) landing) 0

-- what landed; the fixed content if a sector has no content of that number
abbrev pub landed_image : List Landed → Moment → Image
landed_image landing m = λ n. slice_index_or (contents_of m n) (number_for landing n) (m.fixed n)

-- the sectors below this number that have unsynced contents, by rising number
abbrev pub unsynced_below : ℕ → Moment → List Unsynced
unsynced_below zero m = []
unsynced_below (suc n) m =
    let count = length (written_to n m.unsynced) in
    unsynced_below n m ++ (if count == 0 then [] else record { sector = n; contents = count } ∷ [])

-- the choices for one sector: its fixed content, and the first k of those written since
abbrev pub choices_to : ℕ → ℕ → List Landed
choices_to sector zero = record { sector = sector; content = 0 } ∷ []
choices_to sector (suc k) = choices_to sector k ++ record { sector = sector; content = suc k } ∷ []

-- each of these landings with each choice for one more sector
abbrev pub extended : List (List Landed) → Unsynced → List (List Landed)
extended landings unsynced =
    flat_map (λ landing.
    map (λ choice. landing ++ choice ∷ []) (choices_to unsynced.sector unsynced.contents))
    landings

-- all combinations of one choice for each sector
abbrev pub every_landing : List Unsynced → List (List Landed)
every_landing sectors = fold extended ([] ∷ []) sectors
