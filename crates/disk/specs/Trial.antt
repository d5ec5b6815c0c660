-- The landings that are tried if there are too many sectors for all combinations.
use Rattle.std.specs.Prelude.{◌==◌, ℕ, zero, suc, Bool, true, false, not, List, [], ◌∷◌, ◌++◌, Vec, length, map, if◌then◌else◌}
use Rattle.std.specs.Global.{Global}
use Rattle.disk.specs.declared.landing.Landed.{Landed}
use Rattle.disk.specs.declared.landing.Unsynced.{Unsynced}
use Rattle.disk.specs.declared.trial.Edge.{Edge}
use Rattle.disk.specs.declared.trial.Edge.TheVariants.{Nothing, Everything, Only, AllBut}

abbrev pub lists_of : List (Vec Landed Global) → List (List Landed)
lists_of landings = map (λ landing. landing.items) landings

-- whether the sector at this place of the list lands
abbrev pub lands : Edge → ℕ → Bool
lands Nothing place = false
lands Everything place = true
lands (Only one) place = place == one
lands (AllBut one) place = not (place == one)

-- one choice for each sector from this place on: its newest content if it lands, or the fixed one
abbrev pub edge_landing_of : Edge → ℕ → List Unsynced → List Landed
edge_landing_of edge place [] = []
edge_landing_of edge place (unsynced ∷ sectors) =
    record { sector = unsynced.sector; content = if lands edge place then unsynced.contents else 0 }
    ∷ edge_landing_of edge (suc place) sectors

-- only one, and all but one, for each place below this one
abbrev pub edges_below : List Unsynced → ℕ → List (List Landed)
edges_below sectors zero = []
edges_below sectors (suc place) =
    edges_below sectors place ++ edge_landing_of (Only place) 0 sectors
    ∷ edge_landing_of (AllBut place) 0 sectors ∷ []

-- none, all, and for each sector: only it, and all but it
abbrev pub edge_landings_of : List Unsynced → List (List Landed)
edge_landings_of sectors =
    edge_landing_of Nothing 0 sectors ∷ edge_landing_of Everything 0 sectors
    ∷ edges_below sectors (length sectors)
