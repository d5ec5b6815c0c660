-- The sectors that transactions write.
use Rattle.std.specs.Prelude.{◌≡◌, ℕ, Bool, false, List, [], ◌∷◌, ◌++◌, ◌==◌, ◌+◌, ◌<◌, ◌≤◌, length, drop, get_or, if◌then◌else◌}
use Rattle.std.specs.List.{list_any}
use Rattle.disk.specs.declared.update.Update.{Update}
use Rattle.journal.specs.declared.layout.LogArea.{LogArea}
use Rattle.journal.specs.Layout.{targets}

-- the sectors that they write, one after the other
abbrev pub sectors_of : List (List Update) → List ℕ
sectors_of [] = []
sectors_of (updates ∷ list) = targets updates ++ sectors_of list

-- whether the number is among them
abbrev pub has : List ℕ → ℕ → Bool
has numbers number = list_any (λ other. other == number) numbers

-- those of the numbers that are not seen yet, put after the ones that are
abbrev pub gathered : List ℕ → List ℕ → List ℕ
gathered seen [] = seen
gathered seen (number ∷ numbers) =
    gathered (if has seen number then seen else seen ++ number ∷ []) numbers

-- transactions whose different sectors the payload has room for
abbrev pub FitTogether : LogArea → List (List Update) → Type 0
FitTogether area list = length (gathered [] (sectors_of list)) ≤ area.sectors

-- the last place of a number
pub record IsLastPlace (numbers : List ℕ) (number place : ℕ) : Type 0 where
  pub there : place < length numbers
  pub is : get_or numbers place 0 ≡ number
  pub last : has (drop (place + 1) numbers) number ≡ false
