-- The record that a device in memory keeps of its calls, and the history that it encodes.
use Rattle.std.specs.Prelude.{◌≡◌, ◌==◌, ℕ, List, [], ◌∷◌, ◌++◌, Option, Some, None, option_to_list, slice_index_or, replicate, take, drop, reverse, if◌then◌else◌}
use Rattle.disk.specs.declared.call.Call.{Call}
use Rattle.disk.specs.declared.call.Call.TheVariants.{Write, Sync}
use Rattle.disk.specs.Moments.{Image, History, wrote, synced, at_rest, seen, written_to}

-- the image that rows of sectors make; past their end it is empty
abbrev pub image_of : List (List ℕ) → Image
image_of rows = λ n. slice_index_or rows n []

-- a sector of zeros
unfoldable pub zero_sector : List ℕ
zero_sector = replicate 4096 0

-- one call's moment
abbrev pub called : Call → History → History
called (Write update) h = wrote update h
called Sync h = synced h

-- the moments of calls, the first of the list first
abbrev pub replayed : List Call → History → History
replayed [] h = h
replayed (call ∷ calls) h = replayed calls (called call h)

-- the history of a device that held these rows at first
abbrev pub history_of_calls : List (List ℕ) → List Call → History
history_of_calls first calls = replayed calls (at_rest (image_of first))

-- what a call writes to sector n, if it does
abbrev pub written : ℕ → Call → Option (List ℕ)
written n (Write update) = if n == update.target then Some update.content else None
written n Sync = None

-- the contents that calls write to sector n, the first of them first
abbrev pub written_by : ℕ → List Call → List (List ℕ)
written_by n [] = []
written_by n (call ∷ calls) = option_to_list (written n call) ++ written_by n calls

-- k is how many calls there are up to the last sync and with it: what was seen then is fixed, and
-- what was written since is unsynced
pub record IsLastSync (calls : List Call) (k : ℕ) : Type 0 where
  pub fixed : (first : List (List ℕ))
      → (history_of_calls first calls).now.fixed ≡ seen (history_of_calls first (take k calls)).now
  pub since : (first : List (List ℕ)) (n : ℕ)
      → reverse (written_to n (history_of_calls first calls).now.unsynced)
      ≡ written_by n (drop k calls)
