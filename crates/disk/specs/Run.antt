-- What the contracts see of a run of neighbouring sectors.
use Rattle.std.specs.Prelude.{◌≡◌, ◌≤◌, ◌<◌, ◌+◌, ◌-◌, ◌⊎◌, ℕ, List, [], length, Option, None, slice_get, nat_le, if◌then◌else◌}
use Rattle.disk.specs.declared.run.Run.{Run}
use Rattle.disk.specs.declared.run.TheConstants.{RUN_SECTORS}

-- the number of its first sector
abbrev pub first_of : Run → ℕ
first_of run = run.first

-- the contents of its sectors, the first of them first
abbrev pub contents_of : Run → List (List ℕ)
contents_of run = run.sectors.items

-- the content of sector n in contents from this number on, if it is among them
abbrev pub content_from : ℕ → List (List ℕ) → ℕ → Option (List ℕ)
content_from first contents n = if nat_le first n then slice_get contents (n - first) else None

-- the content of sector n in a run, if the run has it
abbrev pub newest_in : Run → ℕ → Option (List ℕ)
newest_in run n = content_from (first_of run) (contents_of run) n

-- a run takes any sector as its first, and then the ones that it has and the next one, up to
-- `RUN_SECTORS` of them
abbrev pub RunTakes : Run → ℕ → Type 0
RunTakes run n = (contents_of run ≡ []) ⊎
    ((first_of run ≤ n) × (n ≤ first_of run + length (contents_of run))
    × (n < first_of run + RUN_SECTORS))
