-- Chunks of entries, and the places at which they end.
use Rattle.std.specs.Prelude.{◌≡◌, ◌<◌, ◌≤◌, ◌+◌, ℕ, List, [], ◌∷◌, length, take, slice_index_or, insert}
use Rattle.std.specs.List.{flat_map, AllByRecursion}

-- the entries of one: 1 to 1,024
pub record IsChunk {X : Type 0} (entries : List X) : Type 0 where
  pub some : 0 < length entries
  pub few : length entries ≤ 1024

-- the places after the last entries of chunks of which the first begins at `from`
abbrev pub ends_from : {R X : Type 0} → (R → List X) → (from : ℕ) → List R → List ℕ
ends_from entries_of from [] = []
ends_from entries_of from (chunk ∷ rest) =
    (from + length (entries_of chunk)) ∷ ends_from entries_of (from + length (entries_of chunk)) rest

-- what a list keeps: its chunks, with at most 2^32 - 1 entries in all, and where they end
pub record AreChunks {R X : Type 0} (entries_of : R → List X) (chunks : List R) (ends : List ℕ)
    : Type 0 where
  pub each : AllByRecursion (λ chunk. IsChunk (entries_of chunk)) chunks
  pub few : length (flat_map entries_of chunks) ≤ 4294967295
  pub ending : ends ≡ ends_from entries_of 0 chunks

-- the place of a chunk's first entry
abbrev pub start_of : {R X : Type 0} → (R → List X) → List R → (chunk : ℕ) → ℕ
start_of entries_of chunks chunk = length (flat_map entries_of (take chunk chunks))

-- the chunk that has the entry at a place, and the place of the entry in it
pub record IsFound {R X : Type 0} (entries_of : R → List X) (chunks : List R) (place chunk at : ℕ)
    : Type 0 where
  pub chunk_in : chunk < length chunks
  pub at_in : (d : R) → at < length (entries_of (slice_index_or chunks chunk d))
  pub same : place ≡ start_of entries_of chunks chunk + at

-- the chunks after an entry is inserted before the one at a place
pub record IsInserted {R X : Type 0} (entries_of : R → List X) (old new : List R) (ends : List ℕ)
    (place : ℕ) (entry : X) : Type 0 where
  pub kept : AreChunks entries_of new ends
  pub same : flat_map entries_of new ≡ insert (flat_map entries_of old) place entry
