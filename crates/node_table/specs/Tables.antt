-- A table of cached nodes, and what is kept beside it.
use Rattle.std.specs.Prelude.{◌≡◌, ◌≢◌, ◌≤◌, ◌<◌, ◌+◌, ℕ, zero, suc, List, [], ◌∷◌, Option, Some, None, length, slice_index_or}
use Rattle.model_tree.specs.Trees.Charge.{charge_of_blocks}
use Rattle.model_tree.specs.Trees.Keyed.{Keyed, at, IsAbove}
use Rattle.layout.specs.CachedNodes.{CachedNode}
use Rattle.layout.specs.Marks.{times}
use Rattle.layout.specs.SumLaws.{sum_over}

-- the number of a node, and of the one at a place

abbrev pub node_number : Option CachedNode → Option ℕ
node_number None = None
node_number (Some cached) = Some cached.fields.number

abbrev pub node_number_at : List (Option CachedNode) → (place : ℕ) → Option ℕ
node_number_at cached_nodes place = node_number (slice_index_or cached_nodes place None)

-- each number has one place
abbrev pub HaveOwnPlaces : List (Option CachedNode) → Type 0
HaveOwnPlaces cached_nodes = (place other number : ℕ) → node_number_at cached_nodes place
    ≡ Some number
    → node_number_at cached_nodes other ≡ Some number → place ≡ other

-- no node has the number, and each one has a lower one
abbrev pub HasNoNode : List (Option CachedNode) → (number : ℕ) → Type 0
HasNoNode cached_nodes number = (place : ℕ) → node_number_at cached_nodes place ≢ Some number

abbrev pub AreBelow : List (Option CachedNode) → (number : ℕ) → Type 0
AreBelow cached_nodes number = (place other : ℕ) → node_number_at cached_nodes place ≡ Some other
    → other < number

-- each number is above 0
abbrev pub AreNumbered : List (Option CachedNode) → Type 0
AreNumbered cached_nodes = (place number : ℕ) → node_number_at cached_nodes place ≡ Some number
    → 0 < number

-- a place that exists and is free
pub record IsFree (cached_nodes : List (Option CachedNode)) (place : ℕ) : Type 0 where
  pub within : place < length cached_nodes
  pub free : slice_index_or cached_nodes place None ≡ None

-- no place is free
abbrev pub AreTaken : List (Option CachedNode) → Type 0
AreTaken cached_nodes = (place : ℕ) → place < length cached_nodes
    → slice_index_or cached_nodes place None ≢ None

-- what a node takes of the data region, and what all of them take; how many they are

abbrev pub charge_of : CachedNode → ℕ
charge_of cached = charge_of_blocks (length cached.blocks)

abbrev pub charge_there : Option CachedNode → ℕ
charge_there None = 0
charge_there (Some cached) = charge_of cached

abbrev pub charge_of_all : List (Option CachedNode) → ℕ
charge_of_all cached_nodes = sum_over charge_of cached_nodes

abbrev pub count_of_all : List (Option CachedNode) → ℕ
count_of_all cached_nodes = sum_over (λ cached. 1) cached_nodes

-- no node has more than 4,096 blocks
abbrev pub AreFew : List (Option CachedNode) → Type 0
AreFew cached_nodes = (place : ℕ) (cached : CachedNode) → slice_index_or cached_nodes place None
    ≡ Some cached
    → length cached.blocks ≤ 4096

-- how often a place is free

abbrev pub vacancy : Option CachedNode → ℕ
vacancy None = 1
vacancy (Some cached) = 0

abbrev pub vacant : (place : ℕ) → List (Option CachedNode) → ℕ
vacant place [] = 0
vacant zero (cached ∷ cached_nodes) = vacancy cached
vacant (suc place) (cached ∷ cached_nodes) = vacant place cached_nodes

-- The places by number, the free places, and the sum of the charges, beside the cached nodes
pub record IsIndexed (cached_nodes : List (Option CachedNode)) (index : Keyed ℕ) (free : List ℕ)
    (charge : ℕ)
    : Type 0 where
  pub few : length cached_nodes ≤ 4194304
  pub each : AreFew cached_nodes
  pub rising : IsAbove 0 index
  pub found : (number place : ℕ) → at number index ≡ Some place
      → node_number_at cached_nodes place ≡ Some number
  pub indexed : (number place : ℕ) → node_number_at cached_nodes place ≡ Some number
      → at number index ≡ Some place
  pub places : (place : ℕ) → times place free ≡ vacant place cached_nodes
  pub whole : length index + length free ≡ length cached_nodes
  pub count_is : length index ≡ count_of_all cached_nodes
  pub charge_is : charge ≡ charge_of_all cached_nodes

-- and room for one of each at every place
pub record HasCapacity (cached_nodes : List (Option CachedNode))
    (index_room free_room : ℕ) : Type 0 where
  pub index : length cached_nodes ≤ index_room
  pub free : length cached_nodes ≤ free_room
