-- What a tree is once its last blocks are cut off.
use Rattle.std.specs.Prelude.{◌≡◌, ◌≢◌, ◌<◌, ◌≤◌, ◌+◌, ◌*◌, ◌^◌, ℕ, true, false, List, [], ◌∷◌, ◌++◌, None, length, min, slice_index_or, if◌then◌else◌, nat_lt}
use Rattle.std.specs.List.{list_all}
use Rattle.extent_tree.specs.declared.entry.Entry.{Entry}
use Rattle.extent_tree.specs.Held.{hole}
use Rattle.extent_tree.specs.Tree.{blocks_of, blocks_in, indexes_of, indexes_in, is_hole, IsTree, AreTrees}
use Rattle.extent_tree.specs.Setting.{times}

-- the first `keep` blocks of an extent
abbrev pub shortened : Entry → (keep : ℕ) → Entry
shortened entry keep =
    if nat_lt 0 keep
    then record { sector = entry.sector; length = min entry.length keep }
    else hole

-- `new` has the first `keep` blocks of `entry`, over the index sectors of `other`; those that it no
-- longer has were added to the ones given back
pub record IsCut (index other : ℕ → List Entry) (e keep : ℕ) (entry new : Entry)
    (before after : List ℕ) : Type 0 where
  pub tree : (n : ℕ) → keep ≤ n → IsTree index e n entry → IsTree other e keep new
  pub blocks : (n : ℕ) → keep ≤ n → IsTree index e n entry → (k : ℕ) → k < keep
      → slice_index_or (blocks_of other e new) k None
      ≡ slice_index_or (blocks_of index e entry) k None
  pub indexes : (s : ℕ) → times s (indexes_of other e new) + times s after
      ≡ times s (indexes_of index e entry) + times s before
  pub grows : (s : ℕ) → times s before ≤ times s after

-- and consecutive entries
pub record AreCut (index other : ℕ → List Entry) (e keep : ℕ) (entries new : List Entry)
    (before after : List ℕ) : Type 0 where
  pub len : length new ≡ length entries
  pub trees : (n : ℕ) → keep ≤ n → AreTrees index e n entries → AreTrees other e keep new
  pub blocks : (n : ℕ) → keep ≤ n → AreTrees index e n entries → (k : ℕ) → k < keep
      → slice_index_or (blocks_in other e new) k None
      ≡ slice_index_or (blocks_in index e entries) k None
  pub indexes : (s : ℕ) → times s (indexes_in other e new) + times s after
      ≡ times s (indexes_in index e entries) + times s before
  pub grows : (s : ℕ) → times s before ≤ times s after

-- an index sector that has only holes is given back
pub record IsGivenBack (index other : ℕ → List Entry) (entry new : Entry) (below : List Entry)
    (before after : List ℕ) : Type 0 where
  pub none : list_all is_hole below ≡ true
  pub new_is : new ≡ hole
  pub back : after ≡ before ++ entry.sector ∷ []
  pub same : (s : ℕ) → other s ≡ index s

-- one that has others gets these entries
pub record IsRewritten (index other : ℕ → List Entry) (entry new : Entry) (below : List Entry)
    (before after : List ℕ) : Type 0 where
  pub some : list_all is_hole below ≡ false
  pub new_is : new ≡ entry
  pub back : after ≡ before
  pub there : other entry.sector ≡ below
  pub same : (s : ℕ) → s ≢ entry.sector → other s ≡ index s

-- `new` are 256 entries at depth e with the first blocks of `root`, which are at depth d
pub record AreLower (index : ℕ → List Entry) (d e : ℕ) (root new : List Entry)
    (before after : List ℕ) : Type 0 where
  pub len : length new ≡ 256
  pub trees : (n : ℕ) → n ≤ 256 * 512 ^ e → AreTrees index d n root → AreTrees index e n new
  pub blocks : (n : ℕ) → n ≤ 256 * 512 ^ e → AreTrees index d n root → (k : ℕ) → k < n
      → slice_index_or (blocks_in index e new) k None
      ≡ slice_index_or (blocks_in index d root) k None
  pub indexes : (n : ℕ) → n ≤ 256 * 512 ^ e → AreTrees index d n root → (s : ℕ)
      → times s (indexes_in index e new) + times s after
      ≡ times s (indexes_in index d root) + times s before
