-- How many index sectors a file may have: at depth e there is at most one for each 512 ^ e blocks.
use Rattle.std.specs.Prelude.{◌≡◌, ◌≤◌, ◌+◌, ◌-◌, ◌/◌, ◌^◌, ℕ, zero, suc, List, length}
use Rattle.extent_tree.specs.declared.entry.Entry.{Entry}
use Rattle.extent_tree.specs.Depth.{depth_of}
use Rattle.extent_tree.specs.Tree.{IsRoot, file_indexes}

-- n / m, rounded up
abbrev pub rounded_up : (n m : ℕ) → ℕ
rounded_up n m = (n + (m - 1)) / m

-- the most index sectors of b blocks whose entries are at depth e
abbrev pub most_indexes : (e b : ℕ) → ℕ
most_indexes zero b = 0
most_indexes (suc e) b = rounded_up b (512 ^ suc e) + most_indexes e b

-- the sectors that a file of b blocks is charged for its index
abbrev pub charge_of : (b : ℕ) → ℕ
charge_of b = (b + 499) / 500

-- no file of b blocks has more index sectors than the most, nor than the charge; and none up to 256
-- blocks has one
pub record ChargeCovers : Type 0 where
  pub tree : (index : ℕ → List Entry) (b : ℕ) (root : List Entry) → IsRoot index b root
      → length (file_indexes index b root) ≤ most_indexes (depth_of b) b
  pub most : (b : ℕ) → b ≤ 2 ^ 28 → most_indexes (depth_of b) b ≤ charge_of b
  pub small : (b : ℕ) → b ≤ 256 → most_indexes (depth_of b) b ≡ 0
