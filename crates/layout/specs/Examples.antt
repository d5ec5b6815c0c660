-- What files of certain sizes take of the data region: their blocks, and a sector for every 500 of
-- these.
use Rattle.std.specs.Prelude.{◌≡◌, ℕ}
use Rattle.model_tree.specs.declared.node.NodeKind.TheVariants as kind
use Rattle.model_tree.specs.Trees.Charge.{blocks_of, charge_of_blocks}

abbrev pub FileTakes : (size blocks sectors : ℕ) → Type 0
FileTakes size blocks sectors =
    (blocks_of kind.File size ≡ blocks) × (charge_of_blocks (blocks_of kind.File size) ≡ sectors)

abbrev pub DirectoryTakes : (names blocks sectors : ℕ) → Type 0
DirectoryTakes names blocks sectors =
    (blocks_of kind.Directory names ≡ blocks) × (charge_of_blocks (blocks_of kind.Directory names) ≡ sectors)
