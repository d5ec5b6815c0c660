-- A transaction whose marks are written: what it makes of a volume.
use Rattle.std.specs.Prelude.{◌≡◌, ◌≢◌, ◌≤◌, ◌+◌, ◌*◌, ◌⊎◌, ℕ, ⊤, Bool, List, IsTrue, length}
use Rattle.disk.specs.Moments.{Image}
use Rattle.freemap.specs.Places.{ShowsPlaces, HaveSamePart, mark_of, bit_in}
use Rattle.layout.specs.declared.versions.Marking.{Marking}
use Rattle.layout.specs.declared.versions.Marking.TheVariants.{InSectors, AsNamed}
use Rattle.layout.specs.Stands.{Version, HasRegion, HaveForms, IsLaid}
use Rattle.tree_transaction.specs.declared.transaction.Transaction.{Transaction}
use Rattle.tree_transaction.specs.Transactions.{cached_nodes_of, end_of, image_of, changed_tree}
use Rattle.tree_transaction.specs.Transactions.{IsTransaction}

-- the bitmap sectors show these places and nothing past them, however long these sectors are
pub record IsMarked (base : Image) (places : List Bool) : Type 0 where
  pub few : length places ≤ 65536
  pub bits : (i : ℕ) → bit_in (base 98) (base 99) i ≡ mark_of places i

-- if there is a bitmap
abbrev pub AreMarked : Marking → (base : Image) → (places : List Bool) → Type 0
AreMarked InSectors base places = IsMarked base places
AreMarked AsNamed base places = ⊤

-- how many sectors the bitmap has
abbrev pub bitmap_sectors : Marking → ℕ
bitmap_sectors InSectors = 2
bitmap_sectors AsNamed = 0

-- bitmap sector 0 or 1 shows the places from its first on, or is unchanged if these are the same as
-- before; and no other sector has changed
pub record ShowsPart (old new : Image) (before places : List Bool) (part : ℕ) : Type 0 where
  pub shows : ShowsPlaces (new (98 + part)) places (32768 * part)
      ⊎ (new (98 + part) ≡ old (98 + part)) × HaveSamePart places before (32768 * part)
  pub others : (n : ℕ) → n ≢ 98 + part → new n ≡ old n

-- the transaction is one of a volume of this version: its places are the whole data region, for
-- which a bitmap has room, and the spare sectors hold what the version says
pub record IsWhole (version : Version) (base : Image) (size : ℕ) (transaction : Transaction)
    : Type 0 where
  pub region : HasRegion version size transaction.nodes
  pub end_is : version.data_end size ≡ end_of transaction
  pub few : version.marking ≡ InSectors → length transaction.places ≤ 65536
  pub forms : HaveForms version (cached_nodes_of transaction)
  pub spare : (n : ℕ) → IsTrue (version.is_spare n) → base n ≡ version.spare n

-- Then, over sectors whose bitmap, if there is one, shows the previous places, the sectors hold its
-- cached nodes, marks included, and the tree is the same
pub record LeavesLaid (version : Version) (base : Image) (size : ℕ) (old new : Transaction)
    : Type 0 where
  pub laid : IsLaid version size old.nodes (image_of base new) (cached_nodes_of old)
  pub tree_is : changed_tree base new ≡ changed_tree base old

abbrev pub Finishes : Marking → (before : List Bool) → (old new : Transaction) → Type 0
Finishes marking before old new = (version : Version) (base : Image) (size : ℕ)
    → version.marking ≡ marking → IsTransaction base size old → IsWhole version base size old
    → AreMarked marking base before → LeavesLaid version base size old new
