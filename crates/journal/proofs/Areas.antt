-- The place of a log on its device.
use Rattle.std.proofs.Common.{◌≤◌, ◌<◌, ◌+◌, ℕ, Bool, true, false, List, All, arith, if◌then◌else◌}
use Rattle.journal.specs.declared.layout.LogArea.{LogArea}
use Rattle.journal.specs.Layout.{AreNamed, IsArea, area_end, max_updates}

-- a device that has room for it has both its parts
pub log_within : (area : LogArea) (size : ℕ) → area_end area ≤ size → area.first + area.sectors ≤ size
log_within area size l = omega (arith, l)

pub end_within : (area : LogArea) (size : ℕ) → area_end area ≤ size → area.end ≤ size
end_within area size l = omega (arith, l)

-- what a gate may name is on the device
pub below_device : (area : LogArea) (size : ℕ) (to : List ℕ) → area_end area ≤ size → AreNamed area to → All (λ t. t < size) to
below_device area size to l named k d within = omega (arith, named.on_device k d within, end_within area size l)

-- and more than the gate in front of it
pub large_for : (area : LogArea) (size : ℕ) → IsArea area → area_end area ≤ size → 50 ≤ size
large_for area size is l = omega (arith, log_within area size l, is.behind, is.room)

-- the log has room for one transaction
pub updates_fit : (area : LogArea) → IsArea area → max_updates area ≤ area.sectors
updates_fit area is = at_most area.once area.sectors is.room
  where
    at_most : (once : Bool) (sectors : ℕ) → 48 ≤ sectors → (if once then 48 else sectors) ≤ sectors
    at_most true sectors l = l
    at_most false sectors l = omega arith

-- in any area a transaction may have 48 sectors
pub updates_enough : (area : LogArea) → IsArea area → 48 ≤ max_updates area
updates_enough area is = at_least area.once area.sectors is.room
  where
    at_least : (once : Bool) (sectors : ℕ) → 48 ≤ sectors → 48 ≤ (if once then 48 else sectors)
    at_least true sectors l = omega arith
    at_least false sectors l = l
