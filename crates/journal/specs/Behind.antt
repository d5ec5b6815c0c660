-- What goes behind a commit record that is set, beside what it names.
use Rattle.std.specs.Prelude.{◌≤◌, ℕ, Bool, List, [], ◌+◌, ◌&&◌, ◌||◌, not, leb, length, if◌then◌else◌}
use Rattle.std.specs.List.{list_any}
use Rattle.journal.specs.declared.layout.LogArea.{LogArea}
use Rattle.journal.specs.Layout.{AreNamed}
use Rattle.journal.specs.Transactions.{has}

-- targets that one gate can name
pub record FitsGate (area : LogArea) (to : List ℕ) : Type 0 where
  pub few : length to ≤ area.sectors
  pub fit : AreNamed area to

-- whether one of the targets is named
abbrev pub meets : List ℕ → List ℕ → Bool
meets named to = list_any (λ target. has named target) to

-- whether more targets go behind a gate: few enough together with those that it names, and all
-- others if each is named once
abbrev pub goes_behind : LogArea → List ℕ → List ℕ → Bool
goes_behind area named to =
    (not area.once || not (meets named to)) && leb (length named + length to) area.sectors

-- what a gate still names once there is a way for more targets: all, or nothing
abbrev pub way_for : LogArea → List ℕ → List ℕ → List ℕ
way_for area named to = if goes_behind area named to then named else []

-- what that costs: a gate that has to be closed first has each of its sectors written home, a sync,
-- itself closed, and a sync
abbrev pub way_cost : LogArea → List ℕ → List ℕ → ℕ
way_cost area named to = if goes_behind area named to then 0 else length named + 3
