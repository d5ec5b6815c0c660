-- What the contracts see of a view: the log of a journal in which nothing waits, and whose base is
-- read through the gate.
use Rattle.std.specs.Prelude.{ℕ, [], take}
use Rattle.std.specs.Borrow.{GName}
use Rattle.disk.specs.Moments.{seen}
use Rattle.journal.specs.declared.view.View.{View}
use Rattle.journal.specs.Layout.{through}
use Rattle.journal.specs.Log.{Log}

unfoldable pub view_of : {D : _} {g : _} → View D g → Log
view_of {D} {g} view = record {
  base = through view.area (take view.count view.targets)
      (seen (g.history view.device.now).now);
  list = [];
  is_down = view.is_down;
  area = view.area;
  size = g.size view.device.now;
  history = g.history view.device.now;
}

-- how often its device has failed
unfoldable pub view_failures : {D : _} {g : _} → View D g → ℕ
view_failures {D} {g} view = g.failed view.device.now

-- the device that it reads
unfoldable pub name_of : {D : _} {g : _} → View D g → GName
name_of view = view.device.ghost_name
