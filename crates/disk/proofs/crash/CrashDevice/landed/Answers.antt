use Rattle.std.proofs.Common.{◌≡◌, ◌∙◌, ap, length, arith}
use Rattle.std.proofs.lemmas.List.{with_items_is}
use Rattle.disk.specs.Calls.{image_of}
use Rattle.disk.specs.Crash.{device_of}
use Rattle.disk.specs.Memory.{size_of, history_of}
use Rattle.disk.proofs.LandingLemmas.{at_rest_as, left_at_rest, landed_is_left, landed_rows}
use Rattle.disk.proofs.crash.CrashDevice.landed.Goals as goal

pub returns-clause-landed : goal.returns-clause-landed
returns-clause-landed c =
    let device = device_of c.args.self.now in
    let rows = c.in_ok-sectors.sectors in
    let len : length c.land.new.sectors ≡ rows.len = omega arith in
    let size : length rows.items ≡ size_of device = omega (arith, rows.ok, c.in_ok-sectors.ensures.size) in
    let landed_size : length c.land.new.sectors ≡ size_of device = omega (arith, rows.ok) in
    at_rest_as _ _ _ _ c.with_sectors.ensures.history
    (ap image_of (with_items_is rows c.land.new.sectors len)
    ∙ landed_rows (size_of device) (history_of device).now c.args.landing.now c.since_sync.result.now rows.items _ c.land.new.sectors c.deref_mut.ensures.value size landed_size
    c.in_ok-sectors.ensures.fixed c.since_sync.ensures.unsynced c.since_sync.ensures.within c.land.ensures)

pub returns-clause-left : goal.returns-clause-left
returns-clause-left c = left_at_rest _ _ _ _ (landed_is_left (history_of (device_of c.args.self.now)).now c.args.landing.now) (returns-clause-landed c)
