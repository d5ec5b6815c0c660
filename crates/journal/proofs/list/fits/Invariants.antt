use Rattle.std.proofs.Common.{◌≡◌, take}
use Rattle.journal.specs.Layout.{targets}
use Rattle.journal.proofs.Lists.{fresh_count}
use Rattle.journal.proofs.list.fits.Given as goal

abbrev pub invariant-loop-update : goal.invariant-loop-update
invariant-loop-update l =
    l.fresh ≡ fresh_count l.pending_sectors.sectors.items (targets (take l.update-index l.updates))
