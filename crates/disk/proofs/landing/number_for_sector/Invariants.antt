use Rattle.std.proofs.Common.{◌≡◌, drop}
use Rattle.disk.specs.Landing.{number_for}
use Rattle.disk.proofs.landing.number_for_sector.Given as goal

abbrev pub invariant-loop-landed : goal.invariant-loop-landed
invariant-loop-landed l = number_for l.landing l.sector ≡ number_for (drop l.landed-index l.landing) l.sector
