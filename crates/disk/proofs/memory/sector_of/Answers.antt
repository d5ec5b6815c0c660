use Rattle.disk.proofs.SectorLemmas.{sector_is}
use Rattle.disk.proofs.memory.sector_of.Goals as goal

pub returns-clause-sector : goal.returns-clause-sector
returns-clause-sector c = sector_is c.args.row.now c.told-row c.fits-row
