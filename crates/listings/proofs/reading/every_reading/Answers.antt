use Rattle.listings.proofs.ReadingLaws.{every_reading_lem}
use Rattle.listings.proofs.reading.every_reading.Goals as goal

pub returns : goal.returns
returns c = every_reading_lem
