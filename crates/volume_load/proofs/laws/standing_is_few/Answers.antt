use Rattle.volume_load.proofs.FewLaws.{stands_few}
use Rattle.volume_load.proofs.laws.standing_is_few.Goals as goal

pub returns : goal.returns
returns c = stands_few
