use Rattle.layout.proofs.StepLaws.{each_write}
use Rattle.layout.proofs.EditMeets.{each_write_meets}
use Rattle.layout.proofs.files.writes.Goals as goal

pub returns-clause-bytes : goal.returns-clause-bytes
returns-clause-bytes c = each_write

pub returns-clause-edits : goal.returns-clause-edits
returns-clause-edits c = each_write_meets
