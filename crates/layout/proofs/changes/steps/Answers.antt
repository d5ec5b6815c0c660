use Rattle.layout.proofs.StepLaws.{file_step, names_step, same_step, file_there}
use Rattle.layout.proofs.changes.steps.Goals as goal

pub returns-clause-file : goal.returns-clause-file
returns-clause-file c = file_step

pub returns-clause-names : goal.returns-clause-names
returns-clause-names c = names_step

pub returns-clause-same : goal.returns-clause-same
returns-clause-same c = same_step

pub returns-clause-there : goal.returns-clause-there
returns-clause-there c = file_there
