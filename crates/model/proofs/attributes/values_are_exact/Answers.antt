use Rattle.model.proofs.Wire.AttributeExact.{values_exact, one_values, reads_whole}
use Rattle.model.proofs.attributes.values_are_exact.Goals as goal

pub returns-clause-exact : goal.returns-clause-exact
returns-clause-exact c = λ attributes. values_exact attributes

pub returns-clause-one : goal.returns-clause-one
returns-clause-one c = λ attributes. one_values attributes

pub returns-clause-whole : goal.returns-clause-whole
returns-clause-whole c = reads_whole
