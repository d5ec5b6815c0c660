use Rattle.model.proofs.Wire.AclTextLaws.{reads_numbers, reads_names, reads_entries, writes_entries}
use Rattle.model.proofs.attributes.texts_are_exact.Goals as goal

pub returns-clause-numbers : goal.returns-clause-numbers
returns-clause-numbers c = reads_numbers

pub returns-clause-names : goal.returns-clause-names
returns-clause-names c = reads_names

pub returns-clause-entries : goal.returns-clause-entries
returns-clause-entries c = reads_entries

pub returns-clause-written : goal.returns-clause-written
returns-clause-written c = writes_entries
