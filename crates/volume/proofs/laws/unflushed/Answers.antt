use Rattle.volume.proofs.PrefixLaws.{keeps_prefixes, applied_recent}
use Rattle.volume.proofs.laws.unflushed.Goals as goal

pub returns-clause-keeps : goal.returns-clause-keeps
returns-clause-keeps c = λ held log updates after new over behind. keeps_prefixes held log over.size over.history over.prefixes updates after behind over.area new

pub returns-clause-applied : goal.returns-clause-applied
returns-clause-applied c = λ held log updates after recent over behind. applied_recent held log over.size over.history over.prefixes updates after behind recent
