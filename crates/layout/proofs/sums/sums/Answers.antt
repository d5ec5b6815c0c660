use Rattle.layout.proofs.Summing.{names_total, each_sum}
use Rattle.layout.proofs.Linking.{each_link}
use Rattle.layout.proofs.sums.sums.Goals as goal

pub returns-clause-names : goal.returns-clause-names
returns-clause-names c = names_total

pub returns-clause-each : goal.returns-clause-each
returns-clause-each c = each_sum

pub returns-clause-links : goal.returns-clause-links
returns-clause-links c = each_link
