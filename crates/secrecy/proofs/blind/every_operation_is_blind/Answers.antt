use Rattle.secrecy.proofs.BlindLaws.{each_is_blind, each_answers_alike}
use Rattle.secrecy.proofs.blind.every_operation_is_blind.Goals as goal

pub returns-clause-blind : goal.returns-clause-blind
returns-clause-blind c = each_is_blind

pub returns-clause-alike : goal.returns-clause-alike
returns-clause-alike c = each_answers_alike
