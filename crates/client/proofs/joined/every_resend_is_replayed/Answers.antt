use Rattle.client.proofs.ResendLaws.{every_resend_is_replayed, every_held_is_found, every_outcome_is_told_again}
use Rattle.client.proofs.joined.every_resend_is_replayed.Goals as goal

pub returns-clause-replayed : goal.returns-clause-replayed
returns-clause-replayed c = every_resend_is_replayed

pub returns-clause-held : goal.returns-clause-held
returns-clause-held c = every_held_is_found

pub returns-clause-told : goal.returns-clause-told
returns-clause-told c = every_outcome_is_told_again
