use Rattle.secrecy.proofs.SeenRuns.{every_run_is_blind, every_reply_is_blind}
use Rattle.secrecy.proofs.blind.every_run_is_blind.Goals as goal

pub returns-clause-worlds : goal.returns-clause-worlds
returns-clause-worlds c = every_run_is_blind

pub returns-clause-replies : goal.returns-clause-replies
returns-clause-replies c = every_reply_is_blind
