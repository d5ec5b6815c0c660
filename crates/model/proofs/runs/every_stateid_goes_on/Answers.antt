use Rattle.model.proofs.Sessions.StateIdRuns.{every_state_id_goes_on, joins_counted, every_other_run_refuses}
use Rattle.model.proofs.runs.every_stateid_goes_on.Goals as goal

pub returns : goal.returns
returns c = record { goes_on = every_state_id_goes_on; joins = joins_counted; other_run = every_other_run_refuses }
