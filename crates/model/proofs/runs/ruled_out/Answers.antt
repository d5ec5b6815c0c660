use Rattle.model.proofs.Server.RuledOutLaws.{no_skip, no_early_reply, no_taking_back, no_reply_alone, no_second_run, no_forgetting, no_gap, one_a_turn, ends_by_holding, hangs_up_last, hang_up_is_events}
use Rattle.model.proofs.runs.ruled_out.Goals as goal

pub returns-clause-skip : goal.returns-clause-skip
returns-clause-skip c = no_skip

pub returns-clause-early : goal.returns-clause-early
returns-clause-early c = no_early_reply

pub returns-clause-back : goal.returns-clause-back
returns-clause-back c = no_taking_back

pub returns-clause-twice : goal.returns-clause-twice
returns-clause-twice c = no_second_run

pub returns-clause-gap : goal.returns-clause-gap
returns-clause-gap c = no_gap

pub returns-clause-one : goal.returns-clause-one
returns-clause-one c = one_a_turn

pub returns-clause-hang_up : goal.returns-clause-hang_up
returns-clause-hang_up c = hangs_up_last

pub returns-clause-events : goal.returns-clause-events
returns-clause-events c = hang_up_is_events

pub returns-clause-kept : goal.returns-clause-kept
returns-clause-kept c = no_forgetting

pub returns-clause-holding : goal.returns-clause-holding
returns-clause-holding c = ends_by_holding

pub returns-clause-alone : goal.returns-clause-alone
returns-clause-alone c = no_reply_alone
