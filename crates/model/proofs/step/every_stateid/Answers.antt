use Rattle.model.proofs.Sessions.StateIdLaws.{newest, lower, joined_old, not_own, other_run, ended}
use Rattle.model.proofs.step.every_stateid.Goals as goal

pub returns : goal.returns
returns c = record {
  newest = newest;
  old = lower;
  joined = joined_old;
  not_own = not_own;
  other_run = other_run;
  ended = ended;
}
