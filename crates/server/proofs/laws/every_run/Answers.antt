use Rattle.server.proofs.RunLaws.{hang_up_is_calls, is_bounded, never_empty, only_idle}
use Rattle.server.proofs.Stops.{every_run_again, every_first, never_lost, every_stop, every_trace, every_life, every_stamping, every_answer}
use Rattle.server.proofs.laws.every_run.Goals as goal

pub returns : goal.returns
returns c = record {
  headline = every_run_again;
  stop = every_stop;
  first = every_first;
  never_lost = never_lost;
  trace = every_trace;
  life = every_life;
  stamps = every_stamping;
  answers = every_answer;
  idle = only_idle;
  hang_up = hang_up_is_calls;
  bounded = is_bounded;
  empty = never_empty;
}
