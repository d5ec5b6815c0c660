use Rattle.compound.specs.Views.{in_progress_of}
use Rattle.compound.proofs.running.Running.step.Goals as goal

-- The reply

pub store-requires-clause-ready : goal.store-requires-clause-ready
store-requires-clause-ready g c = record { up = c.requires.up; agrees = c.requires.agrees }

pub store-requires-clause-ended : goal.store-requires-clause-ended
unfolding in_progress_of
store-requires-clause-ended g c = c.in-Some.is

-- An operation

pub run-requires : goal.run-requires
unfolding in_progress_of
run-requires g c = record { up = c.requires.up; run = c.requires.run; more = c.in-None.is; agrees = c.requires.agrees }
