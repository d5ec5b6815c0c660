use Rattle.std.proofs.Common.{◌≡◌, take}
use Rattle.disk.specs.Landing.{extended}
use Rattle.disk.specs.Trial.{lists_of}
use Rattle.disk.proofs.trial.with_choices.Given as goal

abbrev pub invariant-loop-landing : goal.invariant-loop-landing
invariant-loop-landing l = lists_of l.longer.items ≡ extended (lists_of (take l.landing-index l.landings)) l.sector
