use Rattle.std.proofs.Common.{◌≡◌, ◌++◌, ◌∷◌, [], map}
use Rattle.disk.specs.Landing.{choices_to}
use Rattle.disk.specs.Trial.{lists_of}
use Rattle.disk.proofs.trial.push_choices.Given as goal

abbrev pub invariant-loop-earlier : goal.invariant-loop-earlier
invariant-loop-earlier l = lists_of l.longer.items ≡ lists_of l.fn.longer.items ++ map (λ choice. l.landing ++ choice ∷ []) (choices_to l.sector l.earlier)
