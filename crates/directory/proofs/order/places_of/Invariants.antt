use Rattle.std.proofs.Common.{◌≡◌, map, take}
use Rattle.directory.proofs.order.places_of.Given as goal

abbrev pub invariant-loop-one : goal.invariant-loop-one
invariant-loop-one l = l.places ≡ map (λ one. one.place) (take l.one-index l.all)
