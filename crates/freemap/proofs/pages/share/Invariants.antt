use Rattle.std.proofs.Common.{◌≡◌, map, take}
use Rattle.freemap.proofs.pages.share.Given as goal

abbrev pub invariant-loop-one : goal.invariant-loop-one
invariant-loop-one g l = map (λ one. one.value) l.copy.items ≡ map (λ one. one.value) (take l.one-index l.list)
