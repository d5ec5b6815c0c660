use Rattle.std.proofs.Common.{◌*◌, map}
use Rattle.std.specs.List.{concat}
use Rattle.freemap.specs.Kept.{IsSetBelow}
use Rattle.freemap.proofs.groups.first_clear.Given as goal

abbrev pub invariant-loop-part : goal.invariant-loop-part
invariant-loop-part l = IsSetBelow (concat (map (λ group. group.value) l.groups)) (4194304 * l.part)
