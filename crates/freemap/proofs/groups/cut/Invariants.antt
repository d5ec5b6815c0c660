use Rattle.std.proofs.Common.{◌≡◌, ◌*◌, map, take}
use Rattle.std.specs.List.{concat}
use Rattle.freemap.specs.Kept.{AreGroups}
use Rattle.freemap.proofs.groups.cut.Given as goal

abbrev pub invariant-loop-part : goal.invariant-loop-part
invariant-loop-part l = record {
  bytes : concat (map (λ group. group.value) l.groups.items) ≡ take (524288 * l.part) l.bits;
  groups : AreGroups (map (λ group. group.value) l.groups.items);
}
