use Rattle.std.proofs.Common.{◌*◌, ℕ, List, length, subst, ◌∙◌, arith}
use Rattle.freemap.specs.Kept.{IsFirstClear}
use Rattle.freemap.proofs.GroupLaws.{bytes_in, group_there, below_group, clear_group}
use Rattle.freemap.proofs.groups.first_clear.Goals as goal

pub returns-then-place-lt-GROUP_PLACES-clause-below : goal.returns-then-place-lt-GROUP_PLACES-clause-below
returns-then-place-lt-GROUP_PLACES-clause-below c =
    let groups = c.args.groups.now in
    let part = c.loop-part.part in
    let group = group_there groups part c.index-groups-part.result c.index-groups-part.is c.loop-part-test.true in
    let first = subst (λ (bytes : List ℕ). IsFirstClear bytes (8 * length bytes) c.first-place.result) (c.deref.ensures ∙ group) c.first-place.ensures in
    below_group (bytes_in groups) c.requires.groups part c.first-place.result first c.loop-part.invariant

pub returns-then-place-lt-GROUP_PLACES-clause-clear : goal.returns-then-place-lt-GROUP_PLACES-clause-clear
returns-then-place-lt-GROUP_PLACES-clause-clear c =
    let groups = c.args.groups.now in
    let part = c.loop-part.part in
    let group = group_there groups part c.index-groups-part.result c.index-groups-part.is c.loop-part-test.true in
    let first = subst (λ (bytes : List ℕ). IsFirstClear bytes (8 * length bytes) c.first-place.result) (c.deref.ensures ∙ group) c.first-place.ensures in
    λ within. clear_group (bytes_in groups) c.requires.groups part c.first-place.result first c.if-place-lt-GROUP_PLACES.true within

pub loop-part-preserved : goal.loop-part-preserved
loop-part-preserved c =
    let groups = c.args.groups.now in
    let part = c.loop-part.part in
    let group = group_there groups part c.index-groups-part.result c.index-groups-part.is c.loop-part-test.true in
    let first = subst (λ (bytes : List ℕ). IsFirstClear bytes (8 * length bytes) c.first-place.result) (c.deref.ensures ∙ group) c.first-place.ensures in
    λ i h. below_group (bytes_in groups) c.requires.groups part c.first-place.result first c.loop-part.invariant i (omega arith)
