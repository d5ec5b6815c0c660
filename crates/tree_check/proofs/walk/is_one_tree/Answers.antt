use Rattle.std.proofs.Common.{◌≡◌, ◌<◌, ◌∷◌, length, take, replicate, false, ap, subst, ◌∙◌, arith}
use Rattle.std.proofs.lemmas.Bool.{eqb-true, eq-eqb}
use Rattle.std.proofs.lemmas.List.{get_or_default}
use Rattle.model_tree.specs.Trees.Tree.{root}
use Rattle.tree_check.specs.Trees.{led_at}
use Rattle.tree_check.specs.Walks.{led_from, IsStuck, Meets}
use Rattle.tree_check.proofs.Counting.{all-counted, is-one-tree, order-fits, stuck-is-none}
use Rattle.tree_check.proofs.Meeting.{starts}
use Rattle.tree_check.proofs.Sums.{take-all}
use Rattle.tree_check.proofs.Visiting.{one-more}
use Rattle.tree_check.proofs.walk.is_one_tree.Goals as goal

pub loop-visited-init : goal.loop-visited-init
loop-visited-init c =
    let begun =
    starts c.args.table.now c.in_ok-walk.walk.seen.items c.meet.new.self.seen.items c.in_ok-walk.walk.order.items c.meet.new.self.order.items c.in-Some.root
    (c.in_ok-walk.ensures.unseen ∙ ap (λ n. replicate n false) c.places.ensures.places) c.in_ok-meet.ensures.seen c.in_ok-walk.ensures.empty c.in_ok-meet.ensures.order c.in-Some.ensures.some in
    (begun.walk, (omega arith, begun.met))

pub returns-then-not-branch-clause-complete : goal.returns-then-not-branch-clause-complete
returns-then-not-branch-clause-complete c tree =
    let order = c.loop-visited.walk.order.items in
    let inside : c.loop-visited.visited < length order = omega (arith, c.loop-visited-test.true, c.len.ensures, c.loop-visited.walk.order.ok.0) in
    let place_is = c.index-place.ensures ∙ get_or_default order c.loop-visited.visited c.index-place.result.now 0 inside in
    absurd (stuck-is-none c.args.table.now c.loop-visited.walk.seen.items order c.loop-visited.invariant.0 c.count-count.ensures.apart c.loop-visited.visited inside c.loop-visited.invariant.1.1
    (subst (IsStuck c.args.table.now order) place_is (c.in_ok-visit.ensures.stuck c.if-not-branch.true)) tree)

pub loop-visited-smaller : goal.loop-visited-smaller
loop-visited-smaller c =
    omega (arith, c.loop-visited-test.true, c.len.ensures, c.loop-visited.walk.order.ok.0, order-fits c.args.table.now c.loop-visited.walk.seen.items c.loop-visited.walk.order.items c.loop-visited.invariant.0)

pub loop-visited-preserved : goal.loop-visited-preserved
loop-visited-preserved c =
    let order = c.loop-visited.walk.order.items in
    let inside : c.loop-visited.visited < length order = omega (arith, c.loop-visited-test.true, c.len.ensures, c.loop-visited.walk.order.ok.0) in
    let place_is = c.index-place.ensures ∙ get_or_default order c.loop-visited.visited c.index-place.result.now 0 inside in
    let visited = c.in_ok-visit.ensures.visited c.if-not-branch.false in (
      visited.walk,
      one-more c.args.table.now order c.loop-visited.visited inside c.loop-visited.invariant.1.1 c.visit.new.self.seen.items c.visit.new.self.order.items
          (subst (λ place. Meets c.args.table.now c.visit.new.self.seen.items order c.visit.new.self.order.items (led_at c.args.table.now place)) place_is visited),
    )

pub returns-clause-sound : goal.returns-clause-sound
returns-clause-sound c same =
    let order = c.loop-visited.walk.order.items in
    let all : c.loop-visited.visited ≡ length order = omega (arith, c.loop-visited-test.false, c.len.ensures, c.loop-visited.walk.order.ok.0, c.loop-visited.invariant.1.0) in
    is-one-tree c.args.table.now c.loop-visited.walk.seen.items order c.loop-visited.invariant.0 c.count-count.ensures.apart
    (c.loop-visited.invariant.1.1 ∙ ap (λ ps. root ∷ led_from c.args.table.now ps) (ap (λ n. take n order) all ∙ take-all order))
    (let counted = eqb-true c.len-2.result c.count-count.result same in omega (arith, counted, c.len-2.ensures, c.loop-visited.walk.order.ok.0, c.count-count.ensures.count))

pub returns-clause-complete : goal.returns-clause-complete
returns-clause-complete c tree =
    let order = c.loop-visited.walk.order.items in
    let all : c.loop-visited.visited ≡ length order = omega (arith, c.loop-visited-test.false, c.len.ensures, c.loop-visited.walk.order.ok.0, c.loop-visited.invariant.1.0) in
    let counted = all-counted c.args.table.now c.loop-visited.walk.seen.items order c.loop-visited.invariant.0 c.count-count.ensures.apart
    (c.loop-visited.invariant.1.1 ∙ ap (λ ps. root ∷ led_from c.args.table.now ps) (ap (λ n. take n order) all ∙ take-all order)) tree in
    eq-eqb c.len-2.result c.count-count.result (omega (arith, counted, c.len-2.ensures, c.loop-visited.walk.order.ok.0, c.count-count.ensures.count))
