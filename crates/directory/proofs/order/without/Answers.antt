use Rattle.std.proofs.Common.{◌<◌, ◌≤◌, length, sym, subst, arith}
use Rattle.std.specs.List.{Contains}
use Rattle.directory.specs.Order.{IsTakenOut}
use Rattle.directory.proofs.InOrder.{left_within, shortened, last_left, rest_within, none_here, rest_rising, moved}
use Rattle.directory.proofs.order.without.Goals as goal

pub take_out-requires-clause-within : goal.take_out-requires-clause-within
take_out-requires-clause-within c = λ other has. (c.requires.order.all other).0 (subst (λ order. Contains order other) c.in_ok-made.ensures has)

pub take_out-requires-clause-there : goal.take_out-requires-clause-there
take_out-requires-clause-there c = subst (λ order. Contains order c.args.place) (sym c.in_ok-made.ensures) ((c.requires.order.all c.args.place).1 c.requires.within)

pub take_out-requires-2-clause-within : goal.take_out-requires-2-clause-within
take_out-requires-2-clause-within c = λ other has.
    let out = subst (λ order. IsTakenOut c.args.by c.args.old.now order c.take_out.new.order c.args.place) c.in_ok-made.ensures c.in_ok-take_out.ensures in
    left_within c.args.by c.args.order.now c.take_out.new.order c.args.old.now c.args.new.now c.args.place c.requires.order c.requires.within out other has

pub take_out-requires-2-clause-there : goal.take_out-requires-2-clause-there
take_out-requires-2-clause-there c =
    let out = subst (λ order. IsTakenOut c.args.by c.args.old.now order c.take_out.new.order c.args.place) c.in_ok-made.ensures c.in_ok-take_out.ensures in
    let low : c.args.place < length c.args.new.now = omega (arith, c.if-place-last.false, c.len-last.ensures) in
    subst (Contains c.take_out.new.order) (sym c.len-last.ensures)
    (last_left c.args.by c.args.order.now c.take_out.new.order c.args.old.now c.args.new.now c.args.place c.requires.order c.requires.within out c.requires.removed low)

pub insert-requires-clause-rising : goal.insert-requires-clause-rising
insert-requires-clause-rising c =
    let out = subst (λ order. IsTakenOut c.args.by c.args.old.now order c.take_out.new.order c.args.place) c.in_ok-made.ensures c.in_ok-take_out.ensures in
    let low : c.args.place < length c.args.new.now = omega (arith, c.if-place-last.false, c.len-last.ensures) in
    let rest = c.take_out-2.new.order in
    let gone = subst (IsTakenOut c.args.by c.args.old.now c.take_out.new.order rest) c.len-last.ensures c.in_ok-take_out-2.ensures in
    rest_rising c.args.by c.args.order.now c.take_out.new.order c.args.old.now c.args.new.now c.args.place c.requires.order c.requires.within out c.requires.removed low rest gone

pub insert-requires-clause-within : goal.insert-requires-clause-within
insert-requires-clause-within c = λ other has.
    let out = subst (λ order. IsTakenOut c.args.by c.args.old.now order c.take_out.new.order c.args.place) c.in_ok-made.ensures c.in_ok-take_out.ensures in
    let low : c.args.place < length c.args.new.now = omega (arith, c.if-place-last.false, c.len-last.ensures) in
    let rest = c.take_out-2.new.order in
    let gone = subst (IsTakenOut c.args.by c.args.old.now c.take_out.new.order rest) c.len-last.ensures c.in_ok-take_out-2.ensures in
    rest_within c.args.by c.args.order.now c.take_out.new.order c.args.old.now c.args.new.now c.args.place c.requires.order c.requires.within out c.requires.removed low rest gone other has

pub insert-requires-clause-new : goal.insert-requires-clause-new
insert-requires-clause-new c =
    let out = subst (λ order. IsTakenOut c.args.by c.args.old.now order c.take_out.new.order c.args.place) c.in_ok-made.ensures c.in_ok-take_out.ensures in
    let low : c.args.place < length c.args.new.now = omega (arith, c.if-place-last.false, c.len-last.ensures) in
    let rest = c.take_out-2.new.order in
    let gone = subst (IsTakenOut c.args.by c.args.old.now c.take_out.new.order rest) c.len-last.ensures c.in_ok-take_out-2.ensures in
    none_here c.args.by c.args.order.now c.take_out.new.order c.args.old.now c.args.new.now c.args.place c.requires.order c.requires.within out c.requires.removed low rest gone

pub returns : goal.returns
returns c =
    let out = subst (λ order. IsTakenOut c.args.by c.args.old.now order c.take_out.new.order c.args.place) c.in_ok-made.ensures c.in_ok-take_out.ensures in
    let low : c.args.place < length c.args.new.now = omega (arith, c.if-place-last.false, c.len-last.ensures) in
    let rest = c.take_out-2.new.order in
    let gone = subst (IsTakenOut c.args.by c.args.old.now c.take_out.new.order rest) c.len-last.ensures c.in_ok-take_out-2.ensures in
    moved c.args.by c.args.order.now c.take_out.new.order c.args.old.now c.args.new.now c.args.place c.requires.order c.requires.within out c.requires.removed low rest gone
    c.insert.new.order c.in_ok-insert.ensures

pub returns-then-place-last : goal.returns-then-place-last
returns-then-place-last c =
    let out = subst (λ order. IsTakenOut c.args.by c.args.old.now order c.take_out.new.order c.args.place) c.in_ok-made.ensures c.in_ok-take_out.ensures in
    let end : length c.args.new.now ≤ c.args.place = omega (arith, c.if-place-last.true, c.len-last.ensures) in
    shortened c.args.by c.args.order.now c.take_out.new.order c.args.old.now c.args.new.now c.args.place c.requires.order c.requires.within out c.requires.removed end
