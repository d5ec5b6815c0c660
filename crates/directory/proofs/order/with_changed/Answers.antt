use Rattle.std.proofs.Common.{[], get_or, sym, subst, arith}
use Rattle.std.specs.List.{Contains}
use Rattle.directory.specs.Order.{IsTakenOut}
use Rattle.directory.specs.Records.{record_from}
use Rattle.directory.proofs.InOrder.{left_within, not_left, left_rising, same_many, put_back}
use Rattle.directory.proofs.order.with_changed.Goals as goal

pub take_out-requires-clause-within : goal.take_out-requires-clause-within
take_out-requires-clause-within c = λ other has. (c.requires.order.all other).0 (subst (λ order. Contains order other) c.in_ok-made.ensures has)

pub take_out-requires-clause-there : goal.take_out-requires-clause-there
take_out-requires-clause-there c = subst (λ order. Contains order c.args.place) (sym c.in_ok-made.ensures) ((c.requires.order.all c.args.place).1 c.requires.within)

pub insert-requires-clause-rising : goal.insert-requires-clause-rising
insert-requires-clause-rising c =
    let out = subst (λ order. IsTakenOut c.args.by c.args.old.now order c.take_out.new.order c.args.place) c.in_ok-made.ensures c.in_ok-take_out.ensures in
    left_rising c.args.by c.args.order.now c.take_out.new.order c.args.old.now c.args.new.now c.args.place c.requires.order c.requires.within out
    (get_or c.args.new.now c.args.place (record_from 0 [] 0)) c.requires.changed

pub insert-requires-clause-within : goal.insert-requires-clause-within
insert-requires-clause-within c = λ other has.
    let out = subst (λ order. IsTakenOut c.args.by c.args.old.now order c.take_out.new.order c.args.place) c.in_ok-made.ensures c.in_ok-take_out.ensures in
    let old = left_within c.args.by c.args.order.now c.take_out.new.order c.args.old.now c.args.new.now c.args.place c.requires.order c.requires.within out other has in
    let many = same_many c.args.by c.args.order.now c.take_out.new.order c.args.old.now c.args.new.now c.args.place c.requires.order c.requires.within out
    (get_or c.args.new.now c.args.place (record_from 0 [] 0)) c.requires.changed in
    omega (arith, old, many)

pub insert-requires-clause-new : goal.insert-requires-clause-new
insert-requires-clause-new c =
    let out = subst (λ order. IsTakenOut c.args.by c.args.old.now order c.take_out.new.order c.args.place) c.in_ok-made.ensures c.in_ok-take_out.ensures in
    not_left c.args.by c.args.order.now c.take_out.new.order c.args.old.now c.args.new.now c.args.place c.requires.order c.requires.within out

pub returns : goal.returns
returns c =
    let out = subst (λ order. IsTakenOut c.args.by c.args.old.now order c.take_out.new.order c.args.place) c.in_ok-made.ensures c.in_ok-take_out.ensures in
    put_back c.args.by c.args.order.now c.take_out.new.order c.args.old.now c.args.new.now c.args.place c.requires.order c.requires.within out
    (get_or c.args.new.now c.args.place (record_from 0 [] 0)) c.requires.changed c.insert.new.order c.in_ok-insert.ensures
