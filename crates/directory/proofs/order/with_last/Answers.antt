use Rattle.std.proofs.Common.{◌<◌, ◌+◌, ◌-◌, length, take, sym, subst, arith}
use Rattle.std.proofs.lemmas.List.{take_all, length-take}
use Rattle.directory.specs.Order.{IsOrder}
use Rattle.directory.proofs.InOrder.{prefix_rising, one_more}
use Rattle.directory.proofs.order.with_last.Goals as goal

pub insert-requires-clause-rising : goal.insert-requires-clause-rising
insert-requires-clause-rising c =
    let records = c.args.records.now in
    let kept = subst (λ order. IsOrder c.args.by order (take (length records - 1) records)) (sym c.in_ok-made.ensures) c.requires.order in
    prefix_rising c.args.by c.in_ok-made.made records (length records - 1) kept

pub insert-requires-clause-within : goal.insert-requires-clause-within
insert-requires-clause-within c = λ other has.
    let records = c.args.records.now in
    let kept = subst (λ order. IsOrder c.args.by order (take (length records - 1) records)) (sym c.in_ok-made.ensures) c.requires.order in
    let low : other < length (take (length records - 1) records) = (kept.all other).0 has in
    omega (arith, low, length-take (length records - 1) records)

pub insert-requires-clause-new : goal.insert-requires-clause-new
insert-requires-clause-new c = λ has.
    let records = c.args.records.now in
    let kept = subst (λ order. IsOrder c.args.by order (take (length records - 1) records)) (sym c.in_ok-made.ensures) c.requires.order in
    let low : c.len.result - 1 < length (take (length records - 1) records) = (kept.all (c.len.result - 1)).0 has in
    absurd (omega (arith, low, c.len.ensures, length-take (length records - 1) records))

pub returns : goal.returns
returns c =
    let records = c.args.records.now in
    let k = c.len.result - 1 in
    let kept = subst (λ order. IsOrder c.args.by order (take (length records - 1) records)) (sym c.in_ok-made.ensures) c.requires.order in
    let before = subst (λ n. IsOrder c.args.by c.in_ok-made.made (take (n - 1) records)) (sym c.len.ensures) kept in
    subst (IsOrder c.args.by c.insert.new.order) (take_all (k + 1) records (omega (arith, c.len.ensures)))
    (one_more c.args.by c.in_ok-made.made c.insert.new.order records k (omega (arith, c.len.ensures, c.requires.some)) before c.in_ok-insert.ensures)
