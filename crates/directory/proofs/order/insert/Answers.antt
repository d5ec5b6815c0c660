use Rattle.std.proofs.Common.{◌≡◌, Err, length, sym, subst, arith}
use Rattle.directory.specs.Order.{IsInserted}
use Rattle.directory.proofs.Rising.{inserted}
use Rattle.directory.proofs.Sorting.{room_left}
use Rattle.directory.proofs.order.insert.Goals as goal

pub unreachable-requires : goal.unreachable-requires
unreachable-requires c =
    let full = c.insert.ensures.full.0 (subst (λ e. c.insert.result ≡ Err e) c.in-Err-Full.field-0-is c.in-Err-Full.is) in
    let room = room_left c.args.by c.args.records.now c.args.order.now (length c.args.records.now) c.args.place c.requires.rising c.requires.within c.requires.new c.requires.there in
    absurd (omega (arith, full, room, c.requires.small))

pub returns-in-Ok : goal.returns-in-Ok
returns-in-Ok c =
    let records = c.args.records.now in
    let order = c.args.order.now in
    let at = c.position_of-at.result in
    subst (λ new. IsInserted c.args.by records order new c.args.place) (sym c.in-Ok.ensures.ok)
    (inserted c.args.by records order c.args.place at c.requires.rising c.position_of-at.ensures c.requires.new)
