use Rattle.std.proofs.Common.{[], take, refl, ap, sym, ◌∙◌, arith}
use Rattle.model.specs.Wire.Record.{Whole}
use Rattle.rpc.proofs.Joins.{begins, room_for, not_other, joins_on, joined}
use Rattle.rpc.proofs.join.join_fragments.Goals as goal

pub loop-size-init : goal.loop-size-init
loop-size-init c = begins c.args.bytes.now _ refl refl refl

pub overflow_add-start-in-Brings : goal.overflow_add-start-in-Brings
overflow_add-start-in-Brings c = let room = room_for _ _ _ _ _ c.loop-size.invariant c.in-Brings.ensures in omega arith

pub copy_within-requires-clause-in_bounds : goal.copy_within-requires-clause-in_bounds
copy_within-requires-clause-in_bounds c = (room_for _ _ _ _ _ c.loop-size.invariant c.in-Brings.ensures).room

pub copy_within-requires-clause-dest_in_bounds : goal.copy_within-requires-clause-dest_in_bounds
copy_within-requires-clause-dest_in_bounds c = let room = room_for _ _ _ _ _ c.loop-size.invariant c.in-Brings.ensures in omega arith

pub behind-place-requires-clause-end : goal.behind-place-requires-clause-end
behind-place-requires-clause-end c = let room = room_for _ _ _ _ _ c.loop-size.invariant c.in-Brings.ensures in omega arith

pub behind-place-requires-clause-bytes : goal.behind-place-requires-clause-bytes
behind-place-requires-clause-bytes c = (room_for _ _ _ _ _ c.loop-size.invariant c.in-Brings.ensures).small

pub behind-place-requires-clause-fragments : goal.behind-place-requires-clause-fragments
behind-place-requires-clause-fragments c = (room_for _ _ _ _ _ c.loop-size.invariant c.in-Brings.ensures).few

pub returns-then-is_last : goal.returns-then-is_last
returns-then-is_last c =
    joined _ _ c.copy_within.new.self c.loop-size.place c.in-Brings.size c.in-Brings.is_last c.if-is_last.true c.requires c.loop-size.invariant c.in-Brings.ensures c.copy_within.ensures.after
    ∙ ap (λ n. Whole (take n c.copy_within.new.self) []) (sym c.behind-place.ensures.size)

pub loop-size-smaller : goal.loop-size-smaller
loop-size-smaller c =
    let room = room_for _ _ _ _ _ c.loop-size.invariant c.in-Brings.ensures in
    let at = c.behind-place.ensures.at in
    let len = c.copy_within.ensures.len in
    omega arith

pub loop-size-preserved : goal.loop-size-preserved
loop-size-preserved c =
    joins_on _ _ c.copy_within.new.self c.loop-size.place c.behind-place.result c.in-Brings.size c.in-Brings.is_last c.if-is_last.false c.loop-size.invariant c.in-Brings.ensures c.copy_within.ensures.after
    c.behind-place.ensures.at c.behind-place.ensures.size c.behind-place.ensures.fragments

pub unreachable-requires : goal.unreachable-requires
unreachable-requires c = not_other _ _ c.loop-size.place c.fragment_at.result c.requires c.loop-size.invariant c.fragment_at.ensures c.in_default.not-Brings
