use Rattle.std.proofs.Common.{◌+◌, refl}
use Rattle.std.specs.Option.{option_map}
use Rattle.model_tree.specs.Seats.SeatViews.{seat_view}
use Rattle.seats.specs.Encoding.{seat_sector}
use Rattle.volume.proofs.SeatRows.{pushed_none, pushed_more}
use Rattle.volume.proofs.seat_places.push_place.Goals as goal

pub loop-k-init : goal.loop-k-init
loop-k-init c = pushed_none c.args.updates.now.items c.args.first (λ k. seat_sector k (option_map (λ s. seat_view s.now) c.args.seat))

pub loop-k-preserved : goal.loop-k-preserved
loop-k-preserved c =
    pushed_more c.args.updates.now.items c.loop-k.updates.items c.push.new.self.items c.args.first c.loop-k.k (λ k. seat_sector k (option_map (λ s. seat_view s.now) c.args.seat))
    (c.args.first + c.loop-k.k) c.content_of.result c.loop-k.invariant c.in_ok-push.ensures.items refl c.content_of.ensures
