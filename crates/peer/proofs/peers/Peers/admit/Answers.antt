use Rattle.std.proofs.Common.{◌∙◌}
use Rattle.slab.specs.Slab.{get}
use Rattle.peer.proofs.Between.{adds, leaves_room, leaves_uncalled}
use Rattle.peer.proofs.Serving.{connects, joined_slab, none_further, not_connected, roomier}
use Rattle.peer.proofs.peers.Peers.admit.Goals as goal

pub returns-in_default-clause-err : goal.returns-in_default-clause-err
returns-in_default-clause-err g c = λ first streams so_far.
    roomier c.args.self.now.server c.args.self.now.peers c.reserve.new.self first streams c.reserve.ensures.rest_kept so_far

pub returns-in-Err-clause-err : goal.returns-in-Err-clause-err
returns-in-Err-clause-err g c = λ first streams so_far.
    let s = c.args.self.now in
    roomier c.connect.new.self s.peers c.reserve.new.self first streams c.reserve.ensures.rest_kept
    (none_further {old = s.server} {new = c.connect.new.self} streams (get s.peers)
    (not_connected s.server c.connect.new.self c.connect.result _ c.in-Err.is c.connect.ensures.err c.connect.ensures.volume c.connect.ensures.failures) so_far)

pub returns-in-Ok-connect-clause-ok : goal.returns-in-Ok-connect-clause-ok
returns-in-Ok-connect-clause-ok g c =
    let s = c.args.self.now in
    joined_slab s.server c.connect.new.self s.peers c.reserve.new.self c.insert_reserved.new.self c.insert_reserved.result c.in-Ok-connect.conn c.args.stream c.new-peer.result
    c.reserve.ensures.rest_kept c.insert_reserved.ensures.was_vacant c.insert_reserved.ensures.updates
    c.new-peer.ensures.given.0 c.new-peer.ensures.given.1 (c.new-peer.ensures.given.2 ∙ c.requires) c.new-peer.ensures.begins
    (rw c.in-Ok-connect.is at c.connect.ensures.fresh)
    (connects s.server c.connect.new.self c.connect.result c.in-Ok-connect.conn c.in-Ok-connect.is c.connect.ensures.volume c.connect.ensures.ok)

pub returns-in_default-clause-leaves : goal.returns-in_default-clause-leaves
returns-in_default-clause-leaves g c = leaves_uncalled c.args.self.now.server c.args.self.now.peers c.reserve.new.self c.reserve.ensures.rest_kept

pub returns-in-Err-clause-leaves : goal.returns-in-Err-clause-leaves
returns-in-Err-clause-leaves g c =
    let s = c.args.self.now in
    leaves_room {old = s.server} {new = c.connect.new.self} s.peers c.reserve.new.self c.reserve.ensures.rest_kept
    (not_connected s.server c.connect.new.self c.connect.result _ c.in-Err.is c.connect.ensures.err c.connect.ensures.volume c.connect.ensures.failures)

pub returns-in-Ok-connect-clause-adds : goal.returns-in-Ok-connect-clause-adds
returns-in-Ok-connect-clause-adds g c =
    let s = c.args.self.now in
    adds {old = s.server} {new = c.connect.new.self} s.peers c.reserve.new.self c.insert_reserved.new.self c.insert_reserved.result c.args.stream c.args.now c.new-peer.result
    c.reserve.ensures.rest_kept c.insert_reserved.ensures.was_vacant c.insert_reserved.ensures.updates
    c.new-peer.ensures.begins c.new-peer.ensures.given.1 (c.new-peer.ensures.given.2 ∙ c.requires) c.new-peer.ensures.given.4
    (connects s.server c.connect.new.self c.connect.result c.in-Ok-connect.conn c.in-Ok-connect.is c.connect.ensures.volume c.connect.ensures.ok)
