use Rattle.event_loop.proofs.Sweeps.{keeps_joined, keeps_same, keeps_then, meets}
use Rattle.event_loop.proofs.hub.Hub.admit.Goals as goal

pub returns-in_default : goal.returns-in_default
returns-in_default g c = meets (keeps_same c.args.self.now.peers c.make_room.new.self c.make_room.ensures.serves c.make_room.ensures.leaves)

pub returns-in_default-take_waiting : goal.returns-in_default-take_waiting
returns-in_default-take_waiting g c = meets (keeps_same c.args.self.now.peers c.make_room.new.self c.make_room.ensures.serves c.make_room.ensures.leaves)

pub returns-in-Ok-admit : goal.returns-in-Ok-admit
returns-in-Ok-admit g c =
    meets
    (keeps_then (keeps_same c.args.self.now.peers c.make_room.new.self c.make_room.ensures.serves c.make_room.ensures.leaves)
    (keeps_joined c.make_room.new.self c.admit.new.self _ c.over.result _ c.in-Ok-admit.ensures.ok c.in-Ok-admit.ensures.adds))

pub returns-in-Err : goal.returns-in-Err
returns-in-Err g c =
    meets
    (keeps_then (keeps_same c.args.self.now.peers c.make_room.new.self c.make_room.ensures.serves c.make_room.ensures.leaves)
    (keeps_same c.make_room.new.self c.admit.new.self c.in-Err.ensures.err c.in-Err.ensures.leaves))
