use Rattle.event_loop.proofs.hub.Hub.of.Goals as goal

pub returns-in-Ok : goal.returns-in-Ok
returns-in-Ok g c = c.with.ensures
