use Rattle.event_loop.proofs.hub.Hub.with.Goals as goal

pub returns-in-Ok : goal.returns-in-Ok
returns-in-Ok g c = c.in-Ok.ensures
