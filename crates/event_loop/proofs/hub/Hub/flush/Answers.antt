use Rattle.event_loop.proofs.Runs.{runs_further}
use Rattle.event_loop.proofs.hub.Hub.flush.Goals as goal

pub returns-in_err-waited : goal.returns-in_err-waited
returns-in_err-waited g c = runs_further c.args.self.now.peers c.flush.new.self c.flush.ensures.serves

pub returns : goal.returns
returns g c = runs_further c.args.self.now.peers c.flush.new.self c.flush.ensures.serves
