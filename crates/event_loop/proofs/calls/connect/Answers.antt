use Rattle.event_loop.proofs.AnyCalls.{connected}
use Rattle.event_loop.proofs.calls.connect.Goals as goal

pub returns-in_err-connect : goal.returns-in_err-connect
returns-in_err-connect g c = connected c.args.server.now c.connect.new.self c.connect.result c.connect.ensures.volume c.connect.ensures.failures c.connect.ensures.err c.connect.ensures.ok

pub returns : goal.returns
returns g c = connected c.args.server.now c.connect.new.self c.connect.result c.connect.ensures.volume c.connect.ensures.failures c.connect.ensures.err c.connect.ensures.ok
