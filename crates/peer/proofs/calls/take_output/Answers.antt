use Rattle.peer.proofs.Made.{gives, refuses_output}
use Rattle.peer.proofs.calls.take_output.Goals as goal

pub returns-clause-ok : goal.returns-clause-ok
returns-clause-ok g c = gives c.args.server.now c.take_output.new.self c.args.conn c.take_output.result c.take_output.ensures.volume c.requires c.take_output.ensures.ok

pub returns-clause-refused : goal.returns-clause-refused
returns-clause-refused g c =
    refuses_output c.args.server.now c.take_output.new.self c.args.conn c.take_output.result c.take_output.ensures.no_connection c.take_output.ensures.only c.take_output.ensures.err
    c.take_output.ensures.volume c.take_output.ensures.failures
