use Rattle.peer.proofs.Made.{fed, refuses_bytes}
use Rattle.peer.proofs.calls.feed.Goals as goal

pub returns-clause-ok : goal.returns-clause-ok
returns-clause-ok g c = fed c.args.server.now c.feed.new.self c.args.conn c.args.bytes.now c.feed.result c.feed.ensures.volume c.feed.ensures.ok

pub returns-clause-refused : goal.returns-clause-refused
returns-clause-refused g c =
    refuses_bytes c.args.server.now c.feed.new.self c.args.conn c.args.bytes.now c.feed.result c.feed.ensures.closed c.feed.ensures.device c.feed.ensures.no_connection
    c.feed.ensures.only c.feed.ensures.err c.feed.ensures.volume c.feed.ensures.failures
