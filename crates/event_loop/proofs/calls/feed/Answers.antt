use Rattle.peer.proofs.Made.{fed, refuses_bytes}
use Rattle.event_loop.proofs.AnyCalls.{fed_any}
use Rattle.event_loop.proofs.calls.feed.Goals as goal

pub returns-in_err-feed : goal.returns-in_err-feed
returns-in_err-feed g c =
    fed_any c.args.server.now c.feed.new.self c.args.conn c.args.bytes.now c.feed.result
    (fed c.args.server.now c.feed.new.self c.args.conn c.args.bytes.now c.feed.result c.feed.ensures.volume c.feed.ensures.ok)
    (refuses_bytes c.args.server.now c.feed.new.self c.args.conn c.args.bytes.now c.feed.result c.feed.ensures.closed c.feed.ensures.device c.feed.ensures.no_connection
    c.feed.ensures.only c.feed.ensures.err c.feed.ensures.volume c.feed.ensures.failures)

pub returns : goal.returns
returns g c =
    fed_any c.args.server.now c.feed.new.self c.args.conn c.args.bytes.now c.feed.result
    (fed c.args.server.now c.feed.new.self c.args.conn c.args.bytes.now c.feed.result c.feed.ensures.volume c.feed.ensures.ok)
    (refuses_bytes c.args.server.now c.feed.new.self c.args.conn c.args.bytes.now c.feed.result c.feed.ensures.closed c.feed.ensures.device c.feed.ensures.no_connection
    c.feed.ensures.only c.feed.ensures.err c.feed.ensures.volume c.feed.ensures.failures)
