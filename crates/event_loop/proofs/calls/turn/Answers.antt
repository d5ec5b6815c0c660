use Rattle.std.proofs.Common.{false}
use Rattle.peer.proofs.Made.{turned}
use Rattle.event_loop.proofs.AnyCalls.{turned_any}
use Rattle.event_loop.proofs.calls.turn.Goals as goal

pub returns-in_err-turn : goal.returns-in_err-turn
returns-in_err-turn g c =
    turned_any c.args.server.now c.turn.new.self c.args.conn c.args.now c.turn.result
    (turned false c.args.server.now c.turn.new.self c.args.conn c.args.now c.turn.result c.turn.ensures.turned c.turn.ensures.ok) c.turn.ensures.refused

pub returns : goal.returns
returns g c =
    turned_any c.args.server.now c.turn.new.self c.args.conn c.args.now c.turn.result
    (turned false c.args.server.now c.turn.new.self c.args.conn c.args.now c.turn.result c.turn.ensures.turned c.turn.ensures.ok) c.turn.ensures.refused
