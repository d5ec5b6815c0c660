use Rattle.std.proofs.Common.{true, false}
use Rattle.peer.proofs.Made.{turned}
use Rattle.peer.proofs.calls.turn.Goals as goal

pub returns-in-AtOnce-clause-ok : goal.returns-in-AtOnce-clause-ok
returns-in-AtOnce-clause-ok g c = turned false c.args.server.now c.turn.new.self c.args.conn c.args.now c.turn.result c.turn.ensures.turned c.turn.ensures.ok

pub returns-in-Later-clause-ok : goal.returns-in-Later-clause-ok
returns-in-Later-clause-ok g c =
    turned true c.args.server.now c.turn_unflushed.new.self c.args.conn c.args.now c.turn_unflushed.result c.turn_unflushed.ensures.turned
    c.turn_unflushed.ensures.ok
