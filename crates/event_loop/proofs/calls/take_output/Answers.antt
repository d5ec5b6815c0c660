use Rattle.std.proofs.Common.{refl}
use Rattle.server.specs.Views.{waits_of}
use Rattle.peer.proofs.Made.{refuses_output}
use Rattle.event_loop.proofs.AnyCalls.{given_any}
use Rattle.event_loop.proofs.calls.take_output.Goals as goal

pub returns-in_err-take_output : goal.returns-in_err-take_output
returns-in_err-take_output g c =
    given_any c.args.server.now c.take_output.new.self c.args.conn c.take_output.result (waits_of c.args.server.now) refl c.take_output.ensures.volume c.take_output.ensures.ok c.take_output.ensures.none
    (refuses_output c.args.server.now c.take_output.new.self c.args.conn c.take_output.result c.take_output.ensures.no_connection c.take_output.ensures.only c.take_output.ensures.err
    c.take_output.ensures.volume c.take_output.ensures.failures)

pub returns : goal.returns
returns g c =
    given_any c.args.server.now c.take_output.new.self c.args.conn c.take_output.result (waits_of c.args.server.now) refl c.take_output.ensures.volume c.take_output.ensures.ok c.take_output.ensures.none
    (refuses_output c.args.server.now c.take_output.new.self c.args.conn c.take_output.result c.take_output.ensures.no_connection c.take_output.ensures.only c.take_output.ensures.err
    c.take_output.ensures.volume c.take_output.ensures.failures)
