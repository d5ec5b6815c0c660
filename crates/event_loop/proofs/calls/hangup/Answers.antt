use Rattle.peer.proofs.Made.{hangs_by}
use Rattle.event_loop.proofs.AnyCalls.{any_of}
use Rattle.event_loop.proofs.calls.hangup.Goals as goal

pub returns-in_err-hangup : goal.returns-in_err-hangup
returns-in_err-hangup g c =
    any_of
    (hangs_by c.args.server.now c.hangup.new.self c.args.conn c.args.now c.hangup.result c.hangup.ensures.is_down c.hangup.ensures.ok c.hangup.ensures.memory c.hangup.ensures.refused)

pub returns : goal.returns
returns g c =
    any_of
    (hangs_by c.args.server.now c.hangup.new.self c.args.conn c.args.now c.hangup.result c.hangup.ensures.is_down c.hangup.ensures.ok c.hangup.ensures.memory c.hangup.ensures.refused)
