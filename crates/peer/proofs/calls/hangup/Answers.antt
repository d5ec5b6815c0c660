use Rattle.peer.proofs.Made.{gone_by, hangs_by, hangs_up, turns_by}
use Rattle.peer.proofs.calls.hangup.Goals as goal

pub returns-clause-ok : goal.returns-clause-ok
returns-clause-ok g c = hangs_up c.args.server.now c.hangup.new.self c.args.conn c.args.now c.hangup.result c.hangup.ensures.is_down c.hangup.ensures.ok

pub returns-clause-hung : goal.returns-clause-hung
returns-clause-hung g c =
    hangs_by c.args.server.now c.hangup.new.self c.args.conn c.args.now c.hangup.result c.hangup.ensures.is_down c.hangup.ensures.ok
    c.hangup.ensures.memory c.hangup.ensures.refused

pub returns-clause-gone : goal.returns-clause-gone
returns-clause-gone g c = gone_by c.args.server.now c.hangup.new.self c.args.conn c.hangup.result c.hangup.ensures.gone c.hangup.ensures.refused

pub returns-clause-turns : goal.returns-clause-turns
returns-clause-turns g c =
    turns_by c.args.server.now c.hangup.new.self c.args.conn c.args.now c.hangup.result c.hangup.ensures.is_down c.hangup.ensures.memory c.hangup.ensures.refused
