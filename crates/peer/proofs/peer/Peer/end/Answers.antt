use Rattle.peer.proofs.Made.{ends_at, not_called, turns_at, turns_by_none}
use Rattle.peer.proofs.peer.Peer.end.Goals as goal

pub returns-in_default-clause-hung : goal.returns-in_default-clause-hung
returns-in_default-clause-hung g c = turns_by_none c.args.self.now.conn (not_called c.args.server.now)

pub returns-in-Ok-hangup-clause-hung : goal.returns-in-Ok-hangup-clause-hung
returns-in-Ok-hangup-clause-hung g c = ends_at c.args.self.now.conn _ c.in-Ok.ensures c.hangup.ensures.hung

pub returns-in-Err-Memory-clause-hung : goal.returns-in-Err-Memory-clause-hung
returns-in-Err-Memory-clause-hung g c = turns_at c.args.self.now.conn _ c.in-Ok.ensures (rw c.in-Err-Memory.is at c.hangup.ensures.turns)

pub returns-in-Err-NoConnection-clause-hung : goal.returns-in-Err-NoConnection-clause-hung
returns-in-Err-NoConnection-clause-hung g c = ends_at c.args.self.now.conn _ c.in-Ok.ensures c.hangup.ensures.hung
