use Rattle.std.proofs.Common.{◌≡◌, drop, map, find}
use Rattle.model.specs.Sessions.Session.{is_session}
use Rattle.session.specs.Views.{session_of, sessions_of}
use Rattle.session.proofs.sessions.Sessions.find.Given as goal

abbrev pub invariant-loop-session : goal.invariant-loop-session
invariant-loop-session l = find (is_session l.id) (sessions_of l.self) ≡ find (is_session l.id) (map session_of (drop l.session-index l.self.list.items))
