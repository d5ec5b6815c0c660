-- A session's id encodes its serial.
use Rattle.std.proofs.Common.{◌≡◌, ℕ, ◌<◌, ◌≤◌, ◌^◌, true, List, get_or, sym, ◌∙◌, arith}
use Rattle.std.proofs.lemmas.Slice.Eq.{bytes_eq-Decides}
use Rattle.model.specs.Sessions.Session.{session_id, is_session}
use Rattle.model.proofs.Sessions.SlotLaw.{session_id-serial}
use Rattle.session.specs.declared.session.Session.{Session}
use Rattle.session.specs.Views.{session_of}
use Rattle.session.proofs.Kept.{UpTo}
use Rattle.session.proofs.Lists.{OneKey}

id_told : (id : List ℕ) (session : Session) → is_session id (session_of session) ≡ true → session_id session.client session.serial ≡ id
id_told id session e = (bytes_eq-Decides (session_id session.client session.serial) id).0 e

abbrev pub serial_of : Session → ℕ
serial_of session = session.serial

-- the sessions of one id are one
pub one_session : (id : List ℕ) (last : ℕ) (sessions : List Session) → last < 2 ^ 64 → UpTo serial_of last sessions → OneKey session_of serial_of (is_session id) sessions
one_session id last sessions small made j k d within within' here here' =
    let first = get_or sessions j d in
    let second = get_or sessions k d in
    let below : first.serial ≤ last = made j d within in
    let below' : second.serial ≤ last = made k d within' in
    session_id-serial first.client first.serial second.client second.serial (omega arith) (omega arith) (id_told id first here ∙ sym (id_told id second here'))
