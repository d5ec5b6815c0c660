-- What holds of the tables of clients and sessions, whatever calls are made in one run of the
-- server: RFC 8881, sections 2.4, 2.10, 18.35 and 18.36.
use Rattle.std.specs.Prelude.{ℕ, ◌≡◌, ◌≤◌, ◌<◌, ◌^◌, ◌==◌, ◌&&◌, ◌||◌, nat_lt, nat_le, Bool, IsTrue, List, [], ◌∷◌, length, count_by}
use Rattle.std.specs.List.{list_all, list_any}
use Rattle.model.specs.Sessions.Session.{SessionLimits, Client, Session, Table, empty_table, is_client, is_session, is_confirmed_of, is_unconfirmed_of, client_number}
use Rattle.model.specs.Sessions.SessionRuns.{Call, after}

-- a client id, and a session's serial, that was given in this run

abbrev pub is_given : Table → Client → Bool
is_given table client =
    nat_lt (client_number table.run 0) client.number
    && nat_le client.number (client_number table.run table.client_serial)

abbrev pub is_serial_given : Table → Session → Bool
is_serial_given table session =
    nat_lt 0 session.serial && nat_le session.serial table.session_serial

abbrev pub has_serial : ℕ → Session → Bool
has_serial serial session = session.serial == serial

abbrev pub has_few_slots : SessionLimits → Session → Bool
has_few_slots limits session = nat_le (length session.slots) limits.slots

pub record AreClients (limits : SessionLimits) (table : Table) : Type 0 where
  -- an owner id has at most one confirmed and one unconfirmed record
  pub confirmed : (owner : List ℕ) → count_by (is_confirmed_of owner) table.clients ≤ 1
  pub unconfirmed : (owner : List ℕ) → count_by (is_unconfirmed_of owner) table.clients ≤ 1
  -- client ids differ, and were given in this run
  pub differ : (number : ℕ) → count_by (is_client number) table.clients ≤ 1
  pub given : IsTrue (list_all (is_given table) table.clients)
  pub serial : table.client_serial < 2 ^ 32
  pub few : length table.clients ≤ limits.clients

pub record AreSessions (limits : SessionLimits) (table : Table) : Type 0 where
  -- session ids differ, by their serials, which were given in this run
  pub differ : (id : List ℕ) → count_by (is_session id) table.sessions ≤ 1
  pub serials : (serial : ℕ) → count_by (has_serial serial) table.sessions ≤ 1
  pub given : IsTrue (list_all (is_serial_given table) table.sessions)
  pub serial : table.session_serial < 2 ^ 64
  pub few : length table.sessions ≤ limits.sessions
  pub slots : IsTrue (list_all (has_few_slots limits) table.sessions)

pub record IsTable (limits : SessionLimits) (table : Table) : Type 0 where
  pub clients : AreClients limits table
  pub sessions : AreSessions limits table

abbrev pub after_calls : SessionLimits → List Call → Table → Table
after_calls limits [] table = table
after_calls limits (call ∷ calls) table = after_calls limits calls (after limits call table)

-- from the beginning of a run on
abbrev pub EveryTable : Type 0
EveryTable =
    (limits : SessionLimits) (run : ℕ) (calls : List Call)
    → IsTable limits (after_calls limits calls (empty_table run))

-- No id is given twice: what a call adds has an id above all that were given before it.

abbrev pub was_there : Table → Client → Bool
was_there before client = list_any (is_client client.number) before.clients

abbrev pub is_new : Table → Client → Bool
is_new before client = nat_lt (client_number before.run before.client_serial) client.number

abbrev pub session_was_there : Table → Session → Bool
session_was_there before session = list_any (has_serial session.serial) before.sessions

abbrev pub is_new_session : Table → Session → Bool
is_new_session before session = nat_lt before.session_serial session.serial

pub record GivesNew (before after : Table) : Type 0 where
  pub run : after.run ≡ before.run
  pub settings : after.settings ≡ before.settings
  pub clients : IsTrue
      (list_all (λ client. was_there before client || is_new before client) after.clients)
  pub client_serial : before.client_serial ≤ after.client_serial
  pub sessions : IsTrue
      (list_all (λ session. session_was_there before session || is_new_session before session)
      after.sessions)
  pub session_serial : before.session_serial ≤ after.session_serial

abbrev pub EveryCallGivesNew : Type 0
EveryCallGivesNew =
    (limits : SessionLimits) (call : Call) (table : Table)
    → GivesNew table (after limits call table)
