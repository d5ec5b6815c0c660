-- What the code's client records, sessions and tables represent.
use Rattle.std.specs.Prelude.{ℕ, Bool, List, map, Option, None, Some, ◌==◌}
use Rattle.std.specs.List.{find, list_any}
use Rattle.std.specs.Option.{option_map}
use Rattle.model_tree.specs.Seats.Seats.{Seats, seat_of}
use Rattle.model_tree.specs.Seats.SeatViews.{seats_view}
use Rattle.model.specs.Sessions.Session as model
use Rattle.model.specs.Operations.Answer.{ExchangeIdAnswer}
use Rattle.model.specs.Sessions.Session.{is_session, slot_at, exchange_answer}
use Rattle.wire.specs.AnswerViews.{create_session_view}
use Rattle.session.specs.Seating.{reply_held}
use Rattle.session.specs.Slots.{slot_of, kept_reply}
use Rattle.session.specs.declared.client.Client.{Client}
use Rattle.session.specs.declared.clients.Clients.{Clients}
use Rattle.session.specs.declared.session.Session.{Session}
use Rattle.session.specs.declared.sessions.Sessions.{Sessions}
use Rattle.session.specs.declared.settings.ServerName.{ServerName}
use Rattle.session.specs.declared.settings.Settings.{Settings}
use Rattle.session.specs.declared.exchange.ExchangedId.{ExchangedId}
use Rattle.session.specs.declared.table.Table.{Table}

abbrev pub client_of : Client → model.Client
client_of client = record {
  number = client.number;
  owner = client.owner.items;
  verifier = client.verifier;
  principal = client.principal;
  is_confirmed = client.is_confirmed;
  has_reclaimed = client.has_reclaimed;
  sequence = client.sequence;
  kept = option_map create_session_view client.kept;
}

abbrev pub session_of : Session → model.Session
session_of session = record {
  client = session.client;
  serial = session.serial;
  max_operations = session.max_operations;
  slots = map slot_of session.slots.items;
}

abbrev pub clients_of : Clients → List model.Client
clients_of clients = map client_of clients.list.items

abbrev pub sessions_of : Sessions → List model.Session
sessions_of sessions = map session_of sessions.list.items

-- the run, the serial that was given last, and the records
abbrev pub roll_of : Clients → ℕ × ℕ × List model.Client
roll_of clients = (clients.run, clients.serial, clients_of clients)

-- in the same run, with the same serial, these records
abbrev pub roll_with : Clients → List model.Client → ℕ × ℕ × List model.Client
roll_with clients records = (clients.run, clients.serial, records)

-- the serial that was given last, and the sessions
abbrev pub book_of : Sessions → ℕ × List model.Session
book_of sessions = (sessions.serial, sessions_of sessions)

-- with the same serial, these sessions
abbrev pub book_with : Sessions → List model.Session → ℕ × List model.Session
book_with sessions list = (sessions.serial, list)

abbrev pub name_of : ServerName → List ℕ
name_of name = name.bytes.items

abbrev pub settings_of : Settings → model.Settings
settings_of settings = record {
  name = name_of settings.name;
  holding = settings.holding;
  yields_when_full = settings.yields_when_full;
}

-- the settings of the run, and the seats
abbrev pub seating_of : Table → model.Settings × Seats
seating_of table = (settings_of table.settings, seats_view table.seats)

abbrev pub table_by : ℕ × ℕ × List model.Client → ℕ × List model.Session → model.Settings × Seats
    → model.Table
table_by roll book seating = record {
  run = roll.0;
  settings = seating.0;
  client_serial = roll.1;
  session_serial = book.0;
  clients = roll.2;
  sessions = book.1;
  seats = seating.1;
}

unfoldable pub table_of : Table → model.Table
table_of table = table_by (roll_of table.clients) (book_of table.sessions) (seating_of table)

-- the clients of a list
abbrev pub among : List ℕ → ℕ → Bool
among numbers number = list_any (λ known. known == number) numbers

-- the reply that the slot keeps
abbrev pub session_reply : ℕ → model.Session → Option (List ℕ)
session_reply place session = kept_reply (slot_at session place).state

-- for no session it is what a seat holds
abbrev pub kept_reply_in : List ℕ → ℕ → Seats → Option model.Session → Option (List ℕ)
kept_reply_in id place seats None = reply_held place (seat_of id seats)
kept_reply_in id place seats (Some session) = session_reply place session

unfoldable pub reply_kept : List ℕ → ℕ → model.Table → Option (List ℕ)
reply_kept id place table = kept_reply_in id place table.seats (find (is_session id) table.sessions)

-- the whole result of EXCHANGE_ID, by a server of this name
abbrev pub exchanged_answer : (name : List ℕ) → ExchangedId → ExchangeIdAnswer
exchanged_answer name known = exchange_answer name known.client known.sequence known.flags

-- the table that a new record is added to, if the record `dropped` goes
abbrev pub cleared_of : Option ℕ → model.Table → model.Table
cleared_of None table = table
cleared_of (Some number) table = model.without_client number table
