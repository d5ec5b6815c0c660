-- The outcome of a client's record that is sent over a stream, and what the client knows then.
use Rattle.std.specs.Prelude.{◌≡◌, ◌⊎◌, ℕ, List, [], map, Option, None, Some, Result, Ok, Err}
use Rattle.std.specs.Global.{Vec}
use Rattle.model.specs.Wire.Record.{Prefix, Partial, Refused, Whole, prefix, framed}
use Rattle.rpc.specs.Assembly.{record_limits}
use Rattle.wire.specs.declared.outcome.Outcome.{Outcome}
use Rattle.wire.specs.OutcomeView.{outcome_view}
use Rattle.client.specs.declared.fault.ClientFault.{ClientFault}
use Rattle.client.specs.declared.fault.ClientFault.TheVariants as faults
use Rattle.client.specs.Client.{Client}
use Rattle.client.specs.Requests.{bytes_kept}
use Rattle.client.specs.Replies.{ReplyRead, NoReply, reply_to}
use Rattle.client.specs.Views.{AnswersOk, Refuses, known}
use Rattle.client.specs.Streams.{Stream, Passes}

-- what the bytes read are as a reply to the client's record
abbrev pub reply_in : Client → Prefix → ReplyRead
reply_in client Partial = NoReply
reply_in client (Refused fault) = NoReply
reply_in client (Whole bytes rest) = reply_to client (framed bytes)

-- The result for the bytes read: Io while they are no whole record, Garbled if a header is refused,
-- and otherwise what `reply` returns for the record, after which nothing is read.
abbrev pub Tells : Client → Prefix → Result (Vec Outcome) ClientFault → Type 0
Tells client Partial r = r ≡ Err faults.Io
Tells client (Refused fault) r = r ≡ Err faults.Garbled
Tells client (Whole bytes rest) (Ok results) =
    (rest ≡ []) × AnswersOk (reply_to client (framed bytes)) (map outcome_view results.items)
Tells client (Whole bytes rest) (Err e) =
    (rest ≡ []) × ((e ≡ faults.Memory) ⊎ Refuses (reply_to client (framed bytes)) e)

-- a client that holds the record of these bytes sends it, and reads the reply
pub record Exchanges (client new : Client) (bytes : List ℕ) (before after : Stream)
    (result : Result (Vec Outcome) ClientFault) : Type 0 where
  pub read : List ℕ
  pub passes : Passes bytes before after read
  pub tells : Tells client (prefix record_limits read) result
  pub knows : new ≡ known client (reply_in client (prefix record_limits read)) result

-- the call fails, with nothing written, nothing read and nothing changed
pub record Stays (fault : ClientFault) (client new : Client) (before after : Stream)
    (result : Result (Vec Outcome) ClientFault) : Type 0 where
  pub refused : result ≡ Err fault
  pub same : new ≡ client
  pub untouched : after ≡ before

-- Pending if no record is kept, Memory if there is none for the reply
abbrev pub ResendsKept : Option (List ℕ) → (client new : Client) → (before after : Stream)
    → Result (Vec Outcome) ClientFault → Type 0
ResendsKept None client new before after r = Stays faults.Pending client new before after r
ResendsKept (Some bytes) client new before after r =
    Stays faults.Memory client new before after r ⊎ Exchanges client new bytes before after r

abbrev pub Resends : (client new : Client) → (before after : Stream)
    → Result (Vec Outcome) ClientFault → Type 0
Resends client new before after r = ResendsKept (bytes_kept client.sent) client new before after r

-- Pending if the client has to wait, Memory if there is none for the record
abbrev pub Asks : Option Client → (client new : Client) → (before after : Stream)
    → Result (Vec Outcome) ClientFault → Type 0
Asks None client new before after r = Stays faults.Pending client new before after r
Asks (Some asking) client new before after r =
    Stays faults.Memory client new before after r ⊎ Resends asking new before after r
