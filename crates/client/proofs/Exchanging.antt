-- A client's record that is sent over a stream, and its outcome.
use Rattle.std.proofs.Common.{◌≡◌, ℕ, List, Option, Some, None, Result, Err, inl, inr, refl, sym, ap, ◌∙◌}
use Rattle.std.specs.Global.{Vec}
use Rattle.model.specs.Wire.Record.{Prefix, Partial, Refused, Whole, prefix}
use Rattle.rpc.specs.Assembly.{record_limits}
use Rattle.wire.specs.declared.outcome.Outcome.{Outcome}
use Rattle.client.specs.declared.fault.ClientFault.{ClientFault}
use Rattle.client.specs.declared.fault.ClientFault.TheVariants as faults
use Rattle.client.specs.Client.{Client, Sent}
use Rattle.client.specs.Requests.{bytes_kept}
use Rattle.client.specs.Replies.{NoReply, replied, replied_by}
use Rattle.client.specs.Streams.{Stream, Passes, Comes, Converses}
use Rattle.client.specs.Exchanges.{Exchanges, ResendsKept, Resends}

nothing_by : (client : Client) (sent : Option Sent) → replied_by client sent NoReply ≡ client
nothing_by client None = refl
nothing_by client (Some sent) = refl

pub replied_nothing : (client : Client) → replied client NoReply ≡ client
unfolding replied
replied_nothing client = nothing_by client client.sent

-- no whole record came, or one that is refused
fails : (client : Client) (bytes read received : List ℕ) (before after : Stream) (came : Prefix) (e : ClientFault) (r : Result (Vec Outcome) ClientFault)
    → prefix record_limits read ≡ came → Passes bytes before after read → Comes came received (Err e) → r ≡ Err e → Exchanges client client bytes before after r
fails client bytes read received before after Partial e r is passes comes result_is =
    let io : e ≡ faults.Io = cc in
    let told : r ≡ Err faults.Io = result_is ∙ ap (λ (x : ClientFault). Err x) io in
    record { read = read; passes = passes; tells = rw is told; knows = rw (is, told) (sym (replied_nothing client)) }
fails client bytes read received before after (Refused fault) e r is passes comes result_is =
    let garbled : e ≡ faults.Garbled = cc in
    let told : r ≡ Err faults.Garbled = result_is ∙ ap (λ (x : ClientFault). Err x) garbled in
    record { read = read; passes = passes; tells = rw is told; knows = rw (is, told) (sym (replied_nothing client)) }
fails client bytes read received before after (Whole whole rest) e r is passes comes result_is = absurd (cc comes.0)

kept : (client : Client) (found : Option (List ℕ)) (bytes received : List ℕ) (before after : Stream) (e : ClientFault) (r : Result (Vec Outcome) ClientFault)
    → found ≡ Some bytes → Converses bytes before after received (Err e) → r ≡ Err e → ResendsKept found client client before after r
kept client found bytes received before after e r is (inl none) result_is =
    let memory : e ≡ faults.Memory = cc none.0 in
    rw is (inl (record { refused = result_is ∙ ap (λ (x : ClientFault). Err x) memory; same = refl; untouched = none.1 }))
kept client found bytes received before after e r is (inr talks) result_is =
    rw is (inr (fails client bytes talks.read received before after (prefix record_limits talks.read) e r refl talks.passes talks.comes result_is))

pub not_received : (client : Client) (bytes received : List ℕ) (before after : Stream) (e : ClientFault) (r : Result (Vec Outcome) ClientFault)
    → bytes_kept client.sent ≡ Some bytes → Converses bytes before after received (Err e) → r ≡ Err e → Resends client client before after r
not_received client bytes received before after e r is converses result_is = kept client (bytes_kept client.sent) bytes received before after e r is converses result_is
