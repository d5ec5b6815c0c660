use Rattle.std.proofs.Common.{◌≡◌, ◌++◌, ◌∙◌, ℕ, List, ap, false}
use Rattle.std.specs.Prelude.{map}
use Rattle.std.specs.Option.{option_map}
use Rattle.model.specs.Operations.Operation.{operation_of}
use Rattle.model.specs.Wire.Record.{framed}
use Rattle.wire.specs.ArgumentView.{argument_view}
use Rattle.client.specs.Client.{Sent}
use Rattle.client.specs.Requests.{behind, call_text, record_text}
use Rattle.client.specs.Views.{session_of}
use Rattle.client.proofs.Operations.{behind_numbers}
use Rattle.client.proofs.sent.make_record.Goals as goal

pub returns : goal.returns
unfolding record_text
returns c =
    let asked = behind (option_map session_of c.args.session) (map argument_view c.args.operations.now) in
    let numbers : c.in_ok-numbers.numbers.items ≡ map operation_of asked =
    c.in_ok-numbers.ensures ∙ behind_numbers c.args.session c.args.operations.now in
    let call : c.as_slice.result.now ≡ call_text c.args.xid c.args.credential.now c.args.tag.now asked =
    c.as_slice.ensures ∙ c.in_ok-write_call.ensures ∙ ap (λ (prefix : List ℕ). prefix ++ call_text c.args.xid c.args.credential.now c.args.tag.now asked) c.new-call.ensures in
    let bytes : c.in_ok-bytes.bytes.items ≡ record_text c.args.xid c.args.credential.now c.args.tag.now asked =
    c.in_ok-bytes.ensures.ok ∙ ap framed call in
    let sent : List ℕ → List ℕ → Sent =
    λ ns text. record { xid = c.args.xid; operations = ns; bytes = text; is_answered = false; is_counted = false } in
    ap (λ (ns : List ℕ). sent ns c.in_ok-bytes.bytes.items) numbers ∙ ap (λ (text : List ℕ). sent (map operation_of asked) text) bytes
