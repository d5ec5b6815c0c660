use Rattle.std.proofs.Common.{Option, ap, sym, ◌∙◌}
use Rattle.std.specs.Prelude.{map}
use Rattle.std.specs.Option.{option_map}
use Rattle.xdr.proofs.Writing.{wrote_on}
use Rattle.wire.specs.ArgumentView.{argument_view}
use Rattle.client.specs.declared.sent.Session.{Session}
use Rattle.client.specs.Requests.{behind, call_text}
use Rattle.client.specs.Views.{session_of}
use Rattle.client.proofs.Operations.{alone_text, behind_text, wrote_text}
use Rattle.client.proofs.sent.write_call.Goals as goal

pub returns-in_ok-write_head-in-None : goal.returns-in_ok-write_head-in-None
returns-in_ok-write_head-in-None c =
    let a = c.args in
    let list = a.operations.now in
    wrote_text (wrote_on c.in_ok-write_head-in-None.ensures c.write_operations.ensures)
    (alone_text a.xid a.credential.now a.tag.now list
    ∙ ap (λ (o : Option Session). call_text a.xid a.credential.now a.tag.now (behind (option_map session_of o) (map argument_view list))) (sym c.in-None.is))

pub returns-in_ok-write_sequence-in-Some : goal.returns-in_ok-write_sequence-in-Some
returns-in_ok-write_sequence-in-Some c =
    let a = c.args in
    let list = a.operations.now in
    wrote_text (wrote_on c.in_ok-write_head-in-Some.ensures (wrote_on c.in_ok-write_sequence-in-Some.ensures c.write_operations-in-Some.ensures))
    (behind_text a.xid a.credential.now a.tag.now c.in-Some.session list
    ∙ ap (λ (o : Option Session). call_text a.xid a.credential.now a.tag.now (behind (option_map session_of o) (map argument_view list))) (sym c.in-Some.is))
