use Rattle.std.proofs.Common.{ap}
use Rattle.rpc.specs.Views.{call_view, reply_view, compound_view}
use Rattle.compound.specs.Views.{asks}
use Rattle.model.specs.Wire.Rpc.{Compound}
use Rattle.server.specs.declared.begun.Begun.{Begun}
use Rattle.server.proofs.Openings.{other_answers, call_answers, can_begin, call_runs}
use Rattle.server.proofs.request.open.Goals as goal

pub returns-in-Ok-OtherVersion-clause-ok : goal.returns-in-Ok-OtherVersion-clause-ok
returns-in-Ok-OtherVersion-clause-ok c =
    other_answers c.args.request.now c.in-Ok-OtherVersion.xid c.in_ok-reply-in-Ok-OtherVersion.reply.items
    (rw c.in-Ok-OtherVersion.field-0-is at c.in-Ok-OtherVersion.ensures.read) c.in_ok-reply-in-Ok-OtherVersion.ensures.ok

pub returns-in_ok-record_of-in-Answers-clause-ok : goal.returns-in_ok-record_of-in-Answers-clause-ok
returns-in_ok-record_of-in-Answers-clause-ok c =
    call_answers c.args.request.now (call_view c.in-Ok-Calls.call) (reply_view c.in-Answers.reply) c.in_ok-record_of-in-Answers.field-0.items
    (rw c.in-Ok-Calls.field-0-is at c.in-Ok-Calls.ensures.read) (rw c.in-Answers.is at c.request.ensures.request) c.in_ok-record_of-in-Answers.ensures.ok

pub of-place-requires-clause-body : goal.of-place-requires-clause-body
of-place-requires-clause-body c = rw c.in-Ok-Calls.field-0-is at c.in-Ok-Calls.ensures.body

pub of-place-requires-clause-compound : goal.of-place-requires-clause-compound
of-place-requires-clause-compound c = rw c.in-Runs.is at c.request.ensures.stands

pub returns-in_ok-progress-in-Runs-clause-ok : goal.returns-in_ok-progress-in-Runs-clause-ok
returns-in_ok-progress-in-Runs-clause-ok c =
    let call = call_view c.in-Ok-Calls.call in
    let cred = c.in-Runs.cred in
    let compound = c.in-Runs.compound in
    let begun : Begun = record { call = record { xid = c.in-Ok-Calls.call.xid; cred = cred; place = c.of-place.result }; progress = c.in_ok-progress-in-Runs.progress } in
    let is = rw c.in-Ok-Calls.field-0-is at c.in-Ok-Calls.ensures.read in
    let by_tests = rw c.in-Runs.is at c.request.ensures.request in
    let stands = ap (λ (one : Compound). asks call.xid cred one) c.of-place.ensures.there in
    let begins = c.in_ok-progress-in-Runs.ensures in (
      can_begin c.args.run c.args.request.now call cred (compound_view compound) begun is by_tests stands begins c.of-place.ensures.within compound.some compound.tag.short,
      call_runs c.args.run c.args.request.now call cred (compound_view compound) begun is by_tests stands begins,
    )
