use Rattle.std.proofs.Common.{Ok, refl, sym, ap, ◌∙◌}
use Rattle.model.specs.Operations.Answer.{Answer, ExchangeIdAnswer, Done, Refused}
use Rattle.model.specs.Operations.Operation.{Argument}
use Rattle.opens.specs.Views.{opens_of}
use Rattle.session.specs.Views.{table_of}
use Rattle.wire.specs.AnswerViews as answers
use Rattle.wire.specs.ArgumentViews.{exchange_id_view}
use Rattle.compound.specs.Profile.{served_by}
use Rattle.compound.specs.Runs.{with_rest}
use Rattle.compound.specs.States.{shared}
use Rattle.compound.specs.Views.{in_progress_of}
use Rattle.compound.proofs.Rooms.{gives_refusal}
use Rattle.compound.proofs.Tables.{ran_exchange, table_runs}
use Rattle.compound.proofs.running.Running.exchange_id.Goals as goal

pub returns-in-Ok : goal.returns-in-Ok
unfolding in_progress_of
returns-in-Ok c = (
  c.answer_first_encoded.ensures.answered,
  λ now fs same.
      let opens = opens_of c.args.opens.now in
      let request = in_progress_of c.args.self.now in
      let kind = Argument.ExchangeId (exchange_id_view c.args.arguments.now) in
      let served = c.limits_by-limits.ensures ∙ ap served_by (sym same) in
      let answer = answers.exchange_id_view c.identity_answer.result in
      let wanted = c.in-Ok.ensures.answered ∙ ap (λ (a : ExchangeIdAnswer). (Ok a, table_of c.exchange_id.new.self)) (sym c.identity_answer.ensures.answer) in
      c.answer_first_encoded.ensures.gives now (shared fs (table_of c.args.table.now) opens) (shared fs (table_of c.exchange_id.new.self) opens) kind (Answer.ExchangeId answer)
      (record { number_is = refl; values_are = sym c.encode-values.ensures.values })
      (table_runs now fs opens (table_of c.args.table.now) (table_of c.exchange_id.new.self) request request kind (Done (Answer.ExchangeId answer))
      (λ world rest on. ran_exchange world (with_rest request rest) now _ _ _ _ on served (c.deref.ensures.value ∙ c.in_ok-with_opens.ensures) wanted)),
)

pub returns-in-Err-Status : goal.returns-in-Err-Status
unfolding in_progress_of
returns-in-Err-Status c = (
  c.refuse.ensures.answered,
  λ now fs same.
      let opens = opens_of c.args.opens.now in
      let request = in_progress_of c.args.self.now in
      let kind = Argument.ExchangeId (exchange_id_view c.args.arguments.now) in
      let served = c.limits_by-limits.ensures ∙ ap served_by (sym same) in
      c.refuse.ensures.gives now (shared fs (table_of c.args.table.now) opens) (shared fs (table_of c.exchange_id.new.self) opens) kind
      (rw c.in-Err-Status.field-0-is (gives_refusal now (shared fs (table_of c.args.table.now) opens) (shared fs (table_of c.exchange_id.new.self) opens) request kind 42 c.in-Err-Status.status
      (table_runs now fs opens (table_of c.args.table.now) (table_of c.exchange_id.new.self) request request kind (Refused 42 c.in-Err-Status.status)
      (λ world rest on. ran_exchange world (with_rest request rest) now _ _ _ _ on served (c.deref.ensures.value ∙ c.in_ok-with_opens.ensures) (rw c.in-Err-Status.field-0-is at c.in-Err-Status.ensures.answered))))),
)
