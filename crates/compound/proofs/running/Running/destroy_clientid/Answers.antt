use Rattle.std.proofs.Common.{◌∙◌}
use Rattle.model.specs.Operations.Answer.{Answer, Done, Refused}
use Rattle.model.specs.Operations.Operation.{Argument}
use Rattle.opens.specs.Views.{opens_of}
use Rattle.session.specs.Views.{table_of}
use Rattle.compound.specs.Runs.{with_rest}
use Rattle.compound.specs.States.{shared}
use Rattle.compound.specs.Views.{in_progress_of}
use Rattle.compound.proofs.Rooms.{gives_refusal}
use Rattle.compound.proofs.Tables.{ran_destroy_client, table_runs}
use Rattle.compound.proofs.running.Running.destroy_clientid.Goals as goal

pub returns-in-Ok : goal.returns-in-Ok
unfolding in_progress_of
returns-in-Ok c = λ version. (
  c.answer_first.ensures.answered,
  λ now fs same.
      let opens = opens_of c.args.opens.now in
      let request = in_progress_of c.args.self.now in
      let kind = Argument.DestroyClientId c.args.client in
      c.answer_first.ensures.gives now (shared fs (table_of c.args.table.now) opens) (shared fs (table_of c.destroy_clientid.new.self) opens) kind
      (table_runs now fs opens (table_of c.args.table.now) (table_of c.destroy_clientid.new.self) request request kind (Done Answer.DestroyClientId)
      (λ world rest on. ran_destroy_client world (with_rest request rest) now _ _ _ on (c.deref.ensures.value ∙ c.in_ok-with_opens.ensures) c.in-Ok.ensures.answered)),
)

pub returns : goal.returns
unfolding in_progress_of
returns c = λ version. (
  c.refuse.ensures.answered,
  λ now fs same.
      let opens = opens_of c.args.opens.now in
      let request = in_progress_of c.args.self.now in
      let kind = Argument.DestroyClientId c.args.client in
      c.refuse.ensures.gives now (shared fs (table_of c.args.table.now) opens) (shared fs (table_of c.destroy_clientid.new.self) opens) kind
      (gives_refusal now (shared fs (table_of c.args.table.now) opens) (shared fs (table_of c.destroy_clientid.new.self) opens) request kind 57 c.in-Err.status
      (table_runs now fs opens (table_of c.args.table.now) (table_of c.destroy_clientid.new.self) request request kind (Refused 57 c.in-Err.status)
      (λ world rest on. ran_destroy_client world (with_rest request rest) now _ _ _ on (c.deref.ensures.value ∙ c.in_ok-with_opens.ensures) c.in-Err.ensures.answered))),
)
