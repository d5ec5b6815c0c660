use Rattle.std.proofs.Common.{◌≡◌, ℕ, List, Some, refl, sym, subst, ap, ◌∙◌}
use Rattle.std.specs.Prelude.{drop}
use Rattle.model.specs.Operations.Answer as model
use Rattle.model.specs.Wire.Record.{framed}
use Rattle.model.specs.Wire.Rpc.{Success, reply_text}
use Rattle.model.specs.Server.World.{InProgress}
use Rattle.session.specs.Views.{table_of, reply_kept}
use Rattle.wire.specs.Numbers.{number_of}
use Rattle.wire.specs.OutcomeView.{outcome_view}
use Rattle.compound.specs.Operates.{EncodesAnswer, left_by_effect}
use Rattle.compound.specs.Runs.{noted, with_rest}
use Rattle.compound.specs.States.{SharedState, shared_of}
use Rattle.compound.specs.Views.{asked_of, in_progress_of}
use Rattle.compound.proofs.Agreeing.{steps_agree}
use Rattle.compound.proofs.Stepping.{goes_on_as, steps_to, left_answered, left_ended, left_rest, left_run, repeats_to}
use Rattle.compound.proofs.running.Running.run.Goals as goal

pub returns-in-Gives-clause-turn : goal.returns-in-Gives-clause-turn
returns-in-Gives-clause-turn g c = steps_agree _ _ _ _ c.requires.agrees (record {
  step = λ keeps.
      let request = in_progress_of c.args.self in
      let rest = drop c.in-Ok.ran.position c.args.self.compound.operations.now in
      let altered = c.in-Ok.ran.altered in
      let turns = rw c.in-Gives.is at c.in-Ok.ensures.turns keeps in
      steps_to c.args.engine.now.moment (shared_of c.args.engine.now.fs.now c.args.engine.now.table.now c.args.engine.now.opens.now) (shared_of c.run_next.new.engine.fs.now c.run_next.new.engine.table.now c.run_next.new.engine.opens.now) (table_of c.answer-in-Gives.new.table)
      (asked_of c.args.self) (asked_of c.leave.new.self) request (noted altered (with_rest (left_by_effect c.in-Gives.effect request) rest)) (in_progress_of c.leave.new.self)
      (outcome_view c.in-Gives.outcome) c.answer-in-Gives.result turns (c.leave.ensures.asked ∙ c.advance.ensures.asked)
      (c.leave.ensures.request ∙ (ap (left_by_effect c.in-Gives.effect) c.advance.ensures.request ∙ left_rest c.in-Gives.effect altered request rest)) (c.answer-in-Gives.ensures.stands (outcome_view c.in-Gives.outcome) refl);
  goes_on =
      let request = in_progress_of c.args.self in
      let rest = drop c.in-Ok.ran.position c.args.self.compound.operations.now in
      let altered = c.in-Ok.ran.altered in
      let left = left_by_effect c.in-Gives.effect request in
      goes_on_as _ (asked_of c.args.self) (asked_of c.leave.new.self) request (noted altered (with_rest left rest)) (in_progress_of c.leave.new.self) c.answer-in-Gives.result
      (c.leave.ensures.asked ∙ c.advance.ensures.asked)
      (c.leave.ensures.request ∙ (ap (left_by_effect c.in-Gives.effect) c.advance.ensures.request ∙ left_rest c.in-Gives.effect altered request rest))
      (left_run c.in-Gives.effect request ∙ c.requires.run) (left_answered c.in-Gives.effect request) (left_ended c.in-Gives.effect request) c.answer-in-Gives.ensures.goes_on;
  back = tt;
  table = tt;
  opens = tt;
  volume = c.in-Ok.ensures.volume;
})

pub returns-in-GivesValues-clause-turn : goal.returns-in-GivesValues-clause-turn
returns-in-GivesValues-clause-turn g c = steps_agree _ _ _ _ c.requires.agrees (record {
  step = λ keeps.
      let request = in_progress_of c.args.self in
      let rest = drop c.in-Ok.ran.position c.args.self.compound.operations.now in
      let altered = c.in-Ok.ran.altered in
      let turns = rw c.in-GivesValues.is at c.in-Ok.ensures.turns keeps in
      let encodes = subst (λ (values : List ℕ). EncodesAnswer (number_of c.in-GivesValues.operation) values turns.0) (sym c.as_slice.ensures.value) turns.1 in
      steps_to c.args.engine.now.moment (shared_of c.args.engine.now.fs.now c.args.engine.now.table.now c.args.engine.now.opens.now) (shared_of c.run_next.new.engine.fs.now c.run_next.new.engine.table.now c.run_next.new.engine.opens.now) (table_of c.answer.new.table)
      (asked_of c.args.self) (asked_of c.advance.new.self) request (noted altered (with_rest request rest)) (in_progress_of c.advance.new.self)
      (model.Done turns.0) c.answer.result turns.2 c.advance.ensures.asked c.advance.ensures.request (c.answer.ensures.stands (model.Done turns.0) (turns.0, refl, encodes));
  goes_on =
      let request = in_progress_of c.args.self in
      let rest = drop c.in-Ok.ran.position c.args.self.compound.operations.now in
      let altered = c.in-Ok.ran.altered in
      goes_on_as _ (asked_of c.args.self) (asked_of c.advance.new.self) request (noted altered (with_rest request rest)) (in_progress_of c.advance.new.self) c.answer.result
      c.advance.ensures.asked c.advance.ensures.request c.requires.run refl refl c.answer.ensures.goes_on;
  back = tt;
  table = tt;
  opens = tt;
  volume = c.in-Ok.ensures.volume;
})

pub returns-in-Replays-clause-turn : goal.returns-in-Replays-clause-turn
returns-in-Replays-clause-turn g c = steps_agree _ _ _ _ c.requires.agrees (record {
  step = λ keeps.
      let old = shared_of c.args.engine.now.fs.now c.args.engine.now.table.now c.args.engine.now.opens.now in
      let new = shared_of c.run_next.new.engine.fs.now c.run_next.new.engine.table.now c.run_next.new.engine.opens.now in
      let slot = c.in-Replays.slot in
      let turns = rw c.in-Replays.is at c.in-Ok.ensures.turns keeps in
      let kept : reply_kept slot.session slot.slot new.table ≡ Some turns.0 = ap (λ (state : SharedState). reply_kept slot.session slot.slot state.table) turns.1 ∙ turns.2 in
      repeats_to c.args.engine.now.moment old new (in_progress_of c.args.self) slot.session slot.slot turns.0 c.repeat.result.items turns.1 turns.3
      (c.repeat.ensures turns.0 kept ∙ ap (λ (one : InProgress). framed (reply_text one.xid (Success turns.0))) c.advance.ensures.request);
  goes_on = record { stays = tt; further = tt; fits = refl };
  back = tt;
  table = tt;
  opens = tt;
  volume = c.in-Ok.ensures.volume;
})

pub returns-in-Err-clause-turn : goal.returns-in-Err-clause-turn
returns-in-Err-clause-turn g c = steps_agree _ _ _ _ c.requires.agrees (record {
  step = λ keeps. tt;
  goes_on = tt;
  back = refl;
  table = c.in-Err.ensures.table;
  opens = c.in-Err.ensures.opens;
  volume = c.in-Err.ensures.volume;
})
