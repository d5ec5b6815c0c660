use Rattle.std.proofs.Common.{ℕ, Result, Ok, Err, sym, subst, refl, ◌∙◌, arith}
use Rattle.fs.specs.Views.{fs_of}
use Rattle.fs.specs.Listing.{Lists, page_view}
use Rattle.model.specs.Operations.Answer.{Answer, Refused}
use Rattle.model.specs.Operations.Operation.{Argument, ReadDirArguments}
use Rattle.model_tree.specs.declared.status.Status.{Status}
use Rattle.wire.specs.ArgumentViews.{read_dir_view}
use Rattle.model.specs.Operations.Step.{State}
use Rattle.compound.specs.Memory.{OrMemory}
use Rattle.compound.specs.Operates.{GivesIn, Reads}
use Rattle.compound.specs.States.{shared}
use Rattle.compound.specs.Views.{in_progress_of}
use Rattle.compound.specs.declared.fault.Fault.{Fault}
use Rattle.compound.specs.Trees.{IsHere, fault_result}
use Rattle.compound.specs.declared.executed.Executed.{Executed}
use Rattle.compound.proofs.Changing.{fault_is_encoded}
use Rattle.compound.proofs.ListLaws.{list_on_tree, lists_up, told_lists, told_memory}
use Rattle.compound.proofs.Outcomes.{read_or}
use Rattle.compound.proofs.Rooms.{gives_refusal}
use Rattle.compound.proofs.Telling.{tells_ok}
use Rattle.compound.proofs.Trees.{is_on, is_there, of_request, wants}
use Rattle.compound.proofs.reading.Reading.read_dir.Goals as goal

pub returns-in-Err : goal.returns-in-Err
unfolding in_progress_of
returns-in-Err g c = record {
  answered = c.refuse.ensures.answered;
  gives = λ now table opens.
      let fs = fs_of c.args.self.now.fs.now in
      let request = in_progress_of c.args.self.now.running.now in
      let kind = Argument.ReadDir (read_dir_view c.args.arguments.now) in
      c.refuse.ensures.gives now (shared fs table opens) (shared fs table opens) kind
      (subst (λ (reason : Status). GivesIn now (shared fs table opens) (shared fs table opens) request request kind (Refused 26 reason)) (sym c.in-Err.ensures.err.0)
      (gives_refusal now (shared fs table opens) (shared fs table opens) request kind 26 _ (wants now fs table opens request kind refl c.in-Err.ensures.err.1)));
}

pub returns-in_ok-values-in-Ok-read_dir : goal.returns-in_ok-values-in-Ok-read_dir
unfolding in_progress_of
returns-in_ok-values-in-Ok-read_dir g c = record {
  answered = c.settle_encoded.ensures.answered;
  gives = λ now table opens.
      let fs = fs_of c.args.self.now.fs.now in
      let request = in_progress_of c.args.self.now.running.now in
      let arguments = read_dir_view c.args.arguments.now in
      let kind = Argument.ReadDir arguments in
      let answer = Answer.ReadDir (page_view c.in-Ok-read_dir.page) in
      c.settle_encoded.ensures.gives now (shared fs table opens) kind answer
      (record { number_is = refl; values_are = sym c.in_ok-values-in-Ok-read_dir.ensures }) refl
      (tells_ok now fs table opens request kind (list_on_tree arguments) answer
      (λ state there. subst (λ (asked : ReadDirArguments). Lists fs state now asked (Ok c.in-Ok-read_dir.page)) c.listing.ensures.arguments
      (c.in-Ok-read_dir.ensures.step state now c.args.arguments.now.dir_count (is_on fs request _ _ c.args.self.now.ready.run c.in-Ok.ensures.ok.0 (c.in-Ok.ensures.ok.1 ∙ sym c.listing.ensures.directory) there))));
}

-- If it is not done

pub tell_fault-requires : goal.tell_fault-requires
unfolding in_progress_of
tell_fault-requires g c =
    let fs = fs_of c.args.self.now.fs.now in
    let request = in_progress_of c.args.self.now.running.now in
    let state = of_request fs request in
    lists_up fs state 0 (read_dir_view c.args.arguments.now) c.in-Err-read_dir.fault c.args.self.now.ready.up
    (subst (λ (asked : ReadDirArguments). Lists fs state 0 asked (Err c.in-Err-read_dir.fault)) c.listing.ensures.arguments
    (c.in-Err-read_dir.ensures.step state 0 c.args.arguments.now.dir_count (is_on fs request _ _ c.args.self.now.ready.run c.in-Ok.ensures.ok.0 (c.in-Ok.ensures.ok.1 ∙ sym c.listing.ensures.directory) (is_there fs request))))

pub returns-in-Err-read_dir : goal.returns-in-Err-read_dir
unfolding in_progress_of
returns-in-Err-read_dir g c =
    let fs = fs_of c.args.self.now.fs.now in
    let request = in_progress_of c.args.self.now.running.now in
    let state = of_request fs request in
    let arguments = read_dir_view c.args.arguments.now in
    let fault = c.in-Err-read_dir.fault in
    let up = c.args.self.now.ready.up in
    let on = λ (state : State) (there : IsHere fs request state). is_on fs request _ _ c.args.self.now.ready.run c.in-Ok.ensures.ok.0 (c.in-Ok.ensures.ok.1 ∙ sym c.listing.ensures.directory) there in
    let step = λ (state : State) (now : ℕ) (there : IsHere fs request state). subst (λ (asked : ReadDirArguments). Lists fs state now asked (Err fault)) c.listing.ensures.arguments
    (c.in-Err-read_dir.ensures.step state now c.args.arguments.now.dir_count (on state there)) in
    let first = step state 0 (is_there fs request) in
    subst (λ (r : Result Executed Fault). OrMemory r (Reads fs request (Argument.ReadDir arguments))) (sym c.tell_fault.ensures)
    (read_or fs request (Argument.ReadDir arguments) (fault_result 26 fault) (told_lists fs request arguments fault step)
    (fault_is_encoded request 26 fault (omega arith) (lists_up fs state 0 arguments fault up first)) (told_memory fs state 0 arguments fault up first))
