use Rattle.std.proofs.Common.{◌≡◌, ◌<◌, ◌^◌, Bool, length, min, drop, Result, IfOk, refl, sym, subst, arith, length-take}
use Rattle.fs.specs.Changes.{FsChanges}
use Rattle.fs.specs.FileSystem.{FileSystem}
use Rattle.fs.specs.Views.{fs_of, fs_failures}
use Rattle.fs.specs.Reading.{part_at}
use Rattle.volume.specs.Changes.{IsTree}
use Rattle.model.specs.Operations.Answer.{Answer, Refused}
use Rattle.model_tree.specs.Trees.Tree.{bytes_at}
use Rattle.model.specs.Operations.Operation.{Argument}
use Rattle.model_tree.specs.declared.status.Status.{Status}
use Rattle.opens.specs.Views.{opens_of}
use Rattle.wire.specs.ArgumentViews.{read_view}
use Rattle.compound.specs.Operates.{Operates, GivesIn, ChangesTreeAndOpens, HasResult}
use Rattle.compound.specs.States.{shared}
use Rattle.compound.specs.Views.{in_progress_of}
use Rattle.compound.specs.Volumes.{OperationGives, ending}
use Rattle.compound.specs.declared.fault.Fault.{Fault}
use Rattle.compound.specs.declared.executed.Executed.{Executed}
use Rattle.compound.proofs.Changing.{fault_is_encoded}
use Rattle.compound.proofs.QuietLaws.{left_all}
use Rattle.compound.proofs.ReadLaws.{read_wants, read_ok, read_up, read_nothing, read_quietly, told_reads, told_changes}
use Rattle.compound.proofs.Rooms.{gives_refusal}
use Rattle.compound.proofs.Trees.{is_on}
use Rattle.compound.proofs.VolumeLaws.{memory_changes, quiet_changes}
use Rattle.volume.proofs.ServeLaws.{is_err_of}
use Rattle.compound.specs.declared.fault.Fault.TheVariants as fault
use Rattle.session.specs.Views.{table_of}
use Rattle.compound.proofs.Outcomes.{changed_if, on_err, if_not}
use Rattle.compound.proofs.running.Running.read.Goals as goal

pub returns-in-Err : goal.returns-in-Err
unfolding in_progress_of
returns-in-Err g c = record {
  same = record { fs = refl; table = refl; opens = refl };
  state = record {
    gives = λ keeps.
        let now = c.args.engine.now.moment in
        let table = table_of c.args.engine.now.table.now in
        let fs = fs_of c.args.engine.now.fs.now in
        let opens = opens_of c.args.engine.now.opens.now in
        let request = in_progress_of c.args.self.now in
        let arguments = read_view c.args.arguments.now in
        let kind = Argument.Read arguments in
        c.refuse.ensures.gives now (shared fs table opens) (shared fs table opens) kind
        (subst (λ (reason : Status). GivesIn now (shared fs table opens) (shared fs table opens) request request kind (Refused 25 reason)) (sym c.in-Err.ensures.err.0)
        (gives_refusal now (shared fs table opens) (shared fs table opens) request kind 25 _ (read_wants now fs table opens request arguments c.in-Err.ensures.err.1)));
    answered = c.refuse.ensures.answered;
    table = refl;
    opens = tt;
    volume =
        let now = c.args.engine.now.moment in
        let table = table_of c.args.engine.now.table.now in
        quiet_changes g.D.Device.keeps_word (shared (fs_of c.args.engine.now.fs.now) table (opens_of c.args.engine.now.opens.now)) (fs_failures c.args.engine.now.fs.now) (in_progress_of c.args.self.now) now
        (Argument.Read (read_view c.args.arguments.now)) c.requires.up refl;
  };
}

pub returns-in_err-values : goal.returns-in_err-values
returns-in_err-values g c = record {
  same = record { fs = refl; table = refl; opens = refl };
  state = record {
    gives = λ keeps. if_not _ _ _ c.from_residual.ensures.1;
    answered = if_not _ _ _ c.from_residual.ensures.1;
    table = refl;
    opens = on_err _ refl;
    volume =
        let now = c.args.engine.now.moment in
        let table = table_of c.args.engine.now.table.now in
        memory_changes g.D.Device.keeps_word _ (fs_of c.args.engine.now.fs.now) (fs_failures c.args.engine.now.fs.now) c.from_residual.result c.in_err-values.field-0.0
        c.from_residual.ensures.1 (rw c.in_err-values.was at c.room_for.ensures.values);
  };
}

-- If it is done

pub returns-in_ok-finish-in-Ok-read : goal.returns-in_ok-finish-in-Ok-read
unfolding in_progress_of
returns-in_ok-finish-in-Ok-read g c = record {
  same = record { fs = refl; table = refl; opens = refl };
  state = record {
    gives = λ keeps.
        let now = c.args.engine.now.moment in
        let table = table_of c.args.engine.now.table.now in
        let fs = fs_of c.args.engine.now.fs.now in
        let new = fs_of c.read.new.self in
        let opens = opens_of c.args.engine.now.opens.now in
        let request = in_progress_of c.args.self.now in
        let arguments = read_view c.args.arguments.now in
        let kind = Argument.Read arguments in
        let part = part_at fs c.in-Ok.number arguments.offset arguments.count in
        let few : length part < 2 ^ 32 =
        omega (arith, c.in_ok-values.ensures.count, length-take (min arguments.count fs.volume.limits.transfer_bytes) (drop arguments.offset (bytes_at fs.volume.tree c.in-Ok.number))) in
        let answer = Answer.Read (record { is_end = c.in-Ok-read.is_end; data_bytes = part }) in
        subst (λ (one : FileSystem). Operates now (shared fs table opens) (shared one table opens) request kind c.settle_encoded.result)
        (sym (left_all g.D.Device.keeps_word (IsTree fs.volume fs.volume.tree) fs new (fs_failures c.args.engine.now.fs.now) (fs_failures c.read.new.self) c.in-Ok-read.ensures.volume))
        (c.settle_encoded.ensures.gives now (shared fs table opens) kind answer
        (record { number_is = refl; values_are = sym (c.in_ok-finish-in-Ok-read.ensures c.in_ok-values.values.items part (c.in-Ok-read.ensures.bytes keeps) c.in_ok-values.ensures.values few) }) refl
        (read_ok now fs opens request arguments table answer
        (λ state there known. c.in-Ok-read.ensures.step state now arguments.state (is_on fs request c.in-Ok.number state c.requires.run c.in-Ok.ensures.ok.0 c.in-Ok.ensures.ok.1 there)
        (c.verdict-verdict.ensures.is state known there.context_is))));
    answered = c.settle_encoded.ensures.answered;
    table = refl;
    opens = tt;
    volume =
        let now = c.args.engine.now.moment in
        let table = table_of c.args.engine.now.table.now in
        read_quietly now (fs_of c.args.engine.now.fs.now) (opens_of c.args.engine.now.opens.now) (in_progress_of c.args.self.now) (read_view c.args.arguments.now) g.D.Device.keeps_word
        (fs_of c.read.new.self) _ _ table c.requires.up c.in-Ok-read.ensures.volume;
  };
}

pub returns-in_err-finish-in-Ok-read : goal.returns-in_err-finish-in-Ok-read
returns-in_err-finish-in-Ok-read g c = record {
  same = record { fs = refl; table = refl; opens = refl };
  state = record {
    gives = λ keeps. if_not _ _ _ c.from_residual-in_err-finish-in-Ok-read.ensures.1;
    answered = if_not _ _ _ c.from_residual-in_err-finish-in-Ok-read.ensures.1;
    table = refl;
    opens = on_err _ refl;
    volume =
        let now = c.args.engine.now.moment in
        let table = table_of c.args.engine.now.table.now in
        let reason = c.in_err-finish-in-Ok-read.field-0.0 in
        let told = is_err_of c.from_residual-in_err-finish-in-Ok-read.result reason c.from_residual-in_err-finish-in-Ok-read.ensures.1 in
        let memory : reason ≡ fault.Memory = rw c.in_err-finish-in-Ok-read.was at c.finish.ensures in
        rw (told, memory) (read_nothing now (fs_of c.args.engine.now.fs.now) (opens_of c.args.engine.now.opens.now) (in_progress_of c.args.self.now) (read_view c.args.arguments.now) g.D.Device.keeps_word
        (fs_of c.read.new.self) _ _ table c.in-Ok-read.ensures.volume);
  };
}

-- If it is not

pub tell_fault-requires : goal.tell_fault-requires
unfolding in_progress_of
tell_fault-requires g c =
    let fs = fs_of c.args.engine.now.fs.now in
    let request = in_progress_of c.args.self.now in
    let arguments = read_view c.args.arguments.now in
    read_up 0 fs (opens_of c.args.engine.now.opens.now) request arguments c.in-Err-read.fault c.requires.up
    (λ state there known. c.in-Err-read.ensures.step state 0 arguments.state (is_on fs request c.in-Ok.number state c.requires.run c.in-Ok.ensures.ok.0 c.in-Ok.ensures.ok.1 there)
    (c.verdict-verdict.ensures.is state known there.context_is))

pub returns-in-Err-read : goal.returns-in-Err-read
unfolding in_progress_of
returns-in-Err-read g c = record {
  same = record { fs = refl; table = refl; opens = refl };
  state = record {
    gives = λ keeps.
        let now = c.args.engine.now.moment in
        let fs = fs_of c.args.engine.now.fs.now in
        let new = fs_of c.read.new.self in
        let opens = opens_of c.args.engine.now.opens.now in
        let request = in_progress_of c.args.self.now in
        let arguments = read_view c.args.arguments.now in
        changed_if now fs new (table_of c.args.engine.now.table.now) opens opens request (Argument.Read arguments) c.tell_fault.result
        (subst (λ (r : Result Executed Fault). IfOk r (ChangesTreeAndOpens fs new opens opens now request (Argument.Read arguments))) (sym c.tell_fault.ensures)
        (told_reads now fs opens request arguments g.D.Device.keeps_word new _ _ Bool c.in-Err-read.fault
        (λ state there known. c.in-Err-read.ensures.step state now arguments.state (is_on fs request c.in-Ok.number state c.requires.run c.in-Ok.ensures.ok.0 c.in-Ok.ensures.ok.1 there)
        (c.verdict-verdict.ensures.is state known there.context_is)) c.in-Err-read.ensures.volume));
    answered =
        let fs = fs_of c.args.engine.now.fs.now in
        let request = in_progress_of c.args.self.now in
        let arguments = read_view c.args.arguments.now in
        subst (λ (r : Result Executed Fault). IfOk r (HasResult request)) (sym c.tell_fault.ensures)
        (fault_is_encoded request 25 c.in-Err-read.fault (omega arith)
        (read_up 0 fs (opens_of c.args.engine.now.opens.now) request arguments c.in-Err-read.fault c.requires.up
        (λ state there known. c.in-Err-read.ensures.step state 0 arguments.state (is_on fs request c.in-Ok.number state c.requires.run c.in-Ok.ensures.ok.0 c.in-Ok.ensures.ok.1 there)
        (c.verdict-verdict.ensures.is state known there.context_is))));
    table = refl;
    opens = on_err _ refl;
    volume =
        let now = c.args.engine.now.moment in
        let table = table_of c.args.engine.now.table.now in
        let fs = fs_of c.args.engine.now.fs.now in
        let new = fs_of c.read.new.self in
        let opens = opens_of c.args.engine.now.opens.now in
        let request = in_progress_of c.args.self.now in
        let arguments = read_view c.args.arguments.now in
        subst (λ (r : Result Executed Fault). FsChanges g.D.Device.keeps_word (OperationGives (shared fs table opens) request now (Argument.Read arguments)) fs new (fs_failures c.args.engine.now.fs.now) (fs_failures c.read.new.self) (ending r))
        (sym c.tell_fault.ensures)
        (told_changes now fs opens request arguments g.D.Device.keeps_word new _ _ Bool table c.in-Err-read.fault c.requires.up
        (λ state there known. c.in-Err-read.ensures.step state now arguments.state (is_on fs request c.in-Ok.number state c.requires.run c.in-Ok.ensures.ok.0 c.in-Ok.ensures.ok.1 there)
        (c.verdict-verdict.ensures.is state known there.context_is)) c.in-Err-read.ensures.volume);
  };
}
