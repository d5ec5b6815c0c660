use Rattle.std.proofs.Common.{◌≡◌, ℕ, false, refl, sym, subst, ap₂, ◌∙◌}
use Rattle.std.specs.Prelude.{drop}
use Rattle.wire.specs.ArgumentView.{argument_view}
use Rattle.compound.specs.Operates.{IsAnswered, IsReplyKept}
use Rattle.compound.specs.Runs.{makes_change}
use Rattle.compound.specs.States.{shared_of}
use Rattle.compound.specs.Turns.{TurnsExecuted}
use Rattle.compound.specs.Views.{in_progress_of}
use Rattle.compound.proofs.Firsts.{first_alone}
use Rattle.compound.proofs.Refusals.{refused_encoded}
use Rattle.compound.proofs.Turning.{turns_read, turns_refused, refused_keeps}
use Rattle.compound.proofs.VolumeLaws.{read_gives, refused_turn, turn_stays}
use Rattle.compound.specs.declared.fault.Fault.TheVariants as fault
use Rattle.fs.proofs.ChangeLaws.{changes_by}
use Rattle.volume.proofs.ServeLaws.{is_err_of}
use Rattle.compound.proofs.QuietLaws.{leaves_all, answers_still}
use Rattle.compound.proofs.Outcomes.{if_not, on_err}
use Rattle.compound.proofs.running.Running.run_next.Goals as goal

pub operate-requires-clause-ready : goal.operate-requires-clause-ready
operate-requires-clause-ready g c = record { up = c.requires.up; run = c.requires.run }

pub operate-requires-clause-agrees : goal.operate-requires-clause-agrees
operate-requires-clause-agrees g c = c.requires.agrees

pub operate-requires-clause-first : goal.operate-requires-clause-first
operate-requires-clause-first g c =
    let next = rw c.in-Reads.is at c.in_ok-operation.ensures.ok in
    first_alone (in_progress_of c.args.self.now) (argument_view c.in-Reads.argument) (drop c.in-Reads.position c.args.self.now.compound.operations.now) next

-- It ran

pub returns-in_ok-done-in-Reads : goal.returns-in_ok-done-in-Reads
returns-in_ok-done-in-Reads g c =
    let moment = c.args.engine.now.moment in
    let old = shared_of c.args.engine.now.fs.now c.args.engine.now.table.now c.args.engine.now.opens.now in
    let new = shared_of c.operate.new.engine.fs.now c.operate.new.engine.table.now c.operate.new.engine.opens.now in
    let request = in_progress_of c.args.self.now in
    let argument = argument_view c.in-Reads.argument in
    let rest = drop c.in-Reads.position c.args.self.now.compound.operations.now in
    let next = rw c.in-Reads.is at c.in_ok-operation.ensures.ok in
    let runs = rw c.in_ok-done-in-Reads.was at c.operate.ensures.state in
    let altered : c.makes_change-altered.result ≡ makes_change old.files.changes new.files.changes argument =
    c.makes_change-altered.ensures ∙ ap₂ (λ (before after : ℕ). makes_change before after argument) c.change_count-before.ensures c.change_count-after.ensures in
    record {
      same = c.operate.ensures.same;
      turns = λ keeps. turns_read moment old new request argument rest _ c.in_ok-done-in-Reads.done c.requires.more next altered (runs.gives keeps);
      within = rw c.in-Reads.is at c.in_ok-operation.ensures.within;
      answered = runs.answered;
      kept = runs.kept;
      table = tt;
      opens = tt;
      volume = changes_by g.D.Device.keeps_word _ _ (read_gives old request moment argument rest c.requires.more next) _ _ _ _ _ runs.volume;
    }

pub returns-in_err-done-in-Reads : goal.returns-in_err-done-in-Reads
returns-in_err-done-in-Reads g c =
    let moment = c.args.engine.now.moment in
    let old = shared_of c.args.engine.now.fs.now c.args.engine.now.table.now c.args.engine.now.opens.now in
    let request = in_progress_of c.args.self.now in
    let argument = argument_view c.in-Reads.argument in
    let rest = drop c.in-Reads.position c.args.self.now.compound.operations.now in
    let next = rw c.in-Reads.is at c.in_ok-operation.ensures.ok in
    let runs = rw c.in_err-done-in-Reads.was at c.operate.ensures.state in
    let reason = c.in_err-done-in-Reads.field-0.0 in
    let residual = c.from_residual-in_err-done-in-Reads in
    let told = is_err_of residual.result reason residual.ensures.1 in
    record {
      same = c.operate.ensures.same;
      turns = λ keeps. if_not _ _ _ residual.ensures.1;
      within = if_not _ _ _ residual.ensures.1;
      answered = if_not _ _ _ residual.ensures.1;
      kept = if_not _ _ _ residual.ensures.1;
      table = on_err _ runs.table;
      opens = on_err _ runs.opens;
      volume = rw told (changes_by g.D.Device.keeps_word _ _ (read_gives old request moment argument rest c.requires.more next) _ _ _ _ _ runs.volume);
    }

-- There is no memory

pub returns-in_err-operation : goal.returns-in_err-operation
returns-in_err-operation g c =
    let reason = c.in_err-operation.field-0.0 in
    let told = is_err_of c.from_residual.result reason c.from_residual.ensures.1 in
    let memory : reason ≡ fault.Memory = rw c.in_err-operation.was at c.next_operation.ensures.ok in
    record {
      same = record { fs = refl; table = refl; opens = refl };
      turns = λ keeps. if_not _ _ _ c.from_residual.ensures.1;
      within = if_not _ _ _ c.from_residual.ensures.1;
      answered = if_not _ _ _ c.from_residual.ensures.1;
      kept = if_not _ _ _ c.from_residual.ensures.1;
      table = on_err _ refl;
      opens = on_err _ refl;
      volume = rw (told, memory) (leaves_all g.D.Device.keeps_word _ _ _ _ _ refl refl);
    }

-- It was refused before

pub returns-in-Refuses : goal.returns-in-Refuses
unfolding in_progress_of
returns-in-Refuses g c =
    let moment = c.args.engine.now.moment in
    let state = shared_of c.args.engine.now.fs.now c.args.engine.now.table.now c.args.engine.now.opens.now in
    let request = in_progress_of c.args.self.now in
    let rest = drop c.args.self.now.progress.position c.args.self.now.compound.operations.now in
    let next = rw c.in-Refuses.is at c.in_ok-operation.ensures.ok in
    record {
      same = record { fs = refl; table = refl; opens = refl };
      turns = λ keeps. subst (TurnsExecuted moment state state request rest false) (sym c.refused.ensures.gives)
          (turns_refused moment state request rest c.in-Refuses.operation c.in-Refuses.status c.requires.more next refl);
      within = c.args.self.now.within;
      answered = subst (IsAnswered request) (sym c.refused.ensures.gives) (refused_encoded request c.in-Refuses.operation c.in-Refuses.status next c.refused.ensures.number);
      kept = subst (IsReplyKept state.table) (sym c.refused.ensures.gives) tt;
      table = tt;
      opens = tt;
      volume = answers_still g.D.Device.keeps_word _ _ _ _ _ refl refl c.requires.up
          (λ keeps. turn_stays state _
          (λ world number has. refused_keeps world number moment request c.in-Refuses.operation c.in-Refuses.status c.requires.more next)
          (c.requires.agrees keeps).seats)
          (λ keeps. refused_turn state request moment c.in-Refuses.operation c.in-Refuses.status c.requires.more next);
    }
