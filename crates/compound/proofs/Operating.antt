-- What an operation comes to is what one of any kind does.
use Rattle.std.proofs.Common.{◌≡◌, ℕ, true, false, Result, Ok, Err, refl, sym, ap, ◌∙◌}
use Rattle.disk.specs.declared.device.Device.{Ghosts}
use Rattle.fs.specs.FileSystem.{FileSystem}
use Rattle.fs.specs.Views.{fs_failures}
use Rattle.layout.specs.declared.versions.VersionNumber.{VersionNumber}
use Rattle.model.specs.Operations.Operation.{Argument}
use Rattle.model.specs.Server.World.{InProgress}
use Rattle.model.specs.Sessions.Opens.{Opens}
use Rattle.model.specs.Sessions.Session.{Table}
use Rattle.compound.specs.Engines.{Changes, ChangesState, ChangesClients, Runs, RunsState, files_in, state_in}
use Rattle.compound.specs.Memory.{OrMemory}
use Rattle.compound.specs.Operates.{IsAnswered, IsReplyKept, Operates, Reads}
use Rattle.compound.specs.States.{Agrees, SharedState, shared}
use Rattle.compound.specs.Volumes.{ending}
use Rattle.compound.specs.declared.engine.Engine.{Engine}
use Rattle.compound.specs.declared.executed.Executed.{Executed}
use Rattle.compound.specs.declared.executed.Executed.TheVariants as execution
use Rattle.compound.specs.declared.fault.Fault.{Fault}
use Rattle.compound.specs.declared.fault.Fault.TheVariants.{Memory}
use Rattle.session.specs.Views.{reply_kept}
use Rattle.compound.proofs.Outcomes.{on_err}
use Rattle.compound.proofs.OwnResults.{if_answered, if_kept, result_answered, result_kept}
use Rattle.compound.proofs.QuietLaws.{leaves_all}
use Rattle.compound.proofs.TablesGo.{leaves_seats}
use Rattle.compound.proofs.VolumeLaws.{is_quiet, quiet_changes, tree_changes}

module _ (keeps_word : Type 0) (now : ℕ) (old : SharedState) (before : ℕ) (request : InProgress) (operation : Argument)
    (leaves : leaves_seats operation ≡ true) (agrees : keeps_word → Agrees old.files old.table) where
  -- it changes the tree
  pub tree_runs : (new : SharedState) (after : ℕ) (result : Result Executed Fault) → ChangesState keeps_word now old new before after request operation result
      → RunsState keeps_word now old new before after request operation result
  tree_runs new after result changes = record {
    gives = changes.gives;
    answered = if_answered request result changes.answered;
    kept = if_kept request new.table result changes.answered;
    table = on_err result changes.table;
    opens = changes.opens;
    volume = tree_changes keeps_word old request now operation leaves (λ keeps. (agrees keeps).seats) new.files before after (ending result) changes.volume;
  }

  module _ (quiet : is_quiet operation ≡ true) (up : old.files.volume.is_down ≡ false) where
    -- it leaves the file system
    pub quiet_runs : (table : Table) (opens : Opens) (done : Executed) → Operates now old (shared old.files table opens) request operation done
        → IsAnswered request done → IsReplyKept table done
        → RunsState keeps_word now old (shared old.files table opens) before before request operation (Ok done)
    quiet_runs table opens done gives answered kept = record {
      gives = λ keeps. gives;
      answered = answered;
      kept = kept;
      table = tt;
      opens = tt;
      volume = tree_changes keeps_word old request now operation leaves (λ keeps. (agrees keeps).seats) old.files before before (ending {T = Executed} (Ok done))
          (quiet_changes keeps_word old before request now operation up quiet);
    }

    -- or has no memory
    pub memory_runs : (reason : Fault) → reason ≡ Memory → RunsState keeps_word now old old before before request operation (Err reason)
    memory_runs reason memory = record {
      gives = λ keeps. tt;
      answered = tt;
      kept = tt;
      table = refl;
      opens = refl;
      volume = rw memory (leaves_all keeps_word _ _ _ _ _ refl refl);
    }

-- a reply that is sent again is there
pub operated_kept : (now : ℕ) (old new : SharedState) (request : InProgress) (operation : Argument) (done : Executed) → Operates now old new request operation done → IsReplyKept new.table done
operated_kept now old new request operation (execution.Gives outcome left) runs = tt
operated_kept now old new request operation (execution.GivesValues kind values) runs = tt
operated_kept now old new request operation (execution.Replays slot) runs = (runs.0, ap (λ (s : SharedState). reply_kept slot.session slot.slot s.table) runs.1 ∙ runs.2)

-- With all that a turn works on

module _ {D : Type 0} {g : Ghosts D} (old : Engine D g) (request : InProgress) (operation : Argument)
    (leaves : leaves_seats operation ≡ true) (agrees : g.keeps_word → Agrees (files_in old) (state_in old).table) where
  pub changes_run : (new : Engine D g) (result : Result Executed Fault) → Changes old new request operation result → Runs old new request operation result
  changes_run new result changes = record {
    same = changes.same;
    state = tree_runs g.keeps_word old.moment (state_in old) (fs_failures old.fs.now) request operation leaves agrees (state_in new) (fs_failures new.fs.now) result changes.state;
  }

  module _ (quiet : is_quiet operation ≡ true) (up : (files_in old).volume.is_down ≡ false) where
    pub reads_run : (done : Executed) → Reads (files_in old) request operation done → Runs old old request operation (Ok done)
    reads_run done reads = record {
      same = record { fs = refl; table = refl; opens = refl };
      state = quiet_runs g.keeps_word old.moment (state_in old) (fs_failures old.fs.now) request operation leaves agrees quiet up
          (state_in old).table (state_in old).opens done (reads.gives old.moment (state_in old).table (state_in old).opens)
          (result_answered request done reads.answered) (result_kept request (state_in old).table done reads.answered);
    }

    pub reads_or : (result : Result Executed Fault) → OrMemory result (Reads (files_in old) request operation) → Runs old old request operation result
    reads_or (Ok done) reads = reads_run done reads
    reads_or (Err reason) memory = record {
      same = record { fs = refl; table = refl; opens = refl };
      state = memory_runs g.keeps_word old.moment (state_in old) (fs_failures old.fs.now) request operation leaves agrees quiet up reason memory;
    }

    -- one on the clients
    pub table_or : (version : VersionNumber) → version ≡ (files_in old).volume.version
        → (table : Table) (result : Result Executed Fault) → ChangesClients version (state_in old).table table (state_in old).opens request operation result
        → RunsState g.keeps_word old.moment (state_in old) (shared (files_in old) table (state_in old).opens) (fs_failures old.fs.now) (fs_failures old.fs.now) request operation result
    table_or version same table (Ok done) changes = quiet_runs g.keeps_word old.moment (state_in old) (fs_failures old.fs.now) request operation leaves agrees quiet up
        table (state_in old).opens done (changes.1 old.moment (files_in old) (sym same))
        (result_answered request done changes.0) (result_kept request table done changes.0)
    table_or version same table (Err reason) refused = record {
      gives = λ keeps. tt;
      answered = tt;
      kept = tt;
      table = refused.1;
      opens = refl;
      volume = rw refused.0 (leaves_all g.keeps_word _ _ _ _ _ refl refl);
    }
