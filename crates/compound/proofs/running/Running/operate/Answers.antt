use Rattle.std.proofs.Common.{ap, refl}
use Rattle.fs.specs.Views.{fs_of, fs_failures}
use Rattle.opens.specs.Views.{opens_of}
use Rattle.session.specs.Views.{table_of, reply_kept}
use Rattle.wire.specs.ArgumentView.{argument_view}
use Rattle.compound.specs.States.{shared_of}
use Rattle.compound.specs.Views.{in_progress_of}
use Rattle.compound.proofs.Operating.{changes_run, operated_kept, quiet_runs, reads_or, reads_run, table_or}
use Rattle.compound.proofs.OwnResults.{result_answered, result_kept}
use Rattle.compound.proofs.running.Running.operate.Goals as goal

-- It changes the tree

pub returns-in-Commit : goal.returns-in-Commit
returns-in-Commit g c = changes_run c.args.engine.now (in_progress_of c.args.self.now) (argument_view c.args.argument.now) (rw c.in-Commit.is refl) c.requires.agrees _ _ (rw c.in-Commit.is (c.commit.ensures _))

pub returns-in-Create : goal.returns-in-Create
returns-in-Create g c = changes_run c.args.engine.now (in_progress_of c.args.self.now) (argument_view c.args.argument.now) (rw c.in-Create.is refl) c.requires.agrees _ _ (rw c.in-Create.is c.create.ensures)

pub returns-in-Open : goal.returns-in-Open
returns-in-Open g c = changes_run c.args.engine.now (in_progress_of c.args.self.now) (argument_view c.args.argument.now) (rw c.in-Open.is refl) c.requires.agrees _ _ (rw c.in-Open.is c.open.ensures)

pub returns-in-Read : goal.returns-in-Read
returns-in-Read g c = changes_run c.args.engine.now (in_progress_of c.args.self.now) (argument_view c.args.argument.now) (rw c.in-Read.is refl) c.requires.agrees _ _ (rw c.in-Read.is c.read.ensures)

pub returns-in-Remove : goal.returns-in-Remove
returns-in-Remove g c = changes_run c.args.engine.now (in_progress_of c.args.self.now) (argument_view c.args.argument.now) (rw c.in-Remove.is refl) c.requires.agrees _ _ (rw c.in-Remove.is c.remove.ensures)

pub returns-in-Rename : goal.returns-in-Rename
returns-in-Rename g c = changes_run c.args.engine.now (in_progress_of c.args.self.now) (argument_view c.args.argument.now) (rw c.in-Rename.is refl) c.requires.agrees _ _ (rw c.in-Rename.is c.rename.ensures)

pub returns-in-SetAttr : goal.returns-in-SetAttr
returns-in-SetAttr g c = changes_run c.args.engine.now (in_progress_of c.args.self.now) (argument_view c.args.argument.now) (rw c.in-SetAttr.is refl) c.requires.agrees _ _ (rw c.in-SetAttr.is c.set_attributes.ensures)

pub returns-in-Write : goal.returns-in-Write
returns-in-Write g c = changes_run c.args.engine.now (in_progress_of c.args.self.now) (argument_view c.args.argument.now) (rw c.in-Write.is refl) c.requires.agrees _ _ (rw c.in-Write.is c.write.ensures)

-- It only reads

pub returns-in-Access : goal.returns-in-Access
returns-in-Access g c = reads_run c.args.engine.now (in_progress_of c.args.self.now) (argument_view c.args.argument.now) (rw c.in-Access.is refl) c.requires.agrees (rw c.in-Access.is refl) c.requires.ready.up _ (rw c.in-Access.is c.access.ensures)

pub returns-in-Lookup : goal.returns-in-Lookup
returns-in-Lookup g c = reads_run c.args.engine.now (in_progress_of c.args.self.now) (argument_view c.args.argument.now) (rw c.in-Lookup.is refl) c.requires.agrees (rw c.in-Lookup.is refl) c.requires.ready.up _ (rw c.in-Lookup.is c.look_up.ensures)

pub returns-in-LookupParent : goal.returns-in-LookupParent
returns-in-LookupParent g c = reads_run c.args.engine.now (in_progress_of c.args.self.now) (argument_view c.args.argument.now) (rw c.in-LookupParent.is refl) c.requires.agrees (rw c.in-LookupParent.is refl) c.requires.ready.up _ (rw c.in-LookupParent.is c.look_up_parent.ensures)

pub returns-in-PutFh : goal.returns-in-PutFh
returns-in-PutFh g c = reads_run c.args.engine.now (in_progress_of c.args.self.now) (argument_view c.args.argument.now) (rw c.in-PutFh.is refl) c.requires.agrees (rw c.in-PutFh.is refl) c.requires.ready.up _ (rw c.in-PutFh.is c.put_handle.ensures)

pub returns-in-PutRootFh : goal.returns-in-PutRootFh
returns-in-PutRootFh g c = reads_run c.args.engine.now (in_progress_of c.args.self.now) (argument_view c.args.argument.now) (rw c.in-PutRootFh.is refl) c.requires.agrees (rw c.in-PutRootFh.is refl) c.requires.ready.up _ (rw c.in-PutRootFh.is (c.put_root.ensures (fs_of c.args.engine.now.fs.now)))

pub returns-in-RestoreFh : goal.returns-in-RestoreFh
returns-in-RestoreFh g c = reads_run c.args.engine.now (in_progress_of c.args.self.now) (argument_view c.args.argument.now) (rw c.in-RestoreFh.is refl) c.requires.agrees (rw c.in-RestoreFh.is refl) c.requires.ready.up _ (rw c.in-RestoreFh.is (c.restore_handle.ensures (fs_of c.args.engine.now.fs.now)))

pub returns-in-SaveFh : goal.returns-in-SaveFh
returns-in-SaveFh g c = reads_run c.args.engine.now (in_progress_of c.args.self.now) (argument_view c.args.argument.now) (rw c.in-SaveFh.is refl) c.requires.agrees (rw c.in-SaveFh.is refl) c.requires.ready.up _ (rw c.in-SaveFh.is c.save_handle.ensures)

pub returns-in-GetAttr : goal.returns-in-GetAttr
returns-in-GetAttr g c = reads_or c.args.engine.now (in_progress_of c.args.self.now) (argument_view c.args.argument.now) (rw c.in-GetAttr.is refl) c.requires.agrees (rw c.in-GetAttr.is refl) c.requires.ready.up _ (rw c.in-GetAttr.is c.get_attributes.ensures)

pub returns-in-GetFh : goal.returns-in-GetFh
returns-in-GetFh g c = reads_or c.args.engine.now (in_progress_of c.args.self.now) (argument_view c.args.argument.now) (rw c.in-GetFh.is refl) c.requires.agrees (rw c.in-GetFh.is refl) c.requires.ready.up _ (rw c.in-GetFh.is c.get_handle.ensures)

pub returns-in-ReadDir : goal.returns-in-ReadDir
returns-in-ReadDir g c = reads_or c.args.engine.now (in_progress_of c.args.self.now) (argument_view c.args.argument.now) (rw c.in-ReadDir.is refl) c.requires.agrees (rw c.in-ReadDir.is refl) c.requires.ready.up _ (rw c.in-ReadDir.is c.read_dir.ensures)

-- It changes the opens

pub returns-in-Close : goal.returns-in-Close
returns-in-Close g c =
    let engine = c.args.engine.now in
    let request = in_progress_of c.args.self.now in
    let table = table_of engine.table.now in
    record {
      same = record { fs = refl; table = refl; opens = refl };
      state = quiet_runs g.D.Device.keeps_word engine.moment (shared_of engine.fs.now engine.table.now engine.opens.now) (fs_failures engine.fs.now) request (argument_view c.args.argument.now)
          (rw c.in-Close.is refl) c.requires.agrees (rw c.in-Close.is refl) c.requires.ready.up
          table (opens_of c.close.new.opens) c.close.result (rw c.in-Close.is (c.close.ensures.gives engine.moment table))
          (result_answered request c.close.result c.close.ensures.answered) (result_kept request table c.close.result c.close.ensures.answered);
    }

-- It changes the table

pub returns-in-ReclaimComplete : goal.returns-in-ReclaimComplete
returns-in-ReclaimComplete g c =
    let engine = c.args.engine.now in
    let request = in_progress_of c.args.self.now in
    let table = table_of c.reclaim.new.table in
    record {
      same = record { fs = refl; table = refl; opens = refl };
      state = quiet_runs g.D.Device.keeps_word engine.moment (shared_of engine.fs.now engine.table.now engine.opens.now) (fs_failures engine.fs.now) request (argument_view c.args.argument.now)
          (rw c.in-ReclaimComplete.is refl) c.requires.agrees (rw c.in-ReclaimComplete.is refl) c.requires.ready.up
          table (opens_of engine.opens.now) c.reclaim.result (rw c.in-ReclaimComplete.is (c.reclaim.ensures.gives engine.moment (opens_of engine.opens.now)))
          (result_answered request c.reclaim.result c.reclaim.ensures.answered) (result_kept request table c.reclaim.result c.reclaim.ensures.answered);
    }

pub returns-in-Sequence : goal.returns-in-Sequence
returns-in-Sequence g c =
    let engine = c.args.engine.now in
    let request = in_progress_of c.args.self.now in
    let table = table_of c.sequence.new.table in
    let gives = c.sequence.ensures.gives engine.moment (fs_of engine.fs.now) (opens_of engine.opens.now) in
    record {
      same = record { fs = refl; table = refl; opens = refl };
      state = quiet_runs g.D.Device.keeps_word engine.moment (shared_of engine.fs.now engine.table.now engine.opens.now) (fs_failures engine.fs.now) request (argument_view c.args.argument.now)
          (rw c.in-Sequence.is refl) c.requires.agrees (rw c.in-Sequence.is refl) c.requires.ready.up
          table (opens_of engine.opens.now) c.sequence.result (rw c.in-Sequence.is gives)
          c.sequence.ensures.answered (operated_kept engine.moment _ _ request _ c.sequence.result gives);
    }

pub returns-in-ExchangeId : goal.returns-in-ExchangeId
returns-in-ExchangeId g c = record {
  same = record { fs = refl; table = refl; opens = refl };
  state = table_or c.args.engine.now (in_progress_of c.args.self.now) (argument_view c.args.argument.now) (rw c.in-ExchangeId.is refl) c.requires.agrees (rw c.in-ExchangeId.is refl) c.requires.ready.up
      c.version.result c.version.ensures.version (table_of c.exchange_id.new.table) c.exchange_id.result (rw c.in-ExchangeId.is c.exchange_id.ensures);
}

pub returns-in-DestroyClientId : goal.returns-in-DestroyClientId
returns-in-DestroyClientId g c = record {
  same = record { fs = refl; table = refl; opens = refl };
  state = table_or c.args.engine.now (in_progress_of c.args.self.now) (argument_view c.args.argument.now) (rw c.in-DestroyClientId.is refl) c.requires.agrees (rw c.in-DestroyClientId.is refl) c.requires.ready.up
      _ refl (table_of c.destroy_clientid.new.table) c.destroy_clientid.result (rw c.in-DestroyClientId.is (c.destroy_clientid.ensures (fs_of c.args.engine.now.fs.now).volume.version));
}

-- It changes the seats

pub create_session-requires-clause-ready : goal.create_session-requires-clause-ready
create_session-requires-clause-ready g c = record { up = c.requires.ready.up; agrees = c.requires.agrees }

pub returns-in-CreateSession : goal.returns-in-CreateSession
returns-in-CreateSession g c = rw c.in-CreateSession.is c.create_session.ensures

pub destroy_session-requires-clause-ready : goal.destroy_session-requires-clause-ready
destroy_session-requires-clause-ready g c = record { up = c.requires.ready.up; agrees = c.requires.agrees }

pub returns-in-DestroySession : goal.returns-in-DestroySession
returns-in-DestroySession g c = rw c.in-DestroySession.is c.destroy_session.ensures
