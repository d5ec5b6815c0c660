use Rattle.std.proofs.Common.{is_some, refl, ◌∙◌}
use Rattle.fs.specs.Views.{fs_of}
use Rattle.fs.proofs.ChangeLaws.{changes_by}
use Rattle.model.specs.Server.World.{result_of}
use Rattle.opens.specs.Views.{opens_of}
use Rattle.session.specs.Views.{table_of}
use Rattle.compound.specs.States.{shared_of}
use Rattle.compound.specs.Views.{asked_of, in_progress_of}
use Rattle.compound.proofs.Agreeing.{steps_agree}
use Rattle.compound.proofs.Storing.{kept_if_some, stored, stored_gives}
use Rattle.compound.proofs.running.Running.store.Goals as goal

pub returns-in-Ok-clause-turn : goal.returns-in-Ok-clause-turn
returns-in-Ok-clause-turn g c =
    let engine = c.args.engine.now in
    let request = in_progress_of c.args.self in
    steps_agree _ _ _ _ c.requires.ready.agrees (record {
      step = λ keeps. stored engine.moment (fs_of engine.fs.now) (fs_of c.hold.new.fs) (table_of engine.table.now) (table_of c.end-record.new.table) (opens_of engine.opens.now)
          (asked_of c.args.self) request c.args.last c.end-record.result c.requires.ended (c.in-Ok.ensures.same keeps) c.end-record.ensures.reply
          (c.end-record.ensures.kept ∙ kept_if_some request.slot (is_some c.in-Ok.edits) (result_of request c.args.last) (table_of engine.table.now) c.in-Ok.ensures.some);
      goes_on = record { stays = tt; further = tt; fits = refl };
      back = tt;
      table = tt;
      opens = tt;
      volume = changes_by g.D.Device.keeps_word _ _
          (stored_gives (shared_of engine.fs.now engine.table.now engine.opens.now) engine.moment request c.args.last c.requires.ended) _ _ _ _ _ c.in-Ok.ensures.volume;
    })

pub returns-in-Err-clause-turn : goal.returns-in-Err-clause-turn
returns-in-Err-clause-turn g c =
    let engine = c.args.engine.now in
    steps_agree _ _ _ _ c.requires.ready.agrees (record {
      step = λ keeps. tt;
      goes_on = tt;
      back = refl;
      table = refl;
      opens = refl;
      volume = changes_by g.D.Device.keeps_word _ _
          (stored_gives (shared_of engine.fs.now engine.table.now engine.opens.now) engine.moment (in_progress_of c.args.self) c.args.last c.requires.ended) _ _ _ _ _ c.in-Err.ensures.volume;
    })
