use Rattle.std.proofs.Common.{List, ◌<◌, ◌+◌, length, arith, ◌∙◌}
use Rattle.disk.specs.declared.update.Update.{Update}
use Rattle.journal.specs.Layout.{placed}
use Rattle.journal.proofs.Phases.{write_failed, alone_brief, failed_brief, synced_brief, left_alone, synced_moments, synced_fixes, wrote_more, length-placed, payload_at}
use Rattle.journal.proofs.phase.write_payload.Goals as goal

pub returns-in_err-write-clause-moments : goal.returns-in_err-write-clause-moments
returns-in_err-write-clause-moments g c = λ k.
    let all : List Update = placed (c.args.area.first + c.args.behind) c.args.updates.now in
    let within : c.loop-i.i < length all = omega (arith, length-placed (c.args.area.first + c.args.behind) c.args.updates.now) in
    write_failed all c.loop-i.i _ (g.D.Device.history c.args.device.now) (g.D.Device.history c.loop-i.device)
    (g.D.Device.history c.write.new.self) within (payload_at (c.args.area.first + c.args.behind) c.args.updates.now c.loop-i.i (omega arith))
    (c.loop-i.invariant.wrote k) (c.in_err-write.ensures.err k)

pub loop-i-preserved : goal.loop-i-preserved
loop-i-preserved g c = record {
  wrote = λ k.
      let all : List Update = placed (c.args.area.first + c.args.behind) c.args.updates.now in
      let within : c.loop-i.i < length all = omega (arith, length-placed (c.args.area.first + c.args.behind) c.args.updates.now) in
      wrote_more all c.loop-i.i _ (g.D.Device.history c.args.device.now) (g.D.Device.history c.loop-i.device)
      (g.D.Device.history c.write.new.self) within (payload_at (c.args.area.first + c.args.behind) c.args.updates.now c.loop-i.i (omega arith))
      (c.loop-i.invariant.wrote k) (c.in_ok-write.ensures.ok k);
  size = c.in_ok-write.ensures.size ∙ c.loop-i.invariant.size;
  none = c.in_ok-write.ensures.cause.ok ∙ c.loop-i.invariant.none;
}

pub returns-in_err-sync-clause-moments : goal.returns-in_err-sync-clause-moments
returns-in_err-sync-clause-moments g c = λ k.
    left_alone (placed (c.args.area.first + c.args.behind) c.args.updates.now) c.loop-i.i (g.D.Device.history c.args.device.now) (g.D.Device.history c.loop-i.device)
    (g.D.Device.history c.sync.new.self) (c.loop-i.invariant.wrote k) (c.in_err-sync.ensures.err k)

pub returns-clause-moments : goal.returns-clause-moments
returns-clause-moments g c = λ k.
    synced_moments (placed (c.args.area.first + c.args.behind) c.args.updates.now) c.loop-i.i (g.D.Device.history c.args.device.now) (g.D.Device.history c.loop-i.device)
    (g.D.Device.history c.sync.new.self) (c.loop-i.invariant.wrote k) (c.in_ok-sync.ensures.ok k)

pub returns-clause-ok : goal.returns-clause-ok
returns-clause-ok g c = λ k.
    synced_fixes (placed (c.args.area.first + c.args.behind) c.args.updates.now) c.loop-i.i (g.D.Device.history c.args.device.now) (g.D.Device.history c.loop-i.device)
    (g.D.Device.history c.sync.new.self) (omega (arith, length-placed (c.args.area.first + c.args.behind) c.args.updates.now)) (c.loop-i.invariant.wrote k) (c.in_ok-sync.ensures.ok k)

pub returns-in_err-write-clause-brief : goal.returns-in_err-write-clause-brief
returns-in_err-write-clause-brief g c = λ k.
    failed_brief (placed (c.args.area.first + c.args.behind) c.args.updates.now) c.loop-i.i _ (g.D.Device.history c.args.device.now) (g.D.Device.history c.loop-i.device)
    (g.D.Device.history c.write.new.self) (length-placed (c.args.area.first + c.args.behind) c.args.updates.now) (c.loop-i.invariant.wrote k) _ (c.in_err-write.ensures.err k)

pub returns-in_err-sync-clause-brief : goal.returns-in_err-sync-clause-brief
returns-in_err-sync-clause-brief g c = λ k.
    alone_brief (placed (c.args.area.first + c.args.behind) c.args.updates.now) c.loop-i.i _ (g.D.Device.history c.args.device.now) (g.D.Device.history c.loop-i.device)
    (g.D.Device.history c.sync.new.self) (length-placed (c.args.area.first + c.args.behind) c.args.updates.now) (c.loop-i.invariant.wrote k) (c.in_err-sync.ensures.err k)

pub returns-clause-brief : goal.returns-clause-brief
returns-clause-brief g c = λ k.
    synced_brief (placed (c.args.area.first + c.args.behind) c.args.updates.now) c.loop-i.i _ (g.D.Device.history c.args.device.now) (g.D.Device.history c.loop-i.device)
    (g.D.Device.history c.sync.new.self) (length-placed (c.args.area.first + c.args.behind) c.args.updates.now) (c.loop-i.invariant.wrote k) (c.in_ok-sync.ensures.ok k)
