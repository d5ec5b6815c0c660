use Rattle.std.proofs.Common.{◌<◌, ◌∙◌, List, length, refl, arith, Result, Err}
use Rattle.std.proofs.lemmas.List.{get_or_default}
use Rattle.disk.specs.declared.fault.DiskFault.{DiskFault}
use Rattle.disk.specs.declared.update.Update.{Update}
use Rattle.journal.proofs.Answerings.{counted_of, is_told, told_counted}
use Rattle.journal.proofs.Images.{length-targets}
use Rattle.journal.proofs.Lists.{no_update, get_or-targets}
use Rattle.journal.proofs.Phases.{write_failed, alone_brief, failed_brief, synced_brief, left_alone, synced_moments, synced_fixes, wrote_more}
use Rattle.journal.proofs.phase.write_homes.Goals as goal

pub returns-in_err-write-clause-moments : goal.returns-in_err-write-clause-moments
returns-in_err-write-clause-moments g c = λ k.
    let all : List Update = c.args.updates.now in
    let within : c.loop-update.update-index < length all = omega arith in
    write_failed all c.loop-update.update-index _ (g.D.Device.history c.args.device.now) (g.D.Device.history c.loop-update.device)
    (g.D.Device.history c.write.new.self) within (get_or_default all c.loop-update.update-index _ no_update within)
    (c.loop-update.invariant.wrote k) (c.in_err-write.ensures.err k)

pub loop-update-preserved : goal.loop-update-preserved
loop-update-preserved g c = record {
  wrote = λ k.
      let all : List Update = c.args.updates.now in
      let within : c.loop-update.update-index < length all = omega arith in
      wrote_more all c.loop-update.update-index _ (g.D.Device.history c.args.device.now) (g.D.Device.history c.loop-update.device)
      (g.D.Device.history c.write.new.self) within (get_or_default all c.loop-update.update-index _ no_update within)
      (c.loop-update.invariant.wrote k) (c.in_ok-write.ensures.ok k);
  size = c.in_ok-write.ensures.size ∙ c.loop-update.invariant.size;
  none = c.in_ok-write.ensures.cause.ok ∙ c.loop-update.invariant.none;
}

pub returns-in_err-sync-clause-moments : goal.returns-in_err-sync-clause-moments
returns-in_err-sync-clause-moments g c = λ k.
    left_alone c.args.updates.now c.loop-update.update-index (g.D.Device.history c.args.device.now) (g.D.Device.history c.loop-update.device)
    (g.D.Device.history c.sync.new.self) (c.loop-update.invariant.wrote k) (c.in_err-sync.ensures.err k)

pub returns-clause-moments : goal.returns-clause-moments
returns-clause-moments g c = λ k.
    synced_moments c.args.updates.now c.loop-update.update-index (g.D.Device.history c.args.device.now) (g.D.Device.history c.loop-update.device)
    (g.D.Device.history c.sync.new.self) (c.loop-update.invariant.wrote k) (c.in_ok-sync.ensures.ok k)

pub returns-clause-ok : goal.returns-clause-ok
returns-clause-ok g c = λ k.
    synced_fixes c.args.updates.now c.loop-update.update-index (g.D.Device.history c.args.device.now) (g.D.Device.history c.loop-update.device)
    (g.D.Device.history c.sync.new.self) (omega arith) (c.loop-update.invariant.wrote k) (c.in_ok-sync.ensures.ok k)

pub returns-in_err-write-clause-failures : goal.returns-in_err-write-clause-failures
returns-in_err-write-clause-failures g c =
    let all : List Update = c.args.updates.now in
    let i = c.loop-update.update-index in
    let failed : Result (Unit {0}) DiskFault = Err c.in_err-write.field-0.0 in
    let near = c.requires i 0 (omega (arith, length-targets all)) in
    told_counted (g.D.Device.failed c.args.device.now) (g.D.Device.failed c.loop-update.device) (g.D.Device.failed c.write.new.self)
    c.from_residual.result c.in_err-write.field-0.0 (is_told c.from_residual.result c.in_err-write.field-0.0 c.from_residual.ensures.1)
    c.loop-update.invariant.none c.in_err-write.ensures.cause.later
    (counted_of _ _ failed refl c.in_err-write.ensures.cause
    (λ past. omega (arith, c.in_err-write.ensures.range.0 past, c.loop-update.invariant.size, near, get_or-targets all i)))

pub returns-in_err-write-clause-brief : goal.returns-in_err-write-clause-brief
returns-in_err-write-clause-brief g c = λ k.
    failed_brief c.args.updates.now c.loop-update.update-index _ (g.D.Device.history c.args.device.now) (g.D.Device.history c.loop-update.device)
    (g.D.Device.history c.write.new.self) refl (c.loop-update.invariant.wrote k) _ (c.in_err-write.ensures.err k)

pub returns-in_err-sync-clause-brief : goal.returns-in_err-sync-clause-brief
returns-in_err-sync-clause-brief g c = λ k.
    alone_brief c.args.updates.now c.loop-update.update-index _ (g.D.Device.history c.args.device.now) (g.D.Device.history c.loop-update.device)
    (g.D.Device.history c.sync.new.self) refl (c.loop-update.invariant.wrote k) (c.in_err-sync.ensures.err k)

pub returns-clause-brief : goal.returns-clause-brief
returns-clause-brief g c = λ k.
    synced_brief c.args.updates.now c.loop-update.update-index _ (g.D.Device.history c.args.device.now) (g.D.Device.history c.loop-update.device)
    (g.D.Device.history c.sync.new.self) refl (c.loop-update.invariant.wrote k) (c.in_ok-sync.ensures.ok k)
