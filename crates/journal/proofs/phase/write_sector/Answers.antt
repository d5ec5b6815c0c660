use Rattle.std.proofs.Common.{◌∷◌, [], List, arith}
use Rattle.disk.specs.declared.update.Update.{Update}
use Rattle.journal.proofs.Phases.{synced_fixes, synced_moments}
use Rattle.journal.proofs.phase.write_sector.Goals as goal

pub returns-clause-moments : goal.returns-clause-moments
returns-clause-moments g c = λ k.
    let all : List Update = (record { target = c.args.n; content = c.args.content.now }) ∷ [] in
    synced_moments all 1 (g.D.Device.history c.args.device.now) (g.D.Device.history c.write.new.self) (g.D.Device.history c.sync.new.self)
    (c.in_ok-write.ensures.ok k) (c.in_ok-sync.ensures.ok k)

pub returns-clause-ok : goal.returns-clause-ok
returns-clause-ok g c = λ k.
    let all : List Update = (record { target = c.args.n; content = c.args.content.now }) ∷ [] in
    synced_fixes all 1 (g.D.Device.history c.args.device.now) (g.D.Device.history c.write.new.self) (g.D.Device.history c.sync.new.self)
    (omega arith) (c.in_ok-write.ensures.ok k) (c.in_ok-sync.ensures.ok k)
