use Rattle.std.proofs.Common.{refl}
use Rattle.journal.specs.Journal.{log_of, listed}
use Rattle.journal.proofs.Recovers.{has_recovered}
use Rattle.journal.proofs.journal.Journal.mount_in.Goals as goal

pub returns-in-Ok-recover-clause-mounted : goal.returns-in-Ok-recover-clause-mounted
unfolding log_of
returns-in-Ok-recover-clause-mounted g c = λ k.
    has_recovered c.args.area c.args.area c.requires.area (g.D.Device.size c.recover.new.device) (g.D.Device.history c.args.device) (g.D.Device.history c.recover.new.device)
    c.recover.new.recorded.targets.items (listed c.in-Ok.room.pending.items) refl c.in-Ok-recover.ensures.none.0
    (c.in-Ok-recover.ensures.moments k) (c.in-Ok-recover.ensures.ok k) (λ closed. (c.in-Ok-recover.ensures.closed k closed).ok)
    (λ n within. g.met.D.Device.holds_sectors k c.recover.new.device n within)
