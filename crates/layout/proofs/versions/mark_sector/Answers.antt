use Rattle.std.proofs.Common.{ℕ, Option, sym, ap}
use Rattle.disk.specs.Calls as calls
use Rattle.layout.specs.Stands.{mark_held}
use Rattle.layout.proofs.versions.mark_sector.Goals as goal

pub returns-in-None : goal.returns-in-None
unfolding calls.zero_sector
returns-in-None c = sym (ap (λ (mark : Option ℕ). mark_held mark) c.in-None.is)
