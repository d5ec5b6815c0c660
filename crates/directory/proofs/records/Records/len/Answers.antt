use Rattle.std.proofs.Common.{length, sym, ap, ◌∙◌}
use Rattle.directory.proofs.Blocks.{counted}
use Rattle.directory.proofs.records.Records.len.Goals as goal

pub returns : goal.returns
returns c = sym (counted _ c.self.inside.count c.self.invariant) ∙ ap length c.self.view_is
