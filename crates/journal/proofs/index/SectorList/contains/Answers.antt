use Rattle.std.proofs.Common.{◌∙◌}
use Rattle.journal.proofs.Indexes.{has_found}
use Rattle.journal.proofs.index.SectorList.contains.Goals as goal

pub returns : goal.returns
returns c =
    c.is_some.ensures
    ∙ has_found c.find.result c.args.self.now.sectors.items c.args.n c.find.ensures.found c.find.ensures.none
