use Rattle.std.proofs.Common.{rules, tests}
use Rattle.opens.specs.Views.{opens_of}
use Rattle.opens.proofs.Naming.{named_at, named_some}
use Rattle.opens.proofs.opens.Opens.named.Goals as goal

pub returns-clause-some : goal.returns-clause-some
returns-clause-some c =
    named_some c.args.run c.read_u64.result c.args.other.now (opens_of c.args.self.now) c.at.result c.at.ensures.some
    (named_at c.args.run c.read_u64.result c.args.other.now (opens_of c.args.self.now) (search (rules, tests)) (search (rules, tests)))
    (search (rules, tests))
