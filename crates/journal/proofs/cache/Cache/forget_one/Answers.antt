use Rattle.std.proofs.Common.{nat_eq}
use Rattle.lru.proofs.CallerLemmas.{Contains-remove_entry}
use Rattle.journal.proofs.Cachings.{removed_gone}
use Rattle.journal.proofs.cache.Cache.forget_one.Goals as goal

pub returns-clause-among : goal.returns-clause-among
returns-clause-among c = λ entry there.
    Contains-remove_entry (nat_eq c.args.n) c.args.self.now.sectors.entries entry (rw c.pop.ensures.entries at there)

pub returns-clause-gone : goal.returns-clause-gone
returns-clause-gone c = λ content there.
    removed_gone c.args.self.now.sectors.entries c.args.n content c.len.ensures.valid.0 (rw c.pop.ensures.entries at there)
