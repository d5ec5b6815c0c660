use Rattle.std.proofs.Common.{◌≡◌, nat_eq, Some}
use Rattle.std.proofs.lemmas.Bool.{eqb-true}
use Rattle.std.proofs.lemmas.Map.Views.{Contains-from_lookup}
use Rattle.std.specs.Map.{lookup}
use Rattle.lru.proofs.CallerLemmas.{Contains-promoted}
use Rattle.journal.proofs.cache.Cache.get.Goals as goal

pub returns-in-Some-clause-found : goal.returns-in-Some-clause-found
returns-in-Some-clause-found c = λ yes.
    let found : lookup (nat_eq c.args.n) c.args.self.now.sectors.entries ≡ Some c.in-Some.kept = cc in
    Contains-from_lookup eqb-true c.args.n c.in-Some.kept c.args.self.now.sectors.entries found

pub returns-in-Some-clause-among : goal.returns-in-Some-clause-among
returns-in-Some-clause-among c = λ entry there.
    Contains-promoted (nat_eq c.args.n) c.args.self.now.sectors.entries entry (rw c.promote.ensures.entries at there)
