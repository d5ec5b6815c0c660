use Rattle.std.proofs.Common.{ℕ, rules}
use Rattle.std.proofs.lemmas.Simd.{map-map}
use Rattle.model.specs.Sessions.Opens as model
use Rattle.opens.specs.Views.{entry_of, opens_of}
use Rattle.opens.proofs.opens.Opens.clients.Goals as goal

pub returns : goal.returns
unfolding opens_of
returns c = rw (map-map (λ (entry : ℕ × model.Open). entry.1.client) entry_of c.args.self.now.list.items) (search rules)
