use Rattle.std.proofs.Common.{◌≡◌, inl, inr, ⊎_elim, Contains}
use Rattle.journal.proofs.Cachings.{kept_cases}
use Rattle.journal.proofs.cache.Cache.keep.Goals as goal

pub returns-then-n-end : goal.returns-then-n-end
returns-then-n-end c = λ entry there. ⊎_elim
    (λ (was : Contains c.args.self.now.sectors.entries entry). inl was)
    (λ (one : entry ≡ (c.args.n, c.args.content.now)). inr (c.if-n-ge-FIRST_TARGET.true, c.if-n-end.true, one))
    (kept_cases c.push.result c.args.self.now.sectors c.push.new.self c.args.n c.args.content.now c.push.ensures.entries c.push.ensures.err entry there)
