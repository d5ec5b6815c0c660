use Rattle.std.proofs.Common.{rules, List, ℕ, ◌++◌, take, ap, ◌∙◌}
use Rattle.inode.proofs.EntryLemmas.{chain, ace_parts}
use Rattle.large_inode.proofs.entries.put_ace.Goals as goal

pub returns-clause-prefix : goal.returns-clause-prefix
returns-clause-prefix c =
    chain c.args.sector.now c.put_bytes.new.sector c.put_u32.new.sector c.put_u32-2.new.sector c.put_zeros.new.sector _ _ _ _ c.args.at c.put_bytes.ensures.prefix c.put_u32.ensures.prefix c.put_u32-2.ensures.prefix c.put_zeros.ensures.prefix
    ∙ ap (λ (x : List ℕ). take c.args.at c.args.sector.now ++ x) (ace_parts c.kind_byte.result c.who_bytes-who.result.0 c.bits-flags.result c.bits.result c.who_bytes-who.result.1 c.args.ace c.kind_byte.ensures c.who_bytes-who.ensures.kind (c.bits-flags.ensures (search rules)) (c.bits.ensures (search rules)) c.who_bytes-who.ensures.id)
