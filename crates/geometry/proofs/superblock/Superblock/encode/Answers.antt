use Rattle.std.proofs.Common.{◌≡◌, ◌+◌, ◌∙◌, ℕ, length, take, sym, ap, arith}
use Rattle.geometry.proofs.Written.{written}
use Rattle.geometry.proofs.superblock.Superblock.encode.Goals as goal

pub returns : goal.returns
returns c =
    let sixteen : length c.args.self.now.identity ≡ 16 = omega arith in
    written c.args.self.now c.args.restarts c.put_header.new.sector c.put_zeros.new.sector c.put_u64.new.sector
    c.put_bytes.new.sector c.put_zeros-2.new.sector c.put_zeros-2.ensures.len
    c.put_header.ensures.prefix c.put_zeros.ensures.prefix c.put_u64.ensures.prefix
    (ap (λ (n : ℕ). take (48 + n) c.put_bytes.new.sector) (sym sixteen)
    ∙ c.put_bytes.ensures.prefix)
    c.put_zeros-2.ensures.prefix
