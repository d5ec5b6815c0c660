use Rattle.std.proofs.Common.{◌≡◌, ◌+◌, min, length, take, drop, ap, ◌∙◌, arith}
use Rattle.directory.specs.Encoding.{directory_sector}
use Rattle.directory.proofs.Sector.{same_part}
use Rattle.directory.proofs.names.Names.write_sector.Goals as goal

pub returns : goal.returns
returns c =
    let records = c.self.inside.records in
    let from : c.min-from.result ≡ min c.args.first (length records) = omega (arith, c.min-from.ensures, c.len.ensures) in
    let to : c.min-to.result ≡ min (length records) (c.min-from.result + 15) = omega (arith, c.min-to.ensures, c.len-2.ensures) in
    c.write_part.ensures
    ∙ ap directory_sector (same_part records c.args.first c.min-from.result c.min-to.result from to ∙ ap (λ names. take 15 (drop c.args.first names)) c.self.view_is)
