use Rattle.std.proofs.Common.{refl}
use Rattle.layout.specs.Versions.{mark_fields, mark_sector}
use Rattle.layout.proofs.PrefixBytes.{behind_prefix}
use Rattle.layout.proofs.versions.sector_of_mark.Goals as goal

pub returns : goal.returns
unfolding mark_sector
returns c =
    behind_prefix 8 4088 c.put_mark.new.sector c.put_zeros.new.sector (mark_fields c.args.moved) refl
    c.put_zeros.ensures.len c.put_mark.ensures.prefix c.put_zeros.ensures.prefix
