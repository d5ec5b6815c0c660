use Rattle.std.proofs.Common.{refl}
use Rattle.layout.specs.Stands.{number_of_version}
use Rattle.layout.specs.Superblock.{superblock, fields}
use Rattle.layout.proofs.PrefixBytes.{behind_prefix}
use Rattle.volume.proofs.superblock.early_superblock.Goals as goal

pub returns : goal.returns
unfolding superblock
returns c =
    behind_prefix 24 4072 c.put_fields.new.sector c.put_zeros.new.sector (fields (number_of_version c.args.version) c.args.sectors c.args.nodes c.args.run) refl
    c.put_zeros.ensures.len c.put_fields.ensures.prefix c.put_zeros.ensures.prefix
