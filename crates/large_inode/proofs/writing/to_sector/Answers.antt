use Rattle.std.proofs.Common.{ap}
use Rattle.extent_tree.specs.Encoding.{entries_bytes}
use Rattle.large_inode.specs.Fields.{fields_of}
use Rattle.large_inode.specs.Encoding.{acl_part}
use Rattle.large_inode.proofs.Written.{sector_written}
use Rattle.large_inode.proofs.writing.to_sector.Goals as goal

pub returns : goal.returns
returns c =
    sector_written (fields_of c.args.inode.now) c.put_head.new.sector c.put_verifier.new.sector c.put_acl.new.sector c.put_entries.new.sector c.put_zeros.new.sector (acl_part c.as_slice.result.now) (entries_bytes c.deref.result.now) c.put_zeros.ensures.len c.requires.extents
    (ap acl_part c.as_slice.ensures) (ap entries_bytes c.deref.ensures.value) c.put_head.ensures.prefix c.put_verifier.ensures.prefix c.put_acl.ensures.prefix c.put_entries.ensures.prefix c.put_zeros.ensures.prefix
