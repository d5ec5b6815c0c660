use Rattle.std.proofs.Common.{◌∙◌, ◌++◌, List, length, take, ap}
use Rattle.std.specs.Int.{w16, to_be_bytes}
use Rattle.model_tree.specs.declared.acl.Ace.{Ace}
use Rattle.inode.specs.Fields.{fields_of}
use Rattle.inode.specs.Encoding.{inode_sector, second_count, acl_bytes, nine}
use Rattle.inode.proofs.Parts.{inode_sector-written}
use Rattle.inode.proofs.writing.to_sector.Goals as goal

pub returns : goal.returns
unfolding inode_sector
returns c =
    inode_sector-written c.args.form (fields_of c.args.inode.now) c.put_head.new.sector c.put_run_sectors.new.sector c.put_u16.new.sector c.put_zeros.new.sector c.put_entries.new.sector (nine c.deref.result.now) (to_be_bytes w16 c.second_count-count.result) (ap nine c.deref.ensures.value)
    (ap (to_be_bytes w16) (c.second_count-count.ensures ∙ ap (λ (aces : List Ace). second_count c.args.form (length aces)) c.as_slice.ensures))
    c.put_run_sectors.ensures.prefix c.put_u16.ensures.prefix c.put_zeros.ensures.prefix
    (c.put_entries.ensures ∙ ap (λ aces. take 128 c.put_zeros.new.sector ++ acl_bytes aces) c.as_slice-2.ensures) _ c.put_head.ensures.prefix
