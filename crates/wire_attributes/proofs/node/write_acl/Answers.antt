use Rattle.xdr.proofs.Writing.{wrote_on, wrote_exit}
use Rattle.wire_attributes.proofs.NodeSizes.{list_text}
use Rattle.wire_attributes.proofs.node.write_acl.Goals as goal

pub returns-in_err-write_u32 : goal.returns-in_err-write_u32
returns-in_err-write_u32 c = rw (list_text c.args.acl.now) (wrote_exit _ c.from_residual.ensures.1 c.in_err-write_u32.ensures.wrote)

pub returns : goal.returns
returns c = rw (list_text c.args.acl.now) (wrote_on c.in_ok-write_u32.ensures.wrote c.write_aces.ensures)
