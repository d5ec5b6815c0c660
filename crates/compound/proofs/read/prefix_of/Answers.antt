use Rattle.std.proofs.Common.{refl}
use Rattle.xdr.specs.Grammar.{number}
use Rattle.compound.proofs.read.prefix_of.Goals as goal
use Rattle.compound.proofs.read.prefix_of.Goals.{then-is_end, else-is_end}

pub returns : goal.returns
unfolding number
returns c = elim c.if-is_end.branch [
  | then-is_end w ↦ rw (c.copy_from_slice.ensures.after, c.copy_from_slice-2.ensures.after, c.to_be_bytes.ensures, c.to_be_bytes-2.ensures, w.truth-is, w.if-is_end.true) refl
  | else-is_end w ↦ rw (c.copy_from_slice.ensures.after, c.copy_from_slice-2.ensures.after, c.to_be_bytes.ensures, c.to_be_bytes-2.ensures, w.truth-is, w.if-is_end.false) refl
]
