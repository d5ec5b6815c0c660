use Rattle.xdr.specs.Forms.{fixed_opaque, opaque}
use Rattle.xdr.proofs.Sequences.{one_encoding}
use Rattle.xdr.proofs.Opaques.{fixed_exact, opaque_exact}
use Rattle.xdr.proofs.laws.opaques_are_exact.Goals as goal

pub returns-clause-fixed : goal.returns-clause-fixed
returns-clause-fixed c = fixed_exact

pub returns-clause-one_fixed : goal.returns-clause-one_fixed
returns-clause-one_fixed c = λ n. one_encoding (fixed_opaque n) (fixed_exact n)

pub returns-clause-counted : goal.returns-clause-counted
returns-clause-counted c = opaque_exact

pub returns-clause-one_counted : goal.returns-clause-one_counted
returns-clause-one_counted c = λ limit small. one_encoding (opaque limit) (opaque_exact limit small)
