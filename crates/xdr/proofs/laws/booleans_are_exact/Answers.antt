use Rattle.xdr.specs.Forms.{boolean}
use Rattle.xdr.proofs.Sequences.{one_encoding}
use Rattle.xdr.proofs.Passing.{boolean_exact}
use Rattle.xdr.proofs.laws.booleans_are_exact.Goals as goal

pub returns-clause-exact : goal.returns-clause-exact
returns-clause-exact c = boolean_exact

pub returns-clause-one : goal.returns-clause-one
returns-clause-one c = one_encoding boolean boolean_exact
