use Rattle.xdr.specs.Grammar.{unsigned_int, unsigned_hyper}
use Rattle.xdr.proofs.Numbers.{int_exact, hyper_exact}
use Rattle.xdr.proofs.Sequences.{one_encoding}
use Rattle.xdr.proofs.Passing.{below_exact}
use Rattle.xdr.proofs.laws.numbers_are_exact.Goals as goal

pub returns-clause-int : goal.returns-clause-int
returns-clause-int c = int_exact

pub returns-clause-one_int : goal.returns-clause-one_int
returns-clause-one_int c = one_encoding unsigned_int int_exact

pub returns-clause-hyper : goal.returns-clause-hyper
returns-clause-hyper c = hyper_exact

pub returns-clause-one_hyper : goal.returns-clause-one_hyper
returns-clause-one_hyper c = one_encoding unsigned_hyper hyper_exact

pub returns-clause-enumeration : goal.returns-clause-enumeration
returns-clause-enumeration c = below_exact
