use Rattle.std.proofs.Common.{arith, rules}
use Rattle.std.proofs.lemmas.Grind.{common_steps}
use Rattle.fs.specs.Views.{fs_of}
use Rattle.fs.proofs.BytesLaws.{bytes_by}
use Rattle.std.proofs.Math.Facts.{Fits-lt-pow}
use Rattle.fs.proofs.fs.Fs.taken.Goals as goal

pub returns-clause-bytes : goal.returns-clause-bytes
returns-clause-bytes g c = bytes_by c.args.bytes.now (λ i. Fits-lt-pow (c.type_inv.bytes i))

pub returns-clause-taken : goal.returns-clause-taken
unfolding fs_of
returns-clause-taken g c = grind (arith, common_steps)

pub returns-clause-few : goal.returns-clause-few
unfolding fs_of
returns-clause-few g c = search rules
