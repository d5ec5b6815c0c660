use Rattle.std.proofs.Common.{◌≡◌, ◌-◌, ℕ, List, length, drop, take, ap, ◌∙◌, arith, take_all}
use Rattle.std.proofs.Math.Facts.{Fits-lt-pow}
use Rattle.std.proofs.lemmas.List.{length-drop}
use Rattle.std.specs.Int.{w32}
use Rattle.xdr.specs.Grammar.{number_at}
use Rattle.compound.specs.Ahead.{number_of_read}
use Rattle.compound.proofs.AheadLaws.{told_ahead}
use Rattle.compound.proofs.progress.Progress.ahead.Goals as goal

pub returns-in-None : goal.returns-in-None
returns-in-None c asked is =
    let operations = c.args.operations.now in
    let position = c.args.self.now.position in
    let rest : take (length operations - position) (drop position operations) ≡ drop position operations =
    take_all (length operations - position) (drop position operations) (omega (arith, length-drop position operations)) in
    told_ahead asked c.args.self.now operations (λ i. Fits-lt-pow (c.type_inv.operations i)) is c.in-None.is c.result_number.result
    (c.result_number.ensures ∙ ap (λ (bytes : List ℕ). number_of_read (number_at w32 bytes)) rest)
