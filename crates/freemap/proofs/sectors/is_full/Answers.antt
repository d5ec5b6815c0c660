use Rattle.std.proofs.Common.{sym, ◌∙◌}
use Rattle.std.proofs.Math.Facts.{Fits-lt-pow}
use Rattle.std.proofs.lemmas.Bool.{eqb-true}
use Rattle.freemap.proofs.Setting.{full_word}
use Rattle.freemap.proofs.sectors.is_full.Goals as goal

pub returns : goal.returns
returns c = λ full. full_word c.args.bytes.now (λ i. Fits-lt-pow (c.type_inv.bytes i)) (sym c.read_u64.ensures ∙ eqb-true c.read_u64.result 18446744073709551615 full)
