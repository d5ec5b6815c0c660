use Rattle.std.proofs.Common.{◌∙◌, None, sym, arith}
use Rattle.std.proofs.lemmas.Bool.{false≢true}
use Rattle.volume_load.proofs.MigrationLaws.{one_mark, told}
use Rattle.volume_load.proofs.SectorLaws.{zero-is}
use Rattle.volume_load.proofs.migration.told_mark.Goals as goal

pub returns-then-is_zero_from : goal.returns-then-is_zero_from
returns-then-is_zero_from c = λ mark fits same. one_mark None mark (omega arith) fits (sym (zero-is c.args.content.now c.told-content (c.is_zero_from.ensures.zero.0 c.if-is_zero_from.true)) ∙ same)

pub returns : goal.returns
returns c = λ mark fits same.
    told c.args.content.now c.u32_at.result mark (λ zeros. false≢true (sym c.if-is_zero_from.false ∙ c.is_zero_from.ensures.zero.1 zeros)) c.u32_at.ensures.value fits same
