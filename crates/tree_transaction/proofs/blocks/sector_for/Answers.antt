use Rattle.std.proofs.Common.{◌∙◌, ℕ, List, Option, sym, subst}
use Rattle.tree_transaction.specs.Blocks.{GetsSector}
use Rattle.tree_transaction.proofs.BlockLaws.{gets_old, gets_new, if_both}
use Rattle.tree_transaction.proofs.blocks.sector_for.Goals as goal

pub returns-in-Some-clause-gets : goal.returns-in-Some-clause-gets
returns-in-Some-clause-gets c = gets_old c.args.first c.args.places.now c.args.blocks.now c.args.block c.in-Some.sector (sym c.at.ensures ∙ c.in-Some.is)

pub returns-in-None-clause-gets : goal.returns-in-None-clause-gets
returns-in-None-clause-gets c = if_both c.take_sector.result c.take_sector.ensures.taken c.take_sector.ensures.blocks (λ sector taken blocks.
    subst (λ (now : List (Option ℕ)). GetsSector c.args.first c.args.places.now c.take_sector.new.places c.args.blocks.now now c.args.block sector) (sym blocks)
    (gets_new c.args.first c.args.places.now c.take_sector.new.places c.args.blocks.now c.args.block sector c.requires.within (sym c.at.ensures ∙ c.in-None.is) taken))
