use Rattle.std.proofs.Common.{◌≡◌, ◌+◌, ◌*◌, ◌∙◌, ℕ, List, Option, Some, None, length, get_or, ap, sym, subst}
use Rattle.std.proofs.lemmas.List.{length-set, get_or-set_same}
use Rattle.disk.specs.Calls.{zero_sector}
use Rattle.disk.specs.Moments.{Image, applied}
use Rattle.sector.specs.Placed.{placed}
use Rattle.tree_transaction.specs.Blocks.{WritesBytes, GetSectors}
use Rattle.tree_transaction.proofs.BlockLaws.{writes_set, writes_hole, writes_full, sector-within, takes_sector, changes_one, elsewhere}
use Rattle.tree_transaction.proofs.blocks.write_block.Goals as goal

pub write_over-requires-clause-within : goal.write_over-requires-clause-within
write_over-requires-clause-within g c =
    let region = c.requires.region.0 in
    sector-within c.args.first _ c.args.places.now c.args.blocks.now c.args.part.block c.in-Some.sector c.requires.region.1 region.marked (sym c.at.ensures ∙ c.in-Some.is)

pub returns-in_ok-write_over-in-Some-2-clause-bytes : goal.returns-in_ok-write_over-in-Some-2-clause-bytes
returns-in_ok-write_over-in-Some-2-clause-bytes g c word =
    let region = c.requires.region.0 in
    writes_set c.args.first c.args.places.now _ _ c.args.blocks.now c.args.part.block c.in-Some.sector c.args.part.from c.args.part.bytes.now region.marked (sym c.at.ensures ∙ c.in-Some.is)
    (c.in_ok-write_over-in-Some-2.ensures.whole word) c.requires.part.1 (c.in_ok-write_over-in-Some-2.ensures.image word)

pub returns-in_ok-write_over-in-Some-2-clause-others : goal.returns-in_ok-write_over-in-Some-2-clause-others
returns-in_ok-write_over-in-Some-2-clause-others g c =
    changes_one c.args.updates.now c.write_over.new.updates c.args.blocks.now c.args.part.block c.in-Some.sector (sym c.at.ensures ∙ c.in-Some.is) c.in_ok-write_over-in-Some-2.ensures.others

pub returns-in_ok-write_new-in-None-clause-bytes : goal.returns-in_ok-write_new-in-None-clause-bytes
returns-in_ok-write_new-in-None-clause-bytes g c word =
    let image : Image = g.S.Sectors.image (g.S.Sectors.kept c.args.base.now) in
    let region = c.requires.region.0 in
    subst (λ (blocks : List (Option ℕ)). WritesBytes (applied c.args.updates.now image) (applied c.write_new-in-None.new.updates image) c.args.blocks.now blocks (4096 * c.args.part.block + c.args.part.from) c.args.part.bytes.now)
    (sym c.in_ok-sector-in-None.ensures.blocks)
    (writes_hole c.args.first c.args.places.now c.take_sector.new.places (applied c.args.updates.now image) (applied c.write_new-in-None.new.updates image) c.args.blocks.now c.args.part.block c.in_ok-sector-in-None.sector c.args.part.from c.args.part.bytes.now
    region.marked c.requires.part.0 (sym c.at.ensures ∙ c.in-None.is) c.in_ok-sector-in-None.ensures.taken c.requires.part.1 (c.in_ok-write_new-in-None.ensures.image image))

pub returns-in_ok-write_new-in-None-clause-gets : goal.returns-in_ok-write_new-in-None-clause-gets
returns-in_ok-write_new-in-None-clause-gets g c = (
  subst (λ (blocks : List (Option ℕ)). GetSectors c.args.first c.args.places.now c.take_sector.new.places c.args.blocks.now blocks) (sym c.in_ok-sector-in-None.ensures.blocks)
      (takes_sector c.args.first c.args.places.now c.take_sector.new.places c.args.blocks.now c.args.part.block c.in_ok-sector-in-None.sector c.requires.part.0 (sym c.at.ensures ∙ c.in-None.is) c.in_ok-sector-in-None.ensures.taken),
  ap length c.in_ok-sector-in-None.ensures.blocks ∙ length-set c.args.blocks.now c.args.part.block (Some c.in_ok-sector-in-None.sector),
)

pub returns-in_ok-write_new-in-None-clause-others : goal.returns-in_ok-write_new-in-None-clause-others
returns-in_ok-write_new-in-None-clause-others g c =
    let is_set : get_or c.take_sector.new.blocks c.args.part.block None ≡ Some c.in_ok-sector-in-None.sector =
    ap (λ (b : List (Option ℕ)). get_or b c.args.part.block None) c.in_ok-sector-in-None.ensures.blocks ∙ get_or-set_same c.args.blocks.now c.args.part.block (Some c.in_ok-sector-in-None.sector) None c.requires.part.0 in
    changes_one c.args.updates.now c.write_new-in-None.new.updates c.take_sector.new.blocks c.args.part.block c.in_ok-sector-in-None.sector is_set
    (λ image n off. elsewhere (applied c.args.updates.now image) (applied c.write_new-in-None.new.updates image) c.in_ok-sector-in-None.sector (placed zero_sector c.args.part.from c.args.part.bytes.now) (c.in_ok-write_new-in-None.ensures.image image) n off)

pub returns-in_ok-write_new-in-Some-clause-bytes : goal.returns-in_ok-write_new-in-Some-clause-bytes
returns-in_ok-write_new-in-Some-clause-bytes g c word =
    let image : Image = g.S.Sectors.image (g.S.Sectors.kept c.args.base.now) in
    let region = c.requires.region.0 in
    writes_full c.args.first c.args.places.now (applied c.args.updates.now image) (applied c.write_new.new.updates image) c.args.blocks.now c.args.part.block c.in-Some.sector c.args.part.from c.args.part.bytes.now region.marked (sym c.at.ensures ∙ c.in-Some.is) c.if-part-eq-SECTOR.true c.requires.part.1 (c.in_ok-write_new-in-Some.ensures.image image)

pub returns-in_ok-write_new-in-Some-clause-others : goal.returns-in_ok-write_new-in-Some-clause-others
returns-in_ok-write_new-in-Some-clause-others g c =
    changes_one c.args.updates.now c.write_new.new.updates c.args.blocks.now c.args.part.block c.in-Some.sector (sym c.at.ensures ∙ c.in-Some.is)
    (λ image n off. elsewhere (applied c.args.updates.now image) (applied c.write_new.new.updates image) c.in-Some.sector (placed zero_sector c.args.part.from c.args.part.bytes.now) (c.in_ok-write_new-in-Some.ensures.image image) n off)
