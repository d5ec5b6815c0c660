use Rattle.std.proofs.Common.{◌+◌, ◌∙◌, ℕ, List, Option, length, ap, sym, subst, arith}
use Rattle.std.specs.Prelude.{Err}
use Rattle.tree_transaction.specs.declared.fault.SpaceFault.{SpaceFault}
use Rattle.tree_transaction.specs.declared.fault.SpaceFault.TheVariants as space
use Rattle.tree_transaction.proofs.FaultLaws.{told}
use Rattle.disk.specs.Moments.{applied, put}
use Rattle.tree_transaction.specs.Blocks.{HaveRegion, GetSectors, GetsSector, set_blocks}
use Rattle.tree_transaction.proofs.BlockLaws.{region_holes, gets_holes, writes_one, length-holes}
use Rattle.tree_transaction.proofs.CountLaws.{set_less, set_holes}
use Rattle.tree_transaction.proofs.blocks.write_names.Goals as goal

pub sector_for-requires-clause-region : goal.sector_for-requires-clause-region
sector_for-requires-clause-region c =
    subst (λ (blocks : List (Option ℕ)). HaveRegion c.args.first c.args.places.now blocks) (sym c.in_ok-grow.ensures.ok) (region_holes c.args.first c.args.places.now c.args.blocks.now (c.args.block + 1) c.requires.region (omega (arith, c.requires.within.1)))

pub returns-in_err-sector-clause-full : goal.returns-in_err-sector-clause-full
returns-in_err-sector-clause-full c full =
    let finds = c.in_err-sector.ensures.full (ap (λ (f : SpaceFault). Err f) (told c.from_residual-in_err-sector.result c.in_err-sector.field-0.0 space.Full c.from_residual-in_err-sector.ensures.1 full)) in
    let grown = c.in_ok-grow.ensures.ok in
    let long = ap length grown in
    let some = ap set_blocks grown in
    omega (arith, finds.full, long, some, length-holes c.args.blocks.now (c.args.block + 1), set_holes c.args.blocks.now (c.args.block + 1), set_less c.grow.new.self c.args.block (omega (arith, long, length-holes c.args.blocks.now (c.args.block + 1))) finds.hole)

pub returns-clause-names : goal.returns-clause-names
returns-clause-names c = λ image.
    let region = c.requires.region in
    writes_one c.args.first c.args.places.now c.sector_for.new.places (applied c.args.updates.now image) (applied c.put.new.self image) c.args.blocks.now c.sector_for.new.blocks c.args.block c.in_ok-sector.sector _ c.requires.within.0 region.marked
    (subst (λ (blocks : List (Option ℕ)). GetsSector c.args.first c.args.places.now c.sector_for.new.places blocks c.sector_for.new.blocks c.args.block c.in_ok-sector.sector) c.in_ok-grow.ensures.ok c.in_ok-sector.ensures.gets)
    (c.in_ok-put.ensures.image image ∙ ap (λ (content : List ℕ). put (applied c.args.updates.now image) (record { target = c.in_ok-sector.sector; content = content })) c.write_sector.ensures)

pub returns-clause-gets : goal.returns-clause-gets
returns-clause-gets c =
    let one = c.in_ok-sector.ensures.gets in
    gets_holes c.args.first c.args.places.now c.sector_for.new.places c.args.blocks.now c.sector_for.new.blocks (c.args.block + 1)
    (subst (λ (blocks : List (Option ℕ)). GetSectors c.args.first c.args.places.now c.sector_for.new.places blocks c.sector_for.new.blocks) c.in_ok-grow.ensures.ok one.gets)
