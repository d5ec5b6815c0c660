use Rattle.std.proofs.Common.{◌<◌, ◌+◌, ◌∙◌, length, refl, ap, sym, subst}
use Rattle.std.specs.Prelude.{Err}
use Rattle.disk.specs.Moments.{applied}
use Rattle.freemap.specs.Kept.{free_places}
use Rattle.layout.specs.CachedNodes.{CachedNode}
use Rattle.tree_transaction.specs.Blocks.{HaveRegion, GetSectors, FillHoles, WritesBytes, set_blocks}
use Rattle.tree_transaction.specs.declared.fault.TransactionFault.{TransactionFault}
use Rattle.tree_transaction.specs.declared.fault.TransactionFault.TheVariants as fault
use Rattle.tree_transaction.specs.Grown.{grown, blocks_to}
use Rattle.tree_transaction.proofs.FaultLaws.{told}
use Rattle.tree_transaction.proofs.KnownLaws.{overcharged, same_cached}
use Rattle.tree_transaction.proofs.WriteLaws.{grown_region, charged_first}
use Rattle.tree_transaction.proofs.transaction.Transaction.write_blocks_of.Goals as goal

pub write_blocks-requires-clause-region : goal.write_blocks-requires-clause-region
write_blocks-requires-clause-region g c = (
  subst (λ (one : CachedNode). HaveRegion (148 + c.args.self.now.nodes) c.args.self.now.places one.blocks) (sym (c.cached.view_is ∙ c.in_ok-grow_to.ensures))
      (grown_region c.args.self.now c.args.place (c.args.offset + length c.args.bytes.now) c.in_ok-cached.cached c.requires.known.0 c.in_ok-cached.ensures.cached c.requires.file),
  c.requires.known.1,
)

pub returns-in_err-filled-clause-full : goal.returns-in_err-filled-clause-full
returns-in_err-filled-clause-full g c full =
    let end = c.args.offset + length c.args.bytes.now in
    let more = c.in_err-filled.ensures.full (ap (λ (f : TransactionFault). Err f) (told c.from_residual-in_err-filled.result c.in_err-filled.field-0.0 fault.Full c.from_residual-in_err-filled.ensures.1 full)) in
    overcharged c.args.self.now c.args.place c.in_ok-cached.cached (blocks_to end) c.in_ok-cached.ensures.cached
    (charged_first c.args.self.now c.args.place end c.in_ok-cached.cached c.requires.known.0 c.in_ok-cached.ensures.cached c.requires.file
    (subst (λ (one : CachedNode). free_places c.args.self.now.places + set_blocks one.blocks < length one.blocks) (c.cached.view_is ∙ c.in_ok-grow_to.ensures) more))

pub returns-clause-written : goal.returns-clause-written
returns-clause-written g c =
    let grown_is = c.cached.view_is ∙ c.in_ok-grow_to.ensures in
    let end = c.args.offset + length c.args.bytes.now in
    record {
      was = c.in_ok-cached.cached;
      there = c.in_ok-cached.ensures.cached;
      cached_is = ap (λ (one : CachedNode). record one { blocks = c.write_blocks.new.blocks }) grown_is;
      gets = subst (λ (one : CachedNode). GetSectors (148 + c.args.self.now.nodes) c.args.self.now.places c.write_blocks.new.places one.blocks c.write_blocks.new.blocks) grown_is c.in_ok-filled.ensures.gets.0;
      count = c.in_ok-filled.ensures.gets.1 ∙ ap (λ (one : CachedNode). length one.blocks) grown_is;
      others = c.in_ok-filled.ensures.others;
      fills = subst (λ (one : CachedNode). FillHoles c.in_ok-filled.filled one.blocks c.write_blocks.new.blocks) grown_is c.in_ok-filled.ensures.fills;
      cached_nodes = c.in_ok-cached.ensures.cached_nodes;
      nodes = refl;
    }

pub returns-clause-bytes : goal.returns-clause-bytes
returns-clause-bytes g c word was there =
    let base = g.S.Sectors.image (g.S.Sectors.kept c.args.base.now) in
    let end = c.args.offset + length c.args.bytes.now in
    subst (λ (one : CachedNode). WritesBytes (applied c.args.self.now.updates base) (applied c.write_blocks.new.updates base) (grown one end).blocks c.write_blocks.new.blocks c.args.offset c.args.bytes.now)
    (same_cached _ c.args.place c.in_ok-cached.cached was c.in_ok-cached.ensures.cached there)
    (subst (λ (one : CachedNode). WritesBytes (applied c.args.self.now.updates base) (applied c.write_blocks.new.updates base) one.blocks c.write_blocks.new.blocks c.args.offset c.args.bytes.now) (c.cached.view_is ∙ c.in_ok-grow_to.ensures)
    (c.in_ok-filled.ensures.bytes word))
