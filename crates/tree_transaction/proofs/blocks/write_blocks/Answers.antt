use Rattle.std.proofs.Common.{◌≡◌, ◌≤◌, ◌+◌, ◌-◌, ◌*◌, ◌/◌, ◌%◌, ◌++◌, ◌∙◌, ℕ, List, length, take, drop, inl, inr, refl, sym, ap, subst, arith}
use Rattle.std.specs.Prelude.{Err}
use Rattle.std.proofs.lemmas.Bool.{cases_lt}
use Rattle.std.proofs.Math.Seq.{take-add}
use Rattle.std.proofs.lemmas.List.{length-take}
use Rattle.disk.specs.Moments.{applied}
use Rattle.tree_transaction.specs.Blocks.{WritesBytes}
use Rattle.tree_transaction.proofs.BlockLaws.{bytes_none, bytes_on, gets_none, gets_on, fills_on, changes_on, region_on, parts_counted}
use Rattle.tree_transaction.proofs.CountLaws.{set_less}
use Rattle.tree_transaction.specs.declared.fault.TransactionFault.{TransactionFault}
use Rattle.tree_transaction.specs.declared.fault.TransactionFault.TheVariants as fault
use Rattle.tree_transaction.proofs.FaultLaws.{told}
use Rattle.tree_transaction.proofs.blocks.write_blocks.Goals as goal

pub loop-done-init : goal.loop-done-init
loop-done-init g c = record {
  within = omega arith;
  bytes = λ word. bytes_none (applied c.args.updates.now (g.S.Sectors.image (g.S.Sectors.kept c.args.base.now))) c.args.blocks.now c.args.offset;
  gets = gets_none c.args.first c.args.places.now c.args.blocks.now;
  long = refl;
  fills = refl;
  others = λ image n none. refl;
  border = inl refl;
  none = λ e. omega arith;
  count = omega arith;
  kept = refl;
  health = refl;
}

pub write_block-requires-clause-region : goal.write_block-requires-clause-region
write_block-requires-clause-region g c =
    let inv = c.loop-done.invariant in
    let region = c.requires.region.0 in
    let gets = inv.gets in (
      region_on c.args.first c.args.places.now c.loop-done.places c.args.blocks.now c.loop-done.blocks region gets (omega (arith, inv.long, region.few)),
      (let same = ap g.S.Sectors.size inv.kept in omega (arith, gets.len, same, c.requires.region.1)),
    )

pub returns-in_err-filled-clause-full : goal.returns-in_err-filled-clause-full
returns-in_err-filled-clause-full g c full =
    let inv = c.loop-done.invariant in
    let gets = inv.gets in
    let finds = c.in_err-filled.ensures.full (ap (λ (f : TransactionFault). Err f) (told c.from_residual.result c.in_err-filled.field-0.0 fault.Full c.from_residual.ensures.1 full)) in
    omega (arith, gets.free, inv.long, finds.full, set_less c.loop-done.blocks ((c.args.offset + c.loop-done.done) / 4096) (omega (arith, inv.long, c.requires.within, c.loop-done-test.true)) finds.hole)

pub loop-done-preserved : goal.loop-done-preserved
loop-done-preserved g c =
    let inv = c.loop-done.invariant in
    let image = g.S.Sectors.image (g.S.Sectors.kept c.args.base.now) in
    let bytes : List ℕ = c.args.bytes.now in
    let d = c.loop-done.done in
    let more = c.min-count.result in
    let at = 4096 * ((c.args.offset + d) / 4096) + (c.args.offset + d) % 4096 in
    let part : List ℕ = take (d + more - d) (drop d bytes) in
    let few : more ≤ length bytes - d = omega (arith, c.min-count.ensures) in
    let at_is : at ≡ c.args.offset + length (take d bytes) = omega (arith, length-take d bytes, c.loop-done-test.true) in
    let whole : take d bytes ++ part ≡ take (d + more) bytes =
    (let n : d + more - d ≡ more = omega arith in ap (λ (n : ℕ). take d bytes ++ take n (drop d bytes)) n) ∙ sym (take-add d more bytes) in
    let gets = c.in_ok-filled.ensures.gets in
    let next = gets.0 in
    record {
      within = omega (arith, c.loop-done-test.true);
      bytes = λ word.
          let step : WritesBytes (applied c.loop-done.updates image) (applied c.write_block.new.updates image) c.loop-done.blocks c.write_block.new.blocks at part =
          subst (λ k. WritesBytes (applied c.loop-done.updates (g.S.Sectors.image k)) (applied c.write_block.new.updates (g.S.Sectors.image k)) c.loop-done.blocks c.write_block.new.blocks at part) inv.kept (c.in_ok-filled.ensures.bytes word) in
          subst (λ (w : List ℕ). WritesBytes (applied c.args.updates.now image) (applied c.write_block.new.updates image) c.args.blocks.now c.write_block.new.blocks c.args.offset w) whole
          (bytes_on (applied c.args.updates.now image) (applied c.loop-done.updates image) (applied c.write_block.new.updates image) c.args.blocks.now c.loop-done.blocks c.write_block.new.blocks c.args.offset at (take d bytes) part at_is (inv.bytes word) step);
      gets = gets_on c.args.first c.args.places.now c.loop-done.places c.write_block.new.places c.args.blocks.now c.loop-done.blocks c.write_block.new.blocks inv.gets gets.0;
      long = gets.1 ∙ inv.long;
      fills = fills_on c.loop-done.filled c.in_ok-filled.field-0 c.args.blocks.now c.loop-done.blocks c.write_block.new.blocks inv.fills c.in_ok-filled.ensures.fills;
      others = changes_on c.args.updates.now c.loop-done.updates c.write_block.new.updates c.loop-done.blocks c.write_block.new.blocks next.more inv.others c.in_ok-filled.ensures.others;
      border = elim (cases_lt (length bytes - d) (4096 - (c.args.offset + d) % 4096)) [
        | inl low ↦ inr (inr (omega (arith, c.min-count.ensures, c.loop-done-test.true)))
        | inr high ↦ inr (inl (omega (arith, c.min-count.ensures)))
      ];
      none = λ e. absurd (omega (arith, c.min-count.ensures, c.loop-done-test.true));
      count = parts_counted c.args.offset d more (length bytes) (length c.args.updates.now) (length c.loop-done.updates) (length c.write_block.new.updates) c.loop-done-test.true c.min-count.ensures inv.border inv.none inv.count c.write_block.ensures.count;
      kept = c.write_block.ensures.kept ∙ inv.kept;
      health = (let reads = c.in_ok-filled.ensures.health in reads.stays (λ faulted. cc)) ∙ inv.health;
    }
