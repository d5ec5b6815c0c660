use Rattle.std.proofs.Common.{◌≡◌, ◌+◌, ◌-◌, ◌∙◌, List, Bool, None, false, length, get_or, take, set, ap, sym, arith}
use Rattle.std.proofs.lemmas.List.{length-set}
use Rattle.layout.specs.Marks.{times_set, mark_by}
use Rattle.tree_transaction.proofs.FreeLaws.{gives_block, take-hole}
use Rattle.tree_transaction.proofs.numbers.give_blocks.Goals as goal
use Rattle.tree_transaction.proofs.numbers.give_blocks.Goals.{in-Some+in_ok-give, in_default}

pub overflow_sub-sector : goal.overflow_sub-sector
overflow_sub-sector c =
    let h = gives_block c.args.first c.args.places.now c.loop-block.places c.args.blocks.now c.args.from c.loop-block.block c.in-Some.sector c.requires c.loop-block.invariant.marks (sym c.at.ensures ∙ c.in-Some.is) in h.behind

pub give-requires : goal.give-requires
give-requires c =
    let h = gives_block c.args.first c.args.places.now c.loop-block.places c.args.blocks.now c.args.from c.loop-block.block c.in-Some.sector c.requires c.loop-block.invariant.marks (sym c.at.ensures ∙ c.in-Some.is) in h.used

pub loop-block-preserved : goal.loop-block-preserved
loop-block-preserved c =
    let inv = c.loop-block.invariant in
    elim c.match-at.branch [
      | in-Some+in_ok-give w ↦
          let h = gives_block c.args.first c.args.places.now c.loop-block.places c.args.blocks.now c.args.from c.loop-block.block w.in-Some.sector c.requires inv.marks (sym c.at.ensures ∙ w.in-Some.is) in
          let now : c.match-at.places ≡ set c.loop-block.places (w.in-Some.sector - c.args.first) false = w.places-is ∙ w.in_ok-give.ensures.given in
          record {
            marks = λ n. ap (λ (p : List Bool). mark_by c.args.first p n + times_set n (take (c.loop-block.block + 1) c.args.blocks.now)) now ∙ h.marks n;
            len = ap length now ∙ length-set c.loop-block.places (w.in-Some.sector - c.args.first) false ∙ inv.len;
          }
      | in_default w ↦
          let none : get_or c.args.blocks.now c.loop-block.block None ≡ None = sym c.at.ensures ∙ w.in_default.is in
          record {
            marks = λ n. omega (arith, ap (λ (p : List Bool). mark_by c.args.first p n) w.places-is, take-hole n c.args.blocks.now c.loop-block.block none, inv.marks n);
            len = ap length w.places-is ∙ inv.len;
          }
    ]
