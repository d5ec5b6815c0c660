use Rattle.std.proofs.Common.{◌∙◌, ap, arith, length, List, ℕ, take}
use Rattle.std.proofs.lemmas.List.{length-append, length-take}
use Rattle.journal.proofs.Behinds.{named_more, named_whole}
use Rattle.journal.proofs.gate.name_all.Goals as goal

pub push_reserved-requires : goal.push_reserved-requires
push_reserved-requires c = omega (
  arith,
  c.requires,
  ap (λ (xs : List ℕ). length xs) c.loop-target.invariant.items,
  length-append c.args.named.now.items (take c.loop-target.target-index c.args.to.now),
  length-take c.loop-target.target-index c.args.to.now,
  c.loop-target.invariant.capacity,
  c.loop-target.named.ok,
)

pub loop-target-preserved : goal.loop-target-preserved
loop-target-preserved c = record {
  items = named_more c.args.named.now.items c.args.to.now c.loop-target.named.items _ c.loop-target.target-index (omega arith) c.loop-target.invariant.items c.push_reserved.ensures.items;
  capacity = c.push_reserved.ensures.capacity ∙ c.loop-target.invariant.capacity;
}

pub returns-clause-items : goal.returns-clause-items
returns-clause-items c = named_whole c.args.named.now.items c.args.to.now c.loop-target.named.items c.loop-target.target-index (omega arith) c.loop-target.invariant.items
