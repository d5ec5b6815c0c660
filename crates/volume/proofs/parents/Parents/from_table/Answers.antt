use Rattle.std.proofs.Common.{◌+◌, ℕ, Some, Vec, Global, sym, ap, subst, ◌∙◌, arith}
use Rattle.node_table.specs.Tables.{node_number}
use Rattle.layout.specs.CachedNodes.{CachedNode}
use Rattle.layout.specs.SumLaws.{numbers_of}
use Rattle.tree_check.specs.Trees.{led_by}
use Rattle.volume.specs.ParentNotes.{IsNoted}
use Rattle.volume.proofs.ParentNotes.{AreNoted, all-noted, directory-noted, free-place}
use Rattle.volume.proofs.parents.Parents.from_table.Goals as goal
use Rattle.volume.proofs.parents.Parents.from_table.Goals.{in-Some, in_default}

pub loop-place-preserved : goal.loop-place-preserved
loop-place-preserved c = elim c.match-cached.branch [
  | in-Some w ↦
      let table = c.args.table.now in
      let inside = w.cached-in-Some.inside in
      let names_are = ap (λ (cached_node : CachedNode). cached_node.names) w.cached-in-Some.view_is in
      let number_is = ap (λ (cached_node : CachedNode). node_number (Some cached_node)) w.cached-in-Some.view_is in
      directory-noted table c.requires.tree c.requires.apart c.loop-place.place c.loop-place.numbers.items c.loop-place.invariant c.match-cached.numbers.items
      (numbers_of inside.names) inside.inode.number
      (ap node_number w.in-Some.ensures.some ∙ sym number_is) (ap led_by w.in-Some.ensures.some ∙ ap numbers_of (sym names_are))
      (subst (λ (v : Vec ℕ Global). IsNoted table c.loop-place.numbers.items v.items (numbers_of inside.names) inside.inode.number) (sym w.numbers-is) w.note_names.ensures)
  | in_default w ↦
      subst (λ (v : Vec ℕ Global). AreNoted c.args.table.now v.items (c.loop-place.place + 1)) (sym w.numbers-is)
      (free-place c.args.table.now c.requires.tree c.requires.apart c.loop-place.place c.loop-place.numbers.items c.loop-place.invariant (ap led_by w.in_default.ensures.none))
]

pub returns : goal.returns
returns c = all-noted c.args.table.now c.loop-place.numbers.items c.loop-place.place c.requires.tree (omega (arith, c.places-place-end.ensures.places, c.loop-place-test.false, c.loop-place.auto.place-end)) c.loop-place.invariant
