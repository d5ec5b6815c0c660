use Rattle.std.proofs.Common.{Vec, Global, ◌≡◌, ◌∙◌, ap, true, false, sym, refl, arith, inl, inr}
use Rattle.std.specs.List.{list_all}
use Rattle.extent_tree.specs.declared.entry.Entry.{Entry}
use Rattle.extent_tree.specs.Held.{Blocks, entries_by, with_room, root_above}
use Rattle.extent_tree.specs.Tree.{is_hole}
use Rattle.extent_tree.proofs.Contents.{stays_kept, deepens_kept}
use Rattle.extent_tree.proofs.Counts.{distinct_as, distinct_more}
use Rattle.extent_tree.proofs.Growing.{Stays, stays_root, stays_sectors, stays_indexes, Deepens, deepens_root, deepens_sectors, deepens_indexes}
use Rattle.extent_tree.proofs.Maps.{items_of, root_of-clone, distinct_of-clone, blocks_of-clone, inserted_here, inserted_other, inserted_apart, entries_by-unchanged, on_err}
use Rattle.extent_tree.proofs.tree.ExtentTree.grow.Goals as goal
use Rattle.extent_tree.proofs.tree.ExtentTree.grow.Goals.{then-depth-via-then-depth, then-depth-via-else-depth+then-are_holes}

pub invariant_of-self : goal.invariant_of-self
invariant_of-self c =
    let stays : Stays c.self.inside.blocks c.args.count c.self.inside.root.value.items =
    elim c.then-depth.branch [
      | then-depth-via-then-depth w ↦ inl (sym c.depth.ensures.value ∙ w.if-depth.true ∙ c.depth-2.ensures.value)
      | then-depth-via-else-depth+then-are_holes w ↦ let all : list_all is_hole c.self.inside.root.value.items ≡ true = cc in inr all
    ] in
    (stays_root _ c.self.inside.blocks c.args.count c.self.inside.root.value.items c.args.self.now (record { is = c.self.invariant.0; small = c.self.invariant.1; view_is = c.self.view_is; count = c.requires.count.0; most = c.requires.count.1 }) stays, c.requires.count.1, distinct_as _ _ (stays_indexes _ c.self.inside.blocks c.args.count c.self.inside.root.value.items c.args.self.now (record { is = c.self.invariant.0; small = c.self.invariant.1; view_is = c.self.view_is; count = c.requires.count.0; most = c.requires.count.1 }) stays ∙ sym (ap (λ (x : Blocks). x.indexes) c.self.view_is)) c.self.invariant.2)

pub returns-then-depth-clause-sectors : goal.returns-then-depth-clause-sectors
returns-then-depth-clause-sectors c =
    let stays : Stays c.self.inside.blocks c.args.count c.self.inside.root.value.items =
    elim c.then-depth.branch [
      | then-depth-via-then-depth w ↦ inl (sym c.depth.ensures.value ∙ w.if-depth.true ∙ c.depth-2.ensures.value)
      | then-depth-via-else-depth+then-are_holes w ↦ let all : list_all is_hole c.self.inside.root.value.items ≡ true = cc in inr all
    ] in
    stays_sectors _ c.self.inside.blocks c.args.count c.self.inside.root.value.items c.args.self.now (record { is = c.self.invariant.0; small = c.self.invariant.1; view_is = c.self.view_is; count = c.requires.count.0; most = c.requires.count.1 }) stays

pub returns-then-depth-clause-indexes : goal.returns-then-depth-clause-indexes
returns-then-depth-clause-indexes c =
    let stays : Stays c.self.inside.blocks c.args.count c.self.inside.root.value.items =
    elim c.then-depth.branch [
      | then-depth-via-then-depth w ↦ inl (sym c.depth.ensures.value ∙ w.if-depth.true ∙ c.depth-2.ensures.value)
      | then-depth-via-else-depth+then-are_holes w ↦ let all : list_all is_hole c.self.inside.root.value.items ≡ true = cc in inr all
    ] in
    stays_indexes _ c.self.inside.blocks c.args.count c.self.inside.root.value.items c.args.self.now (record { is = c.self.invariant.0; small = c.self.invariant.1; view_is = c.self.view_is; count = c.requires.count.0; most = c.requires.count.1 }) stays

pub returns-then-depth-clause-kept : goal.returns-then-depth-clause-kept
returns-then-depth-clause-kept c =
    let stays : Stays c.self.inside.blocks c.args.count c.self.inside.root.value.items =
    elim c.then-depth.branch [
      | then-depth-via-then-depth w ↦ inl (sym c.depth.ensures.value ∙ w.if-depth.true ∙ c.depth-2.ensures.value)
      | then-depth-via-else-depth+then-are_holes w ↦ let all : list_all is_hole c.self.inside.root.value.items ≡ true = cc in inr all
    ] in
    stays_kept _ c.self.inside.blocks c.args.count c.self.inside.root.value.items c.args.self.now c.self.view_is (stays_indexes _ c.self.inside.blocks c.args.count c.self.inside.root.value.items c.args.self.now (record { is = c.self.invariant.0; small = c.self.invariant.1; view_is = c.self.view_is; count = c.requires.count.0; most = c.requires.count.1 }) stays)

pub invariant_of-self-in_err-insert : goal.invariant_of-self-in_err-insert
invariant_of-self-in_err-insert c = (
  root_of-clone _ _ c.self.inside.blocks c.self.inside.root.value.items c.self.inside.root.value.items (entries_by-unchanged c.self.inside.nodes c.insert.new.self c.in_err-insert.ensures.err) refl c.self.invariant.0,
  c.self.invariant.1,
  distinct_of-clone _ _ c.self.inside.blocks c.self.inside.root.value.items c.self.inside.root.value.items (entries_by-unchanged c.self.inside.nodes c.insert.new.self c.in_err-insert.ensures.err) refl c.self.invariant.2,
)

pub returns-in_err-insert-clause-err : goal.returns-in_err-insert-clause-err
returns-in_err-insert-clause-err c =
    on_err c.from_residual-in_err-insert.result
    (blocks_of-clone _ _ c.self.inside.blocks c.self.inside.root.value.items c.self.inside.root.value.items c.args.self.now (entries_by-unchanged c.self.inside.nodes c.insert.new.self c.in_err-insert.ensures.err) refl c.self.view_is)

pub invariant_of-self-2 : goal.invariant_of-self-2
invariant_of-self-2 c =
    let here : with_room c.deref-3.result.now ≡ with_room c.self.inside.root.value.items = cc in
    let node : c.in_ok-below.below.value.items ≡ with_room c.self.inside.root.value.items = ap (λ (v : Vec Entry Global). v.items) c.in_ok-below.ensures.ok ∙ c.in_ok-with_room.ensures ∙ here in
    let some : list_all is_hole c.self.inside.root.value.items ≡ false = cc in
    let made : c.in_ok-root.root.value.items ≡ root_above c.args.sector = ap (λ (v : Vec Entry Global). v.items) c.in_ok-root.ensures.ok ∙ c.in_ok-root_above.ensures in
    let deepens : Deepens (entries_by items_of c.self.inside.nodes) (entries_by items_of c.insert.new.self) c.self.inside.blocks c.args.count c.args.sector c.self.inside.root.value.items c.in_ok-root.root.value.items c.args.self.now = record {
      can = record { is = c.self.invariant.0; small = c.self.invariant.1; view_is = c.self.view_is; count = c.requires.count.0; most = c.requires.count.1 };
      step = c.requires.depth;
      apart = λ e. c.if-depth.false (c.depth.ensures.value ∙ e ∙ sym c.depth-2.ensures.value);
      used = c.requires.sector.0;
      fits = omega arith;
      same = inserted_apart c.self.inside.nodes c.insert.new.self c.args.sector c.in_ok-below.below c.args.self.now.indexes c.in_ok-insert.ensures.updates c.requires.sector.1;
      there = inserted_here c.self.inside.nodes c.insert.new.self c.args.sector c.in_ok-below.below (with_room c.self.inside.root.value.items) c.in_ok-insert.ensures.updates node;
      some = some;
      made = made;
    } in (
      deepens_root (entries_by items_of c.self.inside.nodes) (entries_by items_of c.insert.new.self) c.self.inside.blocks c.args.count c.args.sector c.self.inside.root.value.items c.in_ok-root.root.value.items c.args.self.now deepens,
      c.requires.count.1,
      distinct_as _ _ (deepens_indexes (entries_by items_of c.self.inside.nodes) (entries_by items_of c.insert.new.self) c.self.inside.blocks c.args.count c.args.sector c.self.inside.root.value.items c.in_ok-root.root.value.items c.args.self.now deepens)
          (distinct_more c.args.sector c.args.self.now.indexes c.requires.sector.1 (distinct_as _ _ (sym (ap (λ (x : Blocks). x.indexes) c.self.view_is)) c.self.invariant.2)),
    )

pub returns-clause-sectors : goal.returns-clause-sectors
returns-clause-sectors c =
    let here : with_room c.deref-3.result.now ≡ with_room c.self.inside.root.value.items = cc in
    let node : c.in_ok-below.below.value.items ≡ with_room c.self.inside.root.value.items = ap (λ (v : Vec Entry Global). v.items) c.in_ok-below.ensures.ok ∙ c.in_ok-with_room.ensures ∙ here in
    let some : list_all is_hole c.self.inside.root.value.items ≡ false = cc in
    let made : c.in_ok-root.root.value.items ≡ root_above c.args.sector = ap (λ (v : Vec Entry Global). v.items) c.in_ok-root.ensures.ok ∙ c.in_ok-root_above.ensures in
    let deepens : Deepens (entries_by items_of c.self.inside.nodes) (entries_by items_of c.insert.new.self) c.self.inside.blocks c.args.count c.args.sector c.self.inside.root.value.items c.in_ok-root.root.value.items c.args.self.now = record {
      can = record { is = c.self.invariant.0; small = c.self.invariant.1; view_is = c.self.view_is; count = c.requires.count.0; most = c.requires.count.1 };
      step = c.requires.depth;
      apart = λ e. c.if-depth.false (c.depth.ensures.value ∙ e ∙ sym c.depth-2.ensures.value);
      used = c.requires.sector.0;
      fits = omega arith;
      same = inserted_apart c.self.inside.nodes c.insert.new.self c.args.sector c.in_ok-below.below c.args.self.now.indexes c.in_ok-insert.ensures.updates c.requires.sector.1;
      there = inserted_here c.self.inside.nodes c.insert.new.self c.args.sector c.in_ok-below.below (with_room c.self.inside.root.value.items) c.in_ok-insert.ensures.updates node;
      some = some;
      made = made;
    } in
    deepens_sectors (entries_by items_of c.self.inside.nodes) (entries_by items_of c.insert.new.self) c.self.inside.blocks c.args.count c.args.sector c.self.inside.root.value.items c.in_ok-root.root.value.items c.args.self.now deepens

pub returns-clause-indexes : goal.returns-clause-indexes
returns-clause-indexes c =
    let here : with_room c.deref-3.result.now ≡ with_room c.self.inside.root.value.items = cc in
    let node : c.in_ok-below.below.value.items ≡ with_room c.self.inside.root.value.items = ap (λ (v : Vec Entry Global). v.items) c.in_ok-below.ensures.ok ∙ c.in_ok-with_room.ensures ∙ here in
    let some : list_all is_hole c.self.inside.root.value.items ≡ false = cc in
    let made : c.in_ok-root.root.value.items ≡ root_above c.args.sector = ap (λ (v : Vec Entry Global). v.items) c.in_ok-root.ensures.ok ∙ c.in_ok-root_above.ensures in
    let deepens : Deepens (entries_by items_of c.self.inside.nodes) (entries_by items_of c.insert.new.self) c.self.inside.blocks c.args.count c.args.sector c.self.inside.root.value.items c.in_ok-root.root.value.items c.args.self.now = record {
      can = record { is = c.self.invariant.0; small = c.self.invariant.1; view_is = c.self.view_is; count = c.requires.count.0; most = c.requires.count.1 };
      step = c.requires.depth;
      apart = λ e. c.if-depth.false (c.depth.ensures.value ∙ e ∙ sym c.depth-2.ensures.value);
      used = c.requires.sector.0;
      fits = omega arith;
      same = inserted_apart c.self.inside.nodes c.insert.new.self c.args.sector c.in_ok-below.below c.args.self.now.indexes c.in_ok-insert.ensures.updates c.requires.sector.1;
      there = inserted_here c.self.inside.nodes c.insert.new.self c.args.sector c.in_ok-below.below (with_room c.self.inside.root.value.items) c.in_ok-insert.ensures.updates node;
      some = some;
      made = made;
    } in
    deepens_indexes (entries_by items_of c.self.inside.nodes) (entries_by items_of c.insert.new.self) c.self.inside.blocks c.args.count c.args.sector c.self.inside.root.value.items c.in_ok-root.root.value.items c.args.self.now deepens

pub returns-clause-kept : goal.returns-clause-kept
returns-clause-kept c =
    let here : with_room c.deref-3.result.now ≡ with_room c.self.inside.root.value.items = cc in
    let node : c.in_ok-below.below.value.items ≡ with_room c.self.inside.root.value.items = ap (λ (v : Vec Entry Global). v.items) c.in_ok-below.ensures.ok ∙ c.in_ok-with_room.ensures ∙ here in
    let some : list_all is_hole c.self.inside.root.value.items ≡ false = cc in
    let made : c.in_ok-root.root.value.items ≡ root_above c.args.sector = ap (λ (v : Vec Entry Global). v.items) c.in_ok-root.ensures.ok ∙ c.in_ok-root_above.ensures in
    let deepens : Deepens (entries_by items_of c.self.inside.nodes) (entries_by items_of c.insert.new.self) c.self.inside.blocks c.args.count c.args.sector c.self.inside.root.value.items c.in_ok-root.root.value.items c.args.self.now = record {
      can = record { is = c.self.invariant.0; small = c.self.invariant.1; view_is = c.self.view_is; count = c.requires.count.0; most = c.requires.count.1 };
      step = c.requires.depth;
      apart = λ e. c.if-depth.false (c.depth.ensures.value ∙ e ∙ sym c.depth-2.ensures.value);
      used = c.requires.sector.0;
      fits = omega arith;
      same = inserted_apart c.self.inside.nodes c.insert.new.self c.args.sector c.in_ok-below.below c.args.self.now.indexes c.in_ok-insert.ensures.updates c.requires.sector.1;
      there = inserted_here c.self.inside.nodes c.insert.new.self c.args.sector c.in_ok-below.below (with_room c.self.inside.root.value.items) c.in_ok-insert.ensures.updates node;
      some = some;
      made = made;
    } in
    deepens_kept (entries_by items_of c.self.inside.nodes) (entries_by items_of c.insert.new.self) c.self.inside.blocks c.args.count c.args.sector c.self.inside.root.value.items c.in_ok-root.root.value.items c.args.self.now c.self.view_is
    (deepens_indexes (entries_by items_of c.self.inside.nodes) (entries_by items_of c.insert.new.self) c.self.inside.blocks c.args.count c.args.sector c.self.inside.root.value.items c.in_ok-root.root.value.items c.args.self.now deepens)
    (inserted_other c.self.inside.nodes c.insert.new.self c.args.sector c.in_ok-below.below c.in_ok-insert.ensures.updates)
