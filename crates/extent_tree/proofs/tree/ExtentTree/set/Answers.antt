use Rattle.std.proofs.Common.{length, arith}
use Rattle.extent_tree.specs.Held.{entries_by}
use Rattle.extent_tree.proofs.Maps.{items_of}
use Rattle.extent_tree.proofs.Changes.{CanSet, can_count, can_trees, can_spare_at, can_few, any_invariant, any_sectors, any_indexes, any_err}
use Rattle.extent_tree.proofs.Contents.{any_kept}
use Rattle.extent_tree.proofs.Needs.{charged, can_each, can_charge}
use Rattle.extent_tree.proofs.tree.ExtentTree.set.Goals as goal

pub set_in_root-requires-clause-trees : goal.set_in_root-requires-clause-trees
set_in_root-requires-clause-trees c =
    let index = entries_by items_of c.self.inside.nodes in
    let can : CanSet index c.self.inside.blocks c.self.inside.root.value.items c.args.self.now c.args.spare.now = record { is = c.self.invariant.0; small = c.self.invariant.1; once = c.self.invariant.2; view_is = c.self.view_is; fresh = c.requires.spare } in
    can_trees index c.self.inside.blocks c.self.inside.root.value.items c.args.self.now c.args.spare.now can c.depth-depth.result c.depth-depth.ensures.value

pub set_in_root-requires-clause-spare : goal.set_in_root-requires-clause-spare
set_in_root-requires-clause-spare c =
    let index = entries_by items_of c.self.inside.nodes in
    let can : CanSet index c.self.inside.blocks c.self.inside.root.value.items c.args.self.now c.args.spare.now = record { is = c.self.invariant.0; small = c.self.invariant.1; once = c.self.invariant.2; view_is = c.self.view_is; fresh = c.requires.spare } in
    can_spare_at index c.self.inside.blocks c.self.inside.root.value.items c.args.self.now c.args.spare.now can c.depth-depth.result c.depth-depth.ensures.value

pub invariant_of-self : goal.invariant_of-self
invariant_of-self c =
    let index = entries_by items_of c.self.inside.nodes in
    let can : CanSet index c.self.inside.blocks c.self.inside.root.value.items c.args.self.now c.args.spare.now = record { is = c.self.invariant.0; small = c.self.invariant.1; once = c.self.invariant.2; view_is = c.self.view_is; fresh = c.requires.spare } in
    any_invariant index c.self.inside.blocks c.self.inside.root.value.items c.args.self.now c.args.spare.now can c.set_in_root.result (entries_by items_of c.set_in_root.new.nodes) c.depth-depth.result c.args.block c.args.sector c.set_in_root.new.root.value.items c.depth-depth.ensures.value c.requires.block c.set_in_root.ensures.ok c.set_in_root.ensures.err

pub returns-clause-sectors : goal.returns-clause-sectors
returns-clause-sectors c =
    let index = entries_by items_of c.self.inside.nodes in
    let can : CanSet index c.self.inside.blocks c.self.inside.root.value.items c.args.self.now c.args.spare.now = record { is = c.self.invariant.0; small = c.self.invariant.1; once = c.self.invariant.2; view_is = c.self.view_is; fresh = c.requires.spare } in
    any_sectors index c.self.inside.blocks c.self.inside.root.value.items c.args.self.now c.args.spare.now can c.set_in_root.result (entries_by items_of c.set_in_root.new.nodes) c.depth-depth.result c.args.block c.args.sector c.set_in_root.new.root.value.items c.depth-depth.ensures.value c.requires.block c.set_in_root.ensures.ok c.set_in_root.ensures.err

pub returns-clause-indexes : goal.returns-clause-indexes
returns-clause-indexes c =
    let index = entries_by items_of c.self.inside.nodes in
    let can : CanSet index c.self.inside.blocks c.self.inside.root.value.items c.args.self.now c.args.spare.now = record { is = c.self.invariant.0; small = c.self.invariant.1; once = c.self.invariant.2; view_is = c.self.view_is; fresh = c.requires.spare } in
    any_indexes index c.self.inside.blocks c.self.inside.root.value.items c.args.self.now c.args.spare.now can c.set_in_root.result (entries_by items_of c.set_in_root.new.nodes) c.depth-depth.result c.args.block c.args.sector c.set_in_root.new.root.value.items c.depth-depth.ensures.value c.requires.block c.set_in_root.ensures.ok c.set_in_root.ensures.err

pub returns-clause-few : goal.returns-clause-few
returns-clause-few c =
    let index = entries_by items_of c.self.inside.nodes in
    let can : CanSet index c.self.inside.blocks c.self.inside.root.value.items c.args.self.now c.args.spare.now = record { is = c.self.invariant.0; small = c.self.invariant.1; once = c.self.invariant.2; view_is = c.self.view_is; fresh = c.requires.spare } in
    λ is.
    let few = c.set_in_root.ensures.few is in
    let count = can_count index c.self.inside.blocks c.self.inside.root.value.items c.args.self.now c.args.spare.now can in
    let all = charged index c.self.inside.blocks c.args.block (length c.args.spare.now) c.depth-depth.result c.self.inside.root.value.items c.self.invariant.1 (omega (arith, count, c.requires.block)) (can_each index c.self.inside.blocks c.self.inside.root.value.items c.args.self.now c.args.spare.now can c.depth-depth.result c.depth-depth.ensures.value) c.depth-depth.ensures.value few.most in
    (can_few index c.self.inside.blocks c.self.inside.root.value.items c.args.self.now c.args.spare.now can c.depth-depth.result c.depth-depth.ensures.value few.depth, can_charge index c.self.inside.blocks c.self.inside.root.value.items c.args.self.now c.args.spare.now can c.depth-depth.result c.depth-depth.ensures.value (length c.args.spare.now) all)

pub returns-clause-err : goal.returns-clause-err
returns-clause-err c =
    let index = entries_by items_of c.self.inside.nodes in
    let can : CanSet index c.self.inside.blocks c.self.inside.root.value.items c.args.self.now c.args.spare.now = record { is = c.self.invariant.0; small = c.self.invariant.1; once = c.self.invariant.2; view_is = c.self.view_is; fresh = c.requires.spare } in
    any_err index c.self.inside.blocks c.self.inside.root.value.items c.args.self.now c.args.spare.now can c.set_in_root.result (entries_by items_of c.set_in_root.new.nodes) c.depth-depth.result c.args.block c.args.sector c.set_in_root.new.root.value.items c.depth-depth.ensures.value c.requires.block c.set_in_root.ensures.ok c.set_in_root.ensures.err

pub returns-clause-kept : goal.returns-clause-kept
returns-clause-kept c =
    let index = entries_by items_of c.self.inside.nodes in
    let can : CanSet index c.self.inside.blocks c.self.inside.root.value.items c.args.self.now c.args.spare.now = record { is = c.self.invariant.0; small = c.self.invariant.1; once = c.self.invariant.2; view_is = c.self.view_is; fresh = c.requires.spare } in
    any_kept index c.self.inside.blocks c.self.inside.root.value.items c.args.self.now c.args.spare.now can c.set_in_root.result (entries_by items_of c.set_in_root.new.nodes) c.depth-depth.result c.args.block c.args.sector c.set_in_root.new.root.value.items c.depth-depth.ensures.value c.requires.block c.set_in_root.ensures.ok c.set_in_root.ensures.kept
