use Rattle.std.proofs.Common.{◌≡◌, ◌∙◌, List, [], ℕ, Vec, Global, ap, sym, subst}
use Rattle.extent_tree.specs.declared.entry.Entry.{Entry}
use Rattle.extent_tree.specs.Cutting.{AreCut, AreLower}
use Rattle.extent_tree.specs.Held.{entries_by}
use Rattle.extent_tree.specs.Setting.{AreKept}
use Rattle.extent_tree.proofs.Cuts.{IsHeld, held_trees, held_once, made_root, cut_invariant, cut_sectors, cut_indexes, cut_kept}
use Rattle.extent_tree.proofs.Maps.{items_of, nodes-clone, root_of-clone, distinct_of-clone, blocks_of-clone}
use Rattle.extent_tree.proofs.tree.ExtentTree.truncate.Goals as goal

pub cut-requires-clause-trees : goal.cut-requires-clause-trees
cut-requires-clause-trees c =
    let old = entries_by items_of c.self.inside.nodes in
    let index = entries_by items_of c.in_ok-nodes.nodes in
    let xs = c.in_ok-copy.copy.items in
    let same : old ≡ index = nodes-clone c.self.inside.nodes c.in_ok-nodes.nodes c.in_ok-nodes.ensures.cases in
    let read : c.as_slice.result.now ≡ c.self.inside.root.value.items = cc in
    let copied : xs ≡ c.self.inside.root.value.items = c.in_ok-copy.ensures.items ∙ read in
    let held : IsHeld index c.self.inside.blocks c.args.len xs c.args.self.now = record {
      is = root_of-clone old index c.self.inside.blocks c.self.inside.root.value.items xs same copied c.self.invariant.0;
      small = c.self.invariant.1;
      once = distinct_of-clone old index c.self.inside.blocks c.self.inside.root.value.items xs same copied c.self.invariant.2;
      view_is = blocks_of-clone old index c.self.inside.blocks c.self.inside.root.value.items xs c.args.self.now same copied c.self.view_is;
      le = c.requires;
    } in
    held_trees index c.self.inside.blocks c.args.len xs c.args.self.now held c.depth-from.result c.depth-from.ensures.value

pub cut-requires-clause-once : goal.cut-requires-clause-once
cut-requires-clause-once c =
    let old = entries_by items_of c.self.inside.nodes in
    let index = entries_by items_of c.in_ok-nodes.nodes in
    let xs = c.in_ok-copy.copy.items in
    let same : old ≡ index = nodes-clone c.self.inside.nodes c.in_ok-nodes.nodes c.in_ok-nodes.ensures.cases in
    let read : c.as_slice.result.now ≡ c.self.inside.root.value.items = cc in
    let copied : xs ≡ c.self.inside.root.value.items = c.in_ok-copy.ensures.items ∙ read in
    let held : IsHeld index c.self.inside.blocks c.args.len xs c.args.self.now = record {
      is = root_of-clone old index c.self.inside.blocks c.self.inside.root.value.items xs same copied c.self.invariant.0;
      small = c.self.invariant.1;
      once = distinct_of-clone old index c.self.inside.blocks c.self.inside.root.value.items xs same copied c.self.invariant.2;
      view_is = blocks_of-clone old index c.self.inside.blocks c.self.inside.root.value.items xs c.args.self.now same copied c.self.view_is;
      le = c.requires;
    } in
    held_once index c.self.inside.blocks c.args.len xs c.args.self.now held c.depth-from.result c.depth-from.ensures.value

pub lowered-requires-clause-trees : goal.lowered-requires-clause-trees
lowered-requires-clause-trees c =
    let old = entries_by items_of c.self.inside.nodes in
    let index = entries_by items_of c.in_ok-nodes.nodes in
    let xs = c.in_ok-copy.copy.items in
    let same : old ≡ index = nodes-clone c.self.inside.nodes c.in_ok-nodes.nodes c.in_ok-nodes.ensures.cases in
    let read : c.as_slice.result.now ≡ c.self.inside.root.value.items = cc in
    let copied : xs ≡ c.self.inside.root.value.items = c.in_ok-copy.ensures.items ∙ read in
    let held : IsHeld index c.self.inside.blocks c.args.len xs c.args.self.now = record {
      is = root_of-clone old index c.self.inside.blocks c.self.inside.root.value.items xs same copied c.self.invariant.0;
      small = c.self.invariant.1;
      once = distinct_of-clone old index c.self.inside.blocks c.self.inside.root.value.items xs same copied c.self.invariant.2;
      view_is = blocks_of-clone old index c.self.inside.blocks c.self.inside.root.value.items xs c.args.self.now same copied c.self.view_is;
      le = c.requires;
    } in
    let mid = entries_by items_of c.cut.new.nodes in
    let f1 = c.cut.new.freed.items in
    let made = c.in_ok-made.made.items in
    let cut : AreCut index mid c.depth-from.result c.args.len xs made [] f1 = subst (λ (before : List ℕ). AreCut index mid c.depth-from.result c.args.len xs made before f1) c.new-freed.ensures.items c.in_ok-made.ensures.cut in
    made_root index c.self.inside.blocks c.args.len xs c.args.self.now held mid c.depth-from.result made f1 c.depth-from.ensures.value cut c.depth-to.result c.depth-to.ensures.value

pub invariant_of-self : goal.invariant_of-self
invariant_of-self c =
    let old = entries_by items_of c.self.inside.nodes in
    let index = entries_by items_of c.in_ok-nodes.nodes in
    let xs = c.in_ok-copy.copy.items in
    let same : old ≡ index = nodes-clone c.self.inside.nodes c.in_ok-nodes.nodes c.in_ok-nodes.ensures.cases in
    let read : c.as_slice.result.now ≡ c.self.inside.root.value.items = cc in
    let copied : xs ≡ c.self.inside.root.value.items = c.in_ok-copy.ensures.items ∙ read in
    let held : IsHeld index c.self.inside.blocks c.args.len xs c.args.self.now = record {
      is = root_of-clone old index c.self.inside.blocks c.self.inside.root.value.items xs same copied c.self.invariant.0;
      small = c.self.invariant.1;
      once = distinct_of-clone old index c.self.inside.blocks c.self.inside.root.value.items xs same copied c.self.invariant.2;
      view_is = blocks_of-clone old index c.self.inside.blocks c.self.inside.root.value.items xs c.args.self.now same copied c.self.view_is;
      le = c.requires;
    } in
    let mid = entries_by items_of c.cut.new.nodes in
    let f1 = c.cut.new.freed.items in
    let made = c.in_ok-made.made.items in
    let cut : AreCut index mid c.depth-from.result c.args.len xs made [] f1 = subst (λ (before : List ℕ). AreCut index mid c.depth-from.result c.args.len xs made before f1) c.new-freed.ensures.items c.in_ok-made.ensures.cut in
    let other = entries_by items_of c.forget.new.nodes in
    let f2 = c.lowered.new.freed.items in
    let new = c.in_ok-root.root.value.items in
    let rooted : new ≡ c.in_ok-made-2.made.items = ap (λ (v : Vec Entry Global). v.items) c.in_ok-root.ensures.ok in
    let low : AreLower mid c.depth-from.result c.depth-to.result made new f1 f2 = subst (λ (zs : List Entry). AreLower mid c.depth-from.result c.depth-to.result made zs f1 f2) (sym rooted) c.in_ok-made-2.ensures in
    let kept : AreKept mid other f2 = subst (AreKept mid other) c.deref-2.ensures.value c.forget.ensures in
    cut_invariant index c.self.inside.blocks c.args.len xs c.args.self.now held mid c.depth-from.result made f1 c.depth-from.ensures.value cut other c.depth-to.result new f2 c.depth-to.ensures.value low kept

pub returns-clause-sectors : goal.returns-clause-sectors
returns-clause-sectors c =
    let old = entries_by items_of c.self.inside.nodes in
    let index = entries_by items_of c.in_ok-nodes.nodes in
    let xs = c.in_ok-copy.copy.items in
    let same : old ≡ index = nodes-clone c.self.inside.nodes c.in_ok-nodes.nodes c.in_ok-nodes.ensures.cases in
    let read : c.as_slice.result.now ≡ c.self.inside.root.value.items = cc in
    let copied : xs ≡ c.self.inside.root.value.items = c.in_ok-copy.ensures.items ∙ read in
    let held : IsHeld index c.self.inside.blocks c.args.len xs c.args.self.now = record {
      is = root_of-clone old index c.self.inside.blocks c.self.inside.root.value.items xs same copied c.self.invariant.0;
      small = c.self.invariant.1;
      once = distinct_of-clone old index c.self.inside.blocks c.self.inside.root.value.items xs same copied c.self.invariant.2;
      view_is = blocks_of-clone old index c.self.inside.blocks c.self.inside.root.value.items xs c.args.self.now same copied c.self.view_is;
      le = c.requires;
    } in
    let mid = entries_by items_of c.cut.new.nodes in
    let f1 = c.cut.new.freed.items in
    let made = c.in_ok-made.made.items in
    let cut : AreCut index mid c.depth-from.result c.args.len xs made [] f1 = subst (λ (before : List ℕ). AreCut index mid c.depth-from.result c.args.len xs made before f1) c.new-freed.ensures.items c.in_ok-made.ensures.cut in
    let other = entries_by items_of c.forget.new.nodes in
    let f2 = c.lowered.new.freed.items in
    let new = c.in_ok-root.root.value.items in
    let rooted : new ≡ c.in_ok-made-2.made.items = ap (λ (v : Vec Entry Global). v.items) c.in_ok-root.ensures.ok in
    let low : AreLower mid c.depth-from.result c.depth-to.result made new f1 f2 = subst (λ (zs : List Entry). AreLower mid c.depth-from.result c.depth-to.result made zs f1 f2) (sym rooted) c.in_ok-made-2.ensures in
    let kept : AreKept mid other f2 = subst (AreKept mid other) c.deref-2.ensures.value c.forget.ensures in
    cut_sectors index c.self.inside.blocks c.args.len xs c.args.self.now held mid c.depth-from.result made f1 c.depth-from.ensures.value cut other c.depth-to.result new f2 c.depth-to.ensures.value low kept

pub returns-clause-indexes : goal.returns-clause-indexes
returns-clause-indexes c =
    let old = entries_by items_of c.self.inside.nodes in
    let index = entries_by items_of c.in_ok-nodes.nodes in
    let xs = c.in_ok-copy.copy.items in
    let same : old ≡ index = nodes-clone c.self.inside.nodes c.in_ok-nodes.nodes c.in_ok-nodes.ensures.cases in
    let read : c.as_slice.result.now ≡ c.self.inside.root.value.items = cc in
    let copied : xs ≡ c.self.inside.root.value.items = c.in_ok-copy.ensures.items ∙ read in
    let held : IsHeld index c.self.inside.blocks c.args.len xs c.args.self.now = record {
      is = root_of-clone old index c.self.inside.blocks c.self.inside.root.value.items xs same copied c.self.invariant.0;
      small = c.self.invariant.1;
      once = distinct_of-clone old index c.self.inside.blocks c.self.inside.root.value.items xs same copied c.self.invariant.2;
      view_is = blocks_of-clone old index c.self.inside.blocks c.self.inside.root.value.items xs c.args.self.now same copied c.self.view_is;
      le = c.requires;
    } in
    let mid = entries_by items_of c.cut.new.nodes in
    let f1 = c.cut.new.freed.items in
    let made = c.in_ok-made.made.items in
    let cut : AreCut index mid c.depth-from.result c.args.len xs made [] f1 = subst (λ (before : List ℕ). AreCut index mid c.depth-from.result c.args.len xs made before f1) c.new-freed.ensures.items c.in_ok-made.ensures.cut in
    let other = entries_by items_of c.forget.new.nodes in
    let f2 = c.lowered.new.freed.items in
    let new = c.in_ok-root.root.value.items in
    let rooted : new ≡ c.in_ok-made-2.made.items = ap (λ (v : Vec Entry Global). v.items) c.in_ok-root.ensures.ok in
    let low : AreLower mid c.depth-from.result c.depth-to.result made new f1 f2 = subst (λ (zs : List Entry). AreLower mid c.depth-from.result c.depth-to.result made zs f1 f2) (sym rooted) c.in_ok-made-2.ensures in
    let kept : AreKept mid other f2 = subst (AreKept mid other) c.deref-2.ensures.value c.forget.ensures in
    cut_indexes index c.self.inside.blocks c.args.len xs c.args.self.now held mid c.depth-from.result made f1 c.depth-from.ensures.value cut other c.depth-to.result new f2 c.depth-to.ensures.value low kept

pub returns-clause-kept : goal.returns-clause-kept
returns-clause-kept c =
    let old = entries_by items_of c.self.inside.nodes in
    let index = entries_by items_of c.in_ok-nodes.nodes in
    let xs = c.in_ok-copy.copy.items in
    let same : old ≡ index = nodes-clone c.self.inside.nodes c.in_ok-nodes.nodes c.in_ok-nodes.ensures.cases in
    let read : c.as_slice.result.now ≡ c.self.inside.root.value.items = cc in
    let copied : xs ≡ c.self.inside.root.value.items = c.in_ok-copy.ensures.items ∙ read in
    let held : IsHeld index c.self.inside.blocks c.args.len xs c.args.self.now = record {
      is = root_of-clone old index c.self.inside.blocks c.self.inside.root.value.items xs same copied c.self.invariant.0;
      small = c.self.invariant.1;
      once = distinct_of-clone old index c.self.inside.blocks c.self.inside.root.value.items xs same copied c.self.invariant.2;
      view_is = blocks_of-clone old index c.self.inside.blocks c.self.inside.root.value.items xs c.args.self.now same copied c.self.view_is;
      le = c.requires;
    } in
    let mid = entries_by items_of c.cut.new.nodes in
    let f1 = c.cut.new.freed.items in
    let made = c.in_ok-made.made.items in
    let cut : AreCut index mid c.depth-from.result c.args.len xs made [] f1 = subst (λ (before : List ℕ). AreCut index mid c.depth-from.result c.args.len xs made before f1) c.new-freed.ensures.items c.in_ok-made.ensures.cut in
    let other = entries_by items_of c.forget.new.nodes in
    let f2 = c.lowered.new.freed.items in
    let new = c.in_ok-root.root.value.items in
    let rooted : new ≡ c.in_ok-made-2.made.items = ap (λ (v : Vec Entry Global). v.items) c.in_ok-root.ensures.ok in
    let low : AreLower mid c.depth-from.result c.depth-to.result made new f1 f2 = subst (λ (zs : List Entry). AreLower mid c.depth-from.result c.depth-to.result made zs f1 f2) (sym rooted) c.in_ok-made-2.ensures in
    let kept : AreKept mid other f2 = subst (AreKept mid other) c.deref-2.ensures.value c.forget.ensures in
    cut_kept index c.self.inside.blocks c.args.len xs c.args.self.now held mid c.depth-from.result made f1 c.depth-from.ensures.value cut other c.depth-to.result new f2 c.depth-to.ensures.value low kept c.cut.new.changed.items c.in_ok-made.ensures.changed
