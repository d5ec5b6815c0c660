use Rattle.std.proofs.Common.{◌+◌, List, [], length, ap, sym, ◌∙◌, arith, subst}
use Rattle.std.specs.List.{AllByRecursion}
use Rattle.extents.specs.declared.run.Run.{Run}
use Rattle.extents.specs.Runs.{AreRunsOf}
use Rattle.extents.specs.Sector.{IsRun}
use Rattle.inode.specs.Fields.{IsInode, fields_of}
use Rattle.layout.specs.CachedNodes as layout
use Rattle.tree_transaction.specs.Laying.{AreMarked, fields_with}
use Rattle.tree_transaction.proofs.RerunLaws.{fields-fit, numbers-fit, follow-marked, marked-once, marked-apart}
use Rattle.tree_transaction.proofs.laying.store_given_runs.Goals as goal

module _ (c : goal.After-store_node_sectors-arg-1) where
  was : AreMarked (148 + c.args.nodes) c.args.places.now c.cached.inside.inode.run_sectors.items
  was = subst (λ (cached_node : layout.CachedNode). AreMarked (148 + c.args.nodes) c.args.places.now cached_node.fields.run_sectors) (sym c.cached.view_is) c.requires.can.marked

  marked : AreMarked (148 + c.args.nodes) c.give_numbers.new.places c.give_numbers.new.numbers.items
  marked = follow-marked _ _ _ _ _ c.in_ok-give_numbers.ensures.marks was

  fits : IsInode c.cached.inside.form (fields_with (fields_of c.cached.inside.inode) c.len-2.result c.give_numbers.new.numbers.items)
  fits =
      let before = subst (λ (cached_node : layout.CachedNode). IsInode cached_node.form (fields_with cached_node.fields 0 [])) (sym c.cached.view_is) c.requires.can.fits in
      let has = ap (λ (cached_node : layout.CachedNode). length cached_node.fields.run_sectors) c.cached.view_is in
      let least = c.give_numbers.ensures.least (omega (arith, has, c.requires.enough, c.len.ensures, c.sectors_for-wanted.ensures)) in
      fields-fit c.cached.inside.form (fields_with (fields_of c.cached.inside.inode) 0 []) c.len-2.result c.give_numbers.new.numbers.items before
      (omega (arith, c.len-2.ensures, c.requires.runs.few)) (omega (arith, c.len-2.ensures, c.len.ensures, c.sectors_for-wanted.ensures, c.in_ok-give_numbers.ensures.most, least))
      (numbers-fit (148 + c.args.nodes) c.give_numbers.new.places c.give_numbers.new.numbers.items (omega arith) (omega (arith, c.give_numbers.ensures.len, c.requires.can.room)) marked)

pub store_node_sectors-requires-clause-fits : goal.store_node_sectors-requires-clause-fits
store_node_sectors-requires-clause-fits c = fits c

pub store_node_sectors-requires-clause-once : goal.store_node_sectors-requires-clause-once
store_node_sectors-requires-clause-once c = marked-once _ _ _ (marked c)

pub store_node_sectors-requires-clause-apart : goal.store_node_sectors-requires-clause-apart
store_node_sectors-requires-clause-apart c = marked-apart _ _ _ (148 + c.args.place) (marked c) (omega (arith, c.requires.can.within))

pub returns-clause-laid : goal.returns-clause-laid
returns-clause-laid c = record {
  rerun = record {
    form = ap (λ (cached_node : layout.CachedNode). cached_node.form) c.cached.view_is;
    blocks = ap (λ (cached_node : layout.CachedNode). cached_node.blocks) c.cached.view_is;
    names = ap (λ (cached_node : layout.CachedNode). cached_node.names) c.cached.view_is;
    fields = ap (λ (cached_node : layout.CachedNode). fields_with cached_node.fields c.len-2.result c.give_numbers.new.numbers.items) c.cached.view_is;
    runs = (let blocks = ap (λ (cached_node : layout.CachedNode). cached_node.blocks) c.cached.view_is in rw blocks (subst (λ (l : List Run). AreRunsOf l c.args.cached.now.blocks) (sym c.in_ok-runs.ensures) c.requires.runs.runs));
    each_run = subst (AllByRecursion IsRun) (sym c.in_ok-runs.ensures) c.requires.runs.each;
    run_count = ap length c.in_ok-runs.ensures ∙ (sym c.args.runs.ok.0 ∙ sym c.len-2.ensures);
    fits = fits c.before.before.before;
  };
  follow = (let numbers = ap (λ (cached_node : layout.CachedNode). cached_node.fields.run_sectors) c.cached.view_is in rw (sym numbers) c.in_ok-give_numbers.ensures.marks);
  len = c.give_numbers.ensures.len;
  lays = c.in_ok-store_node_sectors.ensures.lays;
}
