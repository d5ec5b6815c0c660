-- A cached node whose blocks have changed is put back: what is then known, and the step on it.
use Rattle.std.proofs.Common.{◌≡◌, ◌≢◌, ◌≤◌, ◌<◌, ◌+◌, ◌⊎◌, ℕ, Bool, List, [], Option, Some, None, length, get_or, set, refl, sym, ap, ◌∙◌, arith, subst, inl, inr}
use Rattle.disk.specs.Moments.{Image, applied}
use Rattle.disk.specs.declared.update.Update.{Update}
use Rattle.freemap.specs.Kept.{free_places}
use Rattle.inode.specs.Fields.{Fields}
use Rattle.inode.specs.Encoding.{inode_sector}
use Rattle.model_tree.specs.declared.node.NodeKind.TheVariants as kind
use Rattle.model_tree.specs.Trees.Edit.{Edit, done}
use Rattle.layout.specs.CachedNodes.{CachedNode, block_count}
use Rattle.layout.specs.ChangeLaws.{ChangesOwn}
use Rattle.layout.specs.Known.{IsCached, HasContent, AreCached}
use Rattle.layout.specs.Laid.{AreLaid, HoldsNode, AreRunSectors}
use Rattle.layout.specs.Marks.{times, times_set, named, namings_of, mark_by}
use Rattle.layout.specs.NodeEdits.{AreFiles}
use Rattle.layout.specs.Steps.{NodeSteps, LaysTree, ShowsSame}
use Rattle.layout.proofs.Changing.{named-set}
use Rattle.layout.proofs.Frame.{run_sectors-kept}
use Rattle.layout.proofs.MarkProofs.{each_mark}
use Rattle.layout.proofs.NodeEditLaws.{named_by-parts}
use Rattle.node_table.specs.Tables.{charge_of, charge_of_all}
use Rattle.tree_transaction.specs.Blocks.{IsSectorPut, set_blocks}
use Rattle.tree_transaction.specs.declared.transaction.Transaction.{Transaction}
use Rattle.tree_transaction.specs.Transactions.{cached_nodes_of, end_of, image_of, changed_tree, IsKnown, StaysKnown, IsTransaction, HasNow, IsBack, StandsAgain}
use Rattle.tree_transaction.specs.Laying.{fields_with, IsRerun}
use Rattle.tree_transaction.specs.Updates.{AreBetween}
use Rattle.tree_transaction.proofs.BlockLaws.{here, elsewhere}
use Rattle.tree_transaction.proofs.CountLaws.{region_named, sum_over-set, less_others, named_count, named_charged}
use Rattle.tree_transaction.proofs.KnownLaws.{put-back, mark-outside, in_table, cached_at, named_once, held_at, changed_known, content_of_file, made}
use Rattle.tree_transaction.proofs.UpdateLaws.{between-still}

-- the cached node `was` got other blocks and fields, which is `mid_cached`, and has the runs that it
-- had
pub record IsMoved (old : Transaction) (was mid_cached : CachedNode) (mid_places : List Bool) (mid_updates : List Update) : Type 0 where
  pub number : mid_cached.fields.number ≡ was.fields.number
  pub run_sectors : mid_cached.fields.run_sectors ≡ was.fields.run_sectors
  pub runs : mid_cached.runs ≡ was.runs
  pub count : length mid_cached.blocks ≡ block_count mid_cached.fields
  pub marks : (n : ℕ) → mark_by (148 + old.nodes) mid_places n + times_set n was.blocks ≡ mark_by (148 + old.nodes) old.places n + times_set n mid_cached.blocks
  pub len : length mid_places ≡ length old.places
  pub others : (image : Image) (n : ℕ) → times_set n was.blocks ≡ 0 → times_set n mid_cached.blocks ≡ 0 → applied mid_updates image n ≡ applied old.updates image n

-- its runs are rewritten
pub laid_again : (old new : Transaction) (place : ℕ) (cached : CachedNode) (places : List Bool) (updates : List Update) → IsBack old.nodes place places updates (set (cached_nodes_of old) place None) new cached → StandsAgain old new place cached places updates
laid_again old new place cached places updates back =
    let laid = back.laid in
    record {
      is = back.is;
      put = back.put ∙ put-back (cached_nodes_of old) place back.is;
      same = back.same;
      rerun = laid.rerun;
      follow = laid.follow;
      len = laid.len;
      node = λ image. let lays = laid.lays image in lays.node;
      run_sectors = λ image held. let lays = laid.lays image in lays.run_sectors;
      others = λ image. let lays = laid.lays image in lays.others;
    }

-- or its runs stay, and only its node is written
pub put_again : (old new : Transaction) (place : ℕ) (cached : CachedNode) (places : List Bool) (updates : List Update) → IsCached cached → times (148 + place) cached.fields.run_sectors ≡ 0 → cached_nodes_of new ≡ set (set (cached_nodes_of old) place None) place (Some cached)
    → new.nodes ≡ old.nodes → new.places ≡ places → ((image : Image) → IsSectorPut (applied updates image) (applied new.updates image) (148 + place) (inode_sector cached.form cached.fields)) → StandsAgain old new place cached places updates
put_again old new place cached places updates is_cached apart cached_nodes nodes same put =
    let away : (image : Image) (n : ℕ) → n ≢ 148 + place → applied new.updates image n ≡ applied updates image n = λ image. elsewhere (applied updates image) (applied new.updates image) (148 + place) (inode_sector cached.form cached.fields) (put image) in
    record {
      is = cached;
      put = cached_nodes ∙ put-back (cached_nodes_of old) place cached;
      same = nodes;
      rerun = record { form = refl; blocks = refl; names = refl; fields = refl; runs = is_cached.runs; each_run = is_cached.each_run; run_count = is_cached.run_count; fits = is_cached.fits };
      follow = λ n. ap (λ (p : List Bool). mark_by (148 + old.nodes) p n + times n cached.fields.run_sectors) same;
      len = ap length same;
      node = λ image. here (applied updates image) (applied new.updates image) (148 + place) (inode_sector cached.form cached.fields) (put image);
      run_sectors = λ image. run_sectors-kept (applied updates image) (applied new.updates image) cached.fields.run_sectors cached.runs
          (λ n some. away image n (λ e. absurd (let named = ap (λ (k : ℕ). times k cached.fields.run_sectors) e in omega arith)));
      others = λ image n off none. away image n off;
    }

-- what all are charged if the cached node has those blocks
module _ (old : Transaction) (place : ℕ) (was : CachedNode) (known : IsKnown old) (there : get_or (cached_nodes_of old) place None ≡ Some was) where
  each_charged : (i : ℕ) (cached : CachedNode) → get_or (cached_nodes_of old) i None ≡ Some cached → named_count cached ≤ charge_of cached
  each_charged i cached at = named_charged cached (cached_at old.nodes (mark_by (148 + old.nodes) old.places) (cached_nodes_of old) i cached known.cached_nodes at)

  pub charged : (mid_places : List Bool) (blocks : List (Option ℕ)) → ((n : ℕ) → mark_by (148 + old.nodes) mid_places n + times_set n was.blocks ≡ mark_by (148 + old.nodes) old.places n + times_set n blocks)
      → length mid_places + charge_of was ≤ free_places mid_places + charge_of_all (cached_nodes_of old) + length was.fields.run_sectors + set_blocks blocks
  charged mid_places blocks marks =
      let cached_nodes = known.cached_nodes in
      let mid_cached : CachedNode = record was { blocks = blocks } in
      let within = in_table old.nodes (mark_by (148 + old.nodes) old.places) (cached_nodes_of old) place was known.cached_nodes there in
      let named_now : (n : ℕ) → mark_by (148 + old.nodes) mid_places n ≤ named n (set (cached_nodes_of old) place (Some mid_cached)) =
      λ n. let e = ap (namings_of n) there in
      omega (arith, e, named-set n (cached_nodes_of old) place (Some mid_cached) (omega (arith, cached_nodes.count)), named_by-parts n was, named_by-parts n mid_cached, marks n, cached_nodes.marks n) in
      let all = region_named (148 + old.nodes) mid_places (set (cached_nodes_of old) place (Some mid_cached)) named_now in
      let moved = sum_over-set named_count (cached_nodes_of old) place was mid_cached there in
      let less = less_others named_count charge_of (cached_nodes_of old) place was each_charged there in
      omega (arith, all, moved, less)

module _ (old new : Transaction) (place : ℕ) (was mid_cached : CachedNode) (mid_places : List Bool) (mid_updates : List Update) (known : IsKnown old) (there : get_or (cached_nodes_of old) place None ≡ Some was) (moved : IsMoved old was mid_cached mid_places mid_updates)
    (back : StandsAgain old new place mid_cached mid_places mid_updates) where
  abbrev first : ℕ
  first = 148 + old.nodes

  abbrev is : CachedNode
  is = back.is

  rerun : IsRerun mid_cached is
  rerun = back.rerun

  within : place < old.nodes
  within = in_table old.nodes (mark_by first old.places) (cached_nodes_of old) place was known.cached_nodes there

  cached_was : IsCached was
  cached_was = cached_at old.nodes (mark_by first old.places) (cached_nodes_of old) place was known.cached_nodes there

  pub cached_nodes_are : cached_nodes_of new ≡ set (cached_nodes_of old) place (Some is)
  cached_nodes_are = back.put

  pub len : length new.places ≡ length old.places
  len = back.len ∙ moved.len

  record Counts (n : ℕ) : Type 0 where
    pub is_parts : times n is.fields.run_sectors + times_set n is.blocks ≡ times n is.fields.run_sectors + times_set n mid_cached.blocks
    pub marks : mark_by first mid_places n + times_set n was.blocks ≡ mark_by first old.places n + times_set n mid_cached.blocks
    pub follow : mark_by first new.places n + times n was.fields.run_sectors ≡ mark_by first mid_places n + times n is.fields.run_sectors
    pub some : times n was.fields.run_sectors + times_set n was.blocks ≤ mark_by first old.places n
    pub once : mark_by first new.places n ≤ 1
    pub behind : 0 < mark_by first new.places n → first ≤ n

  counts : (n : ℕ) → Counts n
  counts n =
      let each = each_mark first new.places 0 in
      let blocks : times_set n is.blocks ≡ times_set n mid_cached.blocks = ap (times_set n) rerun.blocks in
      let runs : times n mid_cached.fields.run_sectors ≡ times n was.fields.run_sectors = ap (times n) moved.run_sectors in
      record {
        is_parts = omega arith;
        marks = moved.marks n;
        follow = omega (arith, back.follow n);
        some = named_once old.nodes (mark_by first old.places) (cached_nodes_of old) place was known.cached_nodes there n;
        once = each.once n;
        behind = each.behind n;
      }

  number : is.fields.number ≡ was.fields.number
  number = ap (λ (f : Fields). f.number) rerun.fields ∙ moved.number

  pub is_cached : HasContent is.fields.kind is → IsCached is
  is_cached content = record {
    fits = rerun.fits;
    number = subst (λ (n : ℕ). 0 < n) (sym number) cached_was.number;
    each_run = rerun.each_run;
    run_count = rerun.run_count;
    runs = rerun.runs;
    blocks = ap length rerun.blocks ∙ moved.count ∙ sym (ap block_count rerun.fields);
    content = content;
  }

  -- what is outside of the node table and the data region stays
  outside : (n : ℕ) → (n < 148) ⊎ (end_of old ≤ n) → (times_set n was.blocks ≡ 0) × (times_set n mid_cached.blocks ≡ 0) × (times n is.fields.run_sectors ≡ 0)
  outside n out =
      let c = counts n in
      let far : (n < first) ⊎ (first + length old.places ≤ n) = elim out [ inl low ↦ inl (omega arith) | inr high ↦ inr high ] in
      let far_mid : (n < first) ⊎ (first + length mid_places ≤ n) = elim out [ inl low ↦ inl (omega arith) | inr high ↦ inr (omega (arith, moved.len)) ] in
      let far_new : (n < first) ⊎ (first + length new.places ≤ n) = elim out [ inl low ↦ inl (omega arith) | inr high ↦ inr (omega (arith, len)) ] in
      let none = mark-outside first old.places n far in
      let none_mid = mark-outside first mid_places n far_mid in
      let none_new = mark-outside first new.places n far_new in (
        omega (arith, c.some),
        omega (arith, c.some, c.marks),
        omega (arith, c.some, c.follow),
      )

  targets : AreBetween 148 (end_of old) new.updates
  targets = between-still 148 (end_of old) old.updates new.updates known.targets (λ image n out.
      let none = outside n out in
      back.others image n (λ e. elim out [ inl low ↦ omega arith | inr high ↦ omega (arith, within) ]) none.2 ∙ moved.others image n none.0 none.1)

  pub stays : HasContent is.fields.kind is → StaysKnown old new
  stays content =
      let end : end_of new ≡ end_of old = omega (arith, back.same, len) in
      let cached_nodes = changed_known old.nodes (mark_by first old.places) (cached_nodes_of old) place was known.cached_nodes there (mark_by first new.places) is number (is_cached content)
      (λ n. let c = counts n in omega (arith, c.is_parts, c.marks, c.follow, c.some)) (λ n. let c = counts n in c.once) (λ n. let c = counts n in c.behind) in
      record {
        known = record {
          cached_nodes = subst (λ (n : ℕ). AreCached n (mark_by (148 + n) new.places) (cached_nodes_of new)) (sym back.same)
              (subst (λ (l : List (Option CachedNode)). AreCached old.nodes (mark_by first new.places) l) (sym cached_nodes_are) cached_nodes);
          small = omega (arith, end, known.small);
          targets = subst (λ (e : ℕ). AreBetween 148 e new.updates) (sym end) targets;
        };
        nodes = back.same;
        places = len;
      }

  pub has_now : (cached : CachedNode) → cached.form ≡ mid_cached.form → cached.fields ≡ mid_cached.fields → cached.names ≡ mid_cached.names → HasNow old new place cached
  has_now cached form fields names = record {
    is = is;
    cached_nodes = cached_nodes_are;
    form = rerun.form ∙ sym form;
    fields = rerun.fields ∙ ap (λ (f : Fields). fields_with f is.fields.runs is.fields.run_sectors) (sym fields);
    names = rerun.names ∙ sym names;
  }

  -- ---- over a base

  own : (base : Image) → ChangesOwn old.nodes (image_of base old) (image_of base new) (mark_by first old.places) (mark_by first new.places) place (Some was) (Some is)
  own base = record {
    others = λ n low off none again.
        let c = counts n in
        back.others base n off (omega (arith, named_by-parts n is, c.is_parts)) ∙ moved.others base n (omega (arith, named_by-parts n was)) (omega (arith, named_by-parts n is, c.is_parts));
    marks = λ n. let c = counts n in omega (arith, named_by-parts n was, named_by-parts n is, c.is_parts, c.marks, c.follow);
    once = λ n. let c = counts n in c.once;
    behind = λ n. let c = counts n in c.behind;
  }

  -- its run sectors are not among its blocks
  held : (base : Image) → AreLaid old.nodes (image_of base old) (mark_by first old.places) (cached_nodes_of old) → AreRunSectors (applied mid_updates base) mid_cached.fields.run_sectors mid_cached.runs
  held base laid =
      let cached = held_at old.nodes (image_of base old) (mark_by first old.places) (cached_nodes_of old) place was laid there in
      let each = each_mark first old.places 0 in
      let each_mid = each_mark first mid_places 0 in
      rw (moved.run_sectors, moved.runs) (run_sectors-kept (image_of base old) (applied mid_updates base) was.fields.run_sectors was.runs
      (λ n some. let c = counts n in moved.others base n (omega (arith, c.some, each.once n)) (omega (arith, c.some, c.marks, each.once n, each_mid.once n))) cached.node.run_sectors)

  node : (base : Image) → AreLaid old.nodes (image_of base old) (mark_by first old.places) (cached_nodes_of old) → HoldsNode (image_of base new) place is
  node base laid =
      record {
        fits = rerun.fits;
        number = subst (λ (n : ℕ). 0 < n) (sym number) cached_was.number;
        sector = back.node base;
        each_run = rerun.each_run;
        run_count = rerun.run_count;
        run_sectors = back.run_sectors base (held base laid);
        runs = rerun.runs;
        blocks = ap length rerun.blocks ∙ moved.count ∙ sym (ap block_count rerun.fields);
      }

  pub steps : (base : Image) → AreLaid old.nodes (image_of base old) (mark_by first old.places) (cached_nodes_of old)
      → NodeSteps old.nodes (image_of base old) (image_of base new) (mark_by first old.places) (mark_by first new.places) (cached_nodes_of old) place was is
  steps base laid = record { within = within; there = there; number = number; laid = laid; node = node base laid; own = own base }

  -- writing the runs keeps what the blocks hold
  pub kept : (base : Image) (n : ℕ) → 0 < times_set n is.blocks → image_of base new n ≡ applied mid_updates base n
  kept base n some =
      let c = counts n in
      let blocks : times_set n is.blocks ≡ times_set n mid_cached.blocks = ap (times_set n) rerun.blocks in
      back.others base n (λ e. omega (arith, within, c.marks, c.follow, c.some, c.behind)) (omega (arith, c.marks, c.follow, c.some, c.once))

  pub shows_same : ShowsSame was.fields mid_cached.fields → ShowsSame was.fields is.fields
  shows_same shows = record {
    owner = ap (λ (f : Fields). f.owner) rerun.fields ∙ shows.owner;
    group = ap (λ (f : Fields). f.group) rerun.fields ∙ shows.group;
    acl = ap (λ (f : Fields). f.acl) rerun.fields ∙ shows.acl;
    change = ap (λ (f : Fields). f.change) rerun.fields ∙ shows.change;
    time_modify = ap (λ (f : Fields). f.time_modify) rerun.fields ∙ shows.time_modify;
  }

  pub makes : (base : Image) (size : ℕ) (edit : Edit) → IsTransaction base size old
      → LaysTree old.nodes (image_of base new) (mark_by first new.places) (cached_nodes_of old) place is (done edit (changed_tree base old)) → IsTransaction base size new × (changed_tree base new ≡ done edit (changed_tree base old))
  makes base size edit transaction gives = made base size old new place (Some is) edit transaction back.same len cached_nodes_are gives.laid gives.tree_is

  pub are_files : was.fields.kind ≡ kind.File → mid_cached.fields.kind ≡ kind.File → mid_cached.names ≡ [] → ShowsSame was.fields mid_cached.fields → AreFiles was is
  are_files was_file mid_file unnamed shows = record {
    was_file = was_file;
    is_file = ap (λ (f : Fields). f.kind) rerun.fields ∙ mid_file;
    unnamed = rerun.names ∙ unnamed;
    shows = shows_same shows;
  }

  pub file_content : mid_cached.fields.kind ≡ kind.File → mid_cached.names ≡ [] → HasContent is.fields.kind is
  file_content mid_file unnamed = content_of_file is (ap (λ (f : Fields). f.kind) rerun.fields ∙ mid_file) (rerun.names ∙ unnamed)

pub shows_sized : (fields : Fields) (size : ℕ) → ShowsSame fields (record fields { size = size })
shows_sized fields size = record { owner = refl; group = refl; acl = refl; change = refl; time_modify = refl }
