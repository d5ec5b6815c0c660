-- Nodes that are made, and their metadata.
use Rattle.std.proofs.Common.{◌≡◌, ◌≢◌, ◌≤◌, ◌<◌, ◌+◌, ℕ, Bool, List, Option, Some, None, length, get_or, set, refl, sym, ap, ◌∙◌, arith, subst}
use Rattle.disk.specs.Moments.{Image, applied}
use Rattle.inode.specs.declared.node.Form.{Form}
use Rattle.inode.specs.Fields.{Fields, IsInode}
use Rattle.inode.specs.Encoding.{inode_sector}
use Rattle.model_tree.specs.declared.node.NodeKind.{NodeKind}
use Rattle.model_tree.specs.declared.node.NodeKind.TheVariants as kind
use Rattle.model_tree.specs.Trees.Charge.{blocks_of}
use Rattle.model_tree.specs.Trees.Edit.{Metadata, Show, PutNode, done}
use Rattle.layout.specs.CachedNodes.{CachedNode, byte_at, bytes_in, content_of, node_with, node_of}
use Rattle.layout.specs.CachedNodes as layout
use Rattle.layout.specs.ChangeLaws.{ChangesOwn}
use Rattle.layout.specs.Known.{IsCached, HasContent, AreCached}
use Rattle.layout.specs.Laid.{AreLaid, HoldsNode, HoldsContent}
use Rattle.layout.specs.Marks.{times, times_set, namings_of, mark_by}
use Rattle.layout.specs.Steps.{NodeSteps, LaysTree}
use Rattle.layout.proofs.Frame.{run_sectors-kept}
use Rattle.layout.proofs.Knowing.{one_cached_change}
use Rattle.layout.proofs.MarkProofs.{each_mark}
use Rattle.layout.proofs.NodeEditLaws.{named_by-parts, make_node, show_other}
use Rattle.layout.proofs.ChargeLaws.{named-none}
use Rattle.node_table.specs.Tables.{node_number, HasNoNode, IsFree}
use Rattle.tree_transaction.specs.Blocks.{IsSectorPut}
use Rattle.tree_transaction.specs.declared.transaction.Transaction.{Transaction}
use Rattle.tree_transaction.specs.Transactions.{cached_nodes_of, image_of, changed_tree, IsKnown, StaysKnown}
use Rattle.tree_transaction.specs.Transactions.{MakesOver, HasNow}
use Rattle.tree_transaction.specs.Nodes.{new_cached, IsNewCached, no_content, new_node, fields_showing}
use Rattle.tree_transaction.specs.Nodes.{showing, CanShow}
use Rattle.tree_transaction.proofs.BlockLaws.{here, elsewhere}
use Rattle.tree_transaction.proofs.KnownLaws.{same_cached, in_table, cached_at, named_once, held_at, changed_known, stays_put, made}

-- ---- a node is made

no_blocks : (k : NodeKind) → blocks_of k 0 ≡ 0
no_blocks kind.File = refl
no_blocks kind.Directory = refl

new_content : (image : Image) (form : Form) (fields : Fields) (k : NodeKind) → HoldsContent image k (new_cached form fields)
unfolding byte_at
new_content image form fields kind.File = record { unnamed = refl; tail = λ k h. refl }
new_content image form fields kind.Directory = record {
  count = refl;
  names = record { few = omega arith; each = tt; apart = λ i j d low h. absurd (omega arith) };
  stamped = record { above = tt; apart = λ i j d low h. absurd (omega arith) };
  encoded = λ i h. absurd (omega arith);
}

new_of : (image : Image) (form : Form) (fields : Fields) (k : NodeKind) → content_of image k (new_cached form fields) ≡ no_content k
unfolding bytes_in
new_of image form fields kind.File = refl
new_of image form fields kind.Directory = refl

module _ (nodes place : ℕ) (old new : Image) (mark : ℕ → ℕ) (cached_nodes : List (Option CachedNode)) (form : Form) (fields : Fields) (within : place < nodes) (laid : AreLaid nodes old mark cached_nodes) (free : IsFree cached_nodes place) (fits : IsInode form (new_cached form fields).fields)
    (some : 0 < fields.number) (fresh : HasNoNode cached_nodes fields.number) (is : IsSectorPut old new (148 + place) (inode_sector form (new_cached form fields).fields)) where
  node : HoldsNode new place (new_cached form fields)
  node = record {
    fits = fits;
    number = some;
    sector = here old new (148 + place) (inode_sector form (new_cached form fields).fields) is;
    each_run = tt;
    run_count = refl;
    run_sectors = λ i h. absurd (omega arith);
    runs = record { rising = tt; same = λ block. refl };
    blocks = sym (no_blocks fields.kind);
  }

  nothing : (n : ℕ) → namings_of n (Some (new_cached form fields)) ≡ 0
  nothing n = named_by-parts n (new_cached form fields)

  none : (n : ℕ) → namings_of n None ≡ 0
  unfolding namings_of
  none n = refl

  own : ChangesOwn nodes old new mark mark place None (Some (new_cached form fields))
  own = record {
    others = λ n low off was now. elsewhere old new (148 + place) (inode_sector form (new_cached form fields).fields) is n off;
    marks = λ n. omega (arith, nothing n, none n);
    once = laid.once;
    behind = laid.behind;
  }

  metadata : node_of new (new_cached form fields) ≡ new_node (new_cached form fields)
  unfolding node_of
  metadata = ap (node_with (new_cached form fields).fields) (new_of new form fields fields.kind)

  pub make_gives : LaysTree nodes new mark cached_nodes place (new_cached form fields) (done (PutNode fields.number (new_node (new_cached form fields))) (layout.tree_of old cached_nodes))
  make_gives =
      let gives = make_node nodes old new mark mark cached_nodes place (new_cached form fields) (record {
        within = within;
        free = free.free;
        laid = laid;
        fresh = λ i other off there same. fresh i (ap node_number there ∙ ap (λ (n : ℕ). Some n) same);
        node = node;
        content = new_content new form fields fields.kind;
        own = own;
      }) in
      record { laid = gives.laid; tree_is = gives.tree_is ∙ ap (λ n. done (PutNode fields.number n) (layout.tree_of old cached_nodes)) metadata }

known_content : (form : Form) (fields : Fields) (k : NodeKind) → HasContent k (new_cached form fields)
known_content form fields kind.File = refl
known_content form fields kind.Directory = record {
  count = refl;
  names = record { few = omega arith; each = tt; apart = λ i j d low h. absurd (omega arith) };
  stamped = record { above = tt; apart = λ i j d low h. absurd (omega arith) };
}

module _ (old new : Transaction) (place : ℕ) (cached_node : CachedNode) (known : IsKnown old) (free : IsFree (cached_nodes_of old) place) (is_new : IsNewCached cached_node) (fresh : HasNoNode (cached_nodes_of old) cached_node.fields.number) (same : new.nodes ≡ old.nodes) (places : new.places ≡ old.places)
    (cached_nodes : cached_nodes_of new ≡ set (cached_nodes_of old) place (Some cached_node)) (put : (image : Image) → IsSectorPut (applied old.updates image) (applied new.updates image) (148 + place) (inode_sector cached_node.form cached_node.fields)) where
  abbrev first : ℕ
  first = 148 + old.nodes

  in_it : place < old.nodes
  in_it = let known_cached_nodes = known.cached_nodes in let h = free.within in omega (arith, known_cached_nodes.count)

  is_known : IsCached cached_node
  is_known = subst IsCached (sym is_new.is) (record {
    fits = subst (λ (c : CachedNode). IsInode c.form c.fields) is_new.is is_new.fits;
    number = is_new.number;
    each_run = tt;
    run_count = refl;
    runs = record { rising = tt; same = λ block. refl };
    blocks = sym (no_blocks cached_node.fields.kind);
    content = known_content cached_node.form cached_node.fields cached_node.fields.kind;
  })

  new-named : (n : ℕ) → namings_of n (Some cached_node) ≡ 0
  new-named n = ap (λ (c : CachedNode). namings_of n (Some c)) is_new.is ∙ named_by-parts n (new_cached cached_node.form cached_node.fields)

  cached_nodes_known : AreCached old.nodes (mark_by first old.places) (set (cached_nodes_of old) place (Some cached_node))
  cached_nodes_known =
      let known_cached_nodes = known.cached_nodes in
      one_cached_change old.nodes (mark_by first old.places) (mark_by first old.places) (cached_nodes_of old) place (Some cached_node) in_it known_cached_nodes
      (λ i other off there e. fresh i (ap node_number there ∙ ap (λ (n : ℕ). Some n) e)) is_known
      (record { marks = λ n. omega (arith, ap (namings_of n) free.free, named-none n, new-named n); once = known_cached_nodes.once; behind = known_cached_nodes.behind })

  pub make_stays : StaysKnown old new
  make_stays = stays_put old new (148 + place) known
      (subst (λ (p : List Bool). AreCached old.nodes (mark_by first p) (cached_nodes_of new)) (sym places) (subst (λ (l : List (Option CachedNode)). AreCached old.nodes (mark_by first old.places) l) (sym cached_nodes) cached_nodes_known))
      same (ap length places) (omega arith) (omega (arith, in_it)) (λ image n off. elsewhere (applied old.updates image) (applied new.updates image) (148 + place) (inode_sector cached_node.form cached_node.fields) (put image) n off)

  pub make_made : (base : Image) (size : ℕ) → MakesOver base size old new (PutNode cached_node.fields.number (new_node cached_node))
  make_made base size transaction =
      let fresh_cached : CachedNode = new_cached cached_node.form cached_node.fields in
      let is : IsSectorPut (image_of base old) (image_of base new) (148 + place) (inode_sector fresh_cached.form fresh_cached.fields) =
      subst (λ (one : CachedNode). IsSectorPut (image_of base old) (image_of base new) (148 + place) (inode_sector one.form one.fields)) is_new.is (put base) in
      let gives = make_gives old.nodes place (image_of base old) (image_of base new) (mark_by first old.places) (cached_nodes_of old) cached_node.form cached_node.fields in_it transaction.laid free
      (subst (λ (one : CachedNode). IsInode one.form one.fields) is_new.is is_new.fits) is_new.number fresh is in
      made base size old new place (Some cached_node) (PutNode cached_node.fields.number (new_node cached_node)) transaction same (ap length places) cached_nodes
      (subst (λ (p : List Bool). AreLaid old.nodes (image_of base new) (mark_by first p) (set (cached_nodes_of old) place (Some cached_node))) (sym places)
      (subst (λ (one : CachedNode). AreLaid old.nodes (image_of base new) (mark_by first old.places) (set (cached_nodes_of old) place (Some one))) (sym is_new.is) gives.laid))
      (ap (λ (one : CachedNode). layout.tree_of (image_of base new) (set (cached_nodes_of old) place (Some one))) is_new.is ∙ gives.tree_is
      ∙ ap (λ (one : CachedNode). done (PutNode one.fields.number (new_node one)) (changed_tree base old)) (sym is_new.is))

-- ---- only a node's own sector is written: its run sectors and blocks stay

module _ (old new : Transaction) (place : ℕ) (was is : CachedNode) (known : IsKnown old) (there : get_or (cached_nodes_of old) place None ≡ Some was) (number : is.fields.number ≡ was.fields.number) (runs : is.runs ≡ was.runs) (sectors : is.fields.run_sectors ≡ was.fields.run_sectors)
    (blocks : (n : ℕ) → times_set n is.blocks ≡ times_set n was.blocks) (is_known : IsCached is) (same : new.nodes ≡ old.nodes) (places : new.places ≡ old.places) (cached_nodes : cached_nodes_of new ≡ set (cached_nodes_of old) place (Some is))
    (put : (image : Image) → IsSectorPut (applied old.updates image) (applied new.updates image) (148 + place) (inode_sector is.form is.fields)) where
  abbrev first_here : ℕ
  first_here = 148 + old.nodes

  within_here : place < old.nodes
  within_here = in_table old.nodes (mark_by first_here old.places) (cached_nodes_of old) place was known.cached_nodes there

  once : (n : ℕ) → times n was.fields.run_sectors + times_set n was.blocks ≤ mark_by first_here old.places n
  once = named_once old.nodes (mark_by first_here old.places) (cached_nodes_of old) place was known.cached_nodes there

  same_times : (n : ℕ) → times n is.fields.run_sectors ≡ times n was.fields.run_sectors
  same_times n = ap (times n) sectors

  away : (image : Image) (n : ℕ) → n ≢ 148 + place → applied new.updates image n ≡ applied old.updates image n
  away image = elsewhere (applied old.updates image) (applied new.updates image) (148 + place) (inode_sector is.form is.fields) (put image)

  -- what the node names lies after the node table
  apart : (n : ℕ) → 0 < times n was.fields.run_sectors + times_set n was.blocks → n ≢ 148 + place
  apart n some e = let each = each_mark first_here old.places 0 in omega (arith, within_here, once n, each.behind n)

  pub alone_stays : StaysKnown old new
  alone_stays =
      let each = each_mark first_here old.places 0 in
      let known_cached_nodes = changed_known old.nodes (mark_by first_here old.places) (cached_nodes_of old) place was known.cached_nodes there (mark_by first_here old.places) is number is_known
      (λ n. omega (arith, same_times n, blocks n)) (λ n. each.once n) (λ n. each.behind n) in
      stays_put old new (148 + place) known
      (subst (λ (p : List Bool). AreCached old.nodes (mark_by first_here p) (cached_nodes_of new)) (sym places) (subst (λ (l : List (Option CachedNode)). AreCached old.nodes (mark_by first_here old.places) l) (sym cached_nodes) known_cached_nodes))
      same (ap length places) (omega arith) (omega (arith, within_here)) away

  pub alone_kept : (base : Image) (n : ℕ) → 0 < times_set n was.blocks → image_of base new n ≡ image_of base old n
  alone_kept base n some = away base n (apart n (omega arith))

  pub alone_steps : (base : Image) → AreLaid old.nodes (image_of base old) (mark_by first_here old.places) (cached_nodes_of old)
      → NodeSteps old.nodes (image_of base old) (image_of base new) (mark_by first_here old.places) (mark_by first_here new.places) (cached_nodes_of old) place was is
  alone_steps base laid =
      let each = each_mark first_here new.places 0 in
      let held = held_at old.nodes (image_of base old) (mark_by first_here old.places) (cached_nodes_of old) place was laid there in
      let marked : (n : ℕ) → mark_by first_here new.places n ≡ mark_by first_here old.places n = λ n. ap (λ (p : List Bool). mark_by first_here p n) places in
      let kept = run_sectors-kept (image_of base old) (image_of base new) was.fields.run_sectors was.runs (λ n some. away base n (apart n (omega arith))) held.node.run_sectors in
      record {
        within = within_here;
        there = there;
        number = number;
        laid = laid;
        node = record {
          fits = is_known.fits;
          number = is_known.number;
          sector = here (image_of base old) (image_of base new) (148 + place) (inode_sector is.form is.fields) (put base);
          each_run = is_known.each_run;
          run_count = is_known.run_count;
          run_sectors = rw (sectors, runs) kept;
          runs = is_known.runs;
          blocks = is_known.blocks;
        };
        own = record {
          others = λ n low off none again. away base n off;
          marks = λ n. omega (arith, named_by-parts n was, named_by-parts n is, same_times n, blocks n, marked n);
          once = λ n. each.once n;
          behind = λ n. each.behind n;
        };
      }

-- ---- a node gets other metadata

-- what is required is required of the cached node at the place
pub fits_at : (cached_nodes : List (Option CachedNode)) (place : ℕ) (metadata : Metadata) (was : CachedNode) → CanShow cached_nodes place metadata → get_or cached_nodes place None ≡ Some was → IsInode was.form (fields_showing was.fields metadata)
fits_at cached_nodes place metadata was can there = subst (λ (one : CachedNode). IsInode one.form (fields_showing one.fields metadata)) (same_cached cached_nodes place can.cached was can.there there) can.fits

content_metadata : (metadata : Metadata) (cached_node : CachedNode) (k : NodeKind) → HasContent k cached_node → HasContent k (showing metadata cached_node)
content_metadata it cached_node kind.File none = none
content_metadata it cached_node kind.Directory names = record { count = names.count; names = names.names; stamped = names.stamped }

pub metadata_cached : (metadata : Metadata) (cached_node : CachedNode) → IsCached cached_node → IsInode cached_node.form (fields_showing cached_node.fields metadata) → IsCached (showing metadata cached_node)
metadata_cached it cached_node is fits = record {
  fits = fits;
  number = is.number;
  each_run = is.each_run;
  run_count = is.run_count;
  runs = is.runs;
  blocks = is.blocks;
  content = content_metadata it cached_node cached_node.fields.kind is.content;
}

module _ (old new : Transaction) (place : ℕ) (was : CachedNode) (metadata : Metadata) (known : IsKnown old) (there : get_or (cached_nodes_of old) place None ≡ Some was) (fits : IsInode was.form (fields_showing was.fields metadata)) (same : new.nodes ≡ old.nodes) (places : new.places ≡ old.places)
    (cached_nodes : cached_nodes_of new ≡ set (cached_nodes_of old) place (Some (showing metadata was)))
    (put : (image : Image) → IsSectorPut (applied old.updates image) (applied new.updates image) (148 + place) (inode_sector was.form (fields_showing was.fields metadata))) where
  was_known : IsCached was
  was_known = cached_at old.nodes (mark_by (148 + old.nodes) old.places) (cached_nodes_of old) place was known.cached_nodes there

  metadata_known : IsCached (showing metadata was)
  metadata_known = metadata_cached metadata was was_known fits

  pub show_stays : StaysKnown old new
  show_stays = alone_stays old new place was (showing metadata was) known there refl refl refl (λ n. refl) metadata_known same places cached_nodes put

  pub show_now : HasNow old new place (showing metadata was)
  show_now = record { is = showing metadata was; cached_nodes = cached_nodes; form = refl; fields = refl; names = refl }

  pub show_made : (base : Image) (size : ℕ) → MakesOver base size old new (Show was.fields.number metadata)
  show_made base size transaction =
      let gives = show_other old.nodes (image_of base old) (image_of base new) (mark_by (148 + old.nodes) old.places) (mark_by (148 + old.nodes) new.places) (cached_nodes_of old) place was (showing metadata was) metadata
      (alone_steps old new place was (showing metadata was) known there refl refl refl (λ n. refl) metadata_known same places cached_nodes put base transaction.laid)
      (record {
        kind = refl;
        size = refl;
        blocks = refl;
        names = refl;
        kept = alone_kept old new place was (showing metadata was) known there refl refl refl (λ n. refl) metadata_known same places cached_nodes put base;
        owner = refl;
        group = refl;
        acl = refl;
        change = refl;
        time_modify = refl;
      }) in
      made base size old new place (Some (showing metadata was)) (Show was.fields.number metadata) transaction same (ap length places) cached_nodes gives.laid gives.tree_is
