use Rattle.std.proofs.Common.{◌≡◌, ◌+◌, ◌-◌, ◌/◌, ◌∙◌, ℕ, Bool, List, Option, Some, None, length, set, get_or, take, ap, sym, subst, arith}
use Rattle.std.specs.Prelude.{IfSome}
use Rattle.std.proofs.lemmas.List.{length-take}
use Rattle.disk.specs.Moments.{Image, applied}
use Rattle.directory.specs.Listing.{by_stamp, without_entry}
use Rattle.directory.specs.Records.{Record, NamesStamped, without_place, place_of}
use Rattle.directory.specs.Encoding.{directory_sector}
use Rattle.model_tree.specs.declared.node.NodeKind.TheVariants as kind
use Rattle.model_tree.specs.Trees.Charge.{blocks_of}
use Rattle.model_tree.specs.Trees.Keyed.{without}
use Rattle.model_tree.specs.Trees.Tree.{entry_of}
use Rattle.layout.specs.CachedNodes.{CachedNode}
use Rattle.layout.specs.Laid.{names_of_block}
use Rattle.layout.specs.Marks.{times_set, mark_by}
use Rattle.node_table.specs.Seen.{seen}
use Rattle.tree_transaction.specs.Blocks.{HaveMarks, set_blocks}
use Rattle.tree_transaction.specs.Transactions.{StandsAgain}
use Rattle.tree_transaction.specs.Laying.{CanBeLaid, HasEnough}
use Rattle.tree_transaction.specs.Naming.{Rewrites, without_name}
use Rattle.tree_transaction.specs.Written.{HasItsRuns}
use Rattle.tree_transaction.proofs.CutLaws.{blocks_marked}
use Rattle.tree_transaction.proofs.DropLaws.{stamped_was, drop_few, drop_can, drop_enough, drop_runs, drop_stays, drop_now, drop_made, dropped}
use Rattle.tree_transaction.proofs.KnownLaws.{put-back, turns}
use Rattle.tree_transaction.proofs.NameLaws.{named_cached}
use Rattle.tree_transaction.proofs.transaction.Transaction.drop_name.Goals as goal

pub give_blocks-requires : goal.give_blocks-requires
give_blocks-requires c = subst (λ (one : CachedNode). HaveMarks (148 + c.args.self.now.nodes) c.args.self.now.places one.blocks) (sym c.cached.view_is)
    (blocks_marked c.args.self.now c.args.place 0 c.in_ok-cached.cached c.requires.known c.in_ok-cached.ensures.cached)

-- what is said of a value that was found
of_some : {X : Type 0} (P : X → Type 0) (found : Option X) (x : X) → found ≡ Some x → IfSome found P → P x
of_some P (Some y) x is holds = let same : y ≡ x = cc in subst P same holds
of_some P None x is holds = absurd (cc)

-- the cached node in memory is the one that was taken out, with other blocks and names
cached_is : (was cached_node : CachedNode) → cached_node ≡ was → (cut blocks : List (Option ℕ)) → cut ≡ blocks → (names : List Record) (size : ℕ) → size ≡ length names
    → record cached_node { fields = record cached_node.fields { size = size }; blocks = cut; names = names } ≡ named_cached was blocks names
cached_is was cached_node is cut blocks cut_is names size same =
    ap (λ (one : CachedNode). record one { fields = record one.fields { size = size }; blocks = cut; names = names }) is
    ∙ ap (λ (b : List (Option ℕ)). record was { fields = record was.fields { size = size }; blocks = b; names = names }) cut_is
    ∙ ap (λ (n : ℕ). record was { fields = record was.fields { size = n }; blocks = blocks; names = names }) same

-- what is left of the cached node that was taken out
record IsLeft (was cached_node : CachedNode) (name : List ℕ) (names : List Record) (at left : ℕ) (cut : List (Option ℕ)) : Type 0 where
  pub at_is : at ≡ place_of name was.names
  pub are : names ≡ without_place was.names (place_of name was.names)
  pub cut_is : cut ≡ take (blocks_of kind.Directory (length names)) was.blocks
  pub now_is : record cached_node { fields = record cached_node.fields { size = left }; blocks = cut; names = names } ≡ named_cached was (take (blocks_of kind.Directory (length names)) was.blocks) names

is_left : (was cached_node : CachedNode) → cached_node ≡ was → (name : List ℕ) (names : List Record) (at left : ℕ) (cut : List (Option ℕ)) → at ≡ place_of name cached_node.names → names ≡ without_place cached_node.names at → left ≡ length names
    → cut ≡ take ((left + 15 - 1) / 15) cached_node.blocks → IsLeft was cached_node name names at left cut
is_left was cached_node is name names at left cut at_inside removed left_is cut_to =
    let inside = ap (λ (one : CachedNode). one.names) is in
    let to : (left + 15 - 1) / 15 ≡ blocks_of kind.Directory (length names) = omega (arith, left_is) in
    let cut_is : cut ≡ take (blocks_of kind.Directory (length names)) was.blocks = cut_to ∙ ap (λ (n : ℕ). take n cached_node.blocks) to ∙ ap (λ (one : CachedNode). take (blocks_of kind.Directory (length names)) one.blocks) is in
    record {
      at_is = at_inside ∙ ap (place_of name) inside;
      are = removed ∙ ap (without_place cached_node.names) at_inside ∙ ap (λ (l : List Record). without_place l (place_of name l)) inside;
      cut_is = cut_is;
      now_is = cached_is was cached_node is cut (take (blocks_of kind.Directory (length names)) was.blocks) cut_is names left left_is;
    }

-- the marks follow the blocks that are left
marks_left : (was cached_node : CachedNode) → cached_node ≡ was → (names : List Record) (left first : ℕ) (places mid_places : List Bool) → left ≡ length names
    → ((n : ℕ) → mark_by first mid_places n + times_set n cached_node.blocks ≡ mark_by first places n + times_set n (take ((left + 15 - 1) / 15) cached_node.blocks))
    → (n : ℕ) → mark_by first mid_places n + times_set n was.blocks ≡ mark_by first places n + times_set n (take (blocks_of kind.Directory (length names)) was.blocks)
marks_left was cached_node is names left first places mid_places left_is marks n =
    let to : (left + 15 - 1) / 15 ≡ blocks_of kind.Directory (length names) = omega (arith, left_is) in
    let all = ap (λ (one : CachedNode). times_set n one.blocks) is in
    let prefix = ap (λ (k : ℕ). times_set n (take k cached_node.blocks)) to ∙ ap (λ (one : CachedNode). times_set n (take (blocks_of kind.Directory (length names)) one.blocks)) is in
    omega (arith, all, prefix, marks n)

module _ (c : goal.After-store_cut-arg-1) where
  abbrev cached_node : CachedNode
  cached_node = seen c.cached.inside.form c.cached.inside.inode c.cached.inside.runs c.cached.inside.blocks c.cached.inside.names

  left_can : IsLeft c.in_ok-cached.cached cached_node c.args.name.now c.remove.new.self c.unwrap-at.result.0 c.len-left.result c.cut.new.self
  left_can = is_left c.in_ok-cached.cached _ c.cached.view_is c.args.name.now c.remove.new.self c.unwrap-at.result.0 c.len-left.result c.cut.new.self (of_some _ c.in_ok-remove.field-0 c.unwrap-at.result c.unwrap-at.ensures c.in_ok-remove.ensures.place).0
      (of_some _ c.in_ok-remove.field-0 c.unwrap-at.result c.unwrap-at.ensures c.in_ok-remove.ensures.removed) c.len-left.ensures.count c.cut.ensures

  marks_can : (n : ℕ) → mark_by (148 + c.args.self.now.nodes) c.give_blocks.new.places n + times_set n c.in_ok-cached.cached.blocks
      ≡ mark_by (148 + c.args.self.now.nodes) c.args.self.now.places n + times_set n (take (blocks_of kind.Directory (length c.remove.new.self)) c.in_ok-cached.cached.blocks)
  marks_can = marks_left c.in_ok-cached.cached _ c.cached.view_is c.remove.new.self c.len-left.result (148 + c.args.self.now.nodes) c.args.self.now.places c.give_blocks.new.places c.len-left.ensures.count c.in_ok-give_blocks.ensures.marks

pub store_cut-requires-clause-can : goal.store_cut-requires-clause-can
store_cut-requires-clause-can c =
    let it = left_can c in
    subst (λ (one : CachedNode). CanBeLaid c.args.self.now.nodes c.args.place c.give_blocks.new.places one) (sym it.now_is)
    (drop_can c.args.self.now c.args.place c.in_ok-cached.cached c.args.name.now c.requires.known c.in_ok-cached.ensures.cached c.requires.names c.remove.new.self it.are c.give_blocks.new.places (marks_can c) c.give_blocks.ensures.len)

pub store_cut-requires-clause-enough : goal.store_cut-requires-clause-enough
store_cut-requires-clause-enough c =
    let it = left_can c in
    subst HasEnough (sym it.now_is)
    (drop_enough c.args.self.now c.args.place c.in_ok-cached.cached c.args.name.now c.requires.known c.in_ok-cached.ensures.cached c.requires.names c.remove.new.self it.are c.give_blocks.new.places (marks_can c) c.give_blocks.ensures.len)

pub store_cut-requires-clause-same : goal.store_cut-requires-clause-same
store_cut-requires-clause-same c more =
    let it = left_can c in
    let long = ap (λ (one : CachedNode). length one.blocks) c.cached.view_is in
    let left = ap length it.cut_is in
    subst (HasItsRuns c.args.place) (sym it.now_is)
    (drop_runs c.args.self.now c.args.place c.in_ok-cached.cached c.args.name.now c.requires.known c.in_ok-cached.ensures.cached c.requires.names c.remove.new.self it.are
    (omega (arith, more, long, left, c.len-before.ensures, length-take (blocks_of kind.Directory (length c.remove.new.self)) c.in_ok-cached.cached.blocks)) c.len-left.ensures.names)

pub returns-in_err-store_cut-clause-count : goal.returns-in_err-store_cut-clause-count
returns-in_err-store_cut-clause-count c =
    let it = is_left c.in_ok-cached.cached _ c.cached.view_is c.args.name.now c.remove.new.self c.unwrap-at.result.0 c.len-left.result c.cut.new.self (of_some _ c.in_ok-remove.field-0 c.unwrap-at.result c.unwrap-at.ensures c.in_ok-remove.ensures.place).0
    (of_some _ c.in_ok-remove.field-0 c.unwrap-at.result c.unwrap-at.ensures c.in_ok-remove.ensures.removed) c.len-left.ensures.count c.cut.ensures in
    let few = drop_few c.args.self.now c.args.place c.in_ok-cached.cached c.args.name.now c.requires.known c.in_ok-cached.ensures.cached c.requires.names c.remove.new.self it.are in
    let cut = ap (λ (b : List (Option ℕ)). set_blocks b) it.cut_is in
    omega (arith, few, cut, c.rewrite_names.ensures.count, c.rewrite_names-2.ensures.count, c.store_cut.ensures.count)

-- a block that is written again
written : (was is : Image) (blocks now : List (Option ℕ)) (block at : ℕ) (names : List Record) → blocks ≡ now → block ≡ at → Rewrites was is (get_or blocks block None) (directory_sector (names_of_block block names))
    → Rewrites was is (get_or now at None) (directory_sector (names_of_block at names))
written was is blocks now block at names cut same one =
    subst (λ (b : List (Option ℕ)). Rewrites was is (get_or b at None) (directory_sector (names_of_block at names))) cut
    (subst (λ (b : ℕ). Rewrites was is (get_or blocks b None) (directory_sector (names_of_block b names))) same one)

module _ (c : goal.After-drop-entry-2) where
  abbrev was : CachedNode
  was = c.in_ok-cached.cached

  abbrev mid_cached : CachedNode
  mid_cached = seen c.cached.inside.form c.cached.inside.inode c.cached.inside.runs c.cached.inside.blocks c.cached.inside.names

  abbrev name : List ℕ
  name = c.args.name.now

  abbrev names : List Record
  names = c.remove.new.self

  abbrev blocks : List (Option ℕ)
  blocks = take (blocks_of kind.Directory (length names)) was.blocks

  it : IsLeft was mid_cached name names c.unwrap-at.result.0 c.len-left.result c.cut.new.self
  it = is_left c.in_ok-cached.cached _ c.cached.view_is c.args.name.now c.remove.new.self c.unwrap-at.result.0 c.len-left.result c.cut.new.self (of_some _ c.in_ok-remove.field-0 c.unwrap-at.result c.unwrap-at.ensures c.in_ok-remove.ensures.place).0
      (of_some _ c.in_ok-remove.field-0 c.unwrap-at.result c.unwrap-at.ensures c.in_ok-remove.ensures.removed) c.len-left.ensures.count c.cut.ensures

  marks : (n : ℕ) → mark_by (148 + c.args.self.now.nodes) c.give_blocks.new.places n + times_set n was.blocks ≡ mark_by (148 + c.args.self.now.nodes) c.args.self.now.places n + times_set n blocks
  marks = marks_left c.in_ok-cached.cached _ c.cached.view_is c.remove.new.self c.len-left.result (148 + c.args.self.now.nodes) c.args.self.now.places c.give_blocks.new.places c.len-left.ensures.count c.in_ok-give_blocks.ensures.marks

  one : (image : Image) → Rewrites (applied c.args.self.now.updates image) (applied c.rewrite_names.new.updates image) (get_or blocks (place_of name was.names / 15) None) (directory_sector (names_of_block (place_of name was.names / 15) names))
  one image = written (applied c.args.self.now.updates image) (applied c.rewrite_names.new.updates image) c.cut.new.self blocks (c.unwrap-at.result.0 / 15) (place_of name was.names / 15) names it.cut_is
      (ap (λ (p : ℕ). p / 15) it.at_is) (c.in_ok-rewrite_names.ensures.names image)

  other : (image : Image) → Rewrites (applied c.rewrite_names.new.updates image) (applied c.rewrite_names-2.new.updates image) (get_or blocks (length names / 15) None) (directory_sector (names_of_block (length names / 15) names))
  other image = written (applied c.rewrite_names.new.updates image) (applied c.rewrite_names-2.new.updates image) c.cut.new.self blocks (c.len-left.result / 15) (length names / 15) names it.cut_is
      (ap (λ (p : ℕ). p / 15) c.len-left.ensures.count) (c.in_ok-rewrite_names-2.ensures.names image)

  back : StandsAgain c.args.self.now c.store_cut.new.self c.args.place (named_cached was blocks names) c.give_blocks.new.places c.rewrite_names-2.new.updates
  back =
      let stands = c.in_ok-store_cut.ensures.stands in
      subst (λ (one : CachedNode). StandsAgain c.args.self.now c.store_cut.new.self c.args.place one c.give_blocks.new.places c.rewrite_names-2.new.updates) it.now_is (record {
        is = stands.is;
        put = stands.put ∙ ap (λ (l : List (Option CachedNode)). set l c.args.place (Some stands.is)) c.in_ok-cached.ensures.cached_nodes ∙ put-back c.args.self.now.cached_nodes.cached_nodes c.args.place stands.is;
        same = stands.same;
        rerun = stands.rerun;
        follow = stands.follow;
        len = stands.len;
        node = stands.node;
        run_sectors = stands.run_sectors;
        others = stands.others;
      })

  map_is : (entry : Record) → entry_of name was.names ≡ Some entry → by_stamp names ≡ without (by_stamp was.names) entry.0
  map_is entry found =
      let inside : mid_cached.names ≡ was.names =
      ap (λ (one : CachedNode). one.names) c.cached.view_is in
      let stamped = stamped_was c.args.self.now c.args.place was name c.requires.known c.in_ok-cached.ensures.cached c.requires.names in
      let removes = c.in_ok-remove.ensures.by_stamp (subst NamesStamped (sym inside) stamped) in
      removes.entries ∙ ap (λ (l : List Record). without_entry (by_stamp l) (entry_of name l)) inside ∙ ap (λ (e : Option Record). without_entry (by_stamp was.names) e) found

pub returns-clause-known : goal.returns-clause-known
returns-clause-known c =
    let it_is = it c in
    drop_stays c.args.self.now c.args.place (was c) (name c) c.requires.known c.in_ok-cached.ensures.cached c.requires.names (names c) it_is.are c.give_blocks.new.places (marks c) c.give_blocks.ensures.len
    c.store_cut.new.self c.rewrite_names.new.updates c.rewrite_names-2.new.updates c.len-left.ensures.names (one c) (other c) (back c)

pub returns-clause-cached_nodes : goal.returns-clause-cached_nodes
returns-clause-cached_nodes c =
    let it_is = it c in
    turns c.args.self.now c.store_cut.new.self c.args.place (was c) c.in_ok-cached.ensures.cached (without_name (name c))
    (drop_now c.args.self.now c.args.place (was c) (name c) c.requires.known c.in_ok-cached.ensures.cached c.requires.names (names c) it_is.are c.give_blocks.new.places (marks c) c.give_blocks.ensures.len
    c.store_cut.new.self c.rewrite_names.new.updates c.rewrite_names-2.new.updates c.len-left.ensures.names (one c) (other c) (back c))

pub returns-clause-dropped : goal.returns-clause-dropped
returns-clause-dropped c =
    let it_is = it c in
    dropped c.args.self.now c.store_cut.new.self c.args.place (was c) (name c) c.in_ok-cached.ensures.cached
    (λ entry found base size. drop_made c.args.self.now c.args.place (was c) (name c) c.requires.known c.in_ok-cached.ensures.cached c.requires.names (names c) it_is.are c.give_blocks.new.places (marks c) c.give_blocks.ensures.len
    c.store_cut.new.self c.rewrite_names.new.updates c.rewrite_names-2.new.updates c.len-left.ensures.names (one c) (other c) (back c) base size entry.0 (map_is c entry found))
