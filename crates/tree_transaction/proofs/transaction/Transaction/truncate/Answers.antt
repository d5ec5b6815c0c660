use Rattle.std.proofs.Common.{◌≡◌, ◌≤◌, ◌<◌, ◌+◌, ◌∙◌, ◌^◌, ℕ, List, Option, None, set, take, ap, sym, subst, arith}
use Rattle.disk.specs.Moments.{Image, applied}
use Rattle.model_tree.specs.declared.node.NodeKind.TheVariants as kind
use Rattle.model_tree.specs.Trees.Charge.{blocks_of}
use Rattle.model_tree.specs.Trees.Edit.{SetSize}
use Rattle.layout.specs.CachedNodes.{CachedNode}
use Rattle.layout.specs.Marks.{times_set, mark_by}
use Rattle.node_table.specs.Seen.{seen}
use Rattle.tree_transaction.specs.Blocks.{HaveMarks, BlocksWithin, ChangeBlocks, ClearsTail}
use Rattle.tree_transaction.specs.Transactions.{IsBack, StandsAgain}
use Rattle.tree_transaction.specs.Grown.{sized}
use Rattle.tree_transaction.specs.Laying.{CanBeLaid, HasEnough}
use Rattle.tree_transaction.proofs.BackLaws.{laid_again}
use Rattle.tree_transaction.proofs.CutLaws.{cut_cached, blocks_marked, sectors_here, can_be_cut, cut_enough, cut_stays, cut_now, cut_made}
use Rattle.tree_transaction.proofs.KnownLaws.{same_cached, edits_over, turns}
use Rattle.tree_transaction.proofs.transaction.Transaction.truncate.Goals as goal
use Rattle.tree_transaction.proofs.transaction.Transaction.truncate.Given as given

pub clear_tail-requires-clause-sectors : goal.clear_tail-requires-clause-sectors
clear_tail-requires-clause-sectors g c =
    subst (λ (one : CachedNode). BlocksWithin (g.S.Sectors.size (g.S.Sectors.kept c.args.base.now)) one.blocks × ((n : ℕ) → times_set n one.blocks ≤ 1)) (sym c.cached.view_is)
    (sectors_here c.args.self.now c.args.place 0 c.in_ok-cached.cached c.requires.known.0 c.in_ok-cached.ensures.cached (g.S.Sectors.size (g.S.Sectors.kept c.args.base.now)) c.requires.known.1)

pub give_blocks-requires : goal.give_blocks-requires
give_blocks-requires g c = subst (λ (one : CachedNode). HaveMarks (148 + c.args.self.now.nodes) c.args.self.now.places one.blocks) (sym c.cached.view_is)
    (blocks_marked c.args.self.now c.args.place 0 c.in_ok-cached.cached c.requires.known.0 c.in_ok-cached.ensures.cached)

module _ (g : given.Over) (c : goal.After-store_node_and_runs-arg-1 g) where
  abbrev was : CachedNode
  was = c.in_ok-cached.cached

  cached_is : record (cut_cached (seen c.cached.inside.form c.cached.inside.inode c.cached.inside.runs c.cached.inside.blocks c.cached.inside.names) c.args.size) { blocks = c.cut.new.self } ≡ cut_cached was c.args.size
  cached_is =
      ap (λ (b : List (Option ℕ)). record (cut_cached (seen c.cached.inside.form c.cached.inside.inode c.cached.inside.runs c.cached.inside.blocks c.cached.inside.names) c.args.size) { blocks = b }) (rw c.blocks_of-count.ensures at c.cut.ensures)
      ∙ ap (λ (one : CachedNode). cut_cached one c.args.size) c.cached.view_is

  marks : (n : ℕ) → mark_by (148 + c.args.self.now.nodes) c.give_blocks.new.places n + times_set n was.blocks ≡ mark_by (148 + c.args.self.now.nodes) c.args.self.now.places n + times_set n (take (blocks_of kind.File c.args.size) was.blocks)
  marks = subst (λ (one : CachedNode). (n : ℕ) → mark_by (148 + c.args.self.now.nodes) c.give_blocks.new.places n + times_set n one.blocks
      ≡ mark_by (148 + c.args.self.now.nodes) c.args.self.now.places n + times_set n (take (blocks_of kind.File c.args.size) one.blocks)) c.cached.view_is (rw c.blocks_of-count.ensures at c.in_ok-give_blocks.ensures.marks)

  same : c.requires.file.cached ≡ was
  same = same_cached c.args.self.now.cached_nodes.cached_nodes c.args.place c.requires.file.cached was c.requires.file.there c.in_ok-cached.ensures.cached

  shorter : c.args.size ≤ was.fields.size
  shorter = let e = ap (λ (one : CachedNode). one.fields.size) same in omega (arith, e, c.requires.file.shorter)

  few : c.args.size < 2 ^ 64
  few = omega (arith, c.requires.file.shorter, c.requires.file.few)

  file : was.fields.kind ≡ kind.File
  file = ap (λ (one : CachedNode). one.fields.kind) (sym same) ∙ c.requires.file.file

  changes : ChangeBlocks c.args.self.now.updates c.clear_tail.new.updates was.blocks
  changes = subst (λ (one : CachedNode). ChangeBlocks c.args.self.now.updates c.clear_tail.new.updates one.blocks) c.cached.view_is c.in_ok-clear_tail.ensures.others

pub store_node_and_runs-requires-clause-can : goal.store_node_and_runs-requires-clause-can
store_node_and_runs-requires-clause-can g c = subst (λ (one : CachedNode). CanBeLaid c.args.self.now.nodes c.args.place c.give_blocks.new.places one) (sym (cached_is g c))
    (can_be_cut c.args.self.now c.args.place c.args.size c.in_ok-cached.cached c.requires.known.0 c.in_ok-cached.ensures.cached c.give_blocks.new.places (marks g c) c.give_blocks.ensures.len (few g c))

pub store_node_and_runs-requires-clause-enough : goal.store_node_and_runs-requires-clause-enough
store_node_and_runs-requires-clause-enough g c = subst HasEnough (sym (cached_is g c))
    (cut_enough c.args.self.now c.args.place c.args.size c.in_ok-cached.cached c.requires.known.0 c.in_ok-cached.ensures.cached c.give_blocks.new.places (marks g c) c.give_blocks.ensures.len (few g c))

module _ (g : given.Over) (c : goal.In_ok-store_node_and_runs g) where
  back : StandsAgain c.args.self.now c.store_node_and_runs.new.self c.args.place (cut_cached c.in_ok-cached.cached c.args.size) c.give_blocks.new.places c.clear_tail.new.updates
  back = laid_again c.args.self.now c.store_node_and_runs.new.self c.args.place (cut_cached c.in_ok-cached.cached c.args.size) c.give_blocks.new.places c.clear_tail.new.updates (
      subst (λ (one : CachedNode). IsBack c.args.self.now.nodes c.args.place c.give_blocks.new.places c.clear_tail.new.updates (set c.args.self.now.cached_nodes.cached_nodes c.args.place None) c.store_node_and_runs.new.self one) (cached_is g c.before.before.before)
      (subst (λ (l : List (Option CachedNode)). IsBack c.args.self.now.nodes c.args.place c.give_blocks.new.places c.clear_tail.new.updates l c.store_node_and_runs.new.self
      (record (cut_cached (seen c.cached.inside.form c.cached.inside.inode c.cached.inside.runs c.cached.inside.blocks c.cached.inside.names) c.args.size) { blocks = c.cut.new.self })) c.in_ok-cached.ensures.cached_nodes c.in_ok-store_node_and_runs.ensures.back))

pub returns-clause-known : goal.returns-clause-known
returns-clause-known g c =
    let d = c.before.before.before in
    cut_stays c.args.self.now c.args.place c.args.size c.in_ok-cached.cached c.requires.known.0 c.in_ok-cached.ensures.cached c.give_blocks.new.places (marks g d) c.give_blocks.ensures.len (few g d) (file g d) (shorter g d)
    c.store_node_and_runs.new.self c.clear_tail.new.updates (changes g d) (back g c)

pub returns-clause-cached_nodes : goal.returns-clause-cached_nodes
returns-clause-cached_nodes g c =
    let d = c.before.before.before in
    turns c.args.self.now c.store_node_and_runs.new.self c.args.place c.in_ok-cached.cached c.in_ok-cached.ensures.cached (λ cached_node. sized cached_node c.args.size)
    (cut_now c.args.self.now c.args.place c.args.size c.in_ok-cached.cached c.requires.known.0 c.in_ok-cached.ensures.cached c.give_blocks.new.places (marks g d) c.give_blocks.ensures.len (few g d) (file g d) (shorter g d)
    c.store_node_and_runs.new.self c.clear_tail.new.updates (changes g d) (back g c))

pub returns-clause-tree : goal.returns-clause-tree
returns-clause-tree g c word =
    let d = c.before.before.before in
    let base : Image = g.S.Sectors.image (g.S.Sectors.kept c.args.base.now) in
    let size = g.S.Sectors.size (g.S.Sectors.kept c.args.base.now) in
    edits_over c.args.self.now c.store_node_and_runs.new.self c.args.place c.in_ok-cached.cached c.in_ok-cached.ensures.cached base size (λ number. SetSize number c.args.size)
    (cut_made c.args.self.now c.args.place c.args.size c.in_ok-cached.cached c.requires.known.0 c.in_ok-cached.ensures.cached c.give_blocks.new.places (marks g d) c.give_blocks.ensures.len (few g d) (file g d) (shorter g d)
    c.store_node_and_runs.new.self c.clear_tail.new.updates (changes g d) (back g c) base
    (subst (λ (one : CachedNode). ClearsTail (applied c.args.self.now.updates base) (applied c.clear_tail.new.updates base) one.blocks c.args.size) c.cached.view_is (c.in_ok-clear_tail.ensures.tail word)) size)
