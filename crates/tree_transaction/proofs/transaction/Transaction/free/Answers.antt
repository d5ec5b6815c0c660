use Rattle.std.proofs.Common.{◌≡◌, ◌+◌, ◌∙◌, ℕ, length, take, refl, sym, ap, subst, arith}
use Rattle.model_tree.specs.Trees.Edit.{DropNode}
use Rattle.layout.specs.CachedNodes.{CachedNode}
use Rattle.layout.specs.Marks.{times, times_set, mark_by}
use Rattle.tree_transaction.specs.Blocks.{HaveMarks}
use Rattle.tree_transaction.specs.Laying.{AreMarked}
use Rattle.tree_transaction.proofs.CutLaws.{blocks_marked}
use Rattle.tree_transaction.proofs.FreeLaws.{numbers_marked, none-named, free_stays, free_made}
use Rattle.tree_transaction.proofs.KnownLaws.{edits}
use Rattle.tree_transaction.proofs.transaction.Transaction.free.Goals as goal

pub give_blocks-requires : goal.give_blocks-requires
give_blocks-requires c = subst (λ (one : CachedNode). HaveMarks (148 + c.args.self.now.nodes) c.args.self.now.places one.blocks) (sym c.cached.view_is)
    (blocks_marked c.args.self.now c.args.place 0 c.in_ok-cached.cached c.requires.known c.in_ok-cached.ensures.cached)

pub give_numbers-requires : goal.give_numbers-requires
give_numbers-requires c = subst (λ (one : CachedNode). AreMarked (148 + c.args.self.now.nodes) c.give_blocks.new.places one.fields.run_sectors) (sym c.cached.view_is)
    (numbers_marked c.args.self.now c.args.place c.in_ok-cached.cached c.give_blocks.new.places c.requires.known c.in_ok-cached.ensures.cached
    (subst (λ (one : CachedNode). (n : ℕ) → mark_by (148 + c.args.self.now.nodes) c.give_blocks.new.places n + times_set n one.blocks ≡ mark_by (148 + c.args.self.now.nodes) c.args.self.now.places n + times_set n (take 0 one.blocks)) c.cached.view_is c.in_ok-give_blocks.ensures.marks))

module _ (c : goal.After-drop-cached-inside-10) where
  abbrev was : CachedNode
  was = c.in_ok-cached.cached

  marks : (n : ℕ) → mark_by (148 + c.args.self.now.nodes) c.give_numbers.new.places n + (times n was.fields.run_sectors + times_set n was.blocks) ≡ mark_by (148 + c.args.self.now.nodes) c.args.self.now.places n
  marks n =
      let blocks = ap (λ (one : CachedNode). times_set n one.blocks) c.cached.view_is in
      let runs = ap (λ (one : CachedNode). times n one.fields.run_sectors) c.cached.view_is in
      omega (arith, blocks, runs, c.in_ok-give_blocks.ensures.marks n, c.in_ok-give_numbers.ensures.marks n, none-named n c.give_numbers.new.numbers.items c.in_ok-give_numbers.ensures.most)

  len : length c.give_numbers.new.places ≡ length c.args.self.now.places
  len = c.give_numbers.ensures.len ∙ c.give_blocks.ensures.len

pub returns-clause-known : goal.returns-clause-known
returns-clause-known c =
    free_stays c.args.self.now _ c.args.place c.in_ok-cached.cached c.requires.known c.in_ok-cached.ensures.cached refl (len c) (marks c) c.in_ok-cached.ensures.cached_nodes c.in_ok-put.ensures.image

pub returns-clause-freed : goal.returns-clause-freed
returns-clause-freed c = edits c.args.self.now _ c.args.place c.in_ok-cached.cached c.in_ok-cached.ensures.cached DropNode
    (free_made c.args.self.now _ c.args.place c.in_ok-cached.cached c.requires.known c.in_ok-cached.ensures.cached refl (len c) (marks c) c.in_ok-cached.ensures.cached_nodes c.in_ok-put.ensures.image)
