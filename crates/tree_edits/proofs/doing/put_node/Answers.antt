use Rattle.std.proofs.Common.{◌≡◌, ◌<◌, ℕ, List, [], ◌∷◌, Option, sym, ap, ap₂, subst, arith, inr}
use Rattle.node_table.specs.Tables.{HasNoNode}
use Rattle.tree_transaction.specs.Transactions.{cached_nodes_of, MakesOver}
use Rattle.tree_transaction.specs.Nodes.{metadata_of}
use Rattle.inode.specs.Fields.{Fields, IsInode}
use Rattle.layout.specs.CachedNodes.{CachedNode}
use Rattle.layout.specs.Stands.{HaveCurrentForms}
use Rattle.model_tree.specs.Trees.Edit.{PutNode}
use Rattle.model_tree.specs.Trees.Tree.{Node}
use Rattle.tree_edits.specs.Doing.{AreMade}
use Rattle.tree_edits.proofs.DoingLaws.{fresh_fits, made_outline, new_is, node_is}
use Rattle.tree_edits.proofs.PlaceLaws.{not_there, put_forms, made_put}
use Rattle.tree_edits.proofs.RoomLaws.{no_place}
use Rattle.tree_edits.proofs.doing.put_node.Goals as goal

pub make-requires-clause-node : goal.make-requires-clause-node
make-requires-clause-node c =
    let cached_node : CachedNode = c.in_ok-cached.cached in
    let fields = c.in_ok-cached.ensures.fields in
    record {
      is = new_is cached_node c.in_ok-cached.ensures.cached;
      number = subst (λ (f : Fields). 0 < f.number) (sym fields) c.requires.can.some;
      fits = subst (IsInode cached_node.form) (sym fields) (fresh_fits cached_node.form (ap (λ (one : CachedNode). one.form) c.in_ok-cached.ensures.cached) c.args.kind c.args.number c.args.metadata.now c.ranges.number.fits c.requires.can.entries);
    }

pub make-requires-clause-fresh : goal.make-requires-clause-fresh
make-requires-clause-fresh c = subst (λ (f : Fields). HasNoNode (cached_nodes_of c.args.transaction.now) f.number) (sym c.in_ok-cached.ensures.fields)
    (not_there (cached_nodes_of c.args.transaction.now) c.requires.known.cached_nodes.apart c.args.number c.requires.can.fresh)

pub returns-clause-done : goal.returns-clause-done
returns-clause-done c = λ base size.
    let old = c.args.transaction.now in
    let new = c.make.new.self in
    let place = c.in-Some.place in
    let cached_node : CachedNode = c.in_ok-cached.cached in
    let fields = c.in_ok-cached.ensures.fields in
    let free = c.in-Some.ensures.some in
    let number : cached_node.fields.number ≡ c.args.number = ap (λ (f : Fields). f.number) fields in
    let fresh : HasNoNode (cached_nodes_of old) c.args.number = not_there (cached_nodes_of old) c.requires.known.cached_nodes.apart c.args.number c.requires.can.fresh in
    record {
      known = c.in_ok-make.ensures.known;
      outline = made_outline old new c.requires.known place c.args.kind c.args.number (metadata_of c.args.metadata.now) cached_node free.within free.free fresh c.in_ok-cached.ensures.cached fields c.in_ok-make.ensures.cached_nodes;
      forms = λ forms. subst HaveCurrentForms (sym c.in_ok-make.ensures.cached_nodes) (put_forms (cached_nodes_of old) place cached_node free.within (ap (λ (one : CachedNode). one.form) c.in_ok-cached.ensures.cached) forms);
      made = subst (λ (now : List (Option CachedNode)). AreMade (cached_nodes_of old) now (c.args.number ∷ [])) (sym c.in_ok-make.ensures.cached_nodes)
          (made_put (cached_nodes_of old) place cached_node (c.args.number ∷ []) free.within (inr (0, (omega arith, number))));
      tree = λ word laid. subst (λ (edit : ℕ × Node). MakesOver base size old new (PutNode edit.0 edit.1)) (ap₂ (λ (n : ℕ) (node : Node). (n, node)) number (node_is c.args.kind c.args.number (metadata_of c.args.metadata.now) cached_node fields)) (c.in_ok-make.ensures.made base size) laid;
      count = omega (arith, c.make.ensures.count);
    }

pub returns-in_default-clause-full : goal.returns-in_default-clause-full
returns-in_default-clause-full c = λ full. no_place c.args.transaction.now c.requires.known c.args.kind c.args.number c.args.metadata.now c.requires.can.fresh c.in_default.ensures.none
