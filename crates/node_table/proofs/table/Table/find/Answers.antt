use Rattle.std.proofs.Common.{◌≡◌, ℕ, List, Option, Some, get_or, sym, ap, subst, ◌∙◌}
use Rattle.std.proofs.lemmas.List.{get_or_default}
use Rattle.layout.specs.CachedNodes.{CachedNode}
use Rattle.model_tree.specs.Trees.Keyed.{Keyed, at}
use Rattle.node_table.specs.Index.{IsAt}
use Rattle.node_table.specs.Tables.{node_number_at}
use Rattle.node_table.proofs.IndexLaws.{at-entry}
use Rattle.node_table.proofs.TableLaws.{own-places}
use Rattle.node_table.proofs.table.Table.find.Goals as goal

pub returns-clause-some : goal.returns-clause-some
returns-clause-some c =
    let kept = c.self.invariant.0 in
    let index : Keyed ℕ = c.self.inside.index.items in
    let i = c.in_ok-i.i in
    let read = c.index.result.now in
    let is : IsAt index c.args.number i = subst (λ (l : Keyed ℕ). IsAt l c.args.number i) c.deref.ensures.value c.in_ok-i.ensures.some in
    let key : (get_or index i read).0 ≡ c.args.number = ap (λ (e : ℕ × ℕ). e.0) (get_or_default index i read (0, 0) is.within) ∙ is.is in
    let there : at c.args.number index ≡ Some read.1 =
    ap (λ (n : ℕ). at n index) (sym key) ∙ at-entry 0 index kept.rising i read is.within ∙ ap (λ (e : ℕ × ℕ). Some e.1) (sym c.index.ensures) in
    subst (λ (cached_nodes : List (Option CachedNode)). node_number_at cached_nodes read.1 ≡ Some c.args.number) c.self.view_is (kept.found c.args.number read.1 there)

pub returns-in_err-i-clause-only : goal.returns-in_err-i-clause-only
returns-in_err-i-clause-only c = own-places c.self.inside.cached_nodes.items c.self.inside.index.items c.self.inside.free.items c.self.inside.charge c.args.self.now c.self.invariant.0 c.self.view_is

pub returns-clause-only : goal.returns-clause-only
returns-clause-only c = own-places c.self.inside.cached_nodes.items c.self.inside.index.items c.self.inside.free.items c.self.inside.charge c.args.self.now c.self.invariant.0 c.self.view_is
