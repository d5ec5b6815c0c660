use Rattle.std.proofs.Common.{◌≡◌, ◌≤◌, ◌<◌, ◌+◌, ℕ, List, Option, Some, None, length, get_or, ap, sym, subst, ◌∙◌, inl, inr, arith}
use Rattle.std.proofs.lemmas.Bool.{cases_eq}
use Rattle.std.proofs.lemmas.List.{get_or_default}
use Rattle.layout.specs.CachedNodes.{CachedNode}
use Rattle.node_table.specs.Tables.{charge_of}
use Rattle.node_table.proofs.FillingLaws.{sum-step, worth_of}
use Rattle.node_table.proofs.table.charge_of_cached_nodes.Goals as goal
use Rattle.node_table.proofs.table.charge_of_cached_nodes.Goals.{in-Some, in_default}
use Rattle.node_table.proofs.TableLaws.{charge-most}

some_none : (cached_node : CachedNode) → Some cached_node ≡ None → ⊥
some_none cached_node e = cc

some_is : (x y : CachedNode) → Some x ≡ Some y → x ≡ y
some_is x y e = cc

few-more : (cached_nodes : List (Option CachedNode)) (done : ℕ) → ((place : ℕ) (cached_node : CachedNode) → place < done → get_or cached_nodes place None ≡ Some cached_node → length cached_node.blocks ≤ 4096)
    → ((cached_node : CachedNode) → get_or cached_nodes done None ≡ Some cached_node → length cached_node.blocks ≤ 4096) → (place : ℕ) (cached_node : CachedNode) → place < done + 1 → get_or cached_nodes place None ≡ Some cached_node → length cached_node.blocks ≤ 4096
few-more cached_nodes done before here place cached_node low is = elim (cases_eq place done) [
  | inl e ↦ here cached_node (ap (λ (p : ℕ). get_or cached_nodes p None) (sym e) ∙ is)
  | inr off ↦ before place cached_node (omega arith) is
]

pub loop-cached-preserved : goal.loop-cached-preserved
loop-cached-preserved c =
    let inv = c.loop-cached.invariant in
    let cached_nodes = c.args.cached_nodes.now in
    let sum = sum-step cached_nodes c.loop-cached.cached-index c.cached-item.result c.loop-cached-test.true c.cached-item.is charge_of in
    let there : get_or cached_nodes c.loop-cached.cached-index None ≡ c.cached-item.result = sym (c.cached-item.is ∙ get_or_default cached_nodes c.loop-cached.cached-index c.cached-item.result None c.loop-cached-test.true) in
    elim c.match-cached.branch [
      | in-Some w ↦
          let one : CachedNode = w.in-Some.cached in
          let few : length one.blocks ≤ 4096 = subst (λ (cached_node : CachedNode). length cached_node.blocks ≤ 4096) (w.behind-cached.view_is ∙ w.deref.ensures) w.blocks_charge-charge.ensures.few in
          let charge : w.blocks_charge-charge.result ≡ charge_of one = w.blocks_charge-charge.ensures.charge ∙ ap charge_of (w.behind-cached.view_is ∙ w.deref.ensures) in
          rw w.charge-is (record {
            charge = omega (arith, inv.charge, charge, sum, ap (worth_of charge_of) w.in-Some.is);
            most = omega (arith, inv.most, charge, charge-most one few);
            few = few-more cached_nodes c.loop-cached.cached-index inv.few (λ cached_node is. subst (λ (cached_node : CachedNode). length cached_node.blocks ≤ 4096) (some_is one cached_node (sym w.in-Some.is ∙ sym there ∙ is)) few);
          })
      | in_default w ↦
          rw w.charge-is (record {
            charge = omega (arith, inv.charge, sum, ap (worth_of charge_of) w.in_default.is);
            most = omega (arith, inv.most);
            few = few-more cached_nodes c.loop-cached.cached-index inv.few (λ cached_node is. absurd (some_none cached_node (sym is ∙ there ∙ w.in_default.is)));
          })
    ]
