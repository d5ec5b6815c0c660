use Rattle.std.proofs.Common.{◌≡◌, ℕ, List, Option, Some, None, get_or, sym, ap, ◌∙◌, subst}
use Rattle.std.specs.Prelude.{IfSome}
use Rattle.node_table.specs.Tables.{node_number, node_number_at}
use Rattle.tree_edits.specs.declared.room.Size.{Size}
use Rattle.tree_edits.proofs.PrefixLaws.{size_there_is, size_nowhere}
use Rattle.tree_edits.proofs.PlaceLaws.{IsThere}
use Rattle.tree_edits.proofs.room.size_in.Goals as goal
use Rattle.layout.specs.CachedNodes.{CachedNode}

abbrev size_on : CachedNode → Option Size
size_on cached_node = Some (record { kind = cached_node.fields.kind; count = cached_node.fields.size })

number_is : (cached_nodes : List (Option CachedNode)) (place number : ℕ) (cached_node : CachedNode) → get_or cached_nodes place None ≡ Some cached_node → node_number_at cached_nodes place ≡ Some number → cached_node.fields.number ≡ number
number_is cached_nodes place number cached_node there is = same (sym (ap node_number there) ∙ is)
  where
    same : {x y : ℕ} → Some x ≡ Some y → x ≡ y
    same e = cc

pub returns-in_default-clause-size : goal.returns-in_default-clause-size
returns-in_default-clause-size c =
    let known = c.requires in
    sym (size_nowhere known.0 known.1 c.args.table.now known.2 c.args.number c.in_default.ensures.none)

pub returns-clause-size : goal.returns-clause-size
returns-clause-size c =
    let known = c.requires in
    let cached_nodes = c.args.table.now in
    let place = c.in-Some.place in
    let cached_node : CachedNode = c.unwrap.result.now in
    let there : get_or cached_nodes place None ≡ Some cached_node = subst (λ found. IfSome found (λ it. get_or cached_nodes place None ≡ Some it.now)) c.unwrap.ensures c.cached.ensures.some in
    let it : IsThere cached_nodes place c.args.number = record { cached = cached_node; there = there; number_is = number_is cached_nodes place c.args.number cached_node there c.in-Some.ensures.some } in
    ap (λ (count : ℕ). let size : Size = record { kind = c.behind-cached.inside.inode.kind; count = count } in Some size) c.from.ensures
    ∙ ap size_on c.behind-cached.view_is
    ∙ sym (size_there_is known.0 known.1 cached_nodes known.2 place c.args.number it)
