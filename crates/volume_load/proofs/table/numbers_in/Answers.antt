use Rattle.std.proofs.Common.{◌≡◌, ◌+◌, ◌∷◌, [], ◌++◌, ◌∙◌, ℕ, List, Option, Some, None, get_or, take, sym, ap, Vec, Global}
use Rattle.std.proofs.lemmas.List.{append-nil, get_or_default}
use Rattle.layout.specs.CachedNodes.{CachedNode}
use Rattle.volume_load.specs.CachedNodes.{numbers_of}
use Rattle.volume_load.proofs.TableLaws.{numbers-take}
use Rattle.volume_load.proofs.table.numbers_in.Goals as goal
use Rattle.volume_load.proofs.table.numbers_in.Goals.{in-Some+in_ok-push, in_default}

pub loop-cached-preserved : goal.loop-cached-preserved
loop-cached-preserved c =
    let cached_nodes : List (Option CachedNode) = c.args.cached_nodes.now in
    let i = c.loop-cached.cached-index in
    let more = numbers-take cached_nodes i c.loop-cached-test.true in
    let there : c.cached-item.result ≡ get_or cached_nodes i None = c.cached-item.is ∙ get_or_default cached_nodes i c.cached-item.result None c.loop-cached-test.true in
    let grown : (cached_node : Option CachedNode) → c.cached-item.result ≡ cached_node → numbers_of (take i cached_nodes) ++ numbers_of (cached_node ∷ []) ≡ numbers_of (take (i + 1) cached_nodes) =
    (λ cached_node is. ap (λ (one : Option CachedNode). numbers_of (take i cached_nodes) ++ numbers_of (one ∷ [])) (sym is ∙ there) ∙ sym more) in
    elim c.match-cached.branch [
      | in-Some+in_ok-push w ↦
          ap (λ (v : Vec ℕ Global). v.items) w.numbers-is ∙ w.in_ok-push.ensures.items
          ∙ ap (λ (l : List ℕ). l ++ w.behind-cached.inside.inode.number ∷ []) c.loop-cached.invariant
          ∙ ap (λ (number : ℕ). numbers_of (take i cached_nodes) ++ number ∷ []) (ap (λ (cached_node : CachedNode). cached_node.fields.number) (w.behind-cached.view_is ∙ w.deref.ensures))
          ∙ grown (Some w.in-Some.cached) w.in-Some.is
      | in_default w ↦
          ap (λ (v : Vec ℕ Global). v.items) w.numbers-is ∙ c.loop-cached.invariant ∙ sym (append-nil (numbers_of (take i cached_nodes))) ∙ grown None w.in_default.is
    ]
