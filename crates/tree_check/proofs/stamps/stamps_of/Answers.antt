use Rattle.std.proofs.Common.{◌≡◌, ◌+◌, ◌++◌, ℕ, suc, Vec, Global, take, get_or, None, sym, ap, ◌∙◌, arith}
use Rattle.std.proofs.lemmas.List.{append-nil}
use Rattle.layout.specs.CachedNodes.{CachedNode}
use Rattle.tree_check.specs.Stamps.{stamps_of, stamped_by, entry_stamps}
use Rattle.tree_check.proofs.StampLaws.{stamps-take}
use Rattle.tree_check.proofs.stamps.stamps_of.Goals as goal
use Rattle.tree_check.proofs.stamps.stamps_of.Goals.{in-Some+in_ok-push_stamps, in_default}

pub loop-place-preserved : goal.loop-place-preserved
loop-place-preserved c =
    let table = c.args.table.now in
    let place = c.loop-place.place in
    let more : entry_stamps (take (place + 1) table) ≡ entry_stamps (take place table) ++ stamped_by (get_or table place None) =
    (let e : place + 1 ≡ suc place = omega arith in ap (λ n. entry_stamps (take n table)) e)
    ∙ stamps-take table place (omega (arith, c.loop-place-test.true, c.places-place-end.ensures.places)) in
    elim c.match-cached.branch [
      | in-Some+in_ok-push_stamps w ↦
          ap (λ (v : Vec ℕ Global). v.items) w.stamps-is
          ∙ (w.in_ok-push_stamps.ensures
          ∙ (ap (λ l. l ++ stamps_of w.cached-in-Some.inside.names) c.loop-place.invariant
          ∙ (ap (λ l. entry_stamps (take place table) ++ l)
          (ap (λ (cached_node : CachedNode). stamps_of cached_node.names) w.cached-in-Some.view_is ∙ sym (ap stamped_by w.in-Some.ensures.some))
          ∙ sym more)))
      | in_default w ↦
          ap (λ (v : Vec ℕ Global). v.items) w.stamps-is
          ∙ (c.loop-place.invariant
          ∙ (sym (append-nil (entry_stamps (take place table)))
          ∙ (ap (λ cached_node. entry_stamps (take place table) ++ stamped_by cached_node) (sym w.in_default.ensures.none) ∙ sym more)))
    ]
