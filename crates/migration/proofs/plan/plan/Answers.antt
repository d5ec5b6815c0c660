use Rattle.std.proofs.Common.{◌≡◌, ◌+◌, ◌-◌, ◌*◌, ◌++◌, ◌∙◌, ◌∷◌, [], List, Vec, Global, map, min, length, sym, ap, arith}
use Rattle.std.proofs.lemmas.List.{map-append}
use Rattle.std.proofs.lemmas.List.FromFn.{map-range_with_len_more}
use Rattle.std.specs.List.{range_with_len}
use Rattle.disk.specs.declared.update.Update.{Update}
use Rattle.migration.specs.Plans.{step, step_at}
use Rattle.migration.proofs.plan.plan.Goals as goal

pub loop-i-preserved : goal.loop-i-preserved
loop-i-preserved c =
    let cached_nodes = c.args.table.now in
    let i = c.loop-i.i in
    let from = c.args.moved + 47 * i in
    let items = λ (v : Vec Update Global). v.items in
    let counted : c.min-to.result - from ≡ min 47 (length cached_nodes - from) = omega (arith, c.min-to.ensures, c.places-places.ensures.places) in
    ap (map items) c.in_ok-push.ensures.items
    ∙ map-append items c.loop-i.transactions.items (c.in_ok-transaction.field-0 ∷ [])
    ∙ ap (λ (l : List (List Update)). l ++ items c.in_ok-transaction.field-0 ∷ []) c.loop-i.invariant
    ∙ ap (λ (us : List Update). map (step_at cached_nodes c.args.moved) (range_with_len 0 i) ++ us ∷ []) (c.in_ok-transaction.ensures ∙ ap (step cached_nodes from) counted)
    ∙ sym (map-range_with_len_more (step_at cached_nodes c.args.moved) 0 i i (omega arith))
