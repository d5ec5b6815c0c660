use Rattle.std.proofs.Common.{◌++◌, ◌∷◌, [], take, sym, ap, ◌∙◌, arith}
use Rattle.std.proofs.lemmas.List.{append_assoc}
use Rattle.directory.specs.Records.{record_of}
use Rattle.tree_check.specs.Stamps.{stamps_of}
use Rattle.tree_check.proofs.StampLaws.{stamps-more}
use Rattle.tree_check.proofs.stamps.push_stamps.Goals as goal

pub loop-place-preserved : goal.loop-place-preserved
loop-place-preserved c =
    let old = c.args.stamps.now.items in
    let names = c.args.names.now in
    let i = c.loop-place.place in
    let stamp = c.entry.result.now.stamp in
    c.in_ok-push.ensures.items
    ∙ (ap (λ l. l ++ stamp ∷ []) c.loop-place.invariant
    ∙ (append_assoc old (stamps_of (take i names)) (stamp ∷ [])
    ∙ ap (λ l. old ++ l) (sym (stamps-more names i (record_of c.entry.result.now) c.entry.ensures (omega (arith, c.loop-place-test.true, c.len-place-end.ensures.count))))))
