use Rattle.std.proofs.Common.{◌∙◌, ap, arith, sym, List, length}
use Rattle.std.proofs.lemmas.List.{take_all}
use Rattle.disk.specs.declared.update.Update.{Update}
use Rattle.tree_transaction.specs.Updates.{encoded, with_sector}
use Rattle.tree_transaction.proofs.PendingLaws.{encoded-at, encoded-none}
use Rattle.tree_transaction.proofs.updates.encode_all.Goals as goal

pub loop-place-init : goal.loop-place-init
loop-place-init c = sym (encoded-none c.args.list.now.items)

pub loop-place-preserved : goal.loop-place-preserved
loop-place-preserved c =
    let list = c.args.list.now.items in
    let pending = c.args.pending.now in
    let place = c.loop-place.place in
    c.encode_at.ensures ∙ ap (λ (us : List Update). with_sector us place c.index-pending-place.result) c.loop-place.invariant
    ∙ encoded-at list pending place c.index-pending-place.result c.requires c.loop-place-test.true c.index-pending-place.is

pub returns : goal.returns
returns c = c.loop-place.invariant ∙ ap (encoded c.args.list.now.items) (take_all c.loop-place.place c.args.pending.now (omega (arith, c.loop-place-test.false)))
