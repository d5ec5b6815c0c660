use Rattle.std.proofs.Common.{◌∙◌, ap, sym, List, ℕ, set}
use Rattle.disk.specs.declared.update.Update.{Update}
use Rattle.tree_transaction.specs.Updates.{target_of, with_sector}
use Rattle.tree_transaction.proofs.UpdateLaws.{target_of-at}
use Rattle.tree_transaction.proofs.updates.encode_at.Goals as goal

pub returns-in-Some : goal.returns-in-Some
returns-in-Some c =
    let list = c.args.list.now.items in
    let target = ap (λ (update : Update). update.target) c.index_mut.ensures.value ∙ sym (target_of-at list c.args.place c.index_mut.result.now c.requires) in
    ap (λ (t : ℕ). set list c.args.place (record { target = t; content = c.encode.new.sector })) target
    ∙ ap (λ (content : List ℕ). set list c.args.place (record { target = target_of list c.args.place; content = content })) c.encode.ensures
    ∙ ap (with_sector list c.args.place) (sym c.in-Some.is)

pub returns-in_default : goal.returns-in_default
returns-in_default c = ap (with_sector c.args.list.now.items c.args.place) (sym c.in_default.is)
