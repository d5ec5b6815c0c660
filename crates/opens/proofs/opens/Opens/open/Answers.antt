use Rattle.std.proofs.Common.{◌∙◌, ◌+◌, ap, sym, map, arith}
use Rattle.std.specs.Prelude.{Some}
use Rattle.model_tree.specs.Trees.Keyed.{with}
use Rattle.model.specs.Sessions.StateIds.{opened, opened_by}
use Rattle.opens.specs.declared.open.Entry.{Entry}
use Rattle.opens.specs.Views.{entry_of, open_of, opens_of}
use Rattle.opens.proofs.Known.{pushed, with-push, with-set}
use Rattle.opens.proofs.opens.Opens.open.Goals as goal

pub returns-in-Some-clause-opens : goal.returns-in-Some-clause-opens
unfolding opens_of opened
returns-in-Some-clause-opens c =
    let items = c.args.self.now.list.items in
    let known = opens_of c.args.self.now in
    let old = c.index_mut-entry.result.now in
    let like = c.in-Some.ensures.some in
    ap (λ entries. record { given = c.args.self.now.given; known = entries })
    (with-set entry_of items c.in-Some.place old _ c.args.self.now.rising like.within (ap (λ (entry : Entry). entry.serial) c.index_mut-entry.ensures.value)
    ∙ ap (λ state. with (map entry_of items) old.serial state) c.join.ensures)
    ∙ sym (ap (λ found. (opened_by known (open_of c.args.asked) found).opens) (like.first old ∙ sym (ap (λ entry. Some (entry_of entry)) c.index_mut-entry.ensures.value)))

pub returns-clause-opens : goal.returns-clause-opens
unfolding opens_of opened
returns-clause-opens c =
    let items = c.args.self.now.list.items in
    let known = opens_of c.args.self.now in
    let grown = pushed c.push.result items c.push.new.self.items _ c.push.ensures.items (sym c.is_err.ensures.value ∙ c.if-is_err.false) in
    ap (λ entries. record { given = c.args.self.now.given + 1; known = entries })
    (ap (λ entries. map entry_of entries) grown ∙ with-push entry_of items _ (λ k d h. let low = c.args.self.now.made k d h in omega arith))
    ∙ sym (ap (λ found. (opened_by known (open_of c.args.asked) found).opens) c.in_default.ensures.none)
