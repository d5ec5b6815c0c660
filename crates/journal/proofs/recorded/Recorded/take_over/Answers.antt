use Rattle.std.proofs.Common.{◌∙◌, ◌++◌, List, ap, sym, subst, arith, rules}
use Rattle.disk.specs.declared.update.Update.{Update}
use Rattle.journal.specs.Index.{IsIndexOf}
use Rattle.journal.specs.Layout.{targets}
use Rattle.journal.proofs.Images.{length-targets}
use Rattle.journal.proofs.Lists.{targets-append}
use Rattle.journal.proofs.recorded.Recorded.take_over.Goals as goal

pub put_all-requires-clause-few : goal.put_all-requires-clause-few
put_all-requires-clause-few c = omega (arith, c.requires.indexed.few, length-targets c.args.self.now.updates.items, c.args.self.now.updates.ok)

pub returns-else-is_empty-clause-indexed : goal.returns-else-is_empty-clause-indexed
returns-else-is_empty-clause-indexed c =
    let was = c.args.self.now.updates.items in
    let more = c.args.updates.now.items in
    subst (IsIndexOf c.put_all.new.self.entries.items)
    (ap (λ (us : List Update). targets was ++ targets us) c.deref.ensures.value ∙ sym (targets-append was more) ∙ ap (λ (us : List Update). targets us) (sym (search rules)))
    (c.put_all.ensures.indexed (targets was) c.requires.indexed (omega (arith, length-targets was, c.args.self.now.updates.ok)))
