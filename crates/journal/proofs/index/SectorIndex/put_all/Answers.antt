use Rattle.std.proofs.Common.{◌∙◌, ◌++◌, ◌∷◌, [], ℕ, List, ap, sym, subst, arith, take, get_or}
use Rattle.std.proofs.lemmas.List.{append_assoc, length-append, length-take}
use Rattle.journal.specs.Index.{IsIndexOf}
use Rattle.journal.specs.Layout.{targets}
use Rattle.journal.proofs.Images.{length-targets}
use Rattle.journal.proofs.Journals.{targets_more}
use Rattle.journal.proofs.Lists.{no_update}
use Rattle.journal.proofs.index.SectorIndex.put_all.Goals as goal

pub loop-i-preserved : goal.loop-i-preserved
loop-i-preserved c =
    let us = c.args.updates.now in
    let i = c.loop-i.i in
    let u = get_or us i no_update in
    record {
      indexed = λ sectors is long. subst (IsIndexOf c.put.new.self.entries.items)
          (append_assoc sectors (targets (take i us)) (u.target ∷ []) ∙ ap (λ (ts : List ℕ). sectors ++ ts) (sym (targets_more us i no_update (omega arith))))
          (c.put.ensures.indexed (sectors ++ targets (take i us)) (c.loop-i.invariant.indexed sectors is long)
          (omega (arith, long, length-append sectors (targets (take i us)), length-targets (take i us), length-take i us)));
      few = omega (arith, c.put.ensures.few);
      capacity = c.put.ensures.capacity ∙ c.loop-i.invariant.capacity;
    }
