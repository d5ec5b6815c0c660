use Rattle.std.proofs.Common.{ℕ, List, All, take, ◌∷◌, ◌++◌, [], ap, sym, ◌∙◌, subst, arith}
use Rattle.std.proofs.lemmas.List.{take_more}
use Rattle.std.proofs.lemmas.List.Elements.{All-push}
use Rattle.disk.specs.Moments.{IsSector}
use Rattle.disk.proofs.RecordLemmas.{pushed}
use Rattle.disk.proofs.memory.copied.Goals as goal

pub loop-row-preserved : goal.loop-row-preserved
loop-row-preserved c =
    let items = pushed _ _ _ _ _ c.push.ensures.items c.is_err.ensures.negation c.if-is_err.false in
    let before = c.loop-row.invariant in
    let P : List (List ℕ) → Type 0 = λ rows. All IsSector rows in
    record {
      rows = items ∙ ap (λ (rows : List (List ℕ)). rows ++ c.sector_of.result ∷ []) before.rows
          ∙ ap (λ (row : List ℕ). take c.loop-row.row-index c.args.rows.now ++ row ∷ []) c.sector_of.ensures.same
          ∙ sym (take_more c.args.rows.now c.loop-row.row-index [] (omega arith));
      sectors = subst P (sym items) (All-push IsSector c.loop-row.copy.items c.sector_of.result before.sectors c.sector_of.ensures.sector);
    }
