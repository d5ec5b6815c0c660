use Rattle.std.proofs.Common.{◌≡◌, ◌∙◌, ◌+◌, ◌++◌, ◌∷◌, [], List, ℕ, ap, length, replicate}
use Rattle.std.proofs.lemmas.List.{length-replicate, replicate_more}
use Rattle.disk.specs.Calls.{zero_sector}
use Rattle.disk.proofs.RecordLemmas.{pushed}
use Rattle.disk.proofs.memory.zeros.Goals as goal

pub loop-preserved : goal.loop-preserved
loop-preserved c =
    let n : ℕ = c.loop.counter in
    let rows : c.push.new.self.items ≡ replicate (n + 1) zero_sector =
    pushed _ _ _ _ _ c.push.ensures.items c.is_err.ensures.negation c.if-is_err.false
    ∙ ap (λ (rows : List (List ℕ)). rows ++ c.zero.result ∷ []) c.loop.invariant.rows
    ∙ ap (λ (row : List ℕ). replicate n zero_sector ++ row ∷ []) c.zero.ensures
    ∙ replicate_more n zero_sector in
    record { rows = rows; len = c.push.new.self.ok.0 ∙ ap (λ (rows : List (List ℕ)). length rows) rows ∙ length-replicate (n + 1) zero_sector }
