use Rattle.std.proofs.Common.{◌++◌, ◌∷◌, [], List, ℕ, sym, subst, set, rules}
use Rattle.std.specs.List.{insert}
use Rattle.journal.specs.Index.{IsIndexOf}
use Rattle.journal.proofs.Indexes.{put_over, put_between}
use Rattle.journal.proofs.index.SectorIndex.put.Goals as goal

pub returns-in-Ok-clause-indexed : goal.returns-in-Ok-clause-indexed
returns-in-Ok-clause-indexed c = λ sectors is long.
    let entries = c.args.self.now.entries.items in
    let P : ℕ → Type 0 = λ place. IsIndexOf (set entries c.in-Ok.at (c.args.n, place)) (sectors ++ c.args.n ∷ []) in
    subst P long (put_over entries sectors c.args.n c.in-Ok.at is (c.in-Ok.ensures.found is.rising))

pub returns-in-Err-clause-indexed : goal.returns-in-Err-clause-indexed
returns-in-Err-clause-indexed c = λ sectors is long.
    let entries = c.args.self.now.entries.items in
    let P : ℕ → Type 0 = λ place. IsIndexOf (insert entries c.in-Err.at (c.args.n, place)) (sectors ++ c.args.n ∷ []) in
    let put = subst P long (put_between entries sectors c.args.n c.in-Err.at is (c.in-Err.ensures.absent is.rising)) in
    subst (λ (xs : List (ℕ × ℕ)). IsIndexOf xs (sectors ++ c.args.n ∷ [])) (sym (search rules)) put
