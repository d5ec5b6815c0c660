use Rattle.std.proofs.Common.{◌≡◌, ◌-◌, ℕ, suc, List, ◌++◌, length, take, slice_get, sym, ap, ◌∙◌, arith}
use Rattle.std.specs.List.{remove}
use Rattle.std.proofs.lemmas.List.{append-nil, take_all, drop_all}
use Rattle.std.proofs.lemmas.Option.{slice_get_past}
use Rattle.chunks.proofs.list.Chunks.pop.Goals as goal

remove_last : {X : Type 0} (xs : List X) (len : ℕ) → len ≡ length xs → remove xs (len - 1) ≡ take (length xs - 1) xs
remove_last xs len is =
    ap (λ l. take (len - 1) xs ++ l) (drop_all (suc (len - 1)) xs (omega (arith, is)))
    ∙ (append-nil (take (len - 1) xs) ∙ ap (λ n. take (n - 1) xs) is)

pub returns-then-len-eq0-clause-popped : goal.returns-then-len-eq0-clause-popped
returns-then-len-eq0-clause-popped g c =
    sym (slice_get_past c.args.self.now (length c.args.self.now - 1) (omega (arith, c.len-len.ensures, c.if-len-eq0.true)))

pub returns-then-len-eq0-clause-ok : goal.returns-then-len-eq0-clause-ok
returns-then-len-eq0-clause-ok g c =
    sym (take_all (length c.args.self.now - 1) c.args.self.now (omega (arith, c.len-len.ensures, c.if-len-eq0.true)))

pub returns-clause-popped : goal.returns-clause-popped
returns-clause-popped g c =
    let now = c.args.self.now in
    sym c.in_ok-last.ensures.removed ∙ ap (λ n. slice_get now (n - 1)) c.len-len.ensures

pub returns-clause-ok : goal.returns-clause-ok
returns-clause-ok g c = c.in_ok-last.ensures.ok ∙ remove_last c.args.self.now c.len-len.result c.len-len.ensures
