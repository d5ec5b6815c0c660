use Rattle.std.proofs.Common.{◌≡◌, ◌<◌, ℕ, List, length, get_or, ap, subst, arith, eqb}
use Rattle.std.specs.List.{remove}
use Rattle.layout.specs.Marks.{times, once_if}
use Rattle.node_table.proofs.TableLaws.{times-remove}
use Rattle.node_table.proofs.table.take_free.Goals as goal

pub returns-in-Some-clause-times : goal.returns-in-Some-clause-times
returns-in-Some-clause-times c n =
    let free : List ℕ = c.args.free.now.items in
    let i = c.in-Some.i in
    let within : i < length free = subst (λ (l : List ℕ). i < length l) c.deref.ensures.value c.in-Some.ensures.some.0 in
    let there : get_or free i 0 ≡ c.args.place = subst (λ (l : List ℕ). get_or l i 0 ≡ c.args.place) c.deref.ensures.value c.in-Some.ensures.some.1 in
    let left : times n c.remove.new.self.items ≡ times n (remove free i) = ap (times n) c.remove.ensures.items in
    omega (arith, left, times-remove n free i 0 within, ap (λ (p : ℕ). once_if (eqb n p)) there)
