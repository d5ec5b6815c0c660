use Rattle.std.proofs.Common.{ℕ, Bool, List, Option, subst, arith}
use Rattle.client.specs.Streams.{Fetches}
use Rattle.client.specs.declared.receive.Fetched.TheVariants as fetched
use Rattle.client.proofs.Receiving.{begins, ended, refused, finished, goes_on, bounds}
use Rattle.client.proofs.receive.receive.Goals as goal

pub loop-more-init : goal.loop-more-init
loop-more-init g c = begins _ _ c.requires

pub returns-in-Ended : goal.returns-in-Ended
returns-in-Ended g c = ended _ _ _ _ _ _ _ c.loop-more.invariant c.in-Ended.ensures

pub returns-in-Refused : goal.returns-in-Refused
returns-in-Refused g c = refused _ _ _ _ _ _ _ c.loop-more.invariant c.in-Refused.ensures

pub overflow_add-size : goal.overflow_add-size
overflow_add-size g c =
    let bounds = bounds _ _ _ _ _ _ _ _ _ c.loop-more.invariant c.in-Brings.ensures in
    omega (arith, bounds.small)

-- what was fetched, if it is known whether it is the last
abbrev Brought : (read now : Option (List ℕ)) → (size fragments more : ℕ) → (room after : List ℕ) → Bool → Type 0
Brought read now size fragments more room after is_last = Fetches read now size fragments room after (fetched.Brings more is_last)

pub returns-then-is_last : goal.returns-then-is_last
returns-then-is_last g c =
    finished _ _ _ _ _ _ _ _ c.loop-more.invariant (subst (Brought _ _ _ _ _ _ _) c.if-is_last.true c.in-Brings.ensures)

pub loop-more-smaller : goal.loop-more-smaller
loop-more-smaller g c =
    let bounds = bounds _ _ _ _ _ _ _ _ _ c.loop-more.invariant c.in-Brings.ensures in
    omega (arith, bounds.few)

pub loop-more-preserved : goal.loop-more-preserved
loop-more-preserved g c =
    goes_on _ _ _ _ _ _ _ _ c.loop-more.invariant (subst (Brought _ _ _ _ _ _ _) c.if-is_last.false c.in-Brings.ensures)
