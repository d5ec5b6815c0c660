use Rattle.std.proofs.Common.{◌≡◌, ◌-◌, ◌^◌, ◌||◌, ◌∙◌, length, nat_le, sym, arith}
use Rattle.std.proofs.lemmas.Grind.{common_steps}
use Rattle.opens.specs.declared.open.Entry.{Entry}
use Rattle.opens.specs.declared.open.Open.{Open}
use Rattle.opens.specs.Views.{open_of, opens_of}
use Rattle.opens.proofs.Naming.{is_full_then, is_not_full, none_like_0, none_like_high}
use Rattle.opens.proofs.opens.Opens.is_full.Goals as goal

-- any entry
some : Open → Entry
some like = record { serial = 0; state = record like { number = 1; numbered = omega arith }; numbered = omega arith }

pub returns-in-Some-clause-is : goal.returns-in-Some-clause-is
unfolding opens_of
returns-in-Some-clause-is c =
    is_not_full c.args.most (opens_of c.args.self.now) (open_of c.args.asked.now) _ (c.in-Some.ensures.some.first (some c.args.asked.now))

-- an open of the number 0 joins none, nor would one of a high number

pub returns-in-Some-clause-high : goal.returns-in-Some-clause-high
unfolding opens_of
returns-in-Some-clause-high c zero other high =
    let none = none_like_0 (open_of c.args.asked.now) zero c.args.self.now.list.items in
    let never : ⊥ = let same = sym none ∙ c.in-Some.ensures.some.first (some c.args.asked.now) in cc in
    absurd never

pub returns-then-most-len-clause-high : goal.returns-then-most-len-clause-high
unfolding opens_of
returns-then-most-len-clause-high c zero other high =
    let opens = opens_of c.args.self.now in
    let room : nat_le c.args.most c.len.result ≡ (nat_le c.args.most (length opens.known) || nat_le (2 ^ 64 - 1) opens.given) = grind (arith, common_steps) in
    room ∙ sym (is_full_then c.args.most opens other (none_like_high other high c.args.self.now.list.items))

pub returns-else-most-len-clause-high : goal.returns-else-most-len-clause-high
unfolding opens_of
returns-else-most-len-clause-high c zero other high =
    let opens = opens_of c.args.self.now in
    let room : nat_le (2 ^ 64 - 1) opens.given ≡ (nat_le c.args.most (length opens.known) || nat_le (2 ^ 64 - 1) opens.given) = grind (arith, common_steps) in
    room ∙ sym (is_full_then c.args.most opens other (none_like_high other high c.args.self.now.list.items))
