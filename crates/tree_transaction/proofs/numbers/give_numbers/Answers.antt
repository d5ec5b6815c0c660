use Rattle.layout.specs.Marks.{times}
use Rattle.layout.specs.Marks.{mark_by}
use Rattle.std.proofs.Common.{◌-◌, Bool, false, [], ◌∷◌, ◌+◌, List, length, ap, ◌∙◌, arith}
use Rattle.std.proofs.lemmas.List.{length-append, length-set}
use Rattle.tree_transaction.proofs.NumberLaws.{Gives, follow-give}
use Rattle.tree_transaction.proofs.numbers.give_numbers.Goals as goal

module _ (c : goal.After-give-arg-1) where
  step : Gives c.args.first c.args.places.now c.loop-numbers.places c.args.numbers.now.items c.pop.new.self.items c.in-Some.number
  step = follow-give c.args.first c.args.places.now c.loop-numbers.places c.args.numbers.now.items c.loop-numbers.numbers.items c.pop.new.self.items c.in-Some.number c.loop-numbers.invariant.marks c.requires c.in-Some.ensures.items

pub overflow_sub-number : goal.overflow_sub-number
overflow_sub-number c = let h = step c in h.behind

pub give-requires : goal.give-requires
give-requires c = let h = step c in h.used

pub loop-numbers-preserved-in-Continue-1 : goal.loop-numbers-preserved-in-Continue-1
loop-numbers-preserved-in-Continue-1 c =
    let h = step c.before.before.before in let long = ap length c.in-Some.ensures.items in record {
      marks = λ n. ap (λ (b : List Bool). mark_by c.args.first b n + times n c.args.numbers.now.items) c.in_ok-give.ensures.given ∙ h.follow n;
      least = omega (arith, length-append c.pop.new.self.items (c.in-Some.number ∷ []));
      len = ap length c.in_ok-give.ensures.given ∙ length-set c.loop-numbers.places (c.in-Some.number - c.args.first) false ∙ c.loop-numbers.invariant.len;
    }
