use Rattle.std.proofs.Common.{◌*◌, ℕ, sym, ap, ◌∙◌, arith}
use Rattle.freemap.proofs.Bits.{zeros-clear, places_in-zeros}
use Rattle.freemap.proofs.bitmap.Bitmap.new.Goals as goal

pub invariant_of-result : goal.invariant_of-result
invariant_of-result c = record {
  len = sym c.in_ok-bits.bits.ok.0 ∙ c.in_ok-bits.ensures.len ∙ ap (λ (n : ℕ). 4096 * n) c.parts_of.ensures;
  fits = omega arith;
  past = λ i from. zeros-clear c.in_ok-bits.bits.items (4096 * c.parts_of.result) i (c.in_ok-bits.ensures.items_if_clones_equal (λ y h. h));
  lowest_in = omega arith;
  below = λ i h. absurd (omega arith);
}

pub returns : goal.returns
returns c = places_in-zeros c.in_ok-bits.bits.items (4096 * c.parts_of.result) c.args.count (c.in_ok-bits.ensures.items_if_clones_equal (λ y h. h))
