use Rattle.std.proofs.Common.{◌≡◌, ◌∙◌, ◌+◌, ◌++◌, [], ◌∷◌, ◌==◌, ap, map, filter, arith, rules}
use Rattle.std.specs.Int.{bit_at}
use Rattle.std.specs.List.{range_with_len}
use Rattle.wire_attributes.proofs.Bits.{bit-put, bit-passed}
use Rattle.wire_attributes.proofs.bitmap.push_numbers.Goals as goal
use Rattle.wire_attributes.proofs.bitmap.push_numbers.Goals.{then-word-bit-eq1+in_ok-push, else-word-bit-eq1}

pub loop-bit-preserved : goal.loop-bit-preserved
loop-bit-preserved c =
    let before = c.args.numbers.now.items in
    let old = c.loop-bit.numbers.items in
    let new = c.if-word-bit-eq1.numbers.items in
    elim c.if-word-bit-eq1.branch [
      | then-word-bit-eq1+in_ok-push w ↦
          let put : new ≡ old ++ (c.args.first + c.loop-bit.bit) ∷ [] = search rules in
          bit-put c.args.first c.args.word c.loop-bit.bit before old new c.loop-bit.invariant w.if-word-bit-eq1.true put
      | else-word-bit-eq1 w ↦
          let same : new ≡ old = search rules in
          same ∙ bit-passed c.args.first c.args.word c.loop-bit.bit before old c.loop-bit.invariant w.if-word-bit-eq1.false
    ]

pub returns : goal.returns
returns c =
    let end : c.loop-bit.bit ≡ 32 = omega arith in
    c.loop-bit.invariant
    ∙ ap (λ n. c.args.numbers.now.items ++ map (λ bit. c.args.first + bit) (filter (λ bit. bit_at c.args.word bit == 1) (range_with_len 0 n))) end
