use Rattle.std.proofs.Common.{◌≡◌, ◌+◌, ◌++◌, ◌==◌, map, filter}
use Rattle.std.specs.Int.{bit_at}
use Rattle.std.specs.List.{range_with_len}
use Rattle.wire_attributes.proofs.bitmap.push_numbers.Given as goal

abbrev pub invariant-loop-bit : goal.invariant-loop-bit
invariant-loop-bit l =
    l.numbers.items
    ≡ l.initial.numbers.items ++ map (λ bit. l.first + bit) (filter (λ bit. bit_at l.word bit == 1) (range_with_len 0 l.bit))
