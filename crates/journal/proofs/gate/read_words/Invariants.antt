use Rattle.std.proofs.Common.{◌≡◌, ◌+◌, ◌*◌, map, drop, vec_capacity, vec_len}
use Rattle.std.specs.List.{range_with_len}
use Rattle.byteorder.specs.Endian.{big_number}
use Rattle.journal.proofs.gate.read_words.Given as goal

abbrev pub invariant-loop-i : goal.invariant-loop-i
invariant-loop-i l = record {
  named : l.named.items ≡ map (λ i. big_number 4 (drop (8 + 4 * i) l.sector)) (range_with_len 0 l.i);
  capacity : vec_capacity l.named ≡ vec_capacity l.fn.named;
  len : vec_len l.named ≡ l.i;
}
