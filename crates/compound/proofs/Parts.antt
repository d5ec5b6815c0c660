-- The values of a READ, as the code puts them together.
use Rattle.std.proofs.Common.{◌≡◌, ◌≤◌, ◌<◌, ◌+◌, ◌-◌, ◌^◌, ℕ, Bool, List, ◌++◌, length, take, drop, min, replicate, ap, ◌∙◌, append_assoc, length-append, arith}
use Rattle.std.specs.Int.{w32}
use Rattle.std.proofs.Math.Seq.{take-append_seam, drop-append_seam}
use Rattle.model.specs.Wire.WireAnswers.{read_answer}
use Rattle.xdr.specs.Forms.{code_of, counted, padded, padding}
use Rattle.xdr.specs.Grammar.{number}

-- a slice of a whole vector is written over
pub all_replaced : (size : ℕ) (with_prefix items : List ℕ) → size ≡ length with_prefix → take size (with_prefix ++ drop (length with_prefix) items) ≡ with_prefix
all_replaced size with_prefix items is = rw is (take-append_seam with_prefix (drop (length with_prefix) items))

prefix_dropped : (prefix part : List ℕ) → length prefix ≡ 8 → drop 8 (prefix ++ part) ≡ part
prefix_dropped prefix part is = rw (← is) (drop-append_seam prefix part)

-- what comes before the part is put over the zeros there, and zeros come after it
pub part_encoded : (items prefix part words with_prefix with_pad : List ℕ) (is_end : Bool) (size capped : ℕ)
    → size ≡ length items - 8 → capped ≡ min size (2 ^ 32 - 1) → words ≡ number w32 (code_of is_end) ++ number w32 capped
    → (8 ≤ length items → with_prefix ≡ words ++ drop 8 items) → with_pad ≡ with_prefix ++ replicate (padding size) 0
    → items ≡ prefix ++ part → length prefix ≡ 8 → length part < 2 ^ 32
    → with_pad ≡ read_answer.encoding (record { is_end = is_end; data_bytes = part })
unfolding counted padded
part_encoded items prefix part words with_prefix with_pad is_end size capped size_is capped_is words_are prefix_is pad_is items_are eight few =
    let sum : length items ≡ length prefix + length part = ap length items_are ∙ length-append prefix part in
    let size_part : size ≡ length part = omega (arith, sum, eight, size_is) in
    let capped_part : capped ≡ length part = omega (arith, sum, eight, size_part, capped_is, few) in
    pad_is
    ∙ (ap (λ (bytes : List ℕ). bytes ++ replicate (padding size) 0) (prefix_is (omega (arith, sum, eight)))
    ∙ rw (words_are, items_are, prefix_dropped prefix part eight, size_part, capped_part)
    (append_assoc (number w32 (code_of is_end) ++ number w32 (length part)) part (replicate (padding (length part)) 0)
    ∙ append_assoc (number w32 (code_of is_end)) (number w32 (length part)) (part ++ replicate (padding (length part)) 0)))
