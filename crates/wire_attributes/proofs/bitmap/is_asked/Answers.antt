use Rattle.std.proofs.Common.{◌≤◌, ◌<◌, ◌/◌, ◌%◌, ◌==◌, ◌∙◌, length, sym, ap, ℕ}
use Rattle.std.specs.Int.{bit_at}
use Rattle.std.proofs.lemmas.Bool.{ltb-true, ltb-false}
use Rattle.std.proofs.lemmas.List.{get_or_past, get_or_default}
use Rattle.std.proofs.lemmas.Nat.Bits.{bit_at-zero}
use Rattle.model.proofs.Operations.NodeAttributeLaws.{asked_bit}
use Rattle.wire_attributes.proofs.bitmap.is_asked.Goals as goal

pub returns-in-Some : goal.returns-in-Some
returns-in-Some c =
    let n = c.args.attribute in
    let within : n / 32 < length c.args.bitmap.now = ltb-true _ _ (sym c.in-Some.ensures.lookup.0) in
    ap (λ (word : ℕ). bit_at word (n % 32) == 1) (c.in-Some.ensures.lookup.1 ∙ get_or_default c.args.bitmap.now (n / 32) c.in-Some.word.now 0 within)
    ∙ sym (asked_bit c.args.bitmap.now n)

pub returns-in-None : goal.returns-in-None
returns-in-None c =
    let n = c.args.attribute in
    let past : length c.args.bitmap.now ≤ n / 32 = ltb-false _ _ (sym c.in-None.ensures.lookup.0) in
    sym (asked_bit c.args.bitmap.now n
    ∙ (ap (λ (word : ℕ). bit_at word (n % 32) == 1) (get_or_past c.args.bitmap.now (n / 32) 0 past)
    ∙ ap (λ (bit : ℕ). bit == 1) (bit_at-zero (n % 32))))
