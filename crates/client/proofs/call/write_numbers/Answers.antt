use Rattle.std.proofs.Common.{◌<◌, ◌≤◌, ℕ, Ok, List, length, get_or, refl, subst, ap, arith}
use Rattle.std.proofs.lemmas.List.{get_or_default, take_all}
use Rattle.std.specs.Int.{w32}
use Rattle.std.specs.List.{flat_map}
use Rattle.xdr.specs.Grammar.{number}
use Rattle.xdr.specs.Clauses.{Wrote}
use Rattle.xdr.proofs.Writing.{wrote_nothing, wrote_stop}
use Rattle.client.proofs.call.write_numbers.Goals as goal

pub loop-number-init : goal.loop-number-init
loop-number-init c = wrote_nothing _ _ _ refl refl

pub returns-in_err-write_u32 : goal.returns-in_err-write_u32
returns-in_err-write_u32 c =
    let numbers = c.args.numbers.now in
    let i = c.loop-number.number-index in
    let lt : i < length numbers = omega arith in
    wrote_stop (λ (n : ℕ). number w32 n) numbers i (get_or numbers i 0) lt (get_or_default numbers i 0 (get_or numbers i 0) lt)
    c.loop-number.invariant c.from_residual.ensures.1 c.in_err-write_u32.ensures.wrote

pub returns : goal.returns
returns c =
    let numbers = c.args.numbers.now in
    let i = c.loop-number.number-index in
    let done : length numbers ≤ i = omega arith in
    subst (λ (text : List ℕ). Wrote c.args.w.now c.loop-number.w (Ok tt) text)
    (ap (flat_map (λ (n : ℕ). number w32 n)) (take_all i numbers done))
    c.loop-number.invariant
