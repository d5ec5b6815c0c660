use Rattle.std.proofs.Common.{ℕ, ◌<◌, length, get_or, refl, arith}
use Rattle.std.specs.Int.{w32}
use Rattle.std.proofs.lemmas.List.{get_or_default}
use Rattle.xdr.specs.Grammar.{number}
use Rattle.xdr.proofs.Writing.{wrote_nothing, wrote_stop}
use Rattle.wire_attributes.proofs.node.write_each_word.Goals as goal

pub loop-word-init : goal.loop-word-init
loop-word-init c = wrote_nothing _ _ _ refl refl

pub returns-in_err-write_u32 : goal.returns-in_err-write_u32
returns-in_err-write_u32 c =
    let words = c.args.words.now in
    let i = c.loop-word.word-index in
    let lt : i < length words = omega arith in
    wrote_stop (λ (n : ℕ). number w32 n) words i (get_or words i 0) lt (get_or_default words i 0 (get_or words i 0) lt)
    c.loop-word.invariant c.from_residual.ensures.1 c.in_err-write_u32.ensures.wrote
