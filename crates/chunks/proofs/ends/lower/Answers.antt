use Rattle.std.proofs.Common.{ℕ, ◌<◌, ◌-◌, length, take, drop, get_or, arith}
use Rattle.std.proofs.lemmas.List.{get_or_default}
use Rattle.std.proofs.lemmas.List.Edits.{map_over_more}
use Rattle.chunks.proofs.ends.lower.Goals as goal

pub loop-end-preserved : goal.loop-end-preserved
loop-end-preserved c =
    let part = take (length c.args.ends.now - c.args.chunk) (drop c.args.chunk c.args.ends.now) in
    let items = c.loop-end.end-items in
    let i = c.loop-end.end-index in
    let within : i < length part = omega arith in
    let there : i < length items = omega arith in
    map_over_more (λ (end : ℕ). end - 1) part items i (get_or items i 0) within c.loop-end.invariant
    (get_or_default items i 0 (get_or items i 0) there)
