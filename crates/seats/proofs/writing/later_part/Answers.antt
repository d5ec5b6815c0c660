use Rattle.std.proofs.Common.{◌≡◌, ◌-◌, ◌*◌, ℕ, List, length, drop, min, ap, sym, ◌∙◌, arith}
use Rattle.std.proofs.lemmas.List.{take_rest, drop_min}
use Rattle.model_tree.specs.Seats.SeatViews.{held_view}
use Rattle.seats.specs.Padding.{padded}
use Rattle.seats.proofs.Parts.{later_part_is}
use Rattle.seats.proofs.writing.later_part.Goals as goal

pub returns : goal.returns
returns c =
    let held = c.args.held.now in
    let bytes : List ℕ = c.deref.result.now in
    let start : c.min-start.result ≡ min (4096 * c.args.part - 24) (length bytes) = omega (arith, held.result.ok.0) in
    let from : drop c.min-start.result bytes ≡ drop (4096 * c.args.part - 24) bytes = ap (λ (n : ℕ). drop n bytes) start ∙ drop_min (4096 * c.args.part - 24) bytes in
    c.fill.ensures
    ∙ ap (padded 4096) (take_rest bytes c.min-start.result ∙ from ∙ ap (drop (4096 * c.args.part - 24)) c.deref.ensures.value)
    ∙ sym (later_part_is (held_view held) c.args.part held.short c.requires.some c.requires.part)
