use Rattle.std.proofs.Common.{ℕ, ◌++◌, List, ap₂, sym, ◌∙◌}
use Rattle.model_tree.specs.Seats.SeatViews.{held_view}
use Rattle.seats.specs.Padding.{padded}
use Rattle.seats.proofs.Parts.{first_part_is}
use Rattle.seats.proofs.writing.first_part.Goals as goal

pub returns : goal.returns
returns c =
    c.fill.ensures
    ∙ ap₂ (λ (a b : List ℕ). a ++ padded 4072 b) c.put_held_prefix.ensures.prefix c.deref.ensures.value
    ∙ sym (first_part_is (held_view c.args.held.now) c.args.held.now.short)
