use Rattle.std.proofs.Common.{ap, sym, ℕ, ◌∙◌}
use Rattle.model_tree.specs.Seats.SeatViews.{held_view}
use Rattle.std.specs.Prelude.{Some}
use Rattle.seats.specs.Encoding.{part_of, slot_text}
use Rattle.seats.proofs.writing.slot_sector.Goals as goal

pub returns-then-part-eq0 : goal.returns-then-part-eq0
returns-then-part-eq0 c = c.first_part.ensures ∙ ap (λ (k : ℕ). part_of k (slot_text (Some (held_view c.args.held.now)))) (sym c.if-part-eq0.true)
