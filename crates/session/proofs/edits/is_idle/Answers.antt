use Rattle.std.proofs.Common.{rules, tests, sym, ◌∙◌}
use Rattle.std.proofs.lemmas.Iterator.{YieldsList-from_slice}
use Rattle.std.proofs.lemmas.Iterator.Search.{all_from_yields_List}
use Rattle.model_tree.specs.declared.seats.SeatEdit.{SeatEdit}
use Rattle.model_tree.specs.Seats.SeatEdits.{stays, edit_view}
use Rattle.session.proofs.Editing.{all_stay_is}
use Rattle.session.proofs.edits.is_idle.Goals as goal

pub returns : goal.returns
returns c =
    all_from_yields_List (λ (edit : SeatEdit). stays (edit_view edit)) _ _ c.all.result c.all.ensures.ran (YieldsList-from_slice c.args.edits.now.list.items cc) (λ x b q k. search (rules, tests))
    ∙ sym (all_stay_is c.args.edits.now.list.items)
