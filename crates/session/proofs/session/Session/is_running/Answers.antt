use Rattle.std.proofs.Common.{rules, tests, sym, ◌∙◌}
use Rattle.std.proofs.lemmas.Iterator.{YieldsList-from_slice}
use Rattle.std.proofs.lemmas.Iterator.Search.{any_from_yields_List}
use Rattle.model.specs.Sessions.Session.{is_running_state, Slot as Known}
use Rattle.session.specs.declared.slot.Slot.{Slot}
use Rattle.session.specs.Slots.{slot_of}
use Rattle.session.proofs.Lists.{list_any-map}
use Rattle.session.proofs.session.Session.is_running.Goals as goal

pub returns : goal.returns
returns c =
    any_from_yields_List (λ (slot : Slot). is_running_state (slot_of slot).state) _ _ _ c.any.ensures.ran (YieldsList-from_slice c.args.self.now.slots.items cc) (λ x b q k. search (rules, tests))
    ∙ sym (list_any-map (λ (slot : Known). is_running_state slot.state) slot_of c.args.self.now.slots.items)
