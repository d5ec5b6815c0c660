use Rattle.std.proofs.Common.{◌≡◌, ◌∙◌, IfErr, ap, subst}
use Rattle.journal.specs.Layout.{log_at_start}
use Rattle.journal.specs.Viewed.{HasNoForm}
use Rattle.journal.specs.declared.fault.JournalFault.TheVariants as fault
use Rattle.journal.specs.declared.layout.LogArea.{LogArea}
use Rattle.journal.proofs.journal.Journal.view.Goals as goal

pub returns-clause-damaged : goal.returns-clause-damaged
returns-clause-damaged g c = subst
    (λ (area : LogArea). g.D.Device.keeps_word
    → IfErr c.view_in.result (λ refused. refused.fault ≡ fault.Damaged → HasNoForm area (g.D.Device.history c.args.device.now)))
    (c.log_at_start-area.ensures ∙ ap log_at_start c.sectors.ensures) c.view_in.ensures.damaged
