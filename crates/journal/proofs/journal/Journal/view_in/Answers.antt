use Rattle.std.proofs.Common.{◌∙◌, ℕ, List, ap}
use Rattle.journal.specs.Viewed.{viewed}
use Rattle.journal.proofs.Areas.{log_within}
use Rattle.journal.proofs.Viewing.{through_gate}
use Rattle.journal.proofs.journal.Journal.view_in.Goals as goal

pub returns-clause-viewed : goal.returns-clause-viewed
returns-clause-viewed g c = λ k.
    let D = g.D.Device in
    let size = D.size c.args.device.now in
    let h = D.history c.args.device.now in
    let to = c.read_gate.new.named.items in
    through_gate c.args.area size h to (log_within c.args.area size c.requires.large) c.in_default.ensures.named.0 c.in_default.ensures.named.1 (c.in_default.ensures.gate_is k)
    (λ n within. g.met.D.Device.holds_sectors k c.args.device.now n within) _
    (c.new.ensures.view ∙ (ap (λ (ts : List ℕ). viewed c.args.area ts (D.size c.read_gate.new.device) (D.history c.read_gate.new.device)) c.deref.ensures.value
    ∙ (ap (λ (n : ℕ). viewed c.args.area to n (D.history c.read_gate.new.device)) c.read_gate.ensures.reads.1
    ∙ ap (viewed c.args.area to size) c.read_gate.ensures.reads.0)))
