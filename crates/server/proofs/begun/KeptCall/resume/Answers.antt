use Rattle.std.proofs.Common.{◌≡◌, true, ap, sym, subst, ◌∙◌}
use Rattle.std.proofs.lemmas.Bool.{and_parts}
use Rattle.compound.specs.Views.{asks, resumed, fits_operations}
use Rattle.model.specs.Wire.Rpc.{Compound}
use Rattle.rpc.specs.Places.{is_within}
use Rattle.server.specs.Stages.{asked_at}
use Rattle.server.proofs.begun.KeptCall.resume.Goals as goal

pub compound-requires : goal.compound-requires
compound-requires c =
    (and_parts (is_within c.args.request.now c.args.self.now.place) (fits_operations (asked_at c.args.request.now c.args.self.now) c.args.progress) c.requires).0

pub resume-requires : goal.resume-requires
resume-requires c =
    subst (λ (one : Compound). fits_operations (asks c.args.self.now.xid c.args.self.now.cred one) c.args.progress ≡ true) (sym c.compound.ensures)
    (and_parts (is_within c.args.request.now c.args.self.now.place) (fits_operations (asked_at c.args.request.now c.args.self.now) c.args.progress) c.requires).1

pub returns-clause-asked : goal.returns-clause-asked
returns-clause-asked c = c.resume.ensures.asked ∙ ap (λ (one : Compound). asks c.args.self.now.xid c.args.self.now.cred one) c.compound.ensures

pub returns-clause-request : goal.returns-clause-request
returns-clause-request c =
    c.resume.ensures.request ∙ ap (λ (one : Compound). resumed (asks c.args.self.now.xid c.args.self.now.cred one) c.args.progress) c.compound.ensures
