use Rattle.std.proofs.Common.{◌≤◌, ℕ, length, ap, ap₂, sym, subst}
use Rattle.std.proofs.lemmas.Bool.{and_parts}
use Rattle.compound.specs.Views.{fits_operations}
use Rattle.compound.specs.declared.ahead.Ahead.{Ahead}
use Rattle.compound.proofs.Resuming.{fits_within}
use Rattle.model.specs.Wire.Rpc.{Compound}
use Rattle.rpc.specs.Places.{is_within}
use Rattle.server.specs.Stages.{asked_at}
use Rattle.server.specs.declared.statistics.UnderWay.{UnderWay}
use Rattle.server.proofs.begun.Begun.under_way.Goals as goal

made : ℕ → Ahead → UnderWay
made answered ahead = record { answered = answered; ahead = ahead }

pub compound-compound-requires : goal.compound-compound-requires
compound-compound-requires c =
    let begun = c.args.self.now in
    (and_parts (is_within c.args.request.now begun.call.place) (fits_operations (asked_at c.args.request.now begun.call) begun.progress) c.requires).0

pub ahead-requires : goal.ahead-requires
ahead-requires c =
    let begun = c.args.self.now in
    subst (λ (one : Compound). begun.progress.position ≤ length one.operations) (sym c.compound-compound.ensures)
    (fits_within (asked_at c.args.request.now begun.call) begun.progress
    (and_parts (is_within c.args.request.now begun.call.place) (fits_operations (asked_at c.args.request.now begun.call) begun.progress) c.requires).1)

pub returns : goal.returns
unfolding made
returns c =
    let begun = c.args.self.now in
    ap₂ made c.answered.ensures
    (c.ahead.ensures (asked_at c.args.request.now begun.call) (sym (ap (λ (one : Compound). one.operations) c.compound-compound.ensures)))
