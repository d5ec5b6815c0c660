use Rattle.std.proofs.Common.{◌≡◌, cond, get_or}
use Rattle.disk.specs.declared.landing.Unsynced.{Unsynced}
use Rattle.disk.specs.Trial.{lands}
use Rattle.disk.proofs.TrialLemmas.{edge_landing-all, edge_landing-more}
use Rattle.disk.proofs.trial.edge_landing.Goals as goal
use Rattle.disk.proofs.trial.edge_landing.Goals.{then-lands, else-lands}

pub loop-place-preserved : goal.loop-place-preserved
loop-place-preserved c =
    let none : Unsynced = record { sector = 0; contents = 0 } in
    let content : c.if-lands.content ≡ cond (lands c.args.edge c.loop-place.place) (get_or c.args.unsynced.now c.loop-place.place none).contents 0 =
    elim c.if-lands.branch [
      | then-lands w ↦ rw (← c.lands.ensures, w.if-lands.true) w.content-is
      | else-lands w ↦ rw (← c.lands.ensures, w.if-lands.false) w.content-is
    ] in
    edge_landing-more _ _ _ _ none _ _ c.loop-place-test.true content c.in_ok-push.ensures.items c.loop-place.invariant

pub returns : goal.returns
returns c = edge_landing-all _ _ _ _ c.loop-place-test.false c.loop-place.invariant
