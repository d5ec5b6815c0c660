use Rattle.std.proofs.Common.{◌≡◌, Err, inl, refl, sym, ap, ◌∙◌, subst, arith}
use Rattle.compound.specs.States.{shared_of}
use Rattle.fs.specs.Views.{fs_of}
use Rattle.model.specs.Server.Runs as runs
use Rattle.model_tree.specs.Trees.Keyed.{at}
use Rattle.model_tree.proofs.Trees.KeyedLaws.{at-without_other}
use Rattle.server.specs.Connections.{connections_of}
use Rattle.server.specs.declared.fault.ServerFault.TheVariants as faults
use Rattle.server.specs.Refused.{view, IsUntouched, RefusesTurn}
use Rattle.server.specs.Seen.{Stays}
use Rattle.server.proofs.Refusals.{told_by, begins_on, runs_on, hang_up_refused}
use Rattle.server.specs.Views.{world_of, volume_of, waits_of, server_failures, seen_with}
use Rattle.server.proofs.HangUps.{turned_on, once_on, fewer_left}
use Rattle.model.proofs.Server.ServedOnceLaws.{hangs_up_table}
use Rattle.server.proofs.Moves.{does_quietly, same_seen}
use Rattle.server.proofs.SlabLaws.{stands_none, without_slot, absent, present, removed_count}
use Rattle.server.proofs.Worlds.{AllOfRun, all_of_run_without, hung_up, may_be}
use Rattle.server.proofs.server.Server.hangup.Goals as goal

pub returns-then-is_down-clause-refused : goal.returns-then-is_down-clause-refused
unfolding volume_of
returns-then-is_down-clause-refused g c = (inl (sym c.if-is_down.ensures), sym c.if-is_down.ensures)

pub returns-then-not-contains-clause-refused : goal.returns-then-not-contains-clause-refused
unfolding world_of volume_of waits_of server_failures
returns-then-not-contains-clause-refused g c =
    (absent c.args.self.now.connections c.args.conn c.contains.result c.contains.ensures.1 c.if-not-contains.true, (refl, refl, refl, refl))

pub returns-in_err-turn-clause-refused : goal.returns-in_err-turn-clause-refused
returns-in_err-turn-clause-refused g c =
    let mid = c.loop-self.self in
    let inv = c.loop-self.invariant in
    let fault = c.in_err-turn.field-0.0 in
    let told = told_by c.from_residual.result fault c.from_residual.ensures.1 in
    rw told (hang_up_refused (view c.args.self.now) (view mid) (view c.turn.new.self) c.args.conn fault inv.on inv.later (sym c.is_busy.ensures ∙ c.loop-self-test.true)
    (rw c.in_err-turn.was at c.turn.ensures.refused))

pub loop-self-init : goal.loop-self-init
unfolding volume_of
loop-self-init g c = record { is_up = sym c.if-is_down.ensures; on = begins_on (view c.args.self.now) c.args.conn (sym c.if-is_down.ensures); turned = λ keeps recent ready. (recent, Stays, tt, ready); later = omega arith; waits = refl }

pub loop-self-smaller : goal.loop-self-smaller
unfolding world_of
loop-self-smaller g c =
    let mid = c.loop-self.self in
    fewer_left mid.connections c.args.conn (at c.args.conn (connections_of mid.connections)) (at c.args.conn (connections_of c.turn.new.self.connections)) refl (sym c.is_busy.ensures ∙ c.loop-self-test.true)
    (rw c.in_ok-turn.was at c.turn.ensures.turned).further

pub loop-self-preserved : goal.loop-self-preserved
loop-self-preserved g c =
    let old = c.args.self.now in
    let mid = c.loop-self.self in
    let new = c.turn.new.self in
    let inv = c.loop-self.invariant in
    let still = (rw c.in_ok-turn.was at c.turn.ensures.turned).still_up in
    let made = rw c.in_ok-turn.was at c.turn.ensures.ok in
    record {
      is_up = still;
      on = runs_on (view old) (view mid) (view new) c.args.conn c.args.now (rw c.in_ok-turn.was at c.turn.ensures.turned) inv.on;
      turned = λ keeps recent ready.
          let was = inv.turned keeps recent ready in
          let does = made keeps was.0 was.3 in
          let busy = sym c.is_busy.ensures ∙ c.loop-self-test.true in (
            does.0,
            turned_on c.args.conn c.args.now (seen_with old recent) (seen_with mid was.0) (seen_with new does.0) _ was.1 busy does.1,
            once_on c.args.conn c.args.now (seen_with old recent) (seen_with mid was.0) (seen_with new does.0) _ was.1 busy does.1 was.2 does.2,
            does.1.ready,
          );
      later = omega (arith, inv.later, c.turn.ensures.device.later);
      waits = c.turn.ensures.waits ∙ inv.waits;
    }

pub returns-in_err-turn-clause-is_none : goal.returns-in_err-turn-clause-is_none
unfolding world_of
returns-in_err-turn-clause-is_none g c =
    λ up free. absurd (present c.args.self.now.connections c.args.conn (c.contains.ensures.0 c.if-not-contains.false) free)

pub invariant_of-self : goal.invariant_of-self
invariant_of-self g c =
    let mid = c.loop-self.self in
    record {
      few = omega (arith, removed_count mid.connections c.try_remove.new.self c.try_remove.result c.try_remove.ensures.len c.try_remove.ensures.absent, mid.few);
      agrees = mid.agrees;
      of_run = subst (AllOfRun (fs_of mid.fs).volume.run) (sym (without_slot mid.connections c.try_remove.new.self c.args.conn c.try_remove.ensures.updates))
          (all_of_run_without (fs_of mid.fs).volume.run (connections_of mid.connections) c.args.conn mid.of_run);
    }

pub returns-clause-ok : goal.returns-clause-ok
unfolding world_of volume_of waits_of
returns-clause-ok g c =
    let mid = c.loop-self.self in
    let inv = c.loop-self.invariant in
    λ keeps recent ready.
    let was = inv.turned keeps recent ready in
    let does =
    does_quietly (fs_of mid.fs).volume _ _ _ _ (runs.HangsUp c.args.conn) _ refl inv.is_up
    (hung_up (shared_of mid.fs mid.table mid.opens) (connections_of mid.connections) _ c.args.conn (sym c.is_busy.ensures ∙ c.loop-self-test.false)
    (without_slot mid.connections c.try_remove.new.self c.args.conn c.try_remove.ensures.updates)) (hangs_up_table _ c.args.conn) refl (may_be _ (runs.HangsUp c.args.conn) tt) was.0 was.3 in
    (seen_with mid was.0, was.1, (does.0, does.1), was.2)

pub returns-clause-on : goal.returns-clause-on
unfolding world_of volume_of server_failures
returns-clause-on g c =
    let mid = c.loop-self.self in
    let on = c.loop-self.invariant.on in
    record {
      still_up = on.still_up;
      none_failed = on.none_failed;
      same = on.same;
      others = λ other apart.
          ap (at other) (without_slot mid.connections c.try_remove.new.self c.args.conn c.try_remove.ensures.updates)
          ∙ at-without_other (connections_of mid.connections) c.args.conn other apart ∙ on.others other apart;
    }

pub returns-clause-gone : goal.returns-clause-gone
unfolding world_of
returns-clause-gone g c = stands_none c.try_remove.new.self c.args.conn (sym c.try_remove.ensures.updates.changed)

pub returns-clause-is_none : goal.returns-clause-is_none
unfolding world_of
returns-clause-is_none g c =
    λ up free. absurd (present c.args.self.now.connections c.args.conn (c.contains.ensures.0 c.if-not-contains.false) free)

pub returns-in_err-turn-clause-memory : goal.returns-in_err-turn-clause-memory
returns-in_err-turn-clause-memory g c =
    let mid = c.loop-self.self in
    let fault = c.in_err-turn.field-0.0 in
    let told = told_by c.from_residual.result fault c.from_residual.ensures.1 in
    λ keeps is recent ready.
    let memory : fault ≡ faults.Memory = cc in
    let same : IsUntouched (view mid) (view c.turn.new.self) = subst (RefusesTurn (view mid) (view c.turn.new.self) c.args.conn) memory (rw c.in_err-turn.was at c.turn.ensures.refused) in
    let was = c.loop-self.invariant.turned keeps recent ready in (
      seen_with mid was.0,
      was.1,
      (
        was.0,
        same_seen (world_of mid) (world_of c.turn.new.self) was.0 (volume_of mid) (volume_of c.turn.new.self)
            (waits_of mid) (waits_of c.turn.new.self) same.0 same.1 same.3,
      ),
      was.2,
    )

pub returns-in_err-turn-clause-fails : goal.returns-in_err-turn-clause-fails
unfolding world_of volume_of
returns-in_err-turn-clause-fails g c =
    let mid = c.loop-self.self in
    let fault = c.in_err-turn.field-0.0 in
    let told = told_by c.from_residual.result fault c.from_residual.ensures.1 in
    λ keeps up is recent ready.
    let device : fault ≡ faults.Device = cc in
    let was = c.loop-self.invariant.turned keeps recent ready in
    (seen_with mid was.0, was.1, c.turn.ensures.fails keeps c.loop-self.invariant.is_up (c.in_err-turn.was ∙ ap Err device) was.0 was.3, was.2)

pub returns-in_err-turn-clause-waits : goal.returns-in_err-turn-clause-waits
returns-in_err-turn-clause-waits g c = c.turn.ensures.waits ∙ c.loop-self.invariant.waits

pub returns-clause-waits : goal.returns-clause-waits
unfolding waits_of
returns-clause-waits g c = c.loop-self.invariant.waits
