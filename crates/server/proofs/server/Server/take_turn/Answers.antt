use Rattle.std.proofs.Common.{◌≡◌, ℕ, Some, true, inl, inr, refl, sym, ap, ap₂, ◌∙◌, subst, arith}
use Rattle.std.specs.Prelude.{map}
use Rattle.compound.specs.declared.fault.Fault.TheVariants as turns
use Rattle.slab.specs.Slab.{with_value}
use Rattle.compound.specs.States.{shared, shared_of}
use Rattle.compound.specs.Volumes.{kept_of_world}
use Rattle.fs.specs.FileSystem.{FileSystem}
use Rattle.fs.specs.Views.{fs_of}
use Rattle.model.specs.Server.Runs as runs
use Rattle.model.specs.Server.World.{Closed}
use Rattle.session.specs.Views.{table_of}
use Rattle.server.specs.Connections.{connections_of, connection_view}
use Rattle.server.specs.Faults.{turn_fault}
use Rattle.server.specs.declared.fault.ServerFault.TheVariants as faults
use Rattle.server.specs.Seen.{Turned, kept_by, left_of}
use Rattle.server.specs.Views.{world_of, volume_of, waits_of, files_of, server_failures, world_by}
use Rattle.compound.proofs.QuietLaws.{left_all, broken≢done}
use Rattle.model_tree.proofs.Trees.KeyedLaws.{at-with_other}
use Rattle.model_tree.specs.Trees.Keyed.{at}
use Rattle.server.proofs.Moves.{broken_leaves, leaves_now}
use Rattle.server.proofs.Pairs.{recent_left}
use Rattle.server.proofs.Refusals.{told_by, device_told, turn_refused}
use Rattle.server.proofs.SlabLaws.{stands, stands_none, wrote, wrote_count, rewrote, numbers_rise}
use Rattle.server.proofs.ServedTurns.{turned, turn_of, failed, broken, gone_on_at, gives_deferred, gives_waiting, turning_moments}
use Rattle.server.proofs.Worlds.{may_be, AllOfRun, all_of_run_with, happened_leaving, failed_from}
use Rattle.server.proofs.server.Server.take_turn.Goals as goal

pub returns-in_default-clause-refused : goal.returns-in_default-clause-refused
unfolding world_of volume_of waits_of server_failures
returns-in_default-clause-refused g c = (stands_none c.args.self.now.connections c.args.conn c.in_default.ensures.value, (refl, refl, refl, refl))

pub returns-then-is_down-clause-refused : goal.returns-then-is_down-clause-refused
unfolding volume_of
returns-then-is_down-clause-refused g c = (refl, inl (sym c.if-is_down.ensures), sym c.if-is_down.ensures)

pub returns-in_default-clause-is_closed : goal.returns-in_default-clause-is_closed
unfolding world_of
returns-in_default-clause-is_closed g c =
    let free = stands_none c.args.self.now.connections c.args.conn c.in_default.ensures.value in
    λ up there. let never : ⊥ = cc in absurd never

pub invariant_of-self-then-is_closed : goal.invariant_of-self-then-is_closed
invariant_of-self-then-is_closed g c =
    let s = c.args.self.now in
    let before = c.in-Some.connection.now in
    record {
      agrees = s.agrees;
      few = omega (arith, wrote_count s.connections c.args.conn before before c.in-Some.ensures.value, s.few);
      of_run = subst (AllOfRun (fs_of s.fs).volume.run) (sym (rewrote s.connections c.args.conn before before c.in-Some.ensures.value refl)) s.of_run;
    }

pub returns-then-is_closed-clause-is_none : goal.returns-then-is_closed-clause-is_none
unfolding world_of
returns-then-is_closed-clause-is_none g c =
    let there = stands c.args.self.now.connections c.args.conn c.in-Some.connection.now c.in-Some.ensures.value in
    λ up free. let never : ⊥ = cc in absurd never

pub returns-then-is_closed-clause-refused : goal.returns-then-is_closed-clause-refused
unfolding world_of volume_of waits_of server_failures
returns-then-is_closed-clause-refused g c =
    let s = c.args.self.now in
    let before = c.in-Some.connection.now in (
      stands s.connections c.args.conn before c.in-Some.ensures.value ∙ ap Some (c.is_closed.ensures.0 c.if-is_closed.true),
      (ap (world_by (shared_of s.fs s.table s.opens)) (rewrote s.connections c.args.conn before before c.in-Some.ensures.value refl), refl, refl, refl),
    )

pub turn-requires-clause-run : goal.turn-requires-clause-run
turn-requires-clause-run g c =
    let s = c.args.self.now in
    let before = c.in-Some.connection.now in
    s.of_run c.args.conn (connection_view before) (stands s.connections c.args.conn before c.in-Some.ensures.value)

pub invariant_of-self-2 : goal.invariant_of-self-2
invariant_of-self-2 g c =
    let s = c.args.self.now in
    let before = c.in-Some.connection.now in
    let after = c.turn.new.self in
    let run = (fs_of s.fs).volume.run in
    let same_run : (fs_of c.turn.new.engine.fs.now).volume.run ≡ run = c.turn.ensures.volume.volume_changes.same.run in
    record {
      agrees = c.turn.new.engine.agrees;
      few = omega (arith, wrote_count s.connections c.args.conn before after c.in-Some.ensures.value, s.few);
      of_run = subst (λ (r : ℕ). AllOfRun r (connections_of (with_value s.connections c.args.conn after))) (sym same_run)
          (subst (AllOfRun run) (sym (wrote s.connections c.args.conn before after c.in-Some.ensures.value))
          (all_of_run_with run (connections_of s.connections) c.args.conn (connection_view after) s.of_run c.turn.ensures.run));
    }

pub returns-in_err-turn-clause-fails : goal.returns-in_err-turn-clause-fails
unfolding world_of volume_of waits_of
returns-in_err-turn-clause-fails g c =
    let s = c.args.self.now in
    let before = c.in-Some.connection.now in
    let after = c.turn.new.self in
    let refusal = c.in_err-turn.field-0.0 in
    let told = told_by c.from_residual.result (turn_fault refusal) c.from_residual.ensures.1 in
    let back = rw c.in_err-turn.was at c.turn.ensures.back in
    λ keeps up is.
    let device : refusal ≡ turns.Device = device_told refusal (let told_is : turn_fault refusal ≡ faults.Device = cc in told_is) in
    let volume = c.turn.ensures.volume.volume_changes in
    let by_device = rw (c.in_err-turn.was, device) at c.turn.ensures.volume in
    let left = kept_of_world (turn_of (shared_of s.fs s.table s.opens) (connections_of s.connections) c.args.conn c.args.now).world in
    let adds = volume.moments keeps _ _ (gives_deferred (shared_of s.fs s.table s.opens) (connections_of s.connections) c.args.conn c.args.now (connection_view before)
    (stands s.connections c.args.conn before c.in-Some.ensures.value)) in
    λ recent ready. (
      _,
      record {
        fails = failed_from _ _ recent _ _ _ _ (runs.Turns c.args.conn c.args.now) up by_device.volume_changes.ends.down
            (broken (shared_of s.fs s.table s.opens) (shared_of c.turn.new.engine.fs.now c.turn.new.engine.table.now c.turn.new.engine.opens.now) (connections_of s.connections) _ volume.same (by_device.no_count broken≢done)
            (ap₂ (shared (fs_of c.turn.new.engine.fs.now)) back.1.0 back.1.1) (rewrote s.connections c.args.conn before after c.in-Some.ensures.value back.0) (fs_of s.fs).volume.tree)
            (by_device.lets_wait.failed broken≢done);
        moves = record {
          moments = turning_moments (shared_of s.fs s.table s.opens) (connections_of s.connections) c.args.conn c.args.now recent _ ready up adds;
          leaves = broken_leaves (fs_of s.fs).volume (fs_of c.turn.new.engine.fs.now).volume left recent ready adds volume.same;
          same = volume.same;
          brief = volume.brief keeps;
        };
      },
    )

pub returns-in_err-turn-clause-is_none : goal.returns-in_err-turn-clause-is_none
unfolding world_of
returns-in_err-turn-clause-is_none g c =
    let there = stands c.args.self.now.connections c.args.conn c.in-Some.connection.now c.in-Some.ensures.value in
    λ up free. let never : ⊥ = cc in absurd never

pub returns-in_err-turn-clause-is_closed : goal.returns-in_err-turn-clause-is_closed
unfolding world_of
returns-in_err-turn-clause-is_closed g c =
    let there = stands c.args.self.now.connections c.args.conn c.in-Some.connection.now c.in-Some.ensures.value in
    λ up closed.
    let is : connection_view c.in-Some.connection.now ≡ Closed = cc in
    let tested : c.is_closed.result ≡ true = c.is_closed.ensures.1 is in
    let never : ⊥ = cc in absurd never

pub returns-in_err-turn-clause-refused : goal.returns-in_err-turn-clause-refused
unfolding world_of volume_of waits_of server_failures
returns-in_err-turn-clause-refused g c =
    let s = c.args.self.now in
    let before = c.in-Some.connection.now in
    let after = c.turn.new.self in
    let refusal = c.in_err-turn.field-0.0 in
    let told = told_by c.from_residual.result (turn_fault refusal) c.from_residual.ensures.1 in
    let back = rw c.in_err-turn.was at c.turn.ensures.back in
    let here = rewrote s.connections c.args.conn before after c.in-Some.ensures.value back.0 in
    let stays = ap₂ (shared (fs_of c.turn.new.engine.fs.now)) back.1.0 back.1.1 in
    rw told (turn_refused _ _ c.args.conn refusal
    (λ memory.
    let nothing = rw (c.in_err-turn.was, memory) at c.turn.ensures.volume in
    let files = left_all _ _ _ _ _ _ nothing in
    (failed (shared_of s.fs s.table s.opens) (shared_of c.turn.new.engine.fs.now c.turn.new.engine.table.now c.turn.new.engine.opens.now) (connections_of s.connections) _ files stays here, ap (λ (f : FileSystem). f.volume) files, nothing.volume_changes.none (λ broken. cc), ap (λ (f : FileSystem). f.waits) files))
    (λ device.
    let by_device = rw (c.in_err-turn.was, device) at c.turn.ensures.volume in (
      broken (shared_of s.fs s.table s.opens) (shared_of c.turn.new.engine.fs.now c.turn.new.engine.table.now c.turn.new.engine.opens.now) (connections_of s.connections) _ by_device.volume_changes.same (by_device.no_count broken≢done)
          stays here (fs_of c.turn.new.engine.fs.now).volume.tree,
      inr by_device.volume_changes.ends.cause,
      by_device.volume_changes.ends.down,
    )))

pub returns-clause-ok : goal.returns-clause-ok
unfolding world_of volume_of waits_of files_of happened_leaving
returns-clause-ok g c =
    let s = c.args.self.now in
    let before = c.in-Some.connection.now in
    let after = c.turn.new.self in
    let there = stands s.connections c.args.conn before c.in-Some.ensures.value in
    let did = rw c.in_ok-turn.was at c.turn.ensures.volume in
    let volume = did.volume_changes in
    let gives = gives_deferred (shared_of s.fs s.table s.opens) (connections_of s.connections) c.args.conn c.args.now (connection_view before) there in
    let up = sym c.if-is_down.ensures in
    λ keeps recent ready.
    let made = turned (shared_of s.fs s.table s.opens) (shared_of c.turn.new.engine.fs.now c.turn.new.engine.table.now c.turn.new.engine.opens.now) (connections_of s.connections) _ c.args.conn c.args.now
    (connection_view before) (connection_view after) (wrote s.connections c.args.conn before after c.in-Some.ensures.value) c.in_ok-turn.field-0
    ((rw c.in_ok-turn.was at c.turn.ensures.turn) keeps) (numbers_rise s.connections) there volume.same in
    let left = volume.ends.leaves keeps _ _ gives (map kept_by recent) ready in (
      map left_of left.0,
      record {
        happens = happened_leaving (fs_of s.fs).volume (fs_of c.turn.new.engine.fs.now).volume _ _ recent left.0 (s.agrees keeps up).seats _ _ _ _ (fs_of s.fs).defers (runs.Turns c.args.conn c.args.now) up volume.ends.still_up made.1
            left.1 (may_be _ (runs.Turns c.args.conn c.args.now) tt) did.lets_wait.waits_on did.lets_wait.at_once
            (gives_waiting (shared_of s.fs s.table s.opens) (connections_of s.connections) c.args.conn c.args.now (connection_view before) there _ (fs_of c.turn.new.engine.fs.now) did.lets_wait keeps);
        says = ap Turned made.0;
        moves = record {
          moments = turning_moments (shared_of s.fs s.table s.opens) (connections_of s.connections) c.args.conn c.args.now recent _ ready up (volume.moments keeps _ _ gives);
          leaves = leaves_now (fs_of c.turn.new.engine.fs.now).volume (map left_of left.0) (recent_left _ left.0 left.1.ready).leaves;
          same = volume.same;
          brief = volume.brief keeps;
        };
        ready = recent_left (fs_of c.turn.new.engine.fs.now).volume left.0 left.1.ready;
      },
      refl,
    )

pub returns-clause-is_none : goal.returns-clause-is_none
unfolding world_of
returns-clause-is_none g c =
    let there = stands c.args.self.now.connections c.args.conn c.in-Some.connection.now c.in-Some.ensures.value in
    λ up free. let never : ⊥ = cc in absurd never

pub returns-clause-is_closed : goal.returns-clause-is_closed
unfolding world_of
returns-clause-is_closed g c =
    let there = stands c.args.self.now.connections c.args.conn c.in-Some.connection.now c.in-Some.ensures.value in
    λ up closed.
    let is : connection_view c.in-Some.connection.now ≡ Closed = cc in
    let tested : c.is_closed.result ≡ true = c.is_closed.ensures.1 is in
    let never : ⊥ = cc in absurd never

pub returns-clause-turned : goal.returns-clause-turned
unfolding world_of volume_of waits_of server_failures
returns-clause-turned g c =
    let s = c.args.self.now in
    let before = c.in-Some.connection.now in
    let after = c.turn.new.self in
    let there = stands s.connections c.args.conn before c.in-Some.ensures.value in
    let written = wrote s.connections c.args.conn before after c.in-Some.ensures.value in
    let volume = (rw c.in_ok-turn.was at c.turn.ensures.volume).volume_changes in
    record {
      up = sym c.if-is_down.ensures;
      still_up = volume.ends.still_up;
      none_failed = volume.none (λ broken. cc);
      same = volume.same;
      others = λ other apart. ap (at other) written ∙ at-with_other (connections_of s.connections) c.args.conn other (connection_view after) apart;
      further = gone_on_at (connections_of s.connections) _ c.args.conn (connection_view before) (connection_view after) there written
          (rw c.in_ok-turn.was at c.turn.ensures.further);
      world = λ keeps. (turned (shared_of s.fs s.table s.opens) (shared_of c.turn.new.engine.fs.now c.turn.new.engine.table.now c.turn.new.engine.opens.now) (connections_of s.connections) _ c.args.conn c.args.now
          (connection_view before) (connection_view after) written c.in_ok-turn.field-0
          ((rw c.in_ok-turn.was at c.turn.ensures.turn) keeps) (numbers_rise s.connections) there volume.same).1;
    }

pub returns-then-is_down-clause-device : goal.returns-then-is_down-clause-device
unfolding volume_of server_failures
returns-then-is_down-clause-device g c = record { later = omega arith; brief = λ keeps. omega arith }

pub returns-in_default-clause-device : goal.returns-in_default-clause-device
unfolding volume_of server_failures
returns-in_default-clause-device g c = record { later = omega arith; brief = λ keeps. omega arith }

pub returns-then-is_closed-clause-device : goal.returns-then-is_closed-clause-device
unfolding volume_of server_failures
returns-then-is_closed-clause-device g c = record { later = omega arith; brief = λ keeps. omega arith }

pub returns-in_err-turn-clause-device : goal.returns-in_err-turn-clause-device
unfolding volume_of server_failures
returns-in_err-turn-clause-device g c = record { later = c.turn.ensures.volume.volume_changes.later; brief = c.turn.ensures.volume.volume_changes.brief }

pub returns-clause-device : goal.returns-clause-device
unfolding volume_of server_failures
returns-clause-device g c = record { later = c.turn.ensures.volume.volume_changes.later; brief = c.turn.ensures.volume.volume_changes.brief }
