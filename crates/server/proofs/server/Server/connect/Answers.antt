use Rattle.std.proofs.Common.{◌<◌, [], refl, sym, ap, subst, arith}
use Rattle.slab.specs.Slab.{slab_len}
use Rattle.compound.specs.States.{shared_of}
use Rattle.fs.specs.Views.{fs_of}
use Rattle.server.specs.Connections.{connections_of, connection_view, IsOfRun}
use Rattle.server.specs.declared.fault.ServerFault.TheVariants as faults
use Rattle.server.specs.Views.{waits_of, world_of, volume_of, world_by}
use Rattle.model.specs.Server.Runs as runs
use Rattle.model.proofs.Server.ServedOnceLaws.{connects_table}
use Rattle.server.proofs.Moves.{does_quietly}
use Rattle.server.proofs.Refusals.{told_by}
use Rattle.server.proofs.SlabLaws.{count_of, with_slot, stands_none, grew}
use Rattle.server.proofs.Worlds.{may_be, quiet_of_run, can_connect_by, connected, inserted_of_run, inserted_count}
use Rattle.server.proofs.server.Server.connect.Goals as goal

pub returns-then-len-ge-MAX_CONNECTIONS-clause-full : goal.returns-then-len-ge-MAX_CONNECTIONS-clause-full
unfolding world_of
returns-then-len-ge-MAX_CONNECTIONS-clause-full g c = λ is. omega (arith, count_of c.args.self.now.connections, c.args.self.now.few)

pub invariant_of-self : goal.invariant_of-self
invariant_of-self g c =
    let s = c.args.self.now in
    let run = (fs_of s.fs).volume.run in
    record {
      few = omega (arith, inserted_count s.connections c.insert.new.self c.insert.result c.insert.ensures.len c.insert.ensures.err);
      agrees = s.agrees;
      of_run = inserted_of_run run s.connections c.insert.new.self c.in_ok-connection.connection c.insert.result c.insert.ensures.updates c.insert.ensures.err
          (subst (IsOfRun run) (sym c.in_ok-connection.ensures) (quiet_of_run run [])) s.of_run;
    }

pub returns-in_err-insert-clause-is_full : goal.returns-in_err-insert-clause-is_full
unfolding world_of
returns-in_err-insert-clause-is_full g c = λ up full. absurd (omega (arith, count_of c.args.self.now.connections, full))

pub returns-in_err-insert-clause-err : goal.returns-in_err-insert-clause-err
unfolding world_of
returns-in_err-insert-clause-err g c =
    let s = c.args.self.now in
    let told = told_by c.from_residual-in_err-insert.result faults.Memory c.from_residual-in_err-insert.ensures.1 in
    let failed = rw c.in_err-insert.was at c.insert.ensures.err in
    rw told (ap (world_by (shared_of s.fs s.table s.opens)) (grew s.connections c.insert.new.self failed))

pub returns-clause-fresh : goal.returns-clause-fresh
unfolding world_of
returns-clause-fresh g c =
    let s = c.args.self.now in
    let conn = c.in_ok-insert.field-0 in
    let vacant = rw c.in_ok-insert.was at c.insert.ensures.was_vacant in
    let few : slab_len s.connections < 16 = omega arith in
    can_connect_by (world_by (shared_of s.fs s.table s.opens) (connections_of s.connections)) conn (stands_none s.connections conn (sym vacant))
    (omega (arith, count_of s.connections))

pub returns-clause-ok : goal.returns-clause-ok
unfolding world_of volume_of waits_of
returns-clause-ok g c =
    let s = c.args.self.now in
    let conn = c.in_ok-insert.field-0 in
    let updates = rw c.in_ok-insert.was at c.insert.ensures.updates in
    let vacant = rw c.in_ok-insert.was at c.insert.ensures.was_vacant in
    let few : slab_len s.connections < 16 = omega arith in
    let can = can_connect_by (world_by (shared_of s.fs s.table s.opens) (connections_of s.connections)) conn (stands_none s.connections conn (sym vacant))
    (omega (arith, count_of s.connections)) in
    let up = sym c.if-is_down.ensures in
    λ keeps. does_quietly (fs_of s.fs).volume _ _ _ _ (runs.Connects conn) _ refl up
    (connected (shared_of s.fs s.table s.opens) (connections_of s.connections) _ conn (connection_view c.in_ok-connection.connection) can
    (with_slot s.connections c.insert.new.self conn c.in_ok-connection.connection updates) c.in_ok-connection.ensures)
    (connects_table _ conn) refl (may_be _ (runs.Connects conn) tt)

pub returns-clause-is_full : goal.returns-clause-is_full
unfolding world_of
returns-clause-is_full g c = λ up full. absurd (omega (arith, count_of c.args.self.now.connections, full))

pub returns-in_err-connection-clause-is_full : goal.returns-in_err-connection-clause-is_full
unfolding world_of
returns-in_err-connection-clause-is_full g c = λ up full. absurd (omega (arith, count_of c.args.self.now.connections, full))
