use Rattle.opens.specs.Views.{opens_of}
use Rattle.std.proofs.Common.{sym, refl, ap, ◌∙◌, subst, arith}
use Rattle.compound.specs.States.{shared, shared_of}
use Rattle.fs.specs.FileSystem.{FileSystem}
use Rattle.fs.specs.Views.{fs_of}
use Rattle.model.specs.Server.Runs as runs
use Rattle.model.specs.Server.World.{reply_in}
use Rattle.session.specs.Views.{table_of}
use Rattle.server.specs.Connections.{connections_of, connection_view, IsOfRun}
use Rattle.server.specs.Seen.{Gave}
use Rattle.server.specs.Views.{world_of, volume_of, waits_of}
use Rattle.model.proofs.Server.ServedOnceLaws.{takes_table}
use Rattle.server.proofs.Moves.{moves_none, does_quietly}
use Rattle.server.proofs.SlabLaws.{absent, present, stands, stands_none, wrote, wrote_count}
use Rattle.server.proofs.Worlds.{AllOfRun, all_of_run_with, taken_of_run, took, stays_down, may_take}
use Rattle.server.proofs.server.Server.take_output.Goals as goal

pub invariant_of-self : goal.invariant_of-self
invariant_of-self g c =
    let s = c.args.self.now in
    let before = c.in-Some.connection.now in
    let after = c.take_output.new.self in
    let run = (fs_of s.fs).volume.run in
    record {
      few = omega (arith, wrote_count s.connections c.args.conn before after c.in-Some.ensures.value, s.few);
      agrees = s.agrees;
      of_run = subst (AllOfRun run) (sym (wrote s.connections c.args.conn before after c.in-Some.ensures.value))
          (all_of_run_with run (connections_of s.connections) c.args.conn (connection_view after) s.of_run
          (subst (IsOfRun run) (sym c.take_output.ensures.left)
          (taken_of_run run (connection_view before) (s.of_run c.args.conn (connection_view before) (stands s.connections c.args.conn before c.in-Some.ensures.value)))));
    }

pub returns-in-Some-clause-ok : goal.returns-in-Some-clause-ok
unfolding world_of volume_of waits_of
returns-in-Some-clause-ok g c =
    let s = c.args.self.now in
    let before = c.in-Some.connection.now in
    let after = c.take_output.new.self in
    let there = stands s.connections c.args.conn before c.in-Some.ensures.value in
    λ keeps up none. does_quietly (fs_of s.fs).volume _ _ _ _ (runs.Takes c.args.conn) _ refl up
    (took (shared_of s.fs s.table s.opens) (connections_of s.connections) _ c.args.conn (connection_view before) (connection_view after)
    there (wrote s.connections c.args.conn before after c.in-Some.ensures.value) c.take_output.ensures.left)
    (takes_table _ c.args.conn) (ap Gave (c.take_output.ensures.given ∙ ap reply_in (sym there))) (may_take _ (runs.Takes c.args.conn) none)

pub returns-in-Some-clause-down : goal.returns-in-Some-clause-down
unfolding world_of volume_of waits_of
returns-in-Some-clause-down g c =
    let s = c.args.self.now in
    let before = c.in-Some.connection.now in
    let after = c.take_output.new.self in
    let there = stands s.connections c.args.conn before c.in-Some.ensures.value in
    λ keeps down none tree left leaves.
    let files : FileSystem = record (fs_of s.fs) { volume = record (fs_of s.fs).volume { tree = tree } } in
    record {
      stays = stays_down _ _ _ _ _ left c.args.conn down down none
          (took (shared files (table_of s.table) (opens_of s.opens)) (connections_of s.connections) _ c.args.conn (connection_view before) (connection_view after)
          there (wrote s.connections c.args.conn before after c.in-Some.ensures.value) c.take_output.ensures.left);
      says = ap Gave (c.take_output.ensures.given ∙ ap reply_in (sym there));
      moves = moves_none _ _ (runs.Takes c.args.conn) (fs_of s.fs).volume leaves;
    }

pub returns-in-Some-clause-no_connection : goal.returns-in-Some-clause-no_connection
unfolding world_of
returns-in-Some-clause-no_connection g c =
    let there = stands c.args.self.now.connections c.args.conn c.in-Some.connection.now c.in-Some.ensures.value in
    (λ is. let never : ⊥ = cc in absurd never, λ free. let never : ⊥ = cc in absurd never)

pub returns-in-None-clause-no_connection : goal.returns-in-None-clause-no_connection
unfolding world_of
returns-in-None-clause-no_connection g c =
    (λ here. stands_none c.args.self.now.connections c.args.conn c.in-None.ensures.value, λ free. refl)

pub returns-then-contains-clause-no_connection : goal.returns-then-contains-clause-no_connection
unfolding world_of
returns-then-contains-clause-no_connection g c =
    (λ is. let never : ⊥ = cc in absurd never, λ free. absurd (present c.args.self.now.connections c.args.conn (c.contains.ensures.0 c.if-contains.true) free))

pub returns-then-waits-clause-no_connection : goal.returns-then-waits-clause-no_connection
unfolding world_of
returns-then-waits-clause-no_connection g c =
    (λ here. absent c.args.self.now.connections c.args.conn c.contains.result c.contains.ensures.1 c.if-contains.false, λ free. refl)
