use Rattle.std.proofs.Common.{refl, sym, ap, ◌∙◌, subst, arith}
use Rattle.compound.specs.States.{shared_of}
use Rattle.fs.specs.Views.{fs_of}
use Rattle.model.specs.Server.Runs as runs
use Rattle.rpc.specs.Assembly.{record_limits}
use Rattle.server.specs.Connections.{IsOfRun, connections_of, connection_view}
use Rattle.server.specs.Seen.{Took, taken_on}
use Rattle.server.specs.Views.{waits_of, world_of, volume_of, world_by}
use Rattle.model.proofs.Server.ServedOnceLaws.{arrives_table}
use Rattle.server.proofs.Moves.{does_quietly}
use Rattle.server.proofs.SlabLaws.{stands, stands_none, wrote, wrote_count}
use Rattle.server.proofs.Worlds.{may_be, AllOfRun, all_of_run_with, arrived_of_run, fed}
use Rattle.server.proofs.server.Server.feed.Goals as goal

pub returns-in_default-clause-no_connection : goal.returns-in_default-clause-no_connection
unfolding world_of
returns-in_default-clause-no_connection g c = λ is. stands_none c.args.self.now.connections c.args.conn c.in_default.ensures.value

pub invariant_of-self-2 : goal.invariant_of-self-2
invariant_of-self-2 g c =
    let s = c.args.self.now in
    let before = c.in-Some.connection.now in
    let after = c.feed.new.self in
    let run = (fs_of s.fs).volume.run in
    record {
      few = omega (arith, wrote_count s.connections c.args.conn before after c.in-Some.ensures.value, s.few);
      agrees = s.agrees;
      of_run = subst (AllOfRun run) (sym (wrote s.connections c.args.conn before after c.in-Some.ensures.value))
          (all_of_run_with run (connections_of s.connections) c.args.conn (connection_view after) s.of_run
          (subst (IsOfRun run) (sym c.feed.ensures.arrived) (arrived_of_run run record_limits c.args.piece.now (connection_view before)
          (s.of_run c.args.conn (connection_view before) (stands s.connections c.args.conn before c.in-Some.ensures.value)))));
    }

pub returns-in_default-feed-clause-closed : goal.returns-in_default-feed-clause-closed
unfolding world_of volume_of waits_of
returns-in_default-feed-clause-closed g c =
    let s = c.args.self.now in
    let before = c.in-Some.connection.now in
    let after = c.feed.new.self in
    let there = stands s.connections c.args.conn before c.in-Some.ensures.value in
    let none = sym c.feed.ensures.taken ∙ c.in_default-feed.is in
    let up = sym c.if-is_down.ensures in
    λ keeps is. does_quietly (fs_of s.fs).volume _ _ _ _ (runs.Arrives c.args.conn c.args.piece.now) _ refl up
    (fed (shared_of s.fs s.table s.opens) (connections_of s.connections) _ c.args.conn c.args.piece.now (connection_view before) (connection_view after)
    there (wrote s.connections c.args.conn before after c.in-Some.ensures.value) c.feed.ensures.arrived)
    (arrives_table _ c.args.conn c.args.piece.now) (ap Took (sym (ap (taken_on (world_by (shared_of s.fs s.table s.opens) (connections_of s.connections)) c.args.piece.now) there ∙ none))) (may_be _ (runs.Arrives c.args.conn c.args.piece.now) tt)

pub returns-in_default-feed-clause-is_none : goal.returns-in_default-feed-clause-is_none
unfolding world_of
returns-in_default-feed-clause-is_none g c =
    let there = stands c.args.self.now.connections c.args.conn c.in-Some.connection.now c.in-Some.ensures.value in
    λ up free. let never : ⊥ = cc in absurd never

pub returns-clause-ok : goal.returns-clause-ok
unfolding world_of volume_of waits_of
returns-clause-ok g c =
    let s = c.args.self.now in
    let before = c.in-Some.connection.now in
    let after = c.feed.new.self in
    let there = stands s.connections c.args.conn before c.in-Some.ensures.value in
    let some = sym c.feed.ensures.taken ∙ c.in-Some-feed.is in
    let up = sym c.if-is_down.ensures in
    λ keeps. does_quietly (fs_of s.fs).volume _ _ _ _ (runs.Arrives c.args.conn c.args.piece.now) _ refl up
    (fed (shared_of s.fs s.table s.opens) (connections_of s.connections) _ c.args.conn c.args.piece.now (connection_view before) (connection_view after)
    there (wrote s.connections c.args.conn before after c.in-Some.ensures.value) c.feed.ensures.arrived)
    (arrives_table _ c.args.conn c.args.piece.now) (ap Took (sym (ap (taken_on (world_by (shared_of s.fs s.table s.opens) (connections_of s.connections)) c.args.piece.now) there ∙ some))) (may_be _ (runs.Arrives c.args.conn c.args.piece.now) tt)

pub returns-clause-is_none : goal.returns-clause-is_none
unfolding world_of
returns-clause-is_none g c =
    let there = stands c.args.self.now.connections c.args.conn c.in-Some.connection.now c.in-Some.ensures.value in
    λ up free. let never : ⊥ = cc in absurd never
