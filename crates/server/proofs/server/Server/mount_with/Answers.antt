use Rattle.std.proofs.Common.{refl, arith}
use Rattle.fs.specs.Views.{fs_of}
use Rattle.volume.specs.declared.fault.MountFault.TheVariants as mounts
use Rattle.volume.proofs.MountedLaws.{refused_untouched}
use Rattle.volume.proofs.ServeLaws.{is_err_of}
use Rattle.model_tree.specs.Seats.SeatViews.{seats_view}
use Rattle.session.specs.Views.{table_of, settings_of}
use Rattle.server.specs.Connections.{connections_of}
use Rattle.server.specs.Views.{world_of, volume_of, waits_of, server_failures}
use Rattle.opens.specs.Views.{opens_of}
use Rattle.server.proofs.Moves.{loaded, few_runs, mounted_by, world_mounted, found_start, limits_room}
use Rattle.server.proofs.server.Server.mount_with.Goals as goal

pub returns-clause-begins : goal.returns-clause-begins
unfolding world_of volume_of waits_of connections_of
returns-clause-begins g c =
    let found = c.in_ok-fs.ensures in
    let fs = fs_of c.in_ok-fs.field-0.fs in
    let size = g.D.Device.size c.args.device in
    λ keeps. mounted_by fs (table_of c.load-table.result) (opens_of c.new-opens.result) (connections_of c.in-Ok.connections) (settings_of c.args.settings) (seats_view c.in_ok-fs.field-0.seats)
    (loaded c.restart_count.result fs.volume.run (settings_of c.args.settings) (seats_view c.in_ok-fs.field-0.seats) c.restart_count.ensures (table_of c.load-table.result) c.load-table.ensures)
    c.new-opens.ensures (rw c.in-Ok.ensures.empty refl) found.no_change keeps found.none_waits found.seats
    (few_runs c.restart_count.result fs.volume.run c.restart_count.ensures c.restart_count.type_inv) found.serves.new.is_up (found.serves.mounted keeps).holds
    (found_start size (g.D.Device.history c.args.device) fs.volume (found.serves.mounted keeps).found found.serves.new (found.serves.mounted keeps).current)
    (limits_room size fs.volume found.serves.new)

pub returns-clause-world : goal.returns-clause-world
unfolding world_of volume_of connections_of
returns-clause-world g c =
    let fs = fs_of c.in_ok-fs.field-0.fs in
    world_mounted fs (table_of c.load-table.result) (opens_of c.new-opens.result) (connections_of c.in-Ok.connections) (settings_of c.args.settings) (seats_view c.in_ok-fs.field-0.seats)
    (loaded c.restart_count.result fs.volume.run (settings_of c.args.settings) (seats_view c.in_ok-fs.field-0.seats) c.restart_count.ensures (table_of c.load-table.result) c.load-table.ensures)
    c.new-opens.ensures (rw c.in-Ok.ensures.empty refl) c.in_ok-fs.ensures.no_change

pub returns-clause-serves : goal.returns-clause-serves
unfolding volume_of server_failures
returns-clause-serves g c = c.in_ok-fs.ensures.serves

-- no memory for the connections: the device was not asked
pub returns-in-Err-clause-gives_back : goal.returns-in-Err-clause-gives_back
returns-in-Err-clause-gives_back g c = record {
  back = record { same_size = refl; later = omega arith; cause = λ is. let never : ⊥ = cc in absurd never; none = λ other. refl };
  refused = λ keeps.
      refused_untouched (g.D.Device.size c.args.device) (g.D.Device.history c.args.device) (g.D.Device.history c.args.device) mounts.Memory refl tt;
}

pub returns-in_err-fs-clause-gives_back : goal.returns-in_err-fs-clause-gives_back
returns-in_err-fs-clause-gives_back g c =
    let told = is_err_of c.from_residual.result c.in_err-fs.field-0.0 c.from_residual.ensures.1 in
    rw told (rw c.in_err-fs.was at c.mount_seated.ensures.gives_back)
