use Rattle.std.proofs.Common.{◌≡◌, ℕ, refl, sym, ap, ◌∙◌, subst}
use Rattle.compound.specs.States.{Agrees, shared}
use Rattle.fs.specs.FileSystem.{FileSystem}
use Rattle.fs.specs.Views.{fs_of}
use Rattle.opens.specs.Views.{opens_of}
use Rattle.session.specs.Views.{table_of}
use Rattle.server.specs.Connections.{connections_of}
use Rattle.server.specs.Views.{world_of, volume_of, waits_of, files_of, world_by}
use Rattle.server.proofs.Turning.{agrees_on}
use Rattle.server.proofs.Worlds.{AllOfRun}
use Rattle.server.proofs.server.Server.defer.Goals as goal

pub invariant_of-self : goal.invariant_of-self
invariant_of-self g c =
    let s = c.args.self.now in
    let is = c.set_deferring.ensures.fs in
    record {
      few = s.few;
      agrees = λ keeps up. agrees_on (fs_of s.fs) (fs_of c.set_deferring.new.self) (table_of s.table) (ap (λ (f : FileSystem). f.volume.run) is) (ap (λ (f : FileSystem). f.volume.seats) is)
          (s.agrees keeps (sym (ap (λ (f : FileSystem). f.volume.is_down) is) ∙ up));
      of_run = subst (λ (r : ℕ). AllOfRun r (connections_of s.connections)) (sym (ap (λ (f : FileSystem). f.volume.run) is)) s.of_run;
    }

pub returns-clause-world : goal.returns-clause-world
unfolding world_of
returns-clause-world g c =
    let s = c.args.self.now in
    ap (λ (f : FileSystem). world_by (shared f (table_of s.table) (opens_of s.opens)) (connections_of s.connections)) c.set_deferring.ensures.fs

pub returns-clause-volume : goal.returns-clause-volume
unfolding volume_of
returns-clause-volume g c = ap (λ (f : FileSystem). f.volume) c.set_deferring.ensures.fs

pub returns-clause-waits : goal.returns-clause-waits
unfolding waits_of
returns-clause-waits g c = ap (λ (f : FileSystem). f.waits) c.set_deferring.ensures.fs

pub returns-clause-defers : goal.returns-clause-defers
unfolding files_of
returns-clause-defers g c = ap (λ (f : FileSystem). f.defers) c.set_deferring.ensures.fs
