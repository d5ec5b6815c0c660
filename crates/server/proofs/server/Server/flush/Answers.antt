use Rattle.std.proofs.Common.{◌≡◌, ℕ, true, false, Err, inl, inr, refl, sym, ap, ◌∙◌, subst, true≢false, arith}
use Rattle.fs.specs.Views.{fs_of}
use Rattle.fs.specs.declared.fault.FsFault.TheVariants as fault
use Rattle.opens.specs.Views.{opens_of}
use Rattle.session.specs.Views.{table_of}
use Rattle.server.specs.Connections.{connections_of}
use Rattle.server.specs.Views.{world_of, volume_of, waits_of, server_failures}
use Rattle.volume.specs.VolumeState.{kept_of}
use Rattle.server.proofs.Checkpoints.{agrees_flushed, flushed_all, checkpoint_fails, keeps_world, only_device}
use Rattle.server.proofs.Worlds.{AllOfRun}
use Rattle.server.proofs.server.Server.flush.Goals as goal

pub returns-then-is_down-clause-refused : goal.returns-then-is_down-clause-refused
unfolding world_of volume_of waits_of server_failures
returns-then-is_down-clause-refused g c = record {
  told = refl;
  world = refl;
  cause = inl (sym c.if-is_down.ensures);
  down = sym c.if-is_down.ensures;
}

pub invariant_of-self : goal.invariant_of-self
invariant_of-self g c =
    let s = c.args.self.now in
    record {
      few = s.few;
      agrees = λ keeps up. agrees_flushed g.D.Device.keeps_word (fs_of s.fs) (fs_of c.flush.new.self) _ _ (table_of s.table) c.flush.result c.flush.ensures.flushes keeps (s.agrees keeps (sym c.if-is_down.ensures)) up;
      of_run = subst (λ (r : ℕ). AllOfRun r (connections_of s.connections)) (sym c.flush.ensures.flushes.volume_changes.same.run) s.of_run;
    }

pub returns-in-Ok-clause-ok : goal.returns-in-Ok-clause-ok
unfolding world_of volume_of waits_of
returns-in-Ok-clause-ok g c = λ keeps was.
    let s = c.args.self.now in
    let did = c.in-Ok.ensures in
    let volume = did.flushes.volume_changes in
    let up = sym c.if-is_down.ensures in
    flushed_all (fs_of s.fs) (fs_of c.flush.new.self) (table_of s.table) (opens_of s.opens) (connections_of s.connections) volume.same did.flushes.no_count
    (did.shows.tree_is keeps) (s.agrees keeps up).seats up volume.ends.still_up did.flushes.waits
    (volume.moments keeps (kept_of (fs_of s.fs).volume) true refl) (volume.brief keeps) (volume.ends.leaves keeps (kept_of (fs_of s.fs).volume) true refl)

pub returns-in-Ok-clause-kept : goal.returns-in-Ok-clause-kept
unfolding world_of volume_of waits_of server_failures
returns-in-Ok-clause-kept g c =
    let s = c.args.self.now in
    let did = c.in-Ok.ensures in
    let volume = did.flushes.volume_changes in
    record {
      up = sym c.if-is_down.ensures;
      still_up = volume.ends.still_up;
      none_failed = volume.none (λ broken. cc);
      same = volume.same;
      world = keeps_world (fs_of s.fs) (fs_of c.flush.new.self) (table_of s.table) (opens_of s.opens) (connections_of s.connections) volume.same did.flushes.no_count
          (fs_of c.flush.new.self).volume.tree;
    }

pub returns-in-Err-clause-fails : goal.returns-in-Err-clause-fails
unfolding world_of volume_of waits_of
returns-in-Err-clause-fails g c = λ keeps up.
    let s = c.args.self.now in
    let did = c.in-Err.ensures in
    let volume = did.flushes.volume_changes in
    let device : c.in-Err.field-0 ≡ fault.Device = only_device c.in-Err.field-0 did.refuses
    (λ down. true≢false (sym (did.down.0 (ap Err down)) ∙ up)) in
    let failed = rw device at did.flushes in
    checkpoint_fails (fs_of s.fs) (fs_of c.flush.new.self) (table_of s.table) (opens_of s.opens) (connections_of s.connections) volume.same did.flushes.no_count did.flushes.waits
    up failed.volume_changes.ends.down (volume.moments keeps (kept_of (fs_of s.fs).volume) true refl) (volume.brief keeps)

pub returns-in-Err-clause-refused : goal.returns-in-Err-clause-refused
unfolding world_of volume_of waits_of server_failures
returns-in-Err-clause-refused g c =
    let s = c.args.self.now in
    let did = c.in-Err.ensures in
    let volume = did.flushes.volume_changes in
    let device : c.in-Err.field-0 ≡ fault.Device = only_device c.in-Err.field-0 did.refuses
    (λ down. true≢false (sym (did.down.0 (ap Err down)) ∙ sym c.if-is_down.ensures)) in
    let failed = rw device at did.flushes in
    record {
      told = refl;
      world = keeps_world (fs_of s.fs) (fs_of c.flush.new.self) (table_of s.table) (opens_of s.opens) (connections_of s.connections) volume.same did.flushes.no_count
          (fs_of c.flush.new.self).volume.tree;
      cause = inr failed.volume_changes.ends.cause;
      down = failed.volume_changes.ends.down;
    }

pub returns-then-is_down-clause-device : goal.returns-then-is_down-clause-device
unfolding volume_of server_failures
returns-then-is_down-clause-device g c = record { later = omega arith; brief = λ keeps. omega arith }

pub returns-then-not-waits-clause-device : goal.returns-then-not-waits-clause-device
unfolding volume_of server_failures
returns-then-not-waits-clause-device g c = record { later = omega arith; brief = λ keeps. omega arith }

pub returns-in-Ok-clause-device : goal.returns-in-Ok-clause-device
unfolding volume_of server_failures
returns-in-Ok-clause-device g c = record { later = c.flush.ensures.flushes.volume_changes.later; brief = c.flush.ensures.brief }

pub returns-in-Err-clause-device : goal.returns-in-Err-clause-device
unfolding volume_of server_failures
returns-in-Err-clause-device g c = record { later = c.flush.ensures.flushes.volume_changes.later; brief = c.flush.ensures.brief }
