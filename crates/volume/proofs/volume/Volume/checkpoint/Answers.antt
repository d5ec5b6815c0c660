use Rattle.std.proofs.Common.{◌∙◌, ℕ, sym, ap, subst, arith}
use Rattle.std.specs.Prelude.{IsTrue}
use Rattle.journal.specs.Journal.{log_of}
use Rattle.journal.specs.Log.{Log, contents}
use Rattle.layout.specs.Versions.{data_end_by, limits_by, size_by}
use Rattle.volume.specs.Changes.{Stays}
use Rattle.volume.specs.Known.{AreKnownNodes}
use Rattle.volume.specs.Refusals.{fault_of}
use Rattle.volume.specs.Views.{volume_state_by, volume_state, volume_failures}
use Rattle.volume.proofs.FormedLaws.{shows_same}
use Rattle.volume.proofs.StandLaws.{placed_on}
use Rattle.volume.proofs.ServeLaws.{flush_serves, flush_refused, found_up, up_answered, is_err_of}
use Rattle.volume.proofs.CheckpointLaws.{checkpoint_done, checkpoint_keeps, checkpoint_recent}
use Rattle.volume.proofs.volume.Volume.checkpoint.Goals as goal

pub returns-in_err-checkpoint-clause-shows : goal.returns-in_err-checkpoint-clause-shows
returns-in_err-checkpoint-clause-shows g c = rw (is_err_of c.from_residual.result (fault_of c.in_err-checkpoint.field-0.0) c.from_residual.ensures.1) (tt)

pub returns-in_err-checkpoint-clause-recent : goal.returns-in_err-checkpoint-clause-recent
returns-in_err-checkpoint-clause-recent g c = rw (is_err_of c.from_residual.result (fault_of c.in_err-checkpoint.field-0.0) c.from_residual.ensures.1) (λ keeps. tt)

pub invariant_of-self : goal.invariant_of-self
invariant_of-self g c =
    let volume = c.args.self.now in
    let old : Log = log_of volume.store.journal in
    let new : Log = log_of c.checkpoint.new.self in
    let nodes = volume.limits.nodes in
    let size = sym c.checkpoint.ensures.safe.size in
    record {
      bounded = volume.bounded;
      served = volume.served;
      sized = subst (λ (n : ℕ). IsTrue (size_by volume.version n nodes)) size volume.sized;
      limited = volume.limited ∙ ap (λ (n : ℕ). limits_by volume.version n nodes) size;
      formed = volume.formed;
      known = subst (λ (n : ℕ). AreKnownNodes (data_end_by volume.version n) nodes volume.table volume.places) size volume.known;
      named = c.args.self.now.named;
      placed = placed_on volume.version new.area old.area new.size old.size c.checkpoint.ensures.safe.area c.checkpoint.ensures.safe.size volume.placed;
      serves = λ k up.
          let answered = up_answered g.D.Device.keeps_word old new _ _ _ c.checkpoint.result c.checkpoint.ensures.ok c.checkpoint.ensures.answers c.checkpoint.ensures.refuses up in
          flush_serves g.D.Device.keeps_word volume.version volume.limits volume.run volume.table old new 0 0 c.checkpoint.ensures.safe volume.placed (omega arith) k up (answered.0.contents k)
          (λ word. volume.serves word answered.1);
    }

pub returns-in_err-checkpoint-clause-volume : goal.returns-in_err-checkpoint-clause-volume
unfolding volume_state volume_failures
returns-in_err-checkpoint-clause-volume g c =
    let volume = c.args.self.now in
    let old : Log = log_of volume.store.journal in
    let new : Log = log_of c.checkpoint.new.self in
    let fault = c.in_err-checkpoint.field-0.0 in
    let told = is_err_of c.from_residual.result (fault_of fault) c.from_residual.ensures.1 in
    rw told (flush_refused g.D.Device.keeps_word (Stays (volume_state_by volume.version volume.limits volume.run volume.table old)) volume.version volume.limits volume.run volume.table old new _ _ fault c.in_err-checkpoint.ensures.safe volume.placed
    c.in_err-checkpoint.ensures.answers c.in_err-checkpoint.ensures.refuses)

pub returns-clause-volume : goal.returns-clause-volume
unfolding volume_state volume_failures
returns-clause-volume g c =
    let volume = c.args.self.now in
    let old : Log = log_of volume.store.journal in
    let new : Log = log_of c.checkpoint.new.self in
    let did = c.in_ok-checkpoint.ensures in
    let up = found_up old new _ _ c.in_ok-checkpoint.field-0 did.answers in
    checkpoint_done g.D.Device.keeps_word volume.version volume.limits volume.run volume.table _ old new did.safe volume.placed did.list up.1 did.ok (λ word. volume.serves word up.0)
    _ _ did.answers.later (did.answers.none (λ fault. cc))

pub returns-clause-shows : goal.returns-clause-shows
unfolding volume_state
returns-clause-shows g c =
    let volume = c.args.self.now in
    let old : Log = log_of volume.store.journal in
    let new : Log = log_of c.checkpoint.new.self in
    let did = c.in_ok-checkpoint.ensures in
    let up = found_up old new _ _ c.in_ok-checkpoint.field-0 did.answers in
    shows_same g.D.Device.keeps_word (contents old) (contents new) volume.table
    (checkpoint_keeps g.D.Device.keeps_word volume.version volume.limits volume.run volume.table _ old new did.safe volume.placed did.list up.1 did.ok (λ word. volume.serves word up.0))

pub returns-clause-recent : goal.returns-clause-recent
unfolding volume_state
returns-clause-recent g c =
    let volume = c.args.self.now in
    let old : Log = log_of volume.store.journal in
    let new : Log = log_of c.checkpoint.new.self in
    let did = c.in_ok-checkpoint.ensures in
    let up = found_up old new _ _ c.in_ok-checkpoint.field-0 did.answers in
    checkpoint_recent g.D.Device.keeps_word volume.version volume.limits volume.run volume.table _ old new did.safe volume.placed did.list up.1 did.ok (λ word. volume.serves word up.0)
