use Rattle.std.proofs.Common.{◌∙◌, ℕ, sym, ap, subst, arith}
use Rattle.std.specs.Prelude.{IsTrue}
use Rattle.journal.specs.Journal.{log_of}
use Rattle.journal.specs.Log.{Log, contents}
use Rattle.layout.specs.CachedNodes.{tree_of}
use Rattle.layout.specs.Versions.{data_end_by, limits_by, size_by}
use Rattle.volume.specs.Changes.{IsTree}
use Rattle.volume.specs.Known.{AreKnownNodes}
use Rattle.volume.specs.Refusals.{fault_of}
use Rattle.volume.specs.Views.{volume_state_by, volume_state, volume_failures}
use Rattle.volume.proofs.FormedLaws.{shows_same}
use Rattle.volume.proofs.StandLaws.{placed_on}
use Rattle.volume.proofs.ServeLaws.{flush_done, flush_keeps, flush_serves, flush_refused, found_up, up_answered, is_err_of}
use Rattle.volume.proofs.volume.Volume.flush.Goals as goal

pub returns-in_err-flush-clause-shows : goal.returns-in_err-flush-clause-shows
returns-in_err-flush-clause-shows g c = rw (is_err_of c.from_residual.result (fault_of c.in_err-flush.field-0.0) c.from_residual.ensures.1) (tt)

pub invariant_of-self : goal.invariant_of-self
invariant_of-self g c =
    let volume = c.args.self.now in
    let old : Log = log_of volume.store.journal in
    let new : Log = log_of c.flush.new.self in
    let nodes = volume.limits.nodes in
    let size = sym c.flush.ensures.safe.size in
    record {
      bounded = volume.bounded;
      served = volume.served;
      sized = subst (λ (n : ℕ). IsTrue (size_by volume.version n nodes)) size volume.sized;
      limited = volume.limited ∙ ap (λ (n : ℕ). limits_by volume.version n nodes) size;
      formed = volume.formed;
      known = subst (λ (n : ℕ). AreKnownNodes (data_end_by volume.version n) nodes volume.table volume.places) size volume.known;
      named = c.args.self.now.named;
      placed = placed_on volume.version new.area old.area new.size old.size c.flush.ensures.safe.area c.flush.ensures.safe.size volume.placed;
      serves = λ k up.
          let flushed = up_answered g.D.Device.keeps_word old new _ _ _ c.flush.result c.flush.ensures.ok c.flush.ensures.answers c.flush.ensures.refuses up in
          flush_serves g.D.Device.keeps_word volume.version volume.limits volume.run volume.table old new 0 0 c.flush.ensures.safe volume.placed (omega arith) k up (flushed.0.contents k)
          (λ word. volume.serves word flushed.1);
    }

pub returns-in_err-flush-clause-volume : goal.returns-in_err-flush-clause-volume
unfolding volume_state volume_failures
returns-in_err-flush-clause-volume g c =
    let volume = c.args.self.now in
    let old : Log = log_of volume.store.journal in
    let new : Log = log_of c.flush.new.self in
    let fault = c.in_err-flush.field-0.0 in
    let told = is_err_of c.from_residual.result (fault_of fault) c.from_residual.ensures.1 in
    rw told (flush_refused g.D.Device.keeps_word (IsTree (volume_state_by volume.version volume.limits volume.run volume.table old) (tree_of (contents old) volume.table)) volume.version volume.limits volume.run volume.table old new _ _ fault c.in_err-flush.ensures.safe volume.placed
    c.in_err-flush.ensures.answers c.in_err-flush.ensures.refuses)

pub returns-clause-volume : goal.returns-clause-volume
unfolding volume_state volume_failures
returns-clause-volume g c =
    let volume = c.args.self.now in
    let old : Log = log_of volume.store.journal in
    let new : Log = log_of c.flush.new.self in
    let answers = c.in_ok-flush.ensures.answers in
    let up = found_up old new _ _ c.in_ok-flush.field-0 answers in
    flush_done g.D.Device.keeps_word volume.version volume.limits volume.run volume.table old new _ _ c.in_ok-flush.ensures.safe volume.placed answers.later (answers.none (λ fault. cc)) up.1 c.in_ok-flush.ensures.ok
    (λ word. volume.serves word up.0)

pub returns-clause-shows : goal.returns-clause-shows
unfolding volume_state
returns-clause-shows g c =
    let volume = c.args.self.now in
    let old : Log = log_of volume.store.journal in
    let new : Log = log_of c.flush.new.self in
    let up = found_up old new _ _ c.in_ok-flush.field-0 c.in_ok-flush.ensures.answers in
    shows_same g.D.Device.keeps_word (contents old) (contents new) volume.table
    (flush_keeps g.D.Device.keeps_word volume.version volume.limits.nodes volume.run volume.table old new volume.placed c.in_ok-flush.ensures.ok (λ word. volume.serves word up.0))
