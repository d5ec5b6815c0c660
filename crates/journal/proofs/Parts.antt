-- What a part of a call leaves to the call.
use Rattle.std.proofs.Common.{◌≡◌, ℕ, false, refl, arith, Result, Err}
use Rattle.disk.specs.declared.fault.DiskFault.{DiskFault}
use Rattle.disk.proofs.MomentLemmas.{AddsOnly-same}
use Rattle.journal.specs.declared.fault.JournalFault.TheVariants as faults
use Rattle.journal.specs.declared.journal.Journal.{Journal}
use Rattle.journal.specs.Calls.{IsPart, IsSafe}
use Rattle.journal.specs.Journal.{log_of}
use Rattle.journal.specs.Log.{Log, AnswersByDevice, IsSettled}
use Rattle.journal.proofs.Answerings.{answers_fault}
use Rattle.journal.proofs.Prefixes.{settled_of}
use Rattle.journal.proofs.Journals.{gated_of}

-- what a crash leaves of a journal that is up
pub settled_up : {D : _} {g : _} (journal : Journal D g) → g.keeps_word → journal.is_down ≡ false → IsSettled (log_of journal)
unfolding log_of
settled_up {D} {g} journal k up =
    settled_of journal.area journal.is_area journal.recorded.targets.items (g.history journal.device) journal.shown_has.fits.few journal.shown_has.fits.fit
    (gated_of journal.recorded.targets.items (g.history journal.device) (journal.rests k up) (journal.gate_is k up))

pub stays_safe : {D : _} {g : _} (journal : Journal D g) → IsSafe g.keeps_word (log_of journal) (log_of journal)
unfolding log_of
stays_safe {D} {g} journal = record {
  area = refl;
  size = refl;
  moments = λ k. AddsOnly-same _ (g.history journal.device);
  brief = λ k. omega arith;
  settled = λ k up. settled_up journal k up;
}

pub part_is_safe : {D : _} {g : _} {T E : Type 0} (old new : Journal D g) (before after : ℕ) (r : Result T E)
    → IsPart g.keeps_word (log_of old) (log_of new) before after r → IsSafe g.keeps_word (log_of old) (log_of new)
unfolding log_of
part_is_safe {D} {g} old new before after r part = record {
  area = part.area;
  size = part.size;
  moments = part.moments;
  brief = part.brief;
  settled = λ k up. settled_up new k up;
}

pub part_failed : {W : Type 0} {T U : Type 0} (old new : Log) (before after : ℕ) (e : DiskFault) → old.is_down ≡ false
    → IsPart {T = U} W old new before after (Err e) → AnswersByDevice {T = T} old new before after (Err faults.Fault)
part_failed old new before after e up part = answers_fault old new before after up part.is_down part.failures.later part.failures.counted
