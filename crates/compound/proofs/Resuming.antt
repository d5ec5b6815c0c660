-- A COMPOUND between its turns.
use Rattle.std.proofs.Common.{◌≡◌, ℕ, ◌+◌, ◌≤◌, ◌<◌, true, false, [], Option, None, Some, length, refl, ap, subst, le-leb, lt-ltb, leb-true, ltb-true, nat_le, nat_lt, arith}
use Rattle.std.proofs.lemmas.Bool.{and_parts}
use Rattle.compound.specs.Turns.{ResultLeaves}
use Rattle.compound.specs.Views.{Asked, IsBegin, resumed, size_so_far, may_go_on, fits_operations}
use Rattle.compound.proofs.Replies.{tag_brief}
use Rattle.compound.specs.declared.progress.Progress.{Progress}
use Rattle.compound.specs.declared.step.Stepped.TheVariants as stepped
use Rattle.model.specs.Operations.Answer.{Answer, Done}
use Rattle.model.specs.Sessions.Session.{Table}
use Rattle.model.specs.Server.World.{InProgress, with_result, is_last}
use Rattle.model_tree.specs.declared.status.Status.{Status}
use Rattle.xdr.specs.Forms.{counted}

-- before its end
pub fits_by : (asked : Asked) (progress : Progress) → progress.ended ≡ None → progress.answered < asked.compound.count → progress.position ≤ length asked.compound.operations
    → 32 + length (counted asked.compound.tag) + length progress.results.bytes ≤ 16368 → fits_operations asked progress ≡ true
fits_by asked progress going more within brief =
    rw (
      going,
      lt-ltb progress.answered asked.compound.count more,
      le-leb progress.position (length asked.compound.operations) within,
      le-leb (32 + length (counted asked.compound.tag) + length progress.results.bytes) 16368 brief,
    ) refl

-- and once its last result is there
pub fits_ended : (asked : Asked) (progress : Progress) (last : Status) → progress.ended ≡ Some last → progress.position ≤ length asked.compound.operations
    → 32 + length (counted asked.compound.tag) + length progress.results.bytes ≤ 16380 → fits_operations asked progress ≡ true
fits_ended asked progress last ended within brief =
    rw (
      ended,
      le-leb progress.position (length asked.compound.operations) within,
      le-leb (32 + length (counted asked.compound.tag) + length progress.results.bytes) 16380 brief,
    ) refl

-- What is known of a COMPOUND that can go on

pub fits_within : (asked : Asked) (progress : Progress) → fits_operations asked progress ≡ true → progress.position ≤ length asked.compound.operations
fits_within asked progress fit = leb-true progress.position (length asked.compound.operations) (and_parts _ (may_go_on asked progress progress.ended) fit).0

fits_so : (asked : Asked) (progress : Progress) → fits_operations asked progress ≡ true → may_go_on asked progress progress.ended ≡ true
fits_so asked progress fit = (and_parts (nat_le progress.position (length asked.compound.operations)) _ fit).1

fits_open : (asked : Asked) (progress : Progress) → fits_operations asked progress ≡ true → progress.ended ≡ None → may_go_on asked progress None ≡ true
fits_open asked progress fit going = subst (λ (ended : Option Status). may_go_on asked progress ended ≡ true) going (fits_so asked progress fit)

-- before its end it has operations left, and room
pub fits_more : (asked : Asked) (progress : Progress) → fits_operations asked progress ≡ true → progress.ended ≡ None → progress.answered < asked.compound.count
fits_more asked progress fit going =
    ltb-true progress.answered asked.compound.count (and_parts _ (nat_le (size_so_far asked progress) 16368) (fits_open asked progress fit going)).0

pub fits_room : (asked : Asked) (progress : Progress) → fits_operations asked progress ≡ true → progress.ended ≡ None → size_so_far asked progress ≤ 16368
fits_room asked progress fit going =
    leb-true (size_so_far asked progress) 16368 (and_parts (nat_lt progress.answered asked.compound.count) _ (fits_open asked progress fit going)).1

-- in any case its results are few bytes
pub fits_brief : (asked : Asked) (progress : Progress) → fits_operations asked progress ≡ true → size_so_far asked progress ≤ 16380
fits_brief asked progress fit = by_end progress.ended refl
  where
    by_end : (ended : Option Status) → progress.ended ≡ ended → size_so_far asked progress ≤ 16380
    by_end None is = omega (arith, fits_room asked progress fit is)
    by_end (Some last) is =
        leb-true (size_so_far asked progress) 16380 (subst (λ (ended : Option Status). may_go_on asked progress ended ≡ true) is (fits_so asked progress fit))

-- after an OK result that is not the last one the COMPOUND goes on
pub more_follow : (table : Table) (asked : Asked) (request : InProgress) (answer : Answer) (progress : Progress) → is_last request ≡ false
    → resumed asked progress ≡ with_result request (Done answer) → ResultLeaves table table asked request (Done answer) (stepped.Ran progress)
more_follow table asked request answer progress more pushed = λ world number executed here. rw (more, ← pushed, ← here) (refl, refl)

module _ (run : ℕ) (progress : Progress) (position : progress.position ≡ 0) (answered : progress.answered ≡ 0) (results : progress.results.bytes ≡ [])
    (client : progress.client ≡ 0) (here : progress.run ≡ run) (current : progress.current ≡ None) (saved : progress.saved ≡ None) (slot : progress.slot ≡ None) (altered : progress.altered ≡ false) (going : progress.ended ≡ None) where
  pub begins : IsBegin run progress
  begins = record {
    begun = λ world asked same. rw (position, answered, results, client, here, current, saved, slot, altered, going, same) refl;
    run_is = here;
    fit = λ asked some short. fits_by asked progress going (omega arith) (omega arith) (omega (arith, tag_brief asked.compound.tag short, ap length results));
  }
