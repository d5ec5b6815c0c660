-- Refusals one after the other: the first one, and what holds if there is none.
use Rattle.std.proofs.Common.{◌≡◌, Bool, true, false, [], ◌∷◌, ◌++◌, Option, Some, None, refl}
use Rattle.model_tree.specs.declared.status.Status.{Status}
use Rattle.model_tree.specs.Refusals.Refusal.{Refusals, first_refusal, refused_or}
use Rattle.model_tree.proofs.Facts.OptionLaws.{some≢none}

-- the first of two statuses
abbrev pub or_else : Option Status → Option Status → Option Status
or_else None second = second
or_else (Some first) second = Some first

pub first-append : (prefix rest : Refusals) → first_refusal (prefix ++ rest) ≡ or_else (first_refusal prefix) (first_refusal rest)
first-append [] rest = refl
first-append (test ∷ prefix) rest = head test.0 test.1 (first_refusal prefix) (first_refusal rest) (first-append prefix rest)
  where
    head : (test : Bool) (reason : Status) (prefix rest : Option Status) {whole : Option Status} → whole ≡ or_else prefix rest
        → refused_or test reason whole ≡ or_else (refused_or test reason prefix) rest
    head true reason prefix rest same = refl
    head false reason prefix rest same = same

pub none_earlier : (test : Bool) (reason : Status) (rest : Option Status) → refused_or test reason rest ≡ None
    → (test ≡ false) × (rest ≡ None)
none_earlier true reason rest none = absurd (some≢none reason none)
none_earlier false reason rest none = (refl, none)

-- if none of all holds, none of each part does
pub none_in_both : (prefix rest : Refusals) → first_refusal (prefix ++ rest) ≡ None
    → (first_refusal prefix ≡ None) × (first_refusal rest ≡ None)
none_in_both [] rest none = (refl, none)
none_in_both (test ∷ prefix) rest none =
    let here = none_earlier test.0 test.1 (first_refusal (prefix ++ rest)) none in
    let others = none_in_both prefix rest here.1 in
    (rw here.0 others.0, others.1)

pub none_before : (prefix rest : Refusals) → first_refusal (prefix ++ rest) ≡ None → first_refusal prefix ≡ None
none_before prefix rest none = (none_in_both prefix rest none).0

pub none_after : (prefix rest : Refusals) → first_refusal (prefix ++ rest) ≡ None → first_refusal rest ≡ None
none_after prefix rest none = (none_in_both prefix rest none).1
