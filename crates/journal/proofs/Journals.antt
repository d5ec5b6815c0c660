-- What a journal's calls keep.
use Rattle.std.proofs.Common.{◌≡◌, ◌≤◌, ◌<◌, ◌+◌, ℕ, true, false, List, [], ◌∷◌, length, refl, sym, ap, ◌∙◌, subst, arith, Result, Ok, Err, OnOk, is_err, ◌++◌, take, get_or}
use Rattle.std.proofs.lemmas.List.{take_more}
use Rattle.disk.specs.declared.update.Update.{Update}
use Rattle.disk.specs.Moments.{Image, History, seen}
use Rattle.journal.specs.declared.journal.Journal.{Journal}
use Rattle.journal.specs.declared.recorded.Recorded.{Recorded}
use Rattle.journal.specs.declared.layout.LogArea.{LogArea}
use Rattle.journal.specs.Journal.{log_of}
use Rattle.journal.specs.Layout.{copies, gate, max_updates, targets}
use Rattle.journal.specs.Phase.{IsGated}
use Rattle.journal.specs.Recorded.{IsStored}
use Rattle.journal.specs.Commit.{AddsEither, IsCommitted}
use Rattle.journal.proofs.Areas.{updates_enough}
use Rattle.journal.proofs.Lists.{targets-append, targets-push}

-- each journal takes a transaction of 48 sectors
pub takes_enough : {D : _} {g : _} (journal : Journal D g) → 48 ≤ max_updates (log_of journal).area
unfolding log_of
takes_enough journal = updates_enough journal.area journal.is_area

none_of : (us : List Update) → length us ≡ 0 → us ≡ []
none_of [] e = refl
none_of (u ∷ us) e = absurd (omega arith)

-- what a journal's fields say about its device
pub gated_of : (to : List ℕ) (h : History) → length h.now.unsynced ≡ 0 → seen h.now 1 ≡ gate to → IsGated to h
gated_of to h e q = record { rests = none_of h.now.unsynced e; gate_is = q }

pub on_ok : {T E P : Type 0} (r : Result T E) → is_err r ≡ false → OnOk r P → P
on_ok (Ok x) e p = p
on_ok (Err x) e p = absurd (let c : true ≡ false = e in cc)

pub targets_more : (us : List Update) (i : ℕ) (d : Update) → i < length us
    → targets (take (i + 1) us) ≡ targets (take i us) ++ (get_or us i d).target ∷ []
targets_more us i d l = ap (λ xs. targets xs) (take_more us i d l) ∙ targets-push (take i us) (get_or us i d)

-- a commit that succeeded
pub committed_at : {T E : Type 0} (r : Result T E) (area : LogArea) (xs ys : List Update) (was shown : List ℕ) (stay : List Update) (h h1 : History)
    → is_err r ≡ false → xs ≡ ys → OnOk r (IsCommitted area xs was shown stay h h1) → IsCommitted area ys was shown stay h h1
committed_at r area xs ys was shown stay h h1 ok e w =
    let P : List Update → Type 0 = λ us. OnOk r (IsCommitted area us was shown stay h h1) in on_ok r ok (subst P e w)

pub either_at : (area : LogArea) (xs ys : List Update) (base : Image) (h h1 : History) → xs ≡ ys → AddsEither area xs base h h1 → AddsEither area ys base h h1
either_at area xs ys base h h1 e w = let P : List Update → Type 0 = λ us. AddsEither area us base h h1 in subst P e w

-- what is recorded of a journal that is up
pub stored_of : (area : LogArea) (recorded : Recorded) (h : History) → length h.now.unsynced ≡ 0 → seen h.now 1 ≡ gate recorded.targets.items
    → copies (seen h.now) area.first recorded.targets.items ≡ recorded.updates.items → IsStored area recorded h
stored_of area recorded h rests open_for payload = record { gated = gated_of recorded.targets.items h rests open_for; payload = payload }

-- once a flush took them over, the updates are those of what the gate names
pub taken_named : (kept us now : List Update) (way to : List ℕ) → targets kept ≡ way → to ≡ targets us → now ≡ kept ++ us → targets now ≡ way ++ to
taken_named kept us now way to e q more =
    ap (λ (vs : List Update). targets vs) more ∙ targets-append kept us
    ∙ ap (λ (ts : List ℕ). ts ++ targets us) e ∙ ap (λ (ts : List ℕ). way ++ ts) (sym q)
