-- What calls write, one more call at a time.
use Rattle.std.proofs.Common.{suc, ◌≡◌, ℕ, ◌+◌, ◌<◌, ◌≤◌, List, [], ◌∷◌, ◌++◌, length, get_or, take, drop, refl, sym, ◌∙◌, ap, arith, Bool, true, false, cond, eqb, append_assoc, add-one, length-append, drop-cons, Some, None}
use Rattle.std.specs.Prelude.{option_to_list, reverse}
use Rattle.std.proofs.Math.Seq.{take-length, drop-length, take-suc, get_or-append_seam}
use Rattle.std.proofs.lemmas.List.{take_all, get_or_past, append-nil, take-append-drop, take-append-le, drop-append-le, reverse-append}
use Rattle.disk.specs.declared.update.Update.{Update}
use Rattle.disk.specs.declared.call.Call.{Call}
use Rattle.disk.specs.declared.call.Call.TheVariants.{Write, Sync}
use Rattle.disk.specs.Moments.{put, seen, at_rest, written_to}
use Rattle.disk.specs.Calls.{image_of, called, history_of_calls, written, written_by, IsLastSync}
use Rattle.disk.proofs.RecordLemmas.{replayed-append}

pub written_by-append : (n : ℕ) (xs ys : List Call) → written_by n (xs ++ ys) ≡ written_by n xs ++ written_by n ys
written_by-append n [] ys = refl
written_by-append n (x ∷ xs) ys =
    ap (λ rest. option_to_list (written n x) ++ rest) (written_by-append n xs ys)
    ∙ sym (append_assoc (option_to_list (written n x)) (written_by n xs) (written_by n ys))

-- one call more
pub written_by-take : (n : ℕ) (calls : List Call) (i : ℕ) (d : Call) → i < length calls
    → written_by n (take (i + 1) calls) ≡ written_by n (take i calls) ++ option_to_list (written n (get_or calls i d))
written_by-take n calls i d inside =
    rw (add-one, take-suc calls i d inside, written_by-append n (take i calls) (get_or calls i d ∷ []), append-nil (option_to_list (written n (get_or calls i d)))) refl

pub length-written_some : (n : ℕ) (calls : List Call) (i : ℕ) (d : Call) (content : List ℕ) → i < length calls → Some content ≡ written n (get_or calls i d)
    → length (written_by n (take (i + 1) calls)) ≡ length (written_by n (take i calls)) + 1
length-written_some n calls i d content inside e =
    rw (written_by-take n calls i d inside, ← e) (length-append (written_by n (take i calls)) (content ∷ []))

pub length-written_none : (n : ℕ) (calls : List Call) (i : ℕ) (d : Call) → i < length calls → None ≡ written n (get_or calls i d)
    → length (written_by n (take (i + 1) calls)) ≡ length (written_by n (take i calls))
length-written_none n calls i d inside e =
    rw (written_by-take n calls i d inside, ← e) (ap length (append-nil (written_by n (take i calls))))

-- the calls, split at one
parted : (calls : List Call) (i : ℕ) (d : Call) → i < length calls → calls ≡ take i calls ++ (get_or calls i d ∷ drop (i + 1) calls)
parted calls i d inside = sym (rw (add-one, ← drop-cons calls i d inside) (take-append-drop i calls))

pub numbered : (n : ℕ) (calls : List Call) (i : ℕ) (d : Call) (fixed content : List ℕ) (number : ℕ) → i < length calls → Some content ≡ written n (get_or calls i d)
    → number ≡ 1 + length (written_by n (take i calls)) → content ≡ get_or (fixed ∷ written_by n calls) number fixed
numbered n calls i d fixed content number inside e is_number =
    let before : List (List ℕ) = written_by n (take i calls) in
    let after : List (List ℕ) = written_by n (drop (i + 1) calls) in
    let whole : written_by n calls ≡ before ++ (content ∷ after) =
    ap (written_by n) (parted calls i d inside) ∙ written_by-append n (take i calls) (get_or calls i d ∷ drop (i + 1) calls) ∙ ap (λ o. before ++ (option_to_list o ++ after)) (sym e) in
    let is_suc : number ≡ suc (length before) = omega arith in
    rw (is_suc, whole) (sym (get_or-append_seam before content after fixed))

pub no_such_number : (n : ℕ) (calls : List Call) (i left : ℕ) (fixed : List ℕ) (number : ℕ) → length calls ≤ i → 0 < left → number ≡ left + length (written_by n (take i calls))
    → fixed ≡ get_or (fixed ∷ written_by n calls) number fixed
no_such_number n calls i left fixed number past some_left is_number =
    let at_end : number ≡ left + length (written_by n calls) = rw (take_all i calls past) at is_number in
    sym (get_or_past (fixed ∷ written_by n calls) number fixed (omega arith))

pub replayed-take : (first : List (List ℕ)) (calls : List Call) (i : ℕ) (d : Call) → i < length calls
    → history_of_calls first (take (i + 1) calls) ≡ called (get_or calls i d) (history_of_calls first (take i calls))
replayed-take first calls i d inside = rw (add-one, take-suc calls i d inside) (replayed-append (take i calls) (get_or calls i d) (at_rest (image_of first)))

reversed_write : (b : Bool) (content : List ℕ) (contents so_far : List (List ℕ)) → reverse contents ≡ so_far
    → reverse (cond b (content ∷ contents) contents) ≡ so_far ++ (option_to_list (cond b (Some content) None) ++ [])
reversed_write true content contents so_far e = reverse-append (content ∷ []) contents ∙ ap (λ xs. xs ++ content ∷ []) e
reversed_write false content contents so_far e = e ∙ sym (append-nil so_far)

pub last_sync-write : (calls : List Call) (update : Update) (k : ℕ) → k ≤ length calls → IsLastSync calls k → IsLastSync (calls ++ Write update ∷ []) k
last_sync-write calls update k inside last = record {
  fixed = λ first. rw (replayed-append calls (Write update) (at_rest (image_of first)), take-append-le k calls (Write update ∷ []) inside) (last.fixed first);
  since = λ first n. rw (replayed-append calls (Write update) (at_rest (image_of first)), drop-append-le k calls (Write update ∷ []) inside, written_by-append n (drop k calls) (Write update ∷ []))
      (reversed_write (eqb n update.target) update.content (written_to n (history_of_calls first calls).now.unsynced) (written_by n (drop k calls)) (last.since first n));
}

pub last_sync-sync : (calls : List Call) (k : ℕ) → k ≡ length (calls ++ Sync ∷ []) → IsLastSync (calls ++ Sync ∷ []) k
last_sync-sync calls k e = record {
  fixed = λ first. rw (e, take-length (calls ++ Sync ∷ []), replayed-append calls Sync (at_rest (image_of first))) refl;
  since = λ first n. rw (e, drop-length (calls ++ Sync ∷ []), replayed-append calls Sync (at_rest (image_of first))) refl;
}

pub last_sync-take : (calls : List Call) (i : ℕ) (d call : Call) (k : ℕ) → i < length calls → call ≡ get_or calls i d → IsLastSync (take i calls ++ call ∷ []) k → IsLastSync (take (i + 1) calls) k
last_sync-take calls i d call k inside e last = rw (add-one, take-suc calls i d inside, ← e) last

pub replayed_write : (first rows rows' : List (List ℕ)) (calls : List Call) (i : ℕ) (d : Call) (update : Update) (n : ℕ) → i < length calls → get_or calls i d ≡ Write update
    → image_of rows n ≡ seen (history_of_calls first (take i calls)).now n → image_of rows' n ≡ put (image_of rows) update n
    → image_of rows' n ≡ seen (history_of_calls first (take (i + 1) calls)).now n
replayed_write first rows rows' calls i d update n inside is_write before step =
    rw (replayed-take first calls i d inside, is_write) (step ∙ ap (cond (eqb n update.target) update.content) before)

pub replayed_sync : (first rows : List (List ℕ)) (calls : List Call) (i : ℕ) (d : Call) (n : ℕ) → i < length calls → get_or calls i d ≡ Sync
    → image_of rows n ≡ seen (history_of_calls first (take i calls)).now n
    → image_of rows n ≡ seen (history_of_calls first (take (i + 1) calls)).now n
replayed_sync first rows calls i d n inside is_sync before = rw (replayed-take first calls i d inside, is_sync) before
