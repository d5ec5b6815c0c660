-- The record of calls: what one more call does to the history that it encodes.
use Rattle.std.proofs.Common.{◌≡◌, ◌≢◌, ℕ, ◌<◌, ◌≤◌, List, [], ◌∷◌, ◌++◌, length, set, refl, sym, ◌∙◌, arith, Bool, true, false, cond, eqb, inl, inr, Err, not, subst}
use Rattle.std.proofs.lemmas.Grind.{common_steps}
use Rattle.disk.specs.declared.fault.DiskFault.TheVariants.{Fault}
use Rattle.disk.specs.declared.update.Update.{Update}
use Rattle.disk.specs.declared.call.Call.{Call}
use Rattle.disk.specs.declared.call.Call.TheVariants.{Write, Sync}
use Rattle.disk.specs.Moments.{History, seen, at_rest, written_to}
use Rattle.disk.specs.Cause.{HasCause, IsCounted}
use Rattle.disk.specs.Calls.{image_of, called, replayed, history_of_calls}

-- one more call is the last of the moments
pub replayed-append : (calls : List Call) (call : Call) (h : History) → replayed (calls ++ call ∷ []) h ≡ called call (replayed calls h)
replayed-append [] call h = refl
replayed-append (c ∷ calls) call h = replayed-append calls call (called c h)

-- what the fields of a device in memory say about one another
pub record IsTold (size : ℕ) (rows first : List (List ℕ)) (calls : List Call) : Type 0 where
  pub told : (n : ℕ) → image_of rows n ≡ seen (history_of_calls first calls).now n
  pub within : (n : ℕ) → size ≤ n → written_to n (history_of_calls first calls).now.unsynced ≡ []

pub synced_is_told : (size : ℕ) (rows first : List (List ℕ)) (calls : List Call) → IsTold size rows first calls → IsTold size rows first (calls ++ Sync ∷ [])
synced_is_told size rows first calls t = record {
  told = λ n. rw (replayed-append calls Sync (at_rest (image_of first))) (t.told n);
  within = λ n past. rw (replayed-append calls Sync (at_rest (image_of first))) refl;
}

pub image_of-set : (rows : List (List ℕ)) (t : ℕ) (content : List ℕ) (n : ℕ) → t < length rows
    → image_of (set rows t content) n ≡ cond (eqb n t) content (image_of rows n)
image_of-set rows t content n inside = grind (arith, common_steps)

written_to-other : (n t : ℕ) (content : List ℕ) (updates : List Update) → n ≢ t
    → written_to n (record { target = t; content = content } ∷ updates) ≡ written_to n updates
written_to-other n t content updates other = grind (arith, common_steps)

pub written_is_told : (size : ℕ) (rows first : List (List ℕ)) (calls : List Call) (t : ℕ) (content : List ℕ) → t < length rows → t < size
    → IsTold size rows first calls → IsTold size (set rows t content) first (calls ++ Write (record { target = t; content = content }) ∷ [])
written_is_told size rows first calls t content inside below is_told =
    let update : Update = record { target = t; content = content } in
    record {
      told = λ n. rw (replayed-append calls (Write update) (at_rest (image_of first))) (rw (image_of-set rows t content n inside) (rw (is_told.told n) refl));
      within = λ n past. rw (replayed-append calls (Write update) (at_rest (image_of first)))
          (written_to-other n t content (history_of_calls first calls).now.unsynced (omega arith) ∙ is_told.within n past);
    }

-- a failure that is counted is a fault's cause
pub counted_fault : {T : Type 0} (before after : ℕ) → IsCounted before after → HasCause {T = T} before after (Err Fault)
counted_fault before after counted = record {
  later = elim counted [ inl grew ↦ omega arith | inr full ↦ omega arith ];
  fault = λ _. counted;
  ok = tt;
  range = λ e. cc;
  not_memory = λ e. cc;
  not_open = λ e. cc;
}

-- a push that succeeded
pub pushed : {X : Type 0} (ok failed : Bool) (xs ys zs : List X) → xs ≡ cond ok ys zs → ok ≡ not failed → failed ≡ false → xs ≡ ys
pushed ok failed xs ys zs was negation went_well = rw (negation, went_well) at was

-- the moment that one more call makes
pub recorded : (first : List (List ℕ)) (calls calls' : List Call) (call : Call) → calls' ≡ calls ++ call ∷ []
    → history_of_calls first calls' ≡ called call (history_of_calls first calls)
recorded first calls calls' call e = rw e (replayed-append calls call (at_rest (image_of first)))

pub maybe_synced_is_told : (size : ℕ) (rows first : List (List ℕ)) (calls calls' : List Call) (ok : Bool)
    → calls' ≡ cond ok (calls ++ Sync ∷ []) calls → IsTold size rows first calls → IsTold size rows first calls'
maybe_synced_is_told size rows first calls calls' true e t = subst (λ cs. IsTold size rows first cs) (sym e) (synced_is_told size rows first calls t)
maybe_synced_is_told size rows first calls calls' false e t = subst (λ cs. IsTold size rows first cs) (sym e) t

pub recorded_write_is_told : (size : ℕ) (rows first : List (List ℕ)) (calls calls' : List Call) (t : ℕ) (content : List ℕ) → t < length rows → t < size
    → calls' ≡ calls ++ Write (record { target = t; content = content }) ∷ []
    → IsTold size rows first calls → IsTold size (set rows t content) first calls'
recorded_write_is_told size rows first calls calls' t content inside below e is_told =
    subst (λ cs. IsTold size (set rows t content) first cs) (sym e) (written_is_told size rows first calls t content inside below is_told)
