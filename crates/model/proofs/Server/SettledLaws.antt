-- Which held replies are settled: all of them while nothing waits, and each that was stored when a
-- reply was taken.
use Rattle.std.proofs.Common.{◌≡◌, ℕ, ◌≤◌, Bool, true, false, cond, List, [], ◌++◌, length, option_to_list, Option, None, Some, refl, sym, ap, ◌∙◌, subst, arith, append-nil, length-append}
use Rattle.std.proofs.lemmas.Bool.{true≢false, false≢true}
use Rattle.model.specs.Server.World.{World, one, reply_at}
use Rattle.model.specs.Server.Runs.{Event, Arrives, Turns, HangsUp, Connects, Takes, Stored, stored_by, freed_between, RunHistory, history_after, taken_by, Serving, MayBeTaken, Happens, IsRun, Begins, Goes_on, Fails_at, Stays_down, Flushed, settled_by, taken_with, stored_when_taken}

-- What comes to the history by an event

pub record IsBehind (old new : RunHistory) : Type 0 where
  pub stored : List Stored
  pub freed : List (List ℕ)
  pub stored_is : new.stored ≡ old.stored ++ stored
  pub freed_is : new.freed ≡ old.freed ++ freed

as_it_was : (history : RunHistory) → IsBehind history history
as_it_was history = record { stored = []; freed = []; stored_is = sym (append-nil history.stored); freed_is = sym (append-nil history.freed) }

pub is_behind_taken : (history : RunHistory) (connection : ℕ) (reply : Option (List ℕ)) → IsBehind history (taken_by history connection reply)
is_behind_taken history connection None = as_it_was history
is_behind_taken history connection (Some reply) = record { stored = []; freed = []; stored_is = sym (append-nil history.stored); freed_is = sym (append-nil history.freed) }

pub is_behind : (history : RunHistory) (world : World) (event : Event) → IsBehind history (history_after history world event)
is_behind history world (Arrives connection piece) = as_it_was history
is_behind history world (Turns connection now) = record {
  stored = option_to_list (stored_by (one world connection now).world.table (one world connection now).keeps (one world connection now).holds);
  freed = freed_between world.table.seats (one world connection now).world.table.seats;
  stored_is = refl;
  freed_is = refl;
}
is_behind history world (HangsUp connection) = as_it_was history
is_behind history world (Connects connection) = as_it_was history
is_behind history world (Takes connection) = is_behind_taken history connection (reply_at world connection)

pub more_behind : (old new : RunHistory) → IsBehind old new → length old.stored ≤ length new.stored
more_behind old new is =
    let same : length new.stored ≡ length (old.stored ++ is.stored) = ap (λ (l : List Stored). length l) is.stored_is in
    let sum = length-append old.stored is.stored in
    omega (arith, same, sum)

taken_same : (history : RunHistory) (connection : ℕ) (reply : Option (List ℕ)) → (taken_by history connection reply).stored ≡ history.stored
taken_same history connection None = refl
taken_same history connection (Some reply) = refl

-- how many were stored, are settled, and were stored when a reply was taken last
pub record Settles (waits : Bool) (stored settled taken : ℕ) : Type 0 where
  pub all : waits ≡ false → settled ≡ stored
  pub within : settled ≤ stored
  pub taken_so : taken ≤ settled

module _ (old new : Serving) (event : Event) (history : RunHistory) (settled taken : ℕ) (is : Settles old.waits (length history.stored) settled taken) (happens : Happens old event new) where
  after : RunHistory
  after = history_after history old.world event

  more : length history.stored ≤ length (history_after history old.world event).stored
  more = more_behind history (history_after history old.world event) (is_behind history old.world event)

  none_waited : (connection : ℕ) → event ≡ Takes connection → old.waits ≡ false
  none_waited connection same = by_waits old.waits refl
    where
      by_waits : (b : Bool) → old.waits ≡ b → b ≡ false
      by_waits false e = refl
      by_waits true e = absurd (subst (λ (ev : Event). MayBeTaken true ev) same (subst (λ (b : Bool). MayBeTaken b event) e happens.taken))

  -- what was stored when it was taken is settled
  taken_now : (its : Event) → event ≡ its → taken_with its (length history.stored) taken ≤ settled
  taken_now (Arrives connection piece) same = is.taken_so
  taken_now (Turns connection now) same = is.taken_so
  taken_now (HangsUp connection) same = is.taken_so
  taken_now (Connects connection) same = is.taken_so
  taken_now (Takes connection) same = let all = is.all (none_waited connection same) in omega (arith, all)

  pub settles_on : (b : Bool) → new.waits ≡ b
      → Settles b (length (history_after history old.world event).stored) (cond b settled (length (history_after history old.world event).stored))
      (taken_with event (length history.stored) taken)
  settles_on true waits = record {
    all = λ none. absurd (true≢false none);
    within = let within = is.within in omega (arith, within, more);
    taken_so = taken_now event refl;
  }
  settles_on false none = record {
    all = λ _. refl;
    within = omega arith;
    taken_so = let now = taken_now event refl in let within = is.within in omega (arith, now, within, more);
  }

pub run_settles : (first serving : Serving) (history : RunHistory) (run : IsRun first serving history) → Settles serving.waits (length history.stored) (settled_by run) (stored_when_taken run)
run_settles first serving history Begins = record { all = λ none. refl; within = omega arith; taken_so = omega arith }
run_settles first serving history (Goes_on {old = old} {new = new} {history = earlier} event run happens) =
    settles_on old new event earlier (settled_by run) (stored_when_taken run) (run_settles first old earlier run) happens new.waits refl
run_settles first serving history (Fails_at {old = old} {new = new} {history = earlier} event run fails) =
    let was = run_settles first old earlier run in
    record { all = λ none. was.all (sym fails.waits ∙ none); within = was.within; taken_so = was.taken_so }
run_settles first serving history (Stays_down {old = old} {new = new} {history = earlier} connection run stays) =
    let was = run_settles first old earlier run in
    let all = was.all stays.none_waits in
    let same : length (taken_by earlier connection (reply_at old.world connection)).stored ≡ length earlier.stored =
    ap (λ (l : List Stored). length l) (taken_same earlier connection (reply_at old.world connection)) in
    record {
      all = λ none. all ∙ sym same;
      within = omega (arith, all, same);
      taken_so = omega (arith, all);
    }
run_settles first serving history (Flushed {old = old} {new = new} run flushes) =
    let was = run_settles first old history run in
    record {
      all = λ none. refl;
      within = omega arith;
      taken_so = let within = was.within in let taken = was.taken_so in omega (arith, within, taken);
    }
