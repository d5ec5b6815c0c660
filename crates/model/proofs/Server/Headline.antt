-- The headline, by induction over a run: what a crash may leave is the tree of a good prefix of
-- what was executed.
use Rattle.std.proofs.Common.{◌≡◌, ℕ, zero, suc, ◌<◌, ◌≤◌, ◌⊎◌, inl, inr, Bool, true, false, not, cond, ◌==◌, List, [], ◌∷◌, ◌++◌, length, take, get_or, slice_get, option_to_list, Option, None, Some, refl, sym, ap, ◌∙◌, subst, arith, append-nil, length-append, take_all}
use Rattle.std.proofs.lemmas.List.{take-append-le}
use Rattle.std.specs.List.{IsAmong, AllByRecursion}
use Rattle.std.proofs.lemmas.Bool.{false≢true, or_left, and_from, or_right}
use Rattle.model_tree.specs.Seats.Seats.{Seats}
use Rattle.model_tree.specs.Trees.Keyed.{at}
use Rattle.model_tree.specs.Trees.Tree.{Tree}
use Rattle.model.specs.Server.World.{World, ServerLimits, Entry, Turned, Turn, Idle, Ran, Answered, one, is_busy, reply_at}
use Rattle.model.specs.Server.Runs.{Event, Arrives, Turns, HangsUp, Connects, Takes, executed_of, before, IsDurable, is_durable, RunHistory, no_history, is_slot, keeping, numbers_of, named_so_far, names_by, names_after, naming_by, Stored, stored_by, naming_stored, replies_by, replies_of, turned_by, taken_by, history_after, Serving, Left, mounted, executed, executed_by, IsAfterEvent, MayBeLeft, TakesNone, MayBeTaken, Happens, Flushes, DeviceFails, StaysDown, history_failing, IsRun, Begins, Goes_on, Fails_at, Stays_down, Flushed, tree_after, IsChain, HasAllDurable, ArePermitted, IsGoodPrefix, EveryRun, effect_of}
use Rattle.model.proofs.Server.RunLaws.{LawfulEntry, EntryFits, event_fits}
use Rattle.model.proofs.Sessions.StoringTurns.{one_alone}

-- Lists of executed operations

tree_after-append : (start : Tree) (done : List Entry) (entry : Entry) → tree_after start (done ++ entry ∷ []) ≡ entry.after
tree_after-append start [] entry = refl
tree_after-append start (first ∷ done) entry = tree_after-append first.after done entry

IsChain-append : (start : Tree) (done : List Entry) (entry : Entry) → IsChain start done → before entry ≡ tree_after start done → IsChain start (done ++ entry ∷ [])
IsChain-append start [] entry chain e = (e, tt)
IsChain-append start (first ∷ done) entry chain e = (chain.0, IsChain-append first.after done entry chain.1 e)

pub slice_get-append : {A : Type 0} (xs ys : List A) (i : ℕ) → i < length xs → slice_get (xs ++ ys) i ≡ slice_get xs i
slice_get-append [] ys i h = absurd (omega arith)
slice_get-append (x ∷ xs) ys zero h = refl
slice_get-append (x ∷ xs) ys (suc i) h = slice_get-append xs ys i (omega arith)

-- a place that has something is one of the list's, or the last one of a list with one more
pub slice_get-within : {A : Type 0} (xs : List A) (i : ℕ) (x : A) → slice_get xs i ≡ Some x → i < length xs
slice_get-within [] i x e = let never : ⊥ = cc in absurd never
slice_get-within (y ∷ xs) zero x e = omega arith
slice_get-within (y ∷ xs) (suc i) x e = let later = slice_get-within xs i x e in omega arith

pub slice_get-last : {A : Type 0} (xs : List A) (last : A) (i : ℕ) (x : A) → slice_get (xs ++ last ∷ []) i ≡ Some x → (slice_get xs i ≡ Some x) ⊎ (x ≡ last)
slice_get-last [] last zero x e = let same : x ≡ last = cc in inr same
slice_get-last [] last (suc i) x e = let never : ⊥ = cc in absurd never
slice_get-last (y ∷ xs) last zero x e = inl e
slice_get-last (y ∷ xs) last (suc i) x e = slice_get-last xs last i x e

-- Each executed operation is lawful

pub AllLawful : List Entry → Type 0
AllLawful done = (i : ℕ) (entry : Entry) → slice_get done i ≡ Some entry → LawfulEntry entry

AllLawful-append : (done : List Entry) (entry : Entry) → AllLawful done → LawfulEntry entry → AllLawful (done ++ entry ∷ [])
unfolding AllLawful
AllLawful-append done entry all lawful i other e = by_place (slice_get-last done entry i other e)
  where
    by_place : (slice_get done i ≡ Some other) ⊎ (other ≡ entry) → LawfulEntry other
    by_place (inl e) = all i other e
    by_place (inr same) = subst LawfulEntry (sym same) lawful

-- a durable operation passes the test
durable_passes : (entry : Entry) → LawfulEntry entry → IsDurable entry → is_durable entry ≡ true
durable_passes entry lawful (inl change) =
    let law = lawful change.0 in
    or_left _ _ (and_from _ _ law.1 (and_from _ _ law.2 (ap not change.1)))
durable_passes entry lawful (inr commit) = or_right _ _ (and_from _ _ commit.0 commit.1)

-- What holds in a run

-- the tree is one of a prefix that has each durable operation below a place
pub record StandsFor (start : Tree) (done : List Entry) (settled : ℕ) (tree : Tree) : Type 0 where
  pub k : ℕ
  pub within : k ≤ length done
  pub holds : tree ≡ tree_after start (take k done)
  pub beyond : (i : ℕ) (entry : Entry) → i < settled → slice_get done i ≡ Some entry → is_durable entry ≡ true → i < k

pub AreBelow : ℕ → List ℕ → Type 0
AreBelow bound names = AllByRecursion (λ i. i < bound) names

-- and what each reply that a seat held names
pub AreReplied : ℕ → List (Stored × List ℕ) → Type 0
AreReplied bound replies = AllByRecursion (λ (reply : Stored × List ℕ). AreBelow bound reply.1) replies

-- what replies name was executed, and what was handed out is settled
pub record AreNamed (bound settled : ℕ) (history : RunHistory) : Type 0 where
  pub named : (connection : ℕ) → AreBelow bound (history.named connection)
  pub kept : (session : List ℕ) (slot : ℕ) → AreBelow bound (history.kept session slot)
  pub handed_out : AreBelow settled history.handed_out
  pub replies : AreReplied bound history.replies

-- what holds of the trees, and of what is known of `done`
pub record Core (start : Tree) (serving : Serving) (done : List Entry) (settled : ℕ) : Type 0 where
  pub within : settled ≤ length done
  pub whole : serving.is_down ≡ false → serving.waits ≡ false → settled ≡ length done
  pub tree : serving.is_down ≡ false → serving.world.tree ≡ tree_after start done
  pub chain : IsChain start done
  pub lawful : AllLawful done
  pub left : (left : Left) → IsAmong serving.left left → StandsFor start done settled left.tree

pub record Holds (start : Tree) (serving : Serving) (history : RunHistory) : Type 0 where
  pub settled : ℕ
  pub core : Core start serving history.done settled
  pub bound : ℕ
  pub inside : bound ≤ length history.done
  -- while nothing waits each reply that is there may be taken
  pub told : serving.waits ≡ false → bound ≤ settled
  pub names : AreNamed bound settled history

-- One more operation executed: nothing that held before is lost

pub StandsFor-append : (start : Tree) (done : List Entry) (settled : ℕ) (tree : Tree) (more : List Entry) → settled ≤ length done
    → StandsFor start done settled tree → StandsFor start (done ++ more) settled tree
StandsFor-append start done settled tree more within stands = record {
  k = stands.k;
  within = let inside = stands.within in omega (arith, length-append done more);
  holds = stands.holds ∙ ap (tree_after start) (sym (take-append-le stands.k done more stands.within));
  beyond = λ i entry less e durable. stands.beyond i entry less (sym (slice_get-append done more i (omega arith)) ∙ e) durable;
}

-- the tree of all of them
pub of_all : (start : Tree) (done : List Entry) (settled : ℕ) (tree : Tree) → settled ≤ length done → tree ≡ tree_after start done → StandsFor start done settled tree
of_all start done settled tree within same = record {
  k = length done;
  within = omega arith;
  holds = same ∙ ap (tree_after start) (sym (take_all (length done) done (omega arith)));
  beyond = λ i other less e durable. omega arith;
}

-- the tree after the last one is that of all of them
latest : (start : Tree) (done : List Entry) (entry : Entry) (settled : ℕ) (tree : Tree) → settled ≤ length (done ++ entry ∷ []) → tree ≡ entry.after
    → StandsFor start (done ++ entry ∷ []) settled tree
latest start done entry settled tree within same = record {
  k = length (done ++ entry ∷ []);
  within = omega arith;
  holds = same ∙ sym (tree_after-append start done entry) ∙ ap (tree_after start) (sym (take_all (length (done ++ entry ∷ [])) (done ++ entry ∷ []) (omega arith)));
  beyond = λ i other less e durable. omega arith;
}

behind_one : (start : Tree) (done : List Entry) (entry : Entry) (tree : Tree) (b : Bool) → is_durable entry ≡ b → (b ≡ true → tree ≡ entry.after)
    → StandsFor start done (length done) tree → StandsFor start (done ++ entry ∷ []) (length (done ++ entry ∷ [])) tree
behind_one start done entry tree true e durable stands = latest start done entry _ tree (omega arith) (durable refl)
behind_one start done entry tree false e durable stands = record {
  k = stands.k;
  within = let inside = stands.within in omega (arith, length-append done (entry ∷ []));
  holds = stands.holds ∙ ap (tree_after start) (sym (take-append-le stands.k done (entry ∷ []) stands.within));
  beyond = λ i other less at lasts. by_place i other lasts (slice_get-last done entry i other at);
}
  where
    by_place : (i : ℕ) (other : Entry) → is_durable other ≡ true → (slice_get done i ≡ Some other) ⊎ (other ≡ entry) → i < stands.k
    by_place i other lasts (inl at) = stands.beyond i other (slice_get-within done i other at) at lasts
    by_place i other lasts (inr same) = absurd (false≢true (sym e ∙ ap is_durable (sym same) ∙ lasts))

-- The parts of `done` after an event

abbrev pub Joined : List Entry → Option Entry → List Entry
Joined done executed = done ++ option_to_list executed

pub tree_behind : (start old new : Tree) (done : List Entry) (executed : Option Entry) → EntryFits old new executed → old ≡ tree_after start done
    → new ≡ tree_after start (Joined done executed)
tree_behind start old new done None fits at = fits ∙ at ∙ ap (tree_after start) (sym (append-nil done))
tree_behind start old new done (Some entry) fits at = fits.1 ∙ sym (tree_after-append start done entry)

chain_behind : (start old new : Tree) (done : List Entry) (executed : Option Entry) → EntryFits old new executed → old ≡ tree_after start done
    → IsChain start done → IsChain start (Joined done executed)
chain_behind start old new done None fits at chain = subst (IsChain start) (sym (append-nil done)) chain
chain_behind start old new done (Some entry) fits at chain = IsChain-append start done entry chain (fits.0 ∙ at)

lawful_behind : (old new : Tree) (done : List Entry) (executed : Option Entry) → EntryFits old new executed → AllLawful done → AllLawful (Joined done executed)
lawful_behind old new done None fits lawful = subst AllLawful (sym (append-nil done)) lawful
lawful_behind old new done (Some entry) fits lawful = AllLawful-append done entry lawful fits.2

-- the tree is the one after it
abbrev IsAfter : Option Entry → Tree → Type 0
IsAfter None tree = ⊥
IsAfter (Some entry) tree = tree ≡ entry.after

stands_behind : (start : Tree) (done : List Entry) (executed : Option Entry) (tree : Tree) (may : (IsAfter executed tree) ⊎ (StandsFor start done (length done) tree))
    → ((entry : Entry) → executed ≡ Some entry → is_durable entry ≡ true → tree ≡ entry.after)
    → StandsFor start (Joined done executed) (length (Joined done executed)) tree
stands_behind start done None tree (inl after) durable = absurd after
stands_behind start done None tree (inr stands) durable =
    subst (λ (all : List Entry). StandsFor start all (length all) tree) (sym (append-nil done)) stands
stands_behind start done (Some entry) tree (inl after) durable = latest start done entry _ tree (omega arith) after
stands_behind start done (Some entry) tree (inr stands) durable = behind_one start done entry tree (is_durable entry) refl (durable entry refl) stands

-- what may be left, if the last one need not be kept
stands_failing : (start : Tree) (done : List Entry) (settled : ℕ) (executed : Option Entry) (tree : Tree) → settled ≤ length done
    → (IsAfter executed tree) ⊎ (StandsFor start done settled tree) → StandsFor start (Joined done executed) settled tree
stands_failing start done settled None tree within (inl after) = absurd after
stands_failing start done settled None tree within (inr stands) = StandsFor-append start done settled tree [] within stands
stands_failing start done settled (Some entry) tree within (inl after) =
    latest start done entry settled tree (omega (arith, length-append done (entry ∷ []))) after
stands_failing start done settled (Some entry) tree within (inr stands) = StandsFor-append start done settled tree (entry ∷ []) within stands

-- what an event may leave, by what there was before it
after_by : (start old new : Tree) (done : List Entry) (settled : ℕ) (tree : Tree) (made : Option Entry) → settled ≤ length done → old ≡ tree_after start done
    → EntryFits old new made → tree ≡ new → (IsAfter made tree) ⊎ (StandsFor start done settled tree)
after_by start old new done settled tree None within at fits same = inr (of_all start done settled tree within (same ∙ fits ∙ at))
after_by start old new done settled tree (Some entry) within at fits same = inl (same ∙ fits.1)

left_by : (start : Tree) (serving : Serving) (event : Event) (done : List Entry) (settled : ℕ) (left : Left) → Core start serving done settled
    → MayBeLeft serving event left → (IsAfter (executed serving event) left.tree) ⊎ (StandsFor start done settled left.tree)
left_by start serving event done settled left core (inl among) = inr (core.left left among)
left_by start serving event done settled left core (inr after) = by_down serving.is_down refl after
  where
    by_down : (down : Bool) → serving.is_down ≡ down → IsAfterEvent serving.world event down left
        → (IsAfter (executed_by serving.world event serving.is_down) left.tree) ⊎ (StandsFor start done settled left.tree)
    by_down true is after = absurd after
    by_down false up after =
        subst (λ (b : Bool). (IsAfter (executed_by serving.world event b) left.tree) ⊎ (StandsFor start done settled left.tree)) (sym up)
        (after_by start serving.world.tree (effect_of serving.world event).tree done settled left.tree (executed_of serving.world event)
        core.within (core.tree up) (event_fits serving.world event) (ap (λ (l : Left). l.tree) after))

executed_up : (serving : Serving) (event : Event) → serving.is_down ≡ false → executed serving event ≡ executed_of serving.world event
executed_up serving event up = ap (executed_by serving.world event) up

-- An event

-- of a durable operation the tree after it is left, unless it waits
kept_by : (old new : Serving) (event : Event) (left : Left) (happens : Happens old event new) → new.waits ≡ false → IsAmong new.left left
    → (entry : Entry) → executed old event ≡ Some entry → is_durable entry ≡ true → left.tree ≡ entry.after
kept_by old new event left happens none among entry e lasts = by_mode happens.defers refl
  where
    by_mode : (b : Bool) → happens.defers ≡ b → left.tree ≡ entry.after
    by_mode false mode = happens.durable mode entry e lasts left among
    by_mode true mode = absurd (false≢true (sym none ∙ happens.deferred mode entry e lasts))

-- if nothing waits after it, nothing waited before it
none_waited : (old new : Serving) (event : Event) → Happens old event new → new.waits ≡ false → old.waits ≡ false
none_waited old new event happens none = by_old old.waits refl
  where
    by_old : (b : Bool) → old.waits ≡ b → old.waits ≡ false
    by_old false is = is
    by_old true is = absurd (false≢true (sym none ∙ happens.waits_on is))

core_goes : (start : Tree) (old new : Serving) (event : Event) (done : List Entry) (settled : ℕ) → Core start old done settled → Happens old event new → new.waits ≡ false
    → Core start new (Joined done (executed_of old.world event)) (length (Joined done (executed_of old.world event)))
core_goes start old new event done settled core happens none =
    let is = executed_up old event happens.up in
    let fits = event_fits old.world event in
    let at = core.tree happens.up in
    record {
      within = omega arith;
      whole = λ up waits. refl;
      tree = λ up. ap (λ (world : World). world.tree) happens.world ∙ tree_behind start old.world.tree _ done _ fits at;
      chain = chain_behind start old.world.tree _ done _ fits at core.chain;
      lawful = lawful_behind old.world.tree _ done _ fits core.lawful;
      left = λ left among.
          subst (λ (executed : Option Entry). StandsFor start (Joined done executed) (length (Joined done executed)) left.tree) is
          (stands_behind start done (executed old event) left.tree
          (settled_whole left.tree (core.whole happens.up (none_waited old new event happens none)) (left_by start old event done settled left core (happens.no_others left among)))
          (λ entry e lasts. kept_by old new event left happens none among entry e lasts));
    }
  where
    settled_whole : (tree : Tree) → settled ≡ length done → (IsAfter (executed old event) tree) ⊎ (StandsFor start done settled tree)
        → (IsAfter (executed old event) tree) ⊎ (StandsFor start done (length done) tree)
    settled_whole tree e (inl after) = inl after
    settled_whole tree e (inr stands) = inr (subst (λ (n : ℕ). StandsFor start done n tree) e stands)

-- if something waits after it, what was settled stays so
core_waits : (start : Tree) (old new : Serving) (event : Event) (done : List Entry) (settled : ℕ) → Core start old done settled → Happens old event new → new.waits ≡ true
    → Core start new (Joined done (executed_of old.world event)) settled
core_waits start old new event done settled core happens waits =
    let is = executed_up old event happens.up in
    let fits = event_fits old.world event in
    let at = core.tree happens.up in
    record {
      within = let inside = core.within in omega (arith, length-append done (option_to_list (executed_of old.world event)));
      whole = λ up none. absurd (false≢true (sym none ∙ waits));
      tree = λ up. ap (λ (world : World). world.tree) happens.world ∙ tree_behind start old.world.tree _ done _ fits at;
      chain = chain_behind start old.world.tree _ done _ fits at core.chain;
      lawful = lawful_behind old.world.tree _ done _ fits core.lawful;
      left = λ left among.
          subst (λ (executed : Option Entry). StandsFor start (Joined done executed) settled left.tree) is
          (stands_failing start done settled (executed old event) left.tree core.within (left_by start old event done settled left core (happens.no_others left among)));
    }

core_flushed : (start : Tree) (old new : Serving) (done : List Entry) (settled : ℕ) → Core start old done settled → Flushes old new
    → Core start new done (length done)
core_flushed start old new done settled core flushes =
    let at = core.tree flushes.up in
    record {
      within = omega arith;
      whole = λ up none. refl;
      tree = λ up. ap (λ (world : World). world.tree) flushes.world ∙ at;
      chain = core.chain;
      lawful = core.lawful;
      left = λ left among. of_all start done (length done) left.tree (omega arith) (ap (λ (l : Left). l.tree) (flushes.newest left among) ∙ at);
    }

core_fails : (start : Tree) (old new : Serving) (event : Event) (done : List Entry) (settled : ℕ) → Core start old done settled → DeviceFails old event new
    → Core start new (Joined done (executed_of old.world event)) settled
core_fails start old new event done settled core fails =
    let is = executed_up old event fails.up in
    let fits = event_fits old.world event in
    let at = core.tree fails.up in
    record {
      within = let inside = core.within in omega (arith, length-append done (option_to_list (executed_of old.world event)));
      whole = λ up none. absurd (false≢true (sym up ∙ fails.down));
      tree = λ up. absurd (false≢true (sym up ∙ fails.down));
      chain = chain_behind start old.world.tree _ done _ fits at core.chain;
      lawful = lawful_behind old.world.tree _ done _ fits core.lawful;
      left = λ left among.
          subst (λ (executed : Option Entry). StandsFor start (Joined done executed) settled left.tree) is
          (stands_failing start done settled (executed old event) left.tree core.within (left_by start old event done settled left core (fails.no_others left among)));
    }

core_stays : (start : Tree) (old new : Serving) (connection : ℕ) (done : List Entry) (settled : ℕ) → Core start old done settled → StaysDown old connection new
    → Core start new done settled
core_stays start old new connection done settled core stays = record {
  within = core.within;
  whole = λ up none. absurd (false≢true (sym up ∙ stays.still_down));
  tree = λ up. absurd (false≢true (sym up ∙ stays.still_down));
  chain = core.chain;
  lawful = core.lawful;
  left = λ left among. core.left left (stays.no_others left among);
}

-- What replies name

pub AreBelow-more : (less most : ℕ) (names : List ℕ) → less ≤ most → AreBelow less names → AreBelow most names
unfolding AreBelow
AreBelow-more less most [] h below = tt
AreBelow-more less most (i ∷ names) h below = (let first : i < less = below.0 in omega arith, AreBelow-more less most names h below.1)

AreBelow-append : (bound : ℕ) (xs ys : List ℕ) → AreBelow bound xs → AreBelow bound ys → AreBelow bound (xs ++ ys)
unfolding AreBelow
AreBelow-append bound [] ys first second = second
AreBelow-append bound (i ∷ xs) ys first second = (first.0, AreBelow-append bound xs ys first.1 second)

AreBelow-place : (bound : ℕ) (names : List ℕ) (place i : ℕ) → AreBelow bound names → place < length names → i ≡ get_or names place i → i < bound
unfolding AreBelow
AreBelow-place bound [] place i below less e = absurd (omega arith)
AreBelow-place bound (first ∷ names) zero i below less e = let head : first < bound = below.0 in omega arith
AreBelow-place bound (first ∷ names) (suc place) i below less e = AreBelow-place bound names place i below.1 (omega arith) e

pub AreBelow-at : (bound : ℕ) (names : List ℕ) (i : ℕ) → AreBelow bound names → IsAmong names i → i < bound
AreBelow-at bound names i below among = AreBelow-place bound names among.0 i below among.1.0 among.1.1

AreBelow-either : (bound : ℕ) (b : Bool) (xs ys : List ℕ) → AreBelow bound xs → AreBelow bound ys → AreBelow bound (cond b xs ys)
AreBelow-either bound true xs ys first second = first
AreBelow-either bound false xs ys first second = second

AreBelow-none : (bound : ℕ) → AreBelow bound []
unfolding AreBelow
AreBelow-none bound = tt

AreBelow-one : (bound i : ℕ) → i < bound → AreBelow bound (i ∷ [])
unfolding AreBelow
AreBelow-one bound i less = (less, tt)

pub AreReplied-more : (less most : ℕ) (replies : List (Stored × List ℕ)) → less ≤ most → AreReplied less replies → AreReplied most replies
unfolding AreReplied
AreReplied-more less most [] h all = tt
AreReplied-more less most (reply ∷ replies) h all = (AreBelow-more less most reply.1 h all.0, AreReplied-more less most replies h all.1)

AreReplied-append : (bound : ℕ) (xs ys : List (Stored × List ℕ)) → AreReplied bound xs → AreReplied bound ys → AreReplied bound (xs ++ ys)
unfolding AreReplied
AreReplied-append bound [] ys first second = second
AreReplied-append bound (reply ∷ xs) ys first second = (first.0, AreReplied-append bound xs ys first.1 second)

pub AreReplied-place : (bound : ℕ) (replies : List (Stored × List ℕ)) (place : ℕ) (reply : Stored × List ℕ) → AreReplied bound replies → place < length replies
    → reply ≡ get_or replies place reply → AreBelow bound reply.1
unfolding AreReplied
AreReplied-place bound [] place reply all less e = absurd (omega arith)
AreReplied-place bound (first ∷ replies) zero reply all less e = subst (λ (r : Stored × List ℕ). AreBelow bound r.1) (sym e) all.0
AreReplied-place bound (first ∷ replies) (suc place) reply all less e = AreReplied-place bound replies place reply all.1 (omega arith) e

pub AreReplied-none : (bound : ℕ) → AreReplied bound []
unfolding AreReplied
AreReplied-none bound = tt

AreReplied-named : (bound : ℕ) (stored : Option Stored) (names : List ℕ) → AreBelow bound names → AreReplied bound (naming_stored stored names)
unfolding AreReplied
AreReplied-named bound None names below = tt
AreReplied-named bound (Some stored) names below = (below, tt)

pub more_done : (done : List Entry) (executed : Option Entry) → length done ≤ length (Joined done executed)
more_done done executed = omega (arith, length-append done (option_to_list executed))

numbers_below : (history : RunHistory) (executed : Option Entry) → AreBelow (length (Joined history.done executed)) (numbers_of history executed)
numbers_below history None = AreBelow-none _
numbers_below history (Some entry) = AreBelow-one _ (length history.done) (omega (arith, length-append history.done (entry ∷ [])))

AreNamed-more : (less most low high : ℕ) (history : RunHistory) → less ≤ most → low ≤ high → AreNamed less low history → AreNamed most high history
AreNamed-more less most low high history h also names = record {
  named = λ connection. AreBelow-more less most (history.named connection) h (names.named connection);
  kept = λ session slot. AreBelow-more less most (history.kept session slot) h (names.kept session slot);
  handed_out = AreBelow-more low high history.handed_out also names.handed_out;
  replies = AreReplied-more less most history.replies h names.replies;
}

names_below : (history : RunHistory) (world : World) (connection : ℕ) (turned : Turned) (replays : Option (List ℕ × ℕ)) (bound settled : ℕ)
    → AreNamed bound settled history → AreBelow bound (numbers_of history turned.executed) → AreBelow bound (names_by history world connection turned replays)
names_below history world connection turned (Some slot) bound settled names numbers = names.kept slot.0 slot.1
names_below history world connection turned None bound settled names numbers =
    AreBelow-append bound (named_so_far history world connection) (numbers_of history turned.executed)
    (AreBelow-either bound (is_busy (at connection world.connections)) (history.named connection) [] (names.named connection) (AreBelow-none bound)) numbers

naming_below : (bound : ℕ) (turn : Turn) (named : ℕ → List ℕ) (connection : ℕ) (names : List ℕ) → ((other : ℕ) → AreBelow bound (named other)) → AreBelow bound names
    → (other : ℕ) → AreBelow bound (naming_by turn named connection names other)
naming_below bound Idle named connection names all below other = all other
naming_below bound Ran named connection names all below other = AreBelow-either bound (other == connection) names (named other) below (all other)
naming_below bound Answered named connection names all below other = AreBelow-either bound (other == connection) names (named other) below (all other)

keeping_below : (bound : ℕ) (kept : List ℕ → ℕ → List ℕ) (keeps : Option (List ℕ × ℕ)) (names : List ℕ) → ((session : List ℕ) (slot : ℕ) → AreBelow bound (kept session slot)) → AreBelow bound names
    → (session : List ℕ) (slot : ℕ) → AreBelow bound (keeping kept keeps names session slot)
keeping_below bound kept None names all below session slot = all session slot
keeping_below bound kept (Some at) names all below session slot =
    AreBelow-either bound (is_slot at session slot) names (kept session slot) below (all session slot)

turned_names : (history : RunHistory) (world : World) (connection : ℕ) (turned : Turned) (settled : ℕ) → AreNamed (length history.done) settled history
    → AreNamed (length (Joined history.done turned.executed)) settled (turned_by history world connection turned)
turned_names history world connection turned settled names =
    let bound = length (Joined history.done turned.executed) in
    let all = AreNamed-more (length history.done) bound settled settled history (more_done history.done turned.executed) (omega arith) names in
    let these = names_below history world connection turned turned.replays bound settled all (numbers_below history turned.executed) in
    record {
      named = naming_below bound turned.turn history.named connection _ all.named these;
      kept = keeping_below bound history.kept turned.keeps _ all.kept these;
      handed_out = names.handed_out;
      replies = AreReplied-append bound history.replies (replies_by history world connection turned) all.replies
          (AreReplied-named bound (stored_by turned.world.table turned.keeps turned.holds) _ these);
    }

-- the reply that a turn lets a seat hold names nothing that the turn executes
storing_below : (history : RunHistory) (world : World) (connection now : ℕ) (bound settled : ℕ) → AreNamed bound settled history
    → AreReplied bound (replies_by history world connection (one world connection now))
storing_below history world connection now bound settled names = elim (one_alone world connection now) [
  | inl none ↦
      AreReplied-named bound (stored_by turned.world.table turned.keeps turned.holds) (names_after history world connection turned)
      (names_below history world connection turned turned.replays bound settled names
      (subst (λ (executed : Option Entry). AreBelow bound (numbers_of history executed)) (sym none) (AreBelow-none bound)))
  | inr none ↦
      subst (λ (stored : Option Stored). AreReplied bound (naming_stored stored (names_after history world connection turned))) (sym none) (AreReplied-none bound)
]
  where
    turned : Turned
    turned = one world connection now

replied_below : (history : RunHistory) (world : World) (event : Event) (bound settled : ℕ) → AreNamed bound settled history → AreReplied bound (replies_of history world event)
replied_below history world (Arrives connection piece) bound settled names = AreReplied-none bound
replied_below history world (Turns connection now) bound settled names = storing_below history world connection now bound settled names
replied_below history world (HangsUp connection) bound settled names = AreReplied-none bound
replied_below history world (Connects connection) bound settled names = AreReplied-none bound
replied_below history world (Takes connection) bound settled names = AreReplied-none bound

taken_names : (history : RunHistory) (connection : ℕ) (reply : Option (List ℕ)) (bound settled : ℕ) → bound ≤ settled → AreNamed bound settled history
    → AreNamed bound settled (taken_by history connection reply)
taken_names history connection None bound settled told names = names
taken_names history connection (Some reply) bound settled told names = record {
  named = names.named;
  kept = names.kept;
  handed_out = AreBelow-append settled history.handed_out (history.named connection) names.handed_out
      (AreBelow-more bound settled (history.named connection) told (names.named connection));
  replies = names.replies;
}

pub taken_done : (history : RunHistory) (connection : ℕ) (reply : Option (List ℕ)) → (taken_by history connection reply).done ≡ history.done
taken_done history connection None = refl
taken_done history connection (Some reply) = refl

pub done_behind : (history : RunHistory) (world : World) (event : Event) → Joined history.done (executed_of world event) ≡ (history_after history world event).done
done_behind history world (Arrives connection piece) = append-nil history.done
done_behind history world (Turns connection now) = refl
done_behind history world (HangsUp connection) = append-nil history.done
done_behind history world (Connects connection) = append-nil history.done
done_behind history world (Takes connection) = append-nil history.done ∙ sym (taken_done history connection (reply_at world connection))

none_more : (history : RunHistory) (other : RunHistory) (settled : ℕ) → AreNamed (length history.done) settled other → AreNamed (length (history.done ++ [])) settled other
none_more history other settled names = subst (λ (done : List Entry). AreNamed (length done) settled other) (sym (append-nil history.done)) names

names_behind : (history : RunHistory) (world : World) (event : Event) (settled : ℕ) → ((connection : ℕ) → event ≡ Takes connection → length history.done ≤ settled)
    → AreNamed (length history.done) settled history
    → AreNamed (length (Joined history.done (executed_of world event))) settled (history_after history world event)
names_behind history world (Arrives connection piece) settled told names = none_more history history settled names
names_behind history world (Turns connection now) settled told names = turned_names history world connection (one world connection now) settled names
names_behind history world (HangsUp connection) settled told names = none_more history history settled names
names_behind history world (Connects connection) settled told names = none_more history history settled names
names_behind history world (Takes connection) settled told names =
    none_more history (taken_by history connection (reply_at world connection)) settled
    (taken_names history connection (reply_at world connection) (length history.done) settled (told connection refl) names)

-- The induction

pub only_one : {A : Type 0} (one x : A) → IsAmong (one ∷ []) x → x ≡ one
only_one {A} one x among = by_place among.0 among.1.0 among.1.1
  where
    by_place : (place : ℕ) → place < length (one ∷ []) → x ≡ get_or (one ∷ []) place x → x ≡ one
    by_place zero less e = e
    by_place (suc place) less e = absurd (omega arith)

AllLawful-none : AllLawful []
unfolding AllLawful
AllLawful-none i entry e = let never : ⊥ = cc in absurd never

pub holds_at_start : (limits : ServerLimits) (run : ℕ) (start : Tree) (seats : Seats) → Holds start (mounted limits run start seats) no_history
holds_at_start limits run start seats = record {
  settled = 0;
  core = record {
    within = omega arith;
    whole = λ up none. refl;
    tree = λ up. refl;
    chain = tt;
    lawful = AllLawful-none;
    left = stands;
  };
  bound = 0;
  inside = omega arith;
  told = λ none. omega arith;
  names = record { named = λ connection. AreBelow-none 0; kept = λ session slot. AreBelow-none 0; handed_out = AreBelow-none 0; replies = AreReplied-none 0 };
}
  where
    stands : (left : Left) → IsAmong (mounted limits run start seats).left left → StandsFor start [] 0 left.tree
    stands left among = record {
      k = 0;
      within = omega arith;
      holds = ap (λ (l : Left). l.tree) (only_one (record { tree = start; seats = seats }) left among);
      beyond = λ i entry less e durable. absurd (omega arith);
    }

-- the replies with the one that an event stores
pub replied : (history : RunHistory) (world : World) (event : Event) (bound settled : ℕ) → AreNamed bound settled history
    → AreReplied bound (history.replies ++ replies_of history world event)
replied history world event bound settled names =
    AreReplied-append bound history.replies (replies_of history world event) names.replies (replied_below history world event bound settled names)

-- a reply is taken only while nothing waits
taken_none : (waits : Bool) (event : Event) (connection : ℕ) → MayBeTaken waits event → event ≡ Takes connection → waits ≡ false
taken_none false event connection may is = refl
taken_none true event connection may is = let none : TakesNone (Takes connection) = subst TakesNone is may in absurd none

-- Of a run

module _ (start : Tree) (old new : Serving) (event : Event) (history : RunHistory) where
  abbrev all_behind : List Entry
  all_behind = Joined history.done (executed_of old.world event)

  pub goes_by : Holds start old history → Happens old event new → (b : Bool) → new.waits ≡ b → Holds start new (history_after history old.world event)
  goes_by held happens b waits = by_waits b waits
    where
      is : all_behind ≡ (history_after history old.world event).done
      is = done_behind history old.world event

      -- what was settled before it
      told : (connection : ℕ) → event ≡ Takes connection → length history.done ≤ held.settled
      told connection taken =
          let none = taken_none old.waits event connection happens.taken taken in
          let whole = held.core.whole happens.up none in
          omega (arith, whole)

      names : AreNamed (length all_behind) held.settled (history_after history old.world event)
      names = names_behind history old.world event held.settled told
          (AreNamed-more held.bound (length history.done) held.settled held.settled history held.inside (omega arith) held.names)

      more : held.settled ≤ length all_behind
      more = let inside = held.core.within in omega (arith, inside, more_done history.done (executed_of old.world event))

      inside : length all_behind ≤ length (history_after history old.world event).done
      inside = let same = ap length is in omega (arith, same)

      by_waits : (b : Bool) → new.waits ≡ b → Holds start new (history_after history old.world event)
      by_waits false none = record {
        settled = length all_behind;
        core = subst (λ (done : List Entry). Core start new done (length all_behind)) is (core_goes start old new event history.done held.settled held.core happens none);
        bound = length all_behind;
        inside = inside;
        told = λ waits. omega arith;
        names = AreNamed-more (length all_behind) (length all_behind) held.settled (length all_behind) (history_after history old.world event) (omega arith) more names;
      }
      by_waits true waits = record {
        settled = held.settled;
        core = subst (λ (done : List Entry). Core start new done held.settled) is (core_waits start old new event history.done held.settled held.core happens waits);
        bound = length all_behind;
        inside = inside;
        told = λ none. absurd (false≢true (sym none ∙ waits));
        names = names;
      }

  pub settled_on : (held : Holds start old history) (happens : Happens old event new) (waits : new.waits ≡ true) → (goes_by held happens true waits).settled ≡ held.settled
  unfolding goes_by
  settled_on held happens waits = refl

  pub goes : Holds start old history → Happens old event new → Holds start new (history_after history old.world event)
  goes held happens = goes_by held happens new.waits refl

  pub fails_at : Holds start old history → DeviceFails old event new → Holds start new (history_failing history old.world event)
  fails_at held fails = record {
    settled = held.settled;
    core = core_fails start old new event history.done held.settled held.core fails;
    bound = held.bound;
    inside = let inside = held.inside in omega (arith, inside, more_done history.done (executed_of old.world event));
    told = λ none. held.told (sym fails.waits ∙ none);
    names = record {
      named = held.names.named;
      kept = held.names.kept;
      handed_out = held.names.handed_out;
      replies = replied history old.world event held.bound held.settled held.names;
    };
  }

  pub settled_failing : (held : Holds start old history) (fails : DeviceFails old event new) → (fails_at held fails).settled ≡ held.settled
  unfolding fails_at
  settled_failing held fails = refl

module _ (start : Tree) (old new : Serving) (connection : ℕ) (history : RunHistory) where
  pub stays_down : Holds start old history → StaysDown old connection new → Holds start new (history_after history old.world (Takes connection))
  stays_down held stays =
      let is = taken_done history connection (reply_at old.world connection) in
      record {
        settled = held.settled;
        core = subst (λ (done : List Entry). Core start new done held.settled) (sym is) (core_stays start old new connection history.done held.settled held.core stays);
        bound = held.bound;
        inside = subst (λ (done : List Entry). held.bound ≤ length done) (sym is) held.inside;
        told = λ none. held.told stays.none_waits;
        names = taken_names history connection (reply_at old.world connection) held.bound held.settled (held.told stays.none_waits) held.names;
      }

module _ (start : Tree) (old new : Serving) (history : RunHistory) where
  pub flushed : Holds start old history → Flushes old new → Holds start new history
  flushed held flushes = record {
    settled = length history.done;
    core = core_flushed start old new history.done held.settled held.core flushes;
    bound = held.bound;
    inside = held.inside;
    told = λ none. held.inside;
    names = AreNamed-more held.bound held.bound held.settled (length history.done) history (omega arith) held.core.within held.names;
  }

pub holds : (start : Tree) (first serving : Serving) (history : RunHistory) → Holds start first no_history → IsRun first serving history → Holds start serving history
holds start first serving history begins Begins = begins
holds start first serving history begins (Goes_on {old = old} {new = new} {history = earlier} event run happens) =
    goes start old new event earlier (holds start first old earlier begins run) happens
holds start first serving history begins (Fails_at {old = old} {new = new} {history = earlier} event run fails) =
    fails_at start old new event earlier (holds start first old earlier begins run) fails
holds start first serving history begins (Stays_down {old = old} {new = new} {history = earlier} connection run stays) =
    stays_down start old new connection earlier (holds start first old earlier begins run) stays
holds start first serving history begins (Flushed {old = old} {new = new} run flushes) =
    flushed start old new history (holds start first old history begins run) flushes

-- A crash

pub still_good : (start : Tree) (done : List Entry) (names : List ℕ) (settled : ℕ) (tree : Tree) → AllLawful done → AreBelow settled names
    → (stands : StandsFor start done settled tree) → HasAllDurable done names stands.k
unfolding AllLawful
still_good start done names settled tree lawful below stands i entry among e lasts =
    stands.beyond i entry (AreBelow-at settled names i below among) e (durable_passes entry (lawful i entry e) lasts)

pub all_permitted : (done : List Entry) (k : ℕ) → AllLawful done → ArePermitted done k
unfolding AllLawful
all_permitted done k lawful i entry less e differs = (lawful i entry e differs).0

prefix_of : (start : Tree) (done : List Entry) (handed_out : List ℕ) (settled : ℕ) (tree : Tree) → IsChain start done → AllLawful done
    → AreBelow settled handed_out → StandsFor start done settled tree → IsGoodPrefix start done handed_out tree
prefix_of start done handed_out settled tree chain lawful below stands = record {
  k = stands.k;
  within = stands.within;
  holds = stands.holds;
  good = still_good start done handed_out settled tree lawful below stands;
  permitted = all_permitted done stands.k lawful;
  chain = chain;
}

module _ (start : Tree) (serving : Serving) (history : RunHistory) (held : Holds start serving history) (event : Event) where
  abbrev pub Ended : Bool → List Entry
  Ended down = Joined history.done (executed_by serving.world event down)

  pub chain_ended : (down : Bool) → serving.is_down ≡ down → IsChain start (Ended down)
  chain_ended true e = subst (IsChain start) (sym (append-nil history.done)) held.core.chain
  chain_ended false e =
      chain_behind start serving.world.tree _ history.done (executed_of serving.world event) (event_fits serving.world event) (held.core.tree e) held.core.chain

  pub lawful_ended : (down : Bool) → AllLawful (Ended down)
  lawful_ended true = subst AllLawful (sym (append-nil history.done)) held.core.lawful
  lawful_ended false = lawful_behind serving.world.tree _ history.done (executed_of serving.world event) (event_fits serving.world event) held.core.lawful

  stopped_by : (left : Left) → (down : Bool) → serving.is_down ≡ down → MayBeLeft serving event left → IsGoodPrefix start (Ended down) history.handed_out left.tree
  stopped_by left down e may =
      let is : executed serving event ≡ executed_by serving.world event down = ap (executed_by serving.world event) e in
      prefix_of start (Ended down) history.handed_out held.settled left.tree (chain_ended down e) (lawful_ended down) held.names.handed_out
      (stands_failing start history.done held.settled (executed_by serving.world event down) left.tree held.core.within
      (subst (λ (executed : Option Entry). (IsAfter executed left.tree) ⊎ (StandsFor start history.done held.settled left.tree)) is
      (left_by start serving event history.done held.settled left held.core may)))

pub every_run : EveryRun
every_run limits run start seats serving history is_run event tree may =
    stopped_by start serving history
    (holds start (mounted limits run start seats) serving history (holds_at_start limits run start seats) is_run) event
    (record { tree = tree; seats = may.0 }) serving.is_down refl may.1
