-- A crashed run of a server, as one of the model's, with seats that its crash left.
use Rattle.std.specs.List.{IsAmong}
use Rattle.std.proofs.Common.{true, is_some, ◌≡◌, ◌⊎◌, ℕ, ◌+◌, ◌<◌, Bool, List, [], ◌∷◌, ◌++◌, append-nil, None, Some, refl, sym, ap, ap₂, ◌∙◌, subst, inl, inr, arith}
use Rattle.std.proofs.Math.Logic.{∥∥₁_elim, ∥∥₁_map, ∥∥₁_prop}
use Rattle.std.proofs.Props.{props}
use Rattle.disk.specs.Moments.{seen}
use Rattle.layout.specs.Stands.{Kept}
use Rattle.model.specs.Server.Runs as runs
use Rattle.model.specs.Server.Runs.{Serving, Stored, MayHoldSeats, IsRun, effect_of, mounted, Left, left_after, IsAfterEvent}
use Rattle.model.specs.Sessions.SeatRuns.{Stop, AreSeats, HoldsFrom, IsFreed}
use Rattle.model_tree.specs.Seats.Seats.{Seats, SeatsApart, has_seat, held_at, held_in, run_of}
use Rattle.model.specs.Server.ServedOnce.{numbers_in}
use Rattle.model.specs.Sessions.SessionRuns.{CountsFrom}
use Rattle.model.specs.Server.World.{ServerLimits}
use Rattle.model.proofs.Sessions.SeatLaws.{seat_holds, holds_there}
use Rattle.model.proofs.Sessions.SeatLives.{counted, its_own, every_seat_stays, seat_stays_up, every_run_can_follow}
use Rattle.model.proofs.Sessions.SeatReplies.{every_reply_is_stored}
use Rattle.model.proofs.Sessions.SeatRunLaws.{every_reply_is_held, every_taken_is_settled, every_dead_session}
use Rattle.model.proofs.Sessions.SeatsFreed.{every_freeing_is_asked}
use Rattle.model.proofs.Sessions.SeatsSit.{every_session_sits}
use Rattle.model.proofs.Sessions.SlotLaw.{others_between}
use Rattle.volume.proofs.RemountLaws.{seen_left}
use Rattle.server.specs.Headline.{Stopped, Follows, executed_in}
use Rattle.server.specs.LifeLaws.{history_in, stored_in, freed_in, settled_by, stored_when_taken, IsSettled, EveryTaken, LeavesSeats, OnImage, OnMount, WasUp, EveryHeld, EveryStays, EveryFollows, EveryDead, EverySits, EveryStored, EveryAsked, EveryEnded, AreRuns, last_of, numbers_over, EveryOnce, WasFreed, table_in, IsGivenAgain, EveryRetried}
use Rattle.server.specs.Seen.{left_of}
use Rattle.server.specs.Views.{server_limits}
use Rattle.server.proofs.SeatsEnd.{frees_ended}
use Rattle.server.proofs.Stops.{HasCounts, IsJoined, joined, mounted_leaves, every_stop, every_run_again, follows_run}

-- One of the model's

abbrev limits_of : Stopped → ServerLimits
limits_of stopped = server_limits stopped.first.volume.version stopped.first.volume.limits stopped.settings

calls_joined : (stopped : Stopped) → IsJoined stopped.first stopped.calls stopped.old stopped.served
calls_joined stopped =
    joined stopped.first stopped.old stopped.calls (mounted_leaves stopped.settings stopped.run stopped.start stopped.first stopped.mounted) stopped.served

its_counted : (stopped : Stopped)
    → (run : IsRun (mounted (limits_of stopped) stopped.run stopped.start.tree stopped.start.seats) stopped.old.serving (history_in stopped))
    × HasCounts run (settled_by stopped.served) (stored_when_taken stopped.served)
its_counted stopped =
    subst (λ (s : Serving). (run : IsRun s stopped.old.serving (history_in stopped)) × HasCounts run (settled_by stopped.served) (stored_when_taken stopped.served))
    stopped.mounted.serves ((calls_joined stopped).run, (calls_joined stopped).counts)

its_run : (stopped : Stopped) → IsRun (mounted (limits_of stopped) stopped.run stopped.start.tree stopped.start.seats) stopped.old.serving (history_in stopped)
its_run stopped = (its_counted stopped).0

abbrev MayHold : Stopped → Seats → Type 0
MayHold stopped left = MayHoldSeats stopped.old.serving stopped.event left

abbrev stop_of : (stopped : Stopped) (left : Seats) → MayHold stopped left → Stop (limits_of stopped)
stop_of stopped left leaves = record {
  run = stopped.run;
  start = stopped.start.tree;
  seats = stopped.start.seats;
  serving = stopped.old.serving;
  history = history_in stopped;
  event = stopped.event;
  left = left;
  counted = stopped.mounted.few;
  begins = stopped.mounted.seats;
  is_run = its_run stopped;
  leaves = leaves;
}

-- a reply that is settled is so in the model
its_settled : (stopped : Stopped) (i : ℕ) → IsSettled stopped i → stopped.old.serving.waits ≡ true → i < runs.settled_by (its_run stopped)
unfolding its_run
its_settled stopped i settled waits = subst (λ (n : ℕ). i < n) (its_counted stopped).1.settled_is (settled waits)

-- The seats that its crash left are such

pub may_be_left : (stopped : Stopped) (left : Seats) → LeavesSeats stopped left → ∥ MayHold stopped left ∥₁
may_be_left stopped _ (OnImage {image = image} {nodes = nodes} {run = run} {kept = kept} left stands) =
    let is = every_stop stopped image left in
    ∣ subst (λ (k : Kept). MayHold stopped k.seats) (sym (is.no_other nodes run kept stands).0) (is.kept.tree, is.good.left) ∣₁
may_be_left stopped _ (OnMount {device = device} {from = from} {again = again} remounts found) =
    ∥∥₁_map (every_run_again stopped device from again remounts found).good (λ good. (_, good.left))

may_follow : (old new : Stopped) → Follows old new → ∥ MayHold old new.start.seats ∥₁
may_follow old new follows = ∥∥₁_map (follows_run old new follows).0 (λ good. (_, good.left))

-- and there always are some
held_now : (stopped : Stopped) → (left : Left) × IsAmong stopped.old.serving.left left
held_now stopped =
    let now = stopped.old.volume.history.now in
    let one = (calls_joined stopped).leaves (seen now) (seen_left now) in
    (left_of one.0, one.1)

some_left : (stopped : Stopped) → (left : Seats) × MayHold stopped left
some_left stopped = let held = held_now stopped in (held.0.seats, (held.0.tree, inl held.1))

now_left : (stopped : Stopped) → WasUp stopped → MayHold stopped (effect_of stopped.old.serving.world stopped.event).table.seats
now_left stopped up =
    let after = left_after (effect_of stopped.old.serving.world stopped.event) in
    (after.tree, inr (subst (λ (b : Bool). IsAfterEvent stopped.old.serving.world stopped.event b after) (sym up) refl))

-- Of one run

pub every_taken : EveryTaken
unfolding its_run
every_taken stopped =
    let left = some_left stopped in
    let below = every_taken_is_settled (limits_of stopped) (stop_of stopped left.0 left.1) in
    let counts = (its_counted stopped).1 in
    let settled = counts.settled_is in
    let taken = counts.taken_is in
    omega (arith, below, settled, taken)

pub every_stays : EveryStays
every_stays stopped left leaves id seat there =
    ∥∥₁_map (may_be_left stopped left leaves) (λ may. every_seat_stays (limits_of stopped) (stop_of stopped left may) id seat there)

AreApart-prop : (seats : Seats) → IsProp (SeatsApart seats)
AreApart-prop [] = Prim.hlevel props
AreApart-prop (None ∷ seats) = AreApart-prop seats
AreApart-prop (Some seat ∷ seats) = Prim.hlevel (props, AreApart-prop seats)

AreSeats-prop : (run : ℕ) (seats : Seats) → IsProp (AreSeats run seats)
AreSeats-prop run seats = Prim.hlevel (props, AreApart-prop seats)

pub every_follows : EveryFollows
every_follows stopped left leaves next later = ∥∥₁_elim (may_be_left stopped left leaves) (AreSeats-prop next left)
    (λ may. every_run_can_follow (limits_of stopped) (stop_of stopped left may) next later)

pub every_dead : EveryDead
every_dead stopped up = every_dead_session (limits_of stopped) (stop_of stopped _ (now_left stopped up)) up

pub every_sits : EverySits
every_sits stopped up = every_session_sits (limits_of stopped) (stop_of stopped _ (now_left stopped up)) up

pub every_stored : EveryStored
every_stored stopped up = every_reply_is_stored (limits_of stopped) (stop_of stopped _ (now_left stopped up)) up

pub every_asked : EveryAsked
every_asked stopped up = every_freeing_is_asked (limits_of stopped) (stop_of stopped _ (now_left stopped up)) up

pub every_ended : EveryEnded
every_ended stopped up = frees_ended (limits_of stopped) (stop_of stopped _ (now_left stopped up)) up

-- Numbers, over runs: those of one run only

module _ (id : List ℕ) (slot : ℕ) where
  its_numbers : Stopped → List ℕ
  its_numbers stopped = numbers_in id slot (executed_in stopped)

  own : (stopped : Stopped) → (numbers_in id slot (executed_in stopped) ≡ []) ⊎ (run_of id ≡ stopped.run)
  own stopped = let left = some_left stopped in its_own (limits_of stopped) (stop_of stopped left.0 left.1) id slot

  counts : (stopped : Stopped) → CountsFrom 0 (numbers_in id slot (executed_in stopped))
  counts stopped = let left = some_left stopped in counted (limits_of stopped) (stop_of stopped left.0 left.1) id slot

  none_later : (stopped : Stopped) (rest : List Stopped) → AreRuns stopped rest → run_of id < stopped.run + 1 → numbers_over id slot rest ≡ []
  none_later stopped [] are less = refl
  none_later stopped (next ∷ rest) are less =
      let later = (follows_run stopped next are.0).1 in
      let here : numbers_in id slot (executed_in next) ≡ [] = elim (own next) [
        | inl none ↦ none
        | inr this ↦ absurd (omega (arith, less, later, this))
      ] in
      ap₂ (λ (a b : List ℕ). a ++ b) here (none_later next rest are.1 (omega (arith, less, later)))

  counts_over : (first : Stopped) (rest : List Stopped) → AreRuns first rest → CountsFrom 0 (numbers_over id slot (first ∷ rest))
  counts_over first [] are = subst (CountsFrom 0) (sym (append-nil (numbers_in id slot (executed_in first)))) (counts first)
  counts_over first (next ∷ rest) are = elim (own first) [
    | inl none ↦ subst (λ (l : List ℕ). CountsFrom 0 (l ++ numbers_over id slot (next ∷ rest))) (sym none) (counts_over next rest are.1)
    | inr this ↦
        let later : numbers_over id slot (next ∷ rest) ≡ [] = none_later first (next ∷ rest) are (omega (arith, this)) in
        subst (λ (l : List ℕ). CountsFrom 0 (numbers_in id slot (executed_in first) ++ l)) (sym later)
        (subst (CountsFrom 0) (sym (append-nil (numbers_in id slot (executed_in first)))) (counts first))
  ]

pub every_once : EveryOnce
every_once first rest are id slot =
    let order = counts_over id slot first rest are in (order, others_between (numbers_over id slot (first ∷ rest)) order)

-- What was held, from run to run

module _ (stored : List Stored) (i : ℕ) (one : Stored) where
  abbrev IsHeldOr : (left : Seats) → (freed : Type 0) → Type 0
  IsHeldOr left freed = HoldsFrom left stored i one ⊎ freed

  carried : (stopped : Stopped) → HoldsFrom stopped.start.seats stored i one → (left : Seats) → MayHold stopped left → IsHeldOr left (IsFreed left (freed_in stopped) one.session)
  carried stopped holds left may =
      let seat = seat_holds one.session one.slot stopped.start.seats holds.reply.held holds.held in
      elim (every_seat_stays (limits_of stopped) (stop_of stopped left may) one.session seat.0 seat.1) [
        | inl stays ↦ inl (holds_there stopped.start.seats left stored i one holds (ap (held_in one.slot) (stays ∙ sym seat.1)))
        | inr freed ↦ inr freed
      ]

  carried_on : (first : Stopped) → ((left : Seats) → MayHold first left → IsHeldOr left (IsFreed left (freed_in first) one.session)) → (rest : List Stopped) → AreRuns first rest
      → (left : Seats) → LeavesSeats (last_of first rest) left → ∥ IsHeldOr left (WasFreed one.session first rest left) ∥₁
  carried_on first step [] are left leaves = ∥∥₁_map (may_be_left first left leaves) (λ may. step left may)
  carried_on first step (next ∷ rest) are left leaves = ∥∥₁_elim (may_follow first next are.0) ∥∥₁_prop (λ may. elim (step next.start.seats may) [
    | inl holds ↦ ∥∥₁_map (carried_on next (carried next holds) rest are.1 left leaves) (λ found. elim found [
      | inl last ↦ inl last
      | inr freed ↦ inr (inr freed)
    ])
    | inr freed ↦ ∣ inr (inl freed) ∣₁
  ])

pub every_held : EveryHeld
every_held first rest are left leaves i one at settled =
    carried_on (stored_in first) i one first (λ l may. every_reply_is_held (limits_of first) (stop_of first l may) i one at (its_settled first i settled)) rest are left leaves

-- and asked for again

module _ (stored : List Stored) (i : ℕ) (one : Stored) where
  has_there : (seats : Seats) → HoldsFrom seats stored i one → has_seat one.session seats ≡ true
  has_there seats holds = ap is_some (seat_holds one.session one.slot seats holds.reply.held holds.held).1

  given_again : (last : Stopped) → HoldsFrom last.start.seats stored i one → WasUp last → HoldsFrom (table_in last).seats stored i one → IsGivenAgain (table_in last) stored i one
  given_again last holds up now = record {
    holds = now;
    gives = λ count arguments session slot number.
        ((every_dead last up).dead one.session (last.mounted.seats.earlier one.session (has_there last.start.seats holds))
        now.reply.held.uid count arguments session).gives now.reply.held
        (subst (λ (place : ℕ). held_at one.session place (table_in last).seats ≡ Some now.reply.held) (sym slot) now.held) (number, refl);
  }

  given_in : (last : Stopped) → HoldsFrom last.start.seats stored i one → WasUp last
      → IsGivenAgain (table_in last) stored i one ⊎ IsFreed (table_in last).seats (freed_in last) one.session
  given_in last holds up =
      let seat = seat_holds one.session one.slot last.start.seats holds.reply.held holds.held in
      elim (seat_stays_up (limits_of last) (stop_of last _ (now_left last up)) up one.session seat.0 seat.1) [
        | inl stays ↦ inl (given_again last holds up (holds_there last.start.seats (table_in last).seats stored i one holds (ap (held_in one.slot) (stays ∙ sym seat.1))))
        | inr freed ↦ inr freed
      ]

  abbrev IsGivenOr : (last : Stopped) → (freed : Type 0) → Type 0
  IsGivenOr last freed = IsGivenAgain (table_in last) stored i one ⊎ freed

  retried_on : (first next : Stopped) → ((left : Seats) → MayHold first left → IsHeldOr stored i one left (IsFreed left (freed_in first) one.session)) → (rest : List Stopped) → AreRuns first (next ∷ rest)
      → WasUp (last_of next rest) → ∥ IsGivenOr (last_of next rest) (WasFreed one.session first (next ∷ rest) (table_in (last_of next rest)).seats) ∥₁
  retried_on first next step [] are up = ∥∥₁_map (may_follow first next are.0) (λ may. elim (step next.start.seats may) [
    | inl holds ↦ elim (given_in next holds up) [
      | inl given ↦ inl given
      | inr freed ↦ inr (inr freed)
    ]
    | inr freed ↦ inr (inl freed)
  ])
  retried_on first next step (further ∷ rest) are up = ∥∥₁_elim (may_follow first next are.0) ∥∥₁_prop (λ may. elim (step next.start.seats may) [
    | inl holds ↦ ∥∥₁_map (retried_on next further (carried stored i one next holds) rest are.1 up) (λ found. elim found [
      | inl given ↦ inl given
      | inr freed ↦ inr (inr freed)
    ])
    | inr freed ↦ ∣ inr (inl freed) ∣₁
  ])

pub every_retried : EveryRetried
every_retried first next rest are up i one at settled =
    retried_on (stored_in first) i one first next (λ left may. every_reply_is_held (limits_of first) (stop_of first left may) i one at (its_settled first i settled)) rest are up
