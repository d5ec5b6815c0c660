-- What a round gives each peer.
use Rattle.std.proofs.Common.{◌≡◌, ◌≢◌, ◌<◌, ◌≤◌, ◌==◌, ℕ, if◌then◌else◌, List, [], ◌∷◌, ◌++◌, Option, Some, None, Result, Ok, Err, IfOk, ◌⊎◌, inl, inr, refl, sym, ap, subst, ◌∙◌, append-nil, eq-eqb, ne_eqb, arith}
use Rattle.std.proofs.lemmas.Bool.{cases_order}
use Rattle.std.proofs.lemmas.Option.{same_Some}
use Rattle.disk.specs.declared.device.Device.{Ghosts}
use Rattle.model.specs.Server.Runs.{Arrives, Turns, HangsUp, Connects, Takes}
use Rattle.server.specs.Refused.{connection_at, view}
use Rattle.server.specs.Seen.{ServerCall, Did, Failed}
use Rattle.server.specs.declared.server.Server.{Server}
use Rattle.system.specs.declared.refused.Refused.{Refused}
use Rattle.system.specs.declared.refused.Refused.TheVariants as refusals
use Rattle.peer.specs.Calls.{Goes, IsEnd}
use Rattle.peer.specs.Rounds.{Among, AnyCalls, HaveOneTurn, HaveTurn, IsTurnOf, Shows, StaysOn, HasEnded, Leaves, StepsKey, EndedWithin, IsRound, step_of, HadTurn, HadEnd, EveryRound}
use Rattle.peer.specs.Rounds as rounds
use Rattle.peer.specs.Steps.{AnyMoment, AreOn, EndsAgain, EndsPeer, HasBytes, IsEndBy, IsFed, IsTallied, ServesOn, StaysServed, Tally, all_by, count_by, shown_by, turns_by}
use Rattle.peer.specs.declared.pace.Pace.{Pace}
use Rattle.peer.specs.declared.pace.Pace.TheVariants as paces
use Rattle.peer.specs.declared.peer.Peer.{Peer}
use Rattle.peer.specs.declared.peer.Stage.{Stage}
use Rattle.peer.specs.declared.peer.Stage.TheVariants as stages
use Rattle.peer.specs.declared.peer.Step.{Step}
use Rattle.peer.specs.declared.peer.Step.TheVariants as steps
use Rattle.peer.specs.declared.stream.Stream as stream
use Rattle.peer.proofs.Carried.{carries_any}
use Rattle.peer.proofs.Made.{goes_as, goes_on, not_called}
use Rattle.peer.proofs.Served.{IsChanged}
use Rattle.peer.proofs.Tallies.{tallies_any}

-- Calls among which is a turn

turn_among : (connection : ℕ) (calls : List ServerCall) → AreOn AnyMoment connection calls → 0 < count_by turns_by calls → Among (IsTurnOf connection) calls
turn_among connection [] on some = absurd (omega (arith, some))
turn_among connection (Did (Turns number now) said ∷ calls) on some = inl on.0.0
turn_among connection (Did (Arrives number piece) said ∷ calls) on some = inr (turn_among connection calls on.1 (omega (arith, some)))
turn_among connection (Did (Takes number) said ∷ calls) on some = inr (turn_among connection calls on.1 (omega (arith, some)))
turn_among connection (Did (HangsUp number) said ∷ calls) on some = absurd on.0
turn_among connection (Did (Connects number) said ∷ calls) on some = absurd on.0
turn_among connection (Failed event ∷ calls) on some = absurd on.0

-- the last of one is that one
last_is : {A : Type 0} (before : List A) (last only : A) → before ++ (last ∷ []) ≡ only ∷ [] → last ≡ only
last_is [] last only is = let same : last ∷ [] ≡ only ∷ [] = is in cc
last_is (head ∷ []) last only is = let same : head ∷ last ∷ [] ≡ only ∷ [] = is in let never : ⊥ = cc in absurd never
last_is (head ∷ next ∷ before) last only is = let same : head ∷ next ∷ (before ++ (last ∷ [])) ≡ only ∷ [] = is in let never : ⊥ = cc in absurd never

piece_among : (connection : ℕ) (piece : List ℕ) (calls : List ServerCall) → AreOn AnyMoment connection calls → all_by shown_by calls ≡ piece ∷ [] → Among (Shows connection piece) calls
piece_among connection piece [] on is = let none : [] ≡ piece ∷ [] = is in let never : ⊥ = cc in absurd never
piece_among connection piece (Did (Arrives number shown) said ∷ calls) on is = inl (on.0, last_is (all_by shown_by calls) shown piece is)
piece_among connection piece (Did (Turns number now) said ∷ calls) on is = inr (piece_among connection piece calls on.1 (sym (append-nil (all_by shown_by calls)) ∙ is))
piece_among connection piece (Did (Takes number) said ∷ calls) on is = inr (piece_among connection piece calls on.1 (sym (append-nil (all_by shown_by calls)) ∙ is))
piece_among connection piece (Did (HangsUp number) said ∷ calls) on is = absurd on.0
piece_among connection piece (Did (Connects number) said ∷ calls) on is = absurd on.0
piece_among connection piece (Failed event ∷ calls) on is = absurd on.0

among_before : (such : ServerCall → Type 0) (calls more : List ServerCall) → Among such calls → Among such (more ++ calls)
among_before such calls [] has = has
among_before such calls (call ∷ more) has = inr (among_before such calls more has)

among_since : (such : ServerCall → Type 0) (calls more : List ServerCall) → Among such more → Among such (more ++ calls)
among_since such calls [] has = absurd has
among_since such calls (call ∷ more) (inl here) = inl here
among_since such calls (call ∷ more) (inr has) = inr (among_since such calls more has)

module _ {D : Type 0} {g : Ghosts D} {keeps : Type 0} where
  pub any_calls : {old new : Server D g} (kind : List ServerCall → Type 0) → Goes keeps old new kind → Goes keeps old new AnyCalls
  any_calls kind goes = goes_as {first = kind} {kind = AnyCalls} (λ (calls : List ServerCall) (are : kind calls). tt) goes

  pub any_then : {old between new : Server D g} → Goes keeps old between AnyCalls → Goes keeps between new AnyCalls → Goes keeps old new AnyCalls
  any_then before after =
      goes_on {first = AnyCalls} {then = AnyCalls} {kind = AnyCalls} (λ (calls more : List ServerCall) (one : AnyCalls calls) (two : AnyCalls more). tt) before after

  module _ {S : Type 0} {h : stream.Ghosts S} (peer : Peer S h) where
    turn_then : {old between new : Server D g} → Goes keeps old between (HaveTurn peer) → Goes keeps between new AnyCalls → Goes keeps old new (HaveTurn peer)
    turn_then before after =
        goes_on {first = HaveTurn peer} {then = AnyCalls} {kind = HaveTurn peer}
        (λ (calls more : List ServerCall) (has : HaveTurn peer calls) (any : AnyCalls more).
        (among_before (IsTurnOf peer.conn) calls more has.0, λ gathers. among_before (Shows peer.conn peer.inbox) calls more (has.1 gathers))) before after

    then_turn : {old between new : Server D g} → Goes keeps old between AnyCalls → Goes keeps between new (HaveOneTurn peer) → Goes keeps old new (HaveTurn peer)
    then_turn before after =
        goes_on {first = AnyCalls} {then = HaveOneTurn peer} {kind = HaveTurn peer}
        (λ (calls more : List ServerCall) (any : AnyCalls calls) (has : HaveOneTurn peer more). (
          among_since (IsTurnOf peer.conn) calls more (turn_among peer.conn more has.0 (omega (arith, has.1))),
          λ gathers. among_since (Shows peer.conn peer.inbox) calls more (piece_among peer.conn peer.inbox more has.0 (has.2 gathers)),
        )) before after

-- Steps

bytes_wait : {S : Type 0} {h : stream.Ghosts S} (peer : Peer S h) → HasBytes peer → peer.stage ≡ stages.Gathers → peer.inbox ≡ [] → ⊥
bytes_wait peer (inl runs) gathers empty = let never : ⊥ = cc in never
bytes_wait peer (inr has) gathers empty = has.1 empty

-- a step that returns no error has fed a peer what it had
fed_by : {S : Type 0} {h : stream.Ghosts S} (peer : Peer S h) (tally : Tally) (result : Result Step Refused) (step : Step) → HasBytes peer → tally.came ≡ [] → result ≡ Ok step
    → IsFed peer tally ⊎ (result ≡ Err refusals.Device) → peer.stage ≡ stages.Gathers → tally.shown ≡ peer.inbox ∷ []
fed_by peer tally result step has unread told (inl fed) gathers =
    let all : peer.inbox ++ tally.came ≡ peer.inbox = ap (λ (came : List ℕ). peer.inbox ++ came) unread ∙ append-nil peer.inbox in
    fed gathers (λ none. bytes_wait peer has gathers (sym all ∙ none)) ∙ ap (λ (piece : List ℕ). piece ∷ []) all
fed_by peer tally result step has unread told (inr failed) gathers = let never : ⊥ = cc in absurd never

-- one that leaves the peer to be served on
turns_once : {D S : Type 0} {g : Ghosts D} {h : stream.Ghosts S} {keeps : Type 0} (moments : ℕ → Type 0) {old new : Server D g} (peer left : Peer S h) (result : Result Step Refused) (pace : Pace)
    → ServesOn keeps moments old new peer left result → HasBytes peer → result ≡ Ok (steps.Stays pace) → (pace ≡ paces.Pauses → ⊥) → Goes keeps old new (HaveOneTurn peer)
turns_once moments peer left result pace serves has is awake =
    let tally : Tally = serves.tally in
    let once : tally.turns ≡ 1 = serves.turned has (pace, is, awake) in
    let fed : peer.stage ≡ stages.Gathers → tally.shown ≡ peer.inbox ∷ [] = fed_by peer tally result (steps.Stays pace) has (serves.unread has) is serves.feeds in
    goes_as {first = IsTallied AnyMoment peer.conn tally} {kind = HaveOneTurn peer}
    (λ (calls : List ServerCall) (tallied : IsTallied AnyMoment peer.conn tally calls). (tallied.on, tallied.turns ∙ once, λ gathers. tallied.shown ∙ fed gathers))
    (tallies_any moments AnyMoment peer.conn tally (λ now shows. tt) serves.carries.calls)

-- whatever it came to
record GoesOn {D S : Type 0} {g : Ghosts D} {h : stream.Ghosts S} (keeps : Type 0) (old new : Server D g) (peer left : Peer S h) : Type 0 where
  goes : Goes keeps old new AnyCalls
  conn : left.conn ≡ peer.conn

module _ {D S : Type 0} {g : Ghosts D} {h : stream.Ghosts S} {keeps : Type 0} (moments : ℕ → Type 0) {old new : Server D g} (peer left : Peer S h) (result : Result Step Refused)
    (stays : (left.stage ≡ stages.Ends → ⊥) → ServesOn keeps moments old new peer left result)
    (ends : left.stage ≡ stages.Ends → EndsPeer keeps moments old new peer left result) where
  goes_served : (left.stage ≡ stages.Ends → ⊥) → GoesOn keeps old new peer left
  goes_served on =
      let serves : ServesOn keeps moments old new peer left result = stays on in
      record { goes = any_calls (IsTallied moments peer.conn serves.tally) serves.carries.calls; conn = serves.carries.conn }

  goes_ended : left.stage ≡ stages.Ends → GoesOn keeps old new peer left
  goes_ended now =
      let end : EndsPeer keeps moments old new peer left result = ends now in
      record {
        goes = any_then (any_calls (IsTallied moments peer.conn end.tally) end.carries.calls) (any_calls (IsEndBy moments result end.left.conn) end.hung);
        conn = end.same.2 ∙ end.carries.conn;
      }

  goes_by : (stage : Stage) → left.stage ≡ stage → GoesOn keeps old new peer left
  goes_by stages.Ends now = goes_ended now
  goes_by stages.Gathers now = goes_served (λ e. let never : ⊥ = cc in never)
  goes_by stages.Runs now = goes_served (λ e. let never : ⊥ = cc in never)
  goes_by stages.Made now = goes_served (λ e. let never : ⊥ = cc in never)
  goes_by (stages.Replies reply) now = goes_served (λ e. let never : ⊥ = cc in never)

  step_goes : GoesOn keeps old new peer left
  step_goes = goes_by left.stage refl

-- at any moments
end_any : (moments : ℕ → Type 0) (connection : ℕ) (calls : List ServerCall) → IsEnd moments connection calls → IsEnd AnyMoment connection calls
end_any moments connection calls (inl none) = inl none
end_any moments connection calls (inr (now, shows, ends)) = inr (now, tt, ends)

ends_any : {D S : Type 0} {g : Ghosts D} {h : stream.Ghosts S} {keeps : Type 0} (moments : ℕ → Type 0) {old new : Server D g} (peer left : Peer S h)
    → EndsPeer keeps moments old new peer left (Ok steps.Ended) → EndsPeer keeps AnyMoment old new peer left (Ok steps.Ended)
ends_any moments peer left end = record {
  between = end.between;
  left = end.left;
  tally = end.tally;
  carries = carries_any moments AnyMoment peer end.left end.tally (λ now shows. tt) end.carries;
  shown = end.shown;
  few = end.few;
  feeds = end.feeds;
  unread = end.unread;
  reads = end.reads;
  reason = end.reason;
  hung = goes_as {first = IsEnd moments end.left.conn} {kind = IsEnd AnyMoment end.left.conn}
      (λ (calls : List ServerCall) (is : IsEnd moments end.left.conn calls). end_any moments end.left.conn calls is) end.hung;
  same = end.same;
}

-- one that stays although it was to end lacked memory
ends_or_pauses : {S : Type 0} {h : stream.Ghosts S} (left : Peer S h) (pace : Pace) → StaysServed left (steps.Stays pace) → left.stage ≡ stages.Ends → pace ≡ paces.Pauses
ends_or_pauses left paces.Pauses served ends = refl
ends_or_pauses left paces.Goes served ends = absurd (served paces.Goes refl (λ pauses. let never : ⊥ = cc in never) ends)
ends_or_pauses left paces.Sleeps served ends = absurd (served paces.Sleeps refl (λ pauses. let never : ⊥ = cc in never) ends)

-- What the calls of a slab are as a step of a key

pub no_peer : {D S : Type 0} {g : Ghosts D} {h : stream.Ghosts S} {keeps : Type 0} (server : Server D g) (peers : ℕ → Option (Peer S h)) (key : ℕ) → peers key ≡ None
    → StepsKey keeps key server server peers peers None
no_peer server peers key none = record { goes = any_calls (λ calls. calls ≡ []) (not_called server); here = (none, none); others = λ other apart. refl }

module _ {D S : Type 0} {g : Ghosts D} {h : stream.Ghosts S} {keeps : Type 0} (moments : ℕ → Type 0) {old new : Server D g} (before after : ℕ → Option (Peer S h)) (key : ℕ)
    (peer left : Peer S h) (result : Result Step Refused) (there : before key ≡ Some peer)
    (stays : (left.stage ≡ stages.Ends → ⊥) → ServesOn keeps moments old new peer left result)
    (ends : left.stage ≡ stages.Ends → EndsPeer keeps moments old new peer left result) where
  -- a peer that stays, as the next step finds it
  pub peer_stays : (peer.stage ≡ stages.Ends → EndsAgain keeps moments old new peer left result) → (last : Peer S h) (pace : Pace) → IsChanged before after key (Some last)
      → last.conn ≡ left.conn → result ≡ Ok (steps.Stays pace) → IfOk result (StaysServed left) → StepsKey keeps key old new before after (Some (steps.Stays pace))
  peer_stays over last pace is conn told on =
      let step : GoesOn keeps old new peer left = step_goes moments peer left result stays ends in
      let served : StaysServed left (steps.Stays pace) = subst (λ (r : Result Step Refused). IfOk r (StaysServed left)) told on in
      record {
        goes = step.goes;
        here = (
          peer,
          last,
          there,
          is.here,
          record {
            conn = conn ∙ step.conn;
            turned = λ has awake. turns_once moments peer left result pace (stays (served pace refl awake)) has told awake;
            over = λ ends_now. ends_or_pauses left pace served (over ends_now).stage;
          },
        );
        others = is.others;
      }

  pub peer_ended : IsChanged before after key None → result ≡ Ok steps.Ended
      → IfOk result (λ step. step ≡ steps.Ended → (left.stage ≡ stages.Ends) × (connection_at (view new) left.conn ≡ None))
      → StepsKey keeps key old new before after (Some steps.Ended)
  peer_ended is told ended =
      let step : GoesOn keeps old new peer left = step_goes moments peer left result stays ends in
      let gone : (left.stage ≡ stages.Ends) × (connection_at (view new) left.conn ≡ None) =
      subst (λ (r : Result Step Refused). IfOk r (λ step. step ≡ steps.Ended → (left.stage ≡ stages.Ends) × (connection_at (view new) left.conn ≡ None))) told ended refl in
      let end : EndsPeer keeps moments old new peer left (Ok steps.Ended) = subst (λ (r : Result Step Refused). EndsPeer keeps moments old new peer left r) told (ends gone.0) in
      record {
        goes = step.goes;
        here = (
          peer,
          there,
          is.here,
          record {
            left = left;
            ends = ends_any moments peer left end;
            gone = subst (λ (connection : ℕ). connection_at (view new) connection ≡ None) step.conn gone.1;
          },
        );
        others = is.others;
      }

-- Rounds

step_here : (step other : Option Step) (key done : ℕ) → key ≡ done → (if key == done then step else other) ≡ step
step_here step other key done same = rw (eq-eqb key done same) refl

step_before : (step other : Option Step) (key done : ℕ) → key ≢ done → (if key == done then step else other) ≡ other
step_before step other key done apart = rw (ne_eqb key done apart) refl

module _ {D S : Type 0} {g : Ghosts D} {h : stream.Ghosts S} (keeps : Type 0) (first : Server D g) (peers : ℕ → Option (Peer S h)) where
  round_goes : (count : ℕ) (last : Server D g) (after : ℕ → Option (Peer S h)) → IsRound keeps first peers count last after → Goes keeps first last AnyCalls
  round_goes count last after rounds.IsRound.Begins = any_calls (λ calls. calls ≡ []) (not_called first)
  round_goes count last after (rounds.IsRound.Steps_on {count = done} {old = old} {before = before} step round steps_key) =
      any_then (round_goes done old before round) steps_key.goes

  -- a key whose turn has not come is as it was
  untouched_yet : (count : ℕ) (last : Server D g) (after : ℕ → Option (Peer S h)) → IsRound keeps first peers count last after → (key : ℕ) → count ≤ key → after key ≡ peers key
  untouched_yet count last after rounds.IsRound.Begins key late = refl
  untouched_yet count last after (rounds.IsRound.Steps_on {count = done} {old = old} {before = before} step round steps_key) key late =
      steps_key.others key (λ same. omega (arith, late, same)) ∙ untouched_yet done old before round key (omega (arith, late))

  -- the step of its key, by which it has ended
  ended_now : (old new : Server D g) (here left : Option (Peer S h)) (peer : Peer S h) → here ≡ Some peer → Goes keeps first old AnyCalls
      → Leaves keeps old new here left (Some steps.Ended) → (left ≡ None) × EndedWithin keeps first new peer
  ended_now old new here left peer there so_far leaves =
      let same : leaves.0 ≡ peer = same_Some leaves.0 peer (sym leaves.1 ∙ there) in (
        leaves.2,
        record {
          old = old;
          new = new;
          until = so_far;
          ended = subst (λ (p : Peer S h). HasEnded keeps old new p) same leaves.3;
          since = any_calls (λ calls. calls ≡ []) (not_called new);
        },
      )

  stayed_now : (old new : Server D g) (here left : Option (Peer S h)) (peer : Peer S h) (pace : Pace) → here ≡ Some peer
      → (leaves : Leaves keeps old new here left (Some (steps.Stays pace))) → StaysOn keeps old new peer leaves.1 pace
  stayed_now old new here left peer pace there leaves =
      subst (λ (p : Peer S h). StaysOn keeps old new p leaves.1 pace) (same_Some leaves.0 peer (sym leaves.2 ∙ there)) leaves.4

  -- one that had bytes
  had_now : (old new : Server D g) (here left : Option (Peer S h)) (peer : Peer S h) (step : Option Step) → here ≡ Some peer → HasBytes peer
      → Goes keeps first old AnyCalls → Leaves keeps old new here left step → HadTurn keeps first new peer left step
  had_now old new here left peer None there has so_far leaves = let none = leaves.0 in let never : ⊥ = cc in absurd never
  had_now old new here left peer (Some steps.Ended) there has so_far leaves = inr (inl (ended_now old new here left peer there so_far leaves))
  had_now old new here left peer (Some (steps.Stays paces.Pauses)) there has so_far leaves = inr (inr refl)
  had_now old new here left peer (Some (steps.Stays paces.Goes)) there has so_far leaves =
      inl (then_turn peer so_far ((stayed_now old new here left peer paces.Goes there leaves).turned has (λ pauses. let never : ⊥ = cc in never)))
  had_now old new here left peer (Some (steps.Stays paces.Sleeps)) there has so_far leaves =
      inl (then_turn peer so_far ((stayed_now old new here left peer paces.Sleeps there leaves).turned has (λ pauses. let never : ⊥ = cc in never)))

  -- one that had been dismissed
  over_now : (old new : Server D g) (here left : Option (Peer S h)) (peer : Peer S h) (step : Option Step) → here ≡ Some peer → peer.stage ≡ stages.Ends
      → Goes keeps first old AnyCalls → Leaves keeps old new here left step → HadEnd keeps first new peer left step
  over_now old new here left peer None there ends so_far leaves = let none = leaves.0 in let never : ⊥ = cc in absurd never
  over_now old new here left peer (Some steps.Ended) there ends so_far leaves = inl (ended_now old new here left peer there so_far leaves)
  over_now old new here left peer (Some (steps.Stays pace)) there ends so_far leaves =
      inr (ap (λ (pace : Pace). Some (steps.Stays pace)) ((stayed_now old new here left peer pace there leaves).over ends))

  -- and those of later keys
  ended_before : (old new : Server D g) (peer : Peer S h) (left : Option (Peer S h)) → Goes keeps old new AnyCalls → (left ≡ None) × EndedWithin keeps first old peer
      → (left ≡ None) × EndedWithin keeps first new peer
  ended_before old new peer left more (none, ended) =
      (none, record { old = ended.old; new = ended.new; until = ended.until; ended = ended.ended; since = any_then ended.since more })

  had_before : (old new : Server D g) (peer : Peer S h) (left : Option (Peer S h)) (step : Option Step) → Goes keeps old new AnyCalls
      → HadTurn keeps first old peer left step → HadTurn keeps first new peer left step
  had_before old new peer left step more (inl turn) = inl (turn_then peer turn more)
  had_before old new peer left step more (inr (inl ended)) = inr (inl (ended_before old new peer left more ended))
  had_before old new peer left step more (inr (inr paused)) = inr (inr paused)

  over_before : (old new : Server D g) (peer : Peer S h) (left : Option (Peer S h)) (step : Option Step) → Goes keeps old new AnyCalls
      → HadEnd keeps first old peer left step → HadEnd keeps first new peer left step
  over_before old new peer left step more (inl ended) = inl (ended_before old new peer left more ended)
  over_before old new peer left step more (inr paused) = inr paused

  -- A peer's share of a round
  abbrev Share : (last : Server D g) (peer : Peer S h) (left : Option (Peer S h)) → Option Step → Type 0
  Share last peer left step = (HasBytes peer → HadTurn keeps first last peer left step) × (peer.stage ≡ stages.Ends → HadEnd keeps first last peer left step)

  every_share : (count : ℕ) (last : Server D g) (after : ℕ → Option (Peer S h)) (round : IsRound keeps first peers count last after)
      → (key : ℕ) (peer : Peer S h) → key < count → peers key ≡ Some peer → Share last peer (after key) (step_of round key)
  every_share count last after rounds.IsRound.Begins key peer few there = absurd (omega (arith, few))
  every_share count last after (rounds.IsRound.Steps_on {count = done} {old = old} {before = before} step round steps_key) key peer few there = elim (cases_order key done) [
    | inl now ↦
        let here : before key ≡ Some peer = untouched_yet done old before round key (omega (arith, now)) ∙ there in
        let at_key : StepsKey keeps key old last before after step = subst (λ (n : ℕ). StepsKey keeps n old last before after step) (sym now) steps_key in
        let so_far : Goes keeps first old AnyCalls = round_goes done old before round in
        subst (λ (s : Option Step). Share last peer (after key) s) (sym (step_here step (step_of round key) key done now))
        (λ has. had_now old last (before key) (after key) peer step here has so_far at_key.here, λ ends. over_now old last (before key) (after key) peer step here ends so_far at_key.here)
    | inr apart ↦ elim apart [
      | inl low ↦
          let off : key ≢ done = λ same. omega (arith, low, same) in
          let had : Share old peer (before key) (step_of round key) = every_share done old before round key peer low there in
          subst (λ (s : Option Step). Share last peer (after key) s) (sym (step_before step (step_of round key) key done off))
          (subst (λ (slot : Option (Peer S h)). Share last peer slot (step_of round key)) (sym (steps_key.others key off))
          (λ has. had_before old last peer (before key) (step_of round key) steps_key.goes (had.0 has), λ ends. over_before old last peer (before key) (step_of round key) steps_key.goes (had.1 ends)))
      | inr high ↦ absurd (omega (arith, high, few))
    ]
  ]

pub every_round : {D S : Type 0} {g : Ghosts D} {h : stream.Ghosts S} (keeps : Type 0) (first : Server D g) (peers : ℕ → Option (Peer S h)) → EveryRound keeps first peers
every_round keeps first peers count last after round key peer few there = every_share keeps first peers count last after round key peer few there
