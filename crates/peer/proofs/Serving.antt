-- The peers of a server go on to be served, call by call.
use Rattle.std.proofs.Common.{◌≡◌, ℕ, Bool, inl, inr, true, false, if◌then◌else◌, List, [], ◌∷◌, ◌++◌, Option, None, Some, Result, Ok, Err, OnErr, OnOk, IfErr, IfOk, refl, sym, ap, subst, ◌∙◌, eq-eqb, ne_eqb}
use Rattle.slab.specs.Slab.{Slab, Updates, get, with_value}
use Rattle.slab.proofs.SlabLemmas.{Updates-with_value}
use Rattle.std.specs.Prelude.{IsSome, ◌==◌, slice_index_or}
use Rattle.disk.specs.declared.device.Device.{Ghosts}
use Rattle.system.specs.declared.refused.Refused.{Refused}
use Rattle.model.specs.Server.Runs.{Connects}
use Rattle.model.specs.Server.World.{World, can_connect}
use Rattle.server.specs.Refused.{connection_at, view, HasKept, IsUntouched, RefusesCheckpoint}
use Rattle.server.specs.Seen.{ServerCall, Did, Done, IsServed, world_after}
use Rattle.server.specs.Seen as served
use Rattle.server.specs.Views.{FlushesServer, Keeps, files_of, seen_with, server_failures, waits_of, world_of}
use Rattle.server.specs.Views as server_views
use Rattle.server.specs.declared.fault.ServerFault.{ServerFault}
use Rattle.server.specs.declared.server.Server.{Server}
use Rattle.server.proofs.Stops.{every_trace}
use Rattle.peer.specs.Calls.{Goes, MakesCalls, IsNone, IsOne, AreTurns, AreSomeTurns, IsEnd}
use Rattle.peer.specs.Peers.{IsSame, PeerBegins}
use Rattle.std.specs.Io.KnownBytes.{Appends, Consumes}
use Rattle.model_tree.specs.Trees.Keyed.{at}
use Rattle.peer.specs.Served.{AreServed, IsLeft, WasServed, Serves, ServesFurther, ServesNone, ServesOneMore, since}
use Rattle.peer.specs.Steps.{AnyMoment, all_by, given_by, taken_by, IsTallied, Tally, Carries, ServesOn, EndsPeer, EndsAgain, IsEndBy}
use Rattle.peer.specs.declared.pace.Pace.{Pace}
use Rattle.peer.specs.declared.peer.Peer.{Peer}
use Rattle.peer.specs.declared.peer.Stage.{Stage}
use Rattle.peer.specs.declared.peer.Stage.TheVariants as stages
use Rattle.peer.specs.declared.peer.Step.{Step}
use Rattle.peer.specs.declared.peer.Step.TheVariants as steps
use Rattle.peer.specs.declared.stream.Stream as stream
use Rattle.peer.proofs.Made.{failed_call, follows, goes_as, goes_on, makes, one_call, still_up, untouched, untouched_by}
use Rattle.peer.proofs.Served.{IsChanged, are_on, end_leaves, end_served, end_since, more_served, step_served, stepped, turned_on}

-- with another peer at one key
abbrev pub with_peer : {S : Type 0} {h : stream.Ghosts S} → (ℕ → Option (Peer S h)) → (key : ℕ) → Peer S h → ℕ → Option (Peer S h)
with_peer old key peer other = if other == key then Some peer else old other

with_changed : {S : Type 0} {h : stream.Ghosts S} (old : ℕ → Option (Peer S h)) (key : ℕ) (peer : Peer S h) → IsChanged old (with_peer old key peer) key (Some peer)
with_changed old key peer = record {
  here = rw (eq-eqb key key refl) refl;
  others = λ other apart. rw (ne_eqb other key apart) refl;
}

-- it is the same change if another peer was put at the key before
changed_again : {S : Type 0} {h : stream.Ghosts S} (old new : ℕ → Option (Peer S h)) (key : ℕ) (between : Peer S h) (slot : Option (Peer S h))
    → IsChanged old new key slot → IsChanged (with_peer old key between) new key slot
changed_again old new key between slot is = record {
  here = is.here;
  others = λ other apart. is.others other apart ∙ sym ((with_changed old key between).others other apart);
}

-- what a key has after a step of its peer: nothing if that has ended
abbrev pub slot_after : {S : Type 0} {h : stream.Ghosts S} → Result Step Refused → Peer S h → Option (Peer S h)
slot_after (Ok steps.Ended) peer = None
slot_after (Ok (steps.Stays pace)) peer = Some peer
slot_after (Err refused) peer = Some peer

stays_by : {S : Type 0} {h : stream.Ghosts S} (result : Result Step Refused) (peer : Peer S h) → (result ≡ Ok steps.Ended → ⊥) → slot_after result peer ≡ Some peer
stays_by (Ok steps.Ended) peer never = absurd (never refl)
stays_by (Ok (steps.Stays pace)) peer never = refl
stays_by (Err refused) peer never = refl

turns_of : (moments : ℕ → Type 0) (connection : ℕ) (calls : List ServerCall) → AreSomeTurns moments connection calls → (now : ℕ) × AreTurns connection now calls
turns_of moments connection calls (inl none) = (0, subst (AreTurns connection 0) (sym none) tt)
turns_of moments connection calls (inr (now, shows, are)) = (now, are)

-- a checkpoint
pub kept_further : {D : Type 0} {g : Ghosts D} {keeps : Type 0} {old new : Server D g} (result : Result Unit ServerFault)
    → (keeps → OnOk result (Keeps old new)) → OnOk result (HasKept (view old) (view new)) → IfErr result (RefusesCheckpoint (view old) (view new))
    → Goes keeps old new IsNone
kept_further {old = old} {new = new} (Ok done) keeps_on has refuses = record {
  up = λ _. has.up;
  made = λ keeps up recent is.
      let keeps_so = keeps_on keeps recent is in
      record {
        after = recent;
        calls = [];
        ready = keeps_so.ready;
        are = refl;
        served = served.IsServed.Keeps_on served.Begins keeps_so;
      };
}
kept_further (Err fault) keeps_on has refuses = failed_call refuses.down

-- a flush, of what waits
pub flushed_further : {D : Type 0} {g : Ghosts D} {keeps : Type 0} {old new : Server D g} (result : Result Unit ServerFault)
    → waits_of old ≡ true → (keeps → waits_of old ≡ true → OnOk result (FlushesServer old new)) → OnOk result (HasKept (view old) (view new))
    → IfErr result (RefusesCheckpoint (view old) (view new)) → Goes keeps old new IsNone
flushed_further {old = old} {new = new} (Ok done) waits flushes has refuses = record {
  up = λ _. has.up;
  made = λ keeps up recent is.
      let flushed = flushes keeps waits recent is in
      record {
        after = flushed.0;
        calls = [];
        ready = flushed.1.ready;
        are = refl;
        served = served.IsServed.Flushed served.Begins flushed.1;
      };
}
flushed_further (Err fault) waits flushes has refuses = failed_call refuses.down

-- or of nothing
pub flushed_any : {D : Type 0} {g : Ghosts D} {keeps : Type 0} {old new : Server D g} (result : Result Unit ServerFault)
    → (keeps → waits_of old ≡ true → OnOk result (FlushesServer old new)) → (waits_of old ≡ false → IsUntouched (view old) (view new))
    → OnOk result (HasKept (view old) (view new)) → IfErr result (RefusesCheckpoint (view old) (view new)) → (waits : Bool) → waits_of old ≡ waits
    → Goes keeps old new IsNone
flushed_any {old = old} {new = new} result flushes nothing has refuses true is = flushed_further {old = old} {new = new} result is flushes has refuses
flushed_any {old = old} {new = new} result flushes nothing has refuses false is = untouched {old = old} {new = new} (nothing is)

-- first these, then those, by the world that they leave
goes_to : {D : Type 0} {g : Ghosts D} {keeps : Type 0} {old between new : Server D g} {first second kind : List ServerCall → Type 0}
    → ((calls more : List ServerCall) → world_of new ≡ world_after (world_of old) (more ++ calls) → first calls → second more → kind (more ++ calls))
    → Goes keeps old between first → Goes keeps between new second → Goes keeps old new kind
goes_to {old = old} {between = between} {new = new} {first = first} {second = second} both before after = record {
  up = λ up. before.up (after.up up);
  made = λ keeps up recent ready.
      let one : MakesCalls old between recent first = before.made keeps (after.up up) recent ready in
      let two : MakesCalls between new one.after second = after.made keeps up one.after one.ready in
      let all : IsServed (seen_with old recent) (two.calls ++ one.calls) (seen_with new two.after) =
      follows (seen_with old recent) (seen_with between one.after) one.calls one.served two.calls (seen_with new two.after) two.served in
      record {
        after = two.after;
        calls = two.calls ++ one.calls;
        ready = two.ready;
        are = both one.calls two.calls (every_trace (seen_with old recent) (seen_with new two.after) (two.calls ++ one.calls) all).0 one.are two.are;
        served = all;
      };
}

module _ {D S : Type 0} {g : Ghosts D} {h : stream.Ghosts S} {keeps : Type 0} where
  -- a step that leaves the peer to be served on, or ends it
  carried_on : (moments : ℕ → Type 0) {first old new : Server D g} (streams : List (ℕ × S)) (before after : ℕ → Option (Peer S h)) (key : ℕ) (peer left : Peer S h)
      → before key ≡ Some peer → IsChanged before after key (Some left) → (peer.stage ≡ stages.Ends → ⊥)
      → (tally : Tally) → Carries keeps moments old new peer left tally → Serves keeps first old streams before → Serves keeps first new streams after
  carried_on moments {first = first} streams before after key peer left there is stays tally carries so_far =
      goes_on {first = AreServed (world_of first) streams before} {then = IsTallied moments peer.conn tally} {kind = AreServed (world_of first) streams after}
      (λ (calls more : List ServerCall) (are : AreServed (world_of first) streams before calls) (tallied : IsTallied moments peer.conn tally more).
      step_served (world_of first) streams before after key peer there calls more are moments left is carries.conn tallied.on
      (stepped streams moments calls more peer left tally stays carries tallied)) so_far carries.calls

  -- turns of a peer that ends, or no call
  turned_off : (moments : ℕ → Type 0) {first old new : Server D g} (streams : List (ℕ × S)) (before after : ℕ → Option (Peer S h)) (key : ℕ) (peer left : Peer S h)
      → before key ≡ Some peer → IsChanged before after key (Some left)
      → (left.stream ≡ peer.stream) × (left.inbox ≡ peer.inbox) × (left.conn ≡ peer.conn) → left.stage ≡ stages.Ends
      → Goes keeps old new (AreSomeTurns moments peer.conn) → Serves keeps first old streams before → Serves keeps first new streams after
  turned_off moments {first = first} streams before after key peer left there is same ends goes so_far =
      goes_on {first = AreServed (world_of first) streams before} {then = AreSomeTurns moments peer.conn} {kind = AreServed (world_of first) streams after}
      (λ (calls more : List ServerCall) (are : AreServed (world_of first) streams before calls) (some : AreSomeTurns moments peer.conn more).
      let turns : (now : ℕ) × AreTurns peer.conn now more = turns_of moments peer.conn more some in
      step_served (world_of first) streams before after key peer there calls more are AnyMoment left is same.2 (are_on peer.conn turns.0 more turns.1)
      (turned_on streams calls more peer left turns.0 turns.1 same ends)) so_far goes

  -- it is gone
  ended : (moments : ℕ → Type 0) {first old new : Server D g} (streams : List (ℕ × S)) (before after : ℕ → Option (Peer S h)) (key : ℕ) (peer : Peer S h)
      → before key ≡ Some peer → IsChanged before after key None → connection_at (view new) peer.conn ≡ None
      → Goes keeps old new (IsEnd moments peer.conn) → Serves keeps first old streams before → Serves keeps first new streams after
  ended moments {first = first} {new = new} streams before after key peer there is gone goes so_far =
      goes_to {first = AreServed (world_of first) streams before} {second = IsEnd moments peer.conn} {kind = AreServed (world_of first) streams after}
      (λ (calls more : List ServerCall) (world : world_of new ≡ world_after (world_of first) (more ++ calls)) (are : AreServed (world_of first) streams before calls) (ends : IsEnd moments peer.conn more).
      end_served (world_of first) streams before after key peer there calls more are is
      (λ connection apart. end_since moments peer.conn connection more calls ends apart)
      (λ connection apart. end_leaves moments (world_of first) peer.conn connection more calls ends apart)
      (subst (λ (world : World). at peer.conn world.connections ≡ None) world gone)) so_far goes

  ended_by : (moments : ℕ → Type 0) {first old new : Server D g} (streams : List (ℕ × S)) (before after : ℕ → Option (Peer S h)) (key : ℕ) (peer left : Peer S h) (result : Result Step Refused)
      → before key ≡ Some peer → IsChanged before after key (slot_after result left)
      → (left.stream ≡ peer.stream) × (left.inbox ≡ peer.inbox) × (left.conn ≡ peer.conn) → left.stage ≡ stages.Ends
      → (result ≡ Ok steps.Ended → connection_at (view new) left.conn ≡ None)
      → Goes keeps old new (IsEndBy moments result peer.conn) → Serves keeps first old streams before → Serves keeps first new streams after
  ended_by moments {new = new} streams before after key peer left (Ok steps.Ended) there is same ends gone goes so_far =
      ended moments streams before after key peer there is (subst (λ (connection : ℕ). connection_at (view new) connection ≡ None) same.2 (gone refl)) goes so_far
  ended_by moments streams before after key peer left (Ok (steps.Stays pace)) there is same ends gone goes so_far =
      turned_off moments streams before after key peer left there is same ends goes so_far
  ended_by moments streams before after key peer left (Err refused) there is same ends gone goes so_far =
      turned_off moments streams before after key peer left there is same ends goes so_far

  -- A step of the peer at a key, whatever it came to
  module _ (moments : ℕ → Type 0) {old new : Server D g} (before after : ℕ → Option (Peer S h)) (key : ℕ) (peer left : Peer S h) (result : Result Step Refused)
      (there : before key ≡ Some peer) (is : IsChanged before after key (slot_after result left))
      (stays : (left.stage ≡ stages.Ends → ⊥) → ServesOn keeps moments old new peer left result)
      (ends : left.stage ≡ stages.Ends → EndsPeer keeps moments old new peer left result)
      (over : peer.stage ≡ stages.Ends → EndsAgain keeps moments old new peer left result)
      (gone : result ≡ Ok steps.Ended → (left.stage ≡ stages.Ends) × (connection_at (view new) left.conn ≡ None)) where
    further_on : (peer.stage ≡ stages.Ends → ⊥) → (left.stage ≡ stages.Ends → ⊥) → ServesFurther keeps old new before after
    further_on on not_ended first streams so_far =
        let step : ServesOn keeps moments old new peer left result = stays not_ended in
        let same : IsChanged before after key (Some left) =
        record { here = is.here ∙ stays_by result left (λ e. not_ended (gone e).0); others = is.others } in
        carried_on moments streams before after key peer left there same on step.tally step.carries so_far

    further_ended : (peer.stage ≡ stages.Ends → ⊥) → left.stage ≡ stages.Ends → ServesFurther keeps old new before after
    further_ended on ended_now first streams so_far =
        let end : EndsPeer keeps moments old new peer left result = ends ended_now in
        ended_by moments streams (with_peer before key end.left) after key end.left left result (with_changed before key end.left).here
        (changed_again before after key end.left (slot_after result left) is) end.same ended_now (λ e. (gone e).1) end.hung
        (carried_on moments streams before (with_peer before key end.left) key peer end.left there (with_changed before key end.left) on end.tally end.carries so_far)

    further_over : peer.stage ≡ stages.Ends → ServesFurther keeps old new before after
    further_over over_now first streams so_far =
        let end : EndsAgain keeps moments old new peer left result = over over_now in
        ended_by moments streams before after key peer left result there is end.same end.stage (λ e. (gone e).1) end.hung so_far

    by_left : (peer.stage ≡ stages.Ends → ⊥) → (stage : Stage) → left.stage ≡ stage → ServesFurther keeps old new before after
    by_left on stages.Ends ended_now = further_ended on ended_now
    by_left on stages.Gathers now = further_on on (λ e. let never : ⊥ = cc in never)
    by_left on stages.Runs now = further_on on (λ e. let never : ⊥ = cc in never)
    by_left on stages.Made now = further_on on (λ e. let never : ⊥ = cc in never)
    by_left on (stages.Replies reply) now = further_on on (λ e. let never : ⊥ = cc in never)

    by_peer : (stage : Stage) → peer.stage ≡ stage → ServesFurther keeps old new before after
    by_peer stages.Ends over_now = further_over over_now
    by_peer stages.Gathers now = by_left (λ e. let never : ⊥ = cc in never) left.stage refl
    by_peer stages.Runs now = by_left (λ e. let never : ⊥ = cc in never) left.stage refl
    by_peer stages.Made now = by_left (λ e. let never : ⊥ = cc in never) left.stage refl
    by_peer (stages.Replies reply) now = by_left (λ e. let never : ⊥ = cc in never) left.stage refl

    pub steps_further : ServesFurther keeps old new before after
    steps_further = by_peer peer.stage refl

  -- a peer that is woken, or dismissed between two requests
  pub shown_further : {first server : Server D g} (streams : List (ℕ × S)) (before after : ℕ → Option (Peer S h)) (key : ℕ) (peer left : Peer S h)
      → before key ≡ Some peer → IsChanged before after key (Some left)
      → ((calls : List ServerCall) → WasServed streams calls peer → WasServed streams calls left) → left.conn ≡ peer.conn
      → Serves keeps first server streams before → Serves keeps first server streams after
  shown_further {first = first} streams before after key peer left there is shows conn so_far =
      goes_as {first = AreServed (world_of first) streams before} {kind = AreServed (world_of first) streams after}
      (λ (calls : List ServerCall) (are : AreServed (world_of first) streams before calls).
      step_served (world_of first) streams before after key peer there calls [] are AnyMoment left is conn tt (shows calls)) so_far

  pub none_further : {first old new : Server D g} (streams : List (ℕ × S)) (peers : ℕ → Option (Peer S h))
      → Goes keeps old new IsNone → Serves keeps first old streams peers → Serves keeps first new streams peers
  none_further {first = first} streams peers none so_far =
      goes_on {first = AreServed (world_of first) streams peers} {then = IsNone} {kind = AreServed (world_of first) streams peers}
      (λ (calls more : List ServerCall) (are : AreServed (world_of first) streams peers calls) (is : more ≡ []).
      subst (λ (more : List ServerCall). AreServed (world_of first) streams peers (more ++ calls)) (sym is) are) so_far none

  -- no peer yet
  pub begins_serving : (server : Server D g) (peers : ℕ → Option (Peer S h)) → ((key : ℕ) → peers key ≡ None) → ServesNone keeps server peers
  begins_serving server peers none = λ first goes.
      goes_as {first = λ (calls : List ServerCall). Unit {0}} {kind = AreServed (world_of first) [] peers}
      (λ (calls : List ServerCall) (any : Unit {0}). record {
        each = λ key peer found. let empty = none key in let never : ⊥ = cc in absurd never;
        there = λ key peer found. let empty = none key in let never : ⊥ = cc in absurd never;
        apart = λ one other peer another found too same. let empty = none one in let never : ⊥ = cc in absurd never;
        kept = λ connection came still. let never : ⊥ = cc in absurd never;
      }) goes

  -- One more
  pub joins : {first old new : Server D g} (streams : List (ℕ × S)) (before after : ℕ → Option (Peer S h)) (key : ℕ) (peer : Peer S h)
      → before key ≡ None → IsChanged before after key (Some peer) → PeerBegins peer → peer.inbox ≡ []
      → can_connect (world_of old) peer.conn ≡ true → Goes keeps old new (IsOne (Did (Connects peer.conn) Done))
      → Serves keeps first old streams before → Serves keeps first new ((peer.conn, peer.stream) ∷ streams) after
  joins {first = first} {old = old} {new = new} streams before after key peer free is begins empty can connects so_far = record {
    up = λ up. so_far.up (connects.up up);
    made = λ keeps up recent ready.
        let one : MakesCalls first old recent (AreServed (world_of first) streams before) = so_far.made keeps (connects.up up) recent ready in
        let two : MakesCalls old new one.after (IsOne (Did (Connects peer.conn) Done)) = connects.made keeps up one.after one.ready in
        let world : world_of old ≡ world_after (world_of first) one.calls = (every_trace (seen_with first recent) (seen_with old one.after) one.calls one.served).0 in
        record {
          after = two.after;
          calls = two.calls ++ one.calls;
          ready = two.ready;
          are = subst (λ (more : List ServerCall). AreServed (world_of first) ((peer.conn, peer.stream) ∷ streams) after (more ++ one.calls)) (sym two.are)
              (more_served (world_of first) streams before after key peer free is begins empty one.calls
              (subst (λ (world : World). can_connect world peer.conn ≡ true) world can) one.are);
          served = follows (seen_with first recent) (seen_with old one.after) one.calls one.served two.calls (seen_with new two.after) two.served;
        };
  }

-- in a slab, by the value that was lent and the one that came back
pub changed_at : {S : Type 0} {h : stream.Ghosts S} (slab : Slab (Peer S h)) (key : ℕ) (before after : Peer S h) → Some before ≡ get slab key
    → IsChanged (get slab) (get (with_value slab key after)) key (Some after)
changed_at slab key before after was =
    let updates : Updates slab (with_value slab key after) key (Some after) =
    Updates-with_value slab key after (subst IsSome was refl) in
    record { here = updates.changed; others = updates.others }

-- a peer whose stream and bytes are as they were
shown : {S : Type 0} {h : stream.Ghosts S} (streams : List (ℕ × S)) (calls : List ServerCall) (before after : Peer S h)
    → IsSame before after → ((rest : List ℕ) → IsLeft before.stage rest → IsLeft after.stage rest) → WasServed streams calls before → WasServed streams calls after
shown {S = S} {h = h} streams calls before after same left was = record {
  began = was.began;
  came = was.came;
  written = was.written;
  rest = was.rest;
  came_by = ap (λ (connection : ℕ). at connection streams) same.conn ∙ was.came_by;
  read = subst (λ (s : S). Consumes (h.coming was.began) (h.coming s) was.came) (sym same.stream) was.read;
  fed = ap (λ (connection : ℕ). all_by taken_by (since connection calls) ++ after.inbox) same.conn
      ∙ (ap (λ (inbox : List ℕ). all_by taken_by (since before.conn calls) ++ inbox) same.inbox ∙ was.fed);
  wrote = subst (λ (s : S). Appends (h.gone was.began) (h.gone s) was.written) (sym same.stream) was.wrote;
  sent = was.sent ∙ ap (λ (connection : ℕ). all_by given_by (since connection calls)) (sym same.conn);
  left = left was.rest was.left;
}

pub woken : {S : Type 0} {h : stream.Ghosts S} (streams : List (ℕ × S)) (calls : List ServerCall) (before after : Peer S h)
    → IsSame before after → after.stage ≡ before.stage → WasServed streams calls before → WasServed streams calls after
woken streams calls before after same stage =
    shown streams calls before after same (λ (rest : List ℕ) (is : IsLeft before.stage rest). subst (λ (stage : Stage). IsLeft stage rest) (sym stage) is)

-- one that ends with its next step
pub dismissed : {S : Type 0} {h : stream.Ghosts S} (streams : List (ℕ × S)) (calls : List ServerCall) (before after : Peer S h)
    → IsSame before after → after.stage ≡ stages.Ends → WasServed streams calls before → WasServed streams calls after
dismissed streams calls before after same ends =
    shown streams calls before after same (λ (rest : List ℕ) (is : IsLeft before.stage rest). subst (λ (stage : Stage). IsLeft stage rest) (sym ends) tt)

-- in a slab
pub changed_by : {S : Type 0} {h : stream.Ghosts S} (old new : Slab (Peer S h)) (key : ℕ) (slot : Option (Peer S h)) → Updates old new key slot → IsChanged (get old) (get new) key slot
changed_by old new key slot updates = record { here = updates.changed; others = updates.others }

-- a peer that was lent and came back, and is gone then
pub gone_then : {S : Type 0} {h : stream.Ghosts S} (slab new : Slab (Peer S h)) (key : ℕ) (before after : Peer S h) → Some before ≡ get slab key
    → Updates (with_value slab key after) new key None → IsChanged (get slab) (get new) key None
gone_then slab new key before after was updates =
    let lent : IsChanged (get slab) (get (with_value slab key after)) key (Some after) = changed_at slab key before after was in
    record { here = updates.changed; others = λ other apart. updates.others other apart ∙ lent.others other apart }

slot_as : {S : Type 0} {h : stream.Ghosts S} (old new : ℕ → Option (Peer S h)) (key : ℕ) (slot other : Option (Peer S h)) → slot ≡ other → IsChanged old new key slot → IsChanged old new key other
slot_as old new key slot other same is = record { here = is.here ∙ same; others = is.others }

-- one that has ended is on no connection any more
abbrev HasLeft : {D S : Type 0} {g : Ghosts D} {h : stream.Ghosts S} → (new : Server D g) → (left : Peer S h) → Type 0
HasLeft new left = (left.stage ≡ stages.Ends) × (connection_at (view new) left.conn ≡ None)

ends_by : {D S : Type 0} {g : Ghosts D} {h : stream.Ghosts S} (new : Server D g) (left : Peer S h) (result : Result Step Refused) → IfOk result (λ step. step ≡ steps.Ended → HasLeft new left)
    → result ≡ Ok steps.Ended → HasLeft new left
ends_by new left result is told = subst (λ (r : Result Step Refused). IfOk r (λ step. step ≡ steps.Ended → HasLeft new left)) told is refl

module _ {D S : Type 0} {g : Ghosts D} {h : stream.Ghosts S} {keeps : Type 0} (moments : ℕ → Type 0) (old new : Server D g) (slab : Slab (Peer S h)) (key : ℕ) (peer left : Peer S h) (result : Result Step Refused)
    (there : Some peer ≡ get slab key)
    (stays : (left.stage ≡ stages.Ends → ⊥) → ServesOn keeps moments old new peer left result)
    (ends : left.stage ≡ stages.Ends → EndsPeer keeps moments old new peer left result)
    (over : peer.stage ≡ stages.Ends → EndsAgain keeps moments old new peer left result)
    (ended : IfOk result (λ step. step ≡ steps.Ended → HasLeft new left)) where
  -- a step of a peer of the slab
  pub slab_further : (after : Slab (Peer S h)) (answer : Result Step Refused) → result ≡ answer → IsChanged (get slab) (get after) key (slot_after answer left)
      → ServesFurther keeps old new (get slab) (get after)
  slab_further after answer told is =
      steps_further moments (get slab) (get after) key peer left result (sym there)
      (slot_as (get slab) (get after) key (slot_after answer left) (slot_after result left) (ap (λ (r : Result Step Refused). slot_after r left) (sym told)) is)
      stays ends over (ends_by new left result ended)

  -- a peer that stays, and whose reply was looked at then
  pub stays_answered : (last : Peer S h) (pace : Pace) → result ≡ Ok (steps.Stays pace) → IsSame left last → last.stage ≡ left.stage
      → ServesFurther keeps old new (get slab) (get (with_value slab key last))
  stays_answered last pace told same stage = λ first streams so_far.
      let between = with_peer (get slab) key left in
      let lent : IsChanged (get slab) between key (Some left) = with_changed (get slab) key left in
      let slot : Some left ≡ slot_after result left = ap (λ (r : Result Step Refused). slot_after r left) (sym told) in
      let served : ServesFurther keeps old new (get slab) between =
      steps_further moments (get slab) between key peer left result (sym there) (slot_as (get slab) between key (Some left) (slot_after result left) slot lent)
      stays ends over (ends_by new left result ended) in
      shown_further {first = first} {server = new} streams between (get (with_value slab key last)) key left last lent.here
      (changed_again (get slab) (get (with_value slab key last)) key left (Some last) (changed_at slab key peer last there))
      (λ (calls : List ServerCall). woken streams calls left last same stage) same.conn (served first streams so_far)

-- a slab that has more room
pub roomier : {D S : Type 0} {g : Ghosts D} {h : stream.Ghosts S} {keeps : Type 0} (server : Server D g) (slab after : Slab (Peer S h)) (first : Server D g) (streams : List (ℕ × S))
    → after ≡ record slab { capacity = after.capacity } → Serves keeps first server streams (get slab) → Serves keeps first server streams (get after)
roomier {S = S} {h = h} {keeps = keeps} server slab after first streams same so_far =
    subst (λ (slots : List (Option (Peer S h))). Serves keeps first server streams (λ key. slice_index_or slots key None)) (sym (ap (λ (s : Slab (Peer S h)). s.slots) same)) so_far

pub none_yet : {S : Type 0} {h : stream.Ghosts S} (slots : List (Option (Peer S h))) → slots ≡ [] → (key : ℕ) → slice_index_or slots key None ≡ None
none_yet {S = S} {h = h} slots none key = ap (λ (slots : List (Option (Peer S h))). slice_index_or slots key None) none

-- A call of `connect`

pub connects : {D : Type 0} {g : Ghosts D} {keeps : Type 0} (old new : Server D g) (result : Result ℕ ServerFault) (connection : ℕ) → result ≡ Ok connection
    → files_of new ≡ files_of old → (keeps → IfOk result (λ conn. server_views.Serves old new (Connects conn) Done))
    → Goes keeps old new (IsOne (Did (Connects connection) Done))
connects old new result connection told files serves =
    one_call {old = old} {new = new} (Connects connection) Done (still_up old new files)
    (λ keeps up. makes false old new (Connects connection) Done
    (subst (λ (r : Result ℕ ServerFault). IfOk r (λ conn. server_views.Serves old new (Connects conn) Done)) told (serves keeps)))

pub not_connected : {D : Type 0} {g : Ghosts D} {keeps : Type 0} (old new : Server D g) (result : Result ℕ ServerFault) (fault : ServerFault) → result ≡ Err fault
    → OnErr result (world_of new ≡ world_of old) → files_of new ≡ files_of old → server_failures new ≡ server_failures old → Goes keeps old new IsNone
not_connected old new result fault told world files failures =
    untouched {old = old} {new = new}
    (untouched_by old new (subst (λ (r : Result ℕ ServerFault). OnErr r (world_of new ≡ world_of old)) told world) files failures)

-- One more in the slab, after it has room
pub joined_slab : {D S : Type 0} {g : Ghosts D} {h : stream.Ghosts S} {keeps : Type 0} (old new : Server D g) (slab room after : Slab (Peer S h)) (key connection : ℕ) (stream : S) (peer : Peer S h)
    → room ≡ record slab { capacity = room.capacity } → get room key ≡ None → Updates room after key (Some peer)
    → peer.conn ≡ connection → peer.stream ≡ stream → peer.inbox ≡ [] → PeerBegins peer
    → can_connect (world_of old) connection ≡ true → Goes keeps old new (IsOne (Did (Connects connection) Done))
    → ServesOneMore keeps old new stream (get slab) (get after)
joined_slab {D = D} {S = S} {g = g} {h = h} {keeps = keeps} old new slab room after key connection stream peer same free updates conn is_stream empty begins can goes = (
  connection,
  λ first streams so_far.
      let joined : Serves keeps first new ((peer.conn, peer.stream) ∷ streams) (get after) =
      joins streams (get room) (get after) key peer free (changed_by room after key (Some peer) updates) begins empty
      (subst (λ (c : ℕ). can_connect (world_of old) c ≡ true) (sym conn) can)
      (subst (λ (c : ℕ). Goes keeps old new (IsOne (Did (Connects c) Done))) (sym conn) goes)
      (roomier old slab room first streams same so_far) in
      subst (λ (c : ℕ). Serves keeps first new ((c, stream) ∷ streams) (get after)) conn
      (subst (λ (s : S). Serves keeps first new ((peer.conn, s) ∷ streams) (get after)) is_stream joined),
)

-- a peer that was lent, and came back as it was
pub lent_further : {D S : Type 0} {g : Ghosts D} {h : stream.Ghosts S} {keeps : Type 0} {first server : Server D g} (streams : List (ℕ × S)) (slab : Slab (Peer S h)) (key : ℕ) (peer : Peer S h)
    → Some peer ≡ get slab key → Serves keeps first server streams (get slab) → Serves keeps first server streams (get (with_value slab key peer))
lent_further {first = first} {server = server} streams slab key peer was so_far =
    shown_further {first = first} {server = server} streams (get slab) (get (with_value slab key peer)) key peer peer (sym was) (changed_at slab key peer peer was)
    (λ (calls : List ServerCall) (served : WasServed streams calls peer). served) refl so_far

pub on_err : {A E : Type 0} {P : Type 0} (result : Result A E) → P → OnErr result P
on_err (Ok value) p = tt
on_err (Err fault) p = p
