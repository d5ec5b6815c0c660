-- A request that has begun remembers whether a change that has to last is among what it names; and
-- the settings of a run stay.
use Rattle.std.proofs.Common.{◌≡◌, ◌≢◌, ℕ, ◌+◌, ◌<◌, ◌==◌, ◌&&◌, ◌||◌, ◌⊎◌, inl, inr, Bool, true, false, not, cond, List, [], ◌∷◌, ◌++◌, length, option_to_list, slice_get, find, Option, None, Some, zero, suc, Result, Ok, Err, refl, sym, ap, ◌∙◌, subst, arith, append-nil, eqb-true, eq-eqb}
use Rattle.std.specs.List.{IsAmong}
use Rattle.std.proofs.lemmas.Bool.{true≢false, cases_eq, and_from, or_left, or_right}
use Rattle.model_tree.specs.Refusals.Refusal.{first_refusal}
use Rattle.model_tree.specs.Seats.Seats.{Seats}
use Rattle.model_tree.specs.Trees.Keyed.{Keyed, at, with, without}
use Rattle.model_tree.proofs.Trees.KeyedLaws.{at-with_same, at-with_other, at-without_same, at-without_other}
use Rattle.model_tree.specs.Trees.Tree.{Tree}
use Rattle.model_tree.specs.declared.status.Status.{Status}
use Rattle.model_tree.specs.declared.status.Status.TheVariants as status
use Rattle.model.specs.Operations.Answer.{Answer, ExchangeIdAnswer, CreateSessionAnswer, Outcome, Done, Refused}
use Rattle.model.specs.Operations.Operation.{Argument, SequenceArguments, operation_of}
use Rattle.model.specs.Server.Runs.{Event, Arrives, Turns, HangsUp, Connects, Takes, before, effect_of, RunHistory, Serving, mounted, naming, naming_by, names_by, names_after, named_so_far, numbers_of, turned_by, taken_by, history_after, IsRun, Begins, Goes_on, Fails_at, Stays_down, Flushed}
use Rattle.model.specs.Wire.Record.{framed}
use Rattle.model.specs.Wire.Rpc.{Success, reply_text}
use Rattle.model.specs.Sessions.SeatRuns.{NamesChange}
use Rattle.model.specs.Sessions.Session as sessions
use Rattle.model.specs.Sessions.Session.{Settings, Table}
use Rattle.model.specs.Sessions.SessionRuns as calls
use Rattle.model.specs.Sessions.StateIds.{has_opens}
use Rattle.model.specs.Server.World.{ServerLimits, World, InProgress, Connection, Quiet, Waiting, Busy, Replied, Closed, HasRun, Gives, Replays, Entry, Answered, Turned, replies, with_table, with_connection, with_result, exchanged, created_by, session_created, tabled, started_in, begun, reclaimed, run, executed_entry, goes_on, ends, result_of, kept_by, closes, behind, is_to_hold, is_last, is_unstable, noting, is_busy, one, reply_at, connection_changed, without_connection, arrives, arrives_at, connects, takes, hangs_up, without_reply, can_connect}
use Rattle.model.proofs.Server.Headline.{slice_get-append, AreBelow-at, done_behind, taken_done, Holds, holds, holds_at_start}
use Rattle.model.proofs.Server.ServedOnceLaws.{arrives_table, takes_table, connects_table, hangs_up_table}
use Rattle.model.proofs.Server.StampLaws.{RanCounts, run_counts}
use Rattle.model.proofs.Server.TurnCases.{GoesWith, Begun, New, IsTurn, Idles, Says, Closes, Unread, TooBig, Gave, Repeats, turn_is, read_of, arrival_only, taking_only}
use Rattle.model.proofs.Sessions.SeatLaws.{either_list}
use Rattle.model.proofs.Sessions.SeatTables.{get-last}
use Rattle.model.proofs.Sessions.TableCalls.{either}
use Rattle.model.proofs.Sessions.TableIds.{every_call_gives_new}

-- What an operation leaves as it was

record Leaves (world : World) (request : InProgress) (after : World) (left : InProgress) : Type 0 where
  connections : after.connections ≡ world.connections
  altered : left.altered ≡ request.altered
  settings : after.table.settings ≡ world.table.settings

abbrev HasLeft : World → InProgress → HasRun → Type 0
HasLeft world request (Gives outcome after left) = Leaves world request after left
HasLeft world request (Replays result session slot) = Unit {0}

module _ (world : World) (request : InProgress) where
  with_same : (table : Table) → table.settings ≡ world.table.settings → Leaves world request (with_table world table) request
  with_same table same = record { connections = refl; altered = refl; settings = same }

  stays : Leaves world request world request
  stays = record { connections = refl; altered = refl; settings = refl }

  exchanged_leaves : (r : Result ExchangeIdAnswer Status × Table) → r.1.settings ≡ world.table.settings → HasLeft world request (exchanged world request r)
  exchanged_leaves (Err reason, table) same = with_same table same
  exchanged_leaves (Ok answer, table) same = with_same table same

  created_leaves : (o : sessions.CreateSessionOutcome) (answer : Result CreateSessionAnswer Status) → o.table.settings ≡ world.table.settings
      → HasLeft world request (created_by world request o answer)
  created_leaves o (Err reason) same = stays
  created_leaves o (Ok answer) same = record { connections = refl; altered = refl; settings = same }

  tabled_leaves : (operation : ℕ) (answer : Answer) (r : Option Status × Table) → r.1.settings ≡ world.table.settings → HasLeft world request (tabled world request operation answer r)
  tabled_leaves operation answer (Some reason, table) same = with_same table same
  tabled_leaves operation answer (None, table) same = with_same table same

  begun_leaves : (arguments : SequenceArguments) (b : sessions.Begun) → HasLeft world request (begun world request arguments b)
  unfolding sessions.started
  begun_leaves arguments (sessions.Refuses reason) = stays
  begun_leaves arguments (sessions.Replays reply) = tt
  begun_leaves arguments sessions.Runs = by_session (find (sessions.is_session arguments.session) world.table.sessions)
    where
      by_session : (known : Option sessions.Session) → HasLeft world request (started_in world request arguments known)
      by_session None = stays
      by_session (Some session) = record { connections = refl; altered = refl; settings = refl }

  reclaimed_leaves : (refusal : Option Status) → HasLeft world request (reclaimed world request refusal)
  reclaimed_leaves None = stays
  reclaimed_leaves (Some reason) = stays

  by_call : (call : calls.Call) → (calls.after world.limits.sessions call world.table).settings ≡ world.table.settings
  by_call call = (every_call_gives_new world.limits.sessions call world.table).settings

  run_left : (now : ℕ) (operation : Argument) → HasLeft world request (run world request now operation)
  unfolding run
  run_left now (Argument.ExchangeId arguments) = exchanged_leaves _ (by_call (calls.Exchanges (has_opens world.opens) request.context.cred.uid arguments))
  run_left now (Argument.CreateSession arguments) =
      created_leaves (sessions.create_session world.limits.sessions request.context.cred.uid arguments world.table) _
      (by_call (calls.Creates request.context.cred.uid arguments))
  run_left now (Argument.DestroySession id) = tabled_leaves 44 _ _ (by_call (calls.Destroys id))
  run_left now (Argument.DestroyClientId client) = tabled_leaves 57 _ _ (by_call (calls.DestroysClient (has_opens world.opens) client))
  run_left now (Argument.Sequence arguments) = begun_leaves arguments _
  run_left now (Argument.ReclaimComplete true) = reclaimed_leaves _
  run_left now (Argument.ReclaimComplete false) = tabled_leaves 58 _ _ (by_call (calls.Reclaims request.context.client))
  run_left now operation = record { connections = refl; altered = refl; settings = refl }

-- the settings are as they were
pub ran_settings : (world : World) (request : InProgress) (now : ℕ) (operation : Argument) (outcome : Outcome) (after : World) (left : InProgress)
    → run world request now operation ≡ Gives outcome after left → after.table.settings ≡ world.table.settings
ran_settings world request now operation outcome after left ran = (subst (HasLeft world request) ran (run_left world request now operation)).settings

-- A turn behind a result

pub record IsBehind (here : ℕ) (after : World) (request : InProgress) (executed : Option Entry) (t : Turned) : Type 0 where
  pub others : (number : ℕ) → number ≢ here → at number t.world.connections ≡ at number after.connections
  pub mine : (new : InProgress) → at here t.world.connections ≡ Some (Busy new) → new.altered ≡ request.altered
  pub names : (named : ℕ → List ℕ) (its : List ℕ) → naming_by t.turn named here its ≡ naming named here its
  pub executed_is : t.executed ≡ executed
  pub replays : t.replays ≡ None
  pub settings : t.world.table.settings ≡ after.table.settings

busy_one : (a b : InProgress) → Some (Busy a) ≡ Some (Busy b) → a ≡ b
busy_one a b same = cc

module _ (here : ℕ) (after : World) where
  kept_settings : (slot : Option (List ℕ × ℕ)) (holds : Bool) (result : List ℕ) (table : Table) → (kept_by slot holds result table).settings ≡ table.settings
  unfolding sessions.finish
  kept_settings None holds result table = refl
  kept_settings (Some slot) holds result table = refl

  put_other : (connections : Keyed Connection) (new : Connection) (number : ℕ) → number ≢ here → at number (with connections here new) ≡ at number connections
  put_other connections new number apart = at-with_other connections here number new apart

  gone_on : (request new : InProgress) (executed : Option Entry) → new.altered ≡ request.altered → IsBehind here after request executed (goes_on after here new executed)
  gone_on request new executed same = record {
    others = put_other after.connections (Busy new);
    mine = λ other there. ap (λ (r : InProgress). r.altered) (sym (busy_one new other (sym (at-with_same after.connections here (Busy new)) ∙ there))) ∙ same;
    names = λ named its. refl;
    executed_is = refl;
    replays = refl;
    settings = refl;
  }

  not_busy : {T : Type 0} (connections : Keyed Connection) (reply : List ℕ) (other : InProgress) → at here (with connections here (Replied reply)) ≡ Some (Busy other) → T
  not_busy connections reply other there =
      let wrong : Some (Replied reply) ≡ Some (Busy other) = sym (at-with_same connections here (Replied reply)) ∙ there in absurd (cc)

  ended : (request : InProgress) (last : Status) (executed : Option Entry) → IsBehind here after request executed (ends after here request last false executed)
  ended request last executed = record {
    others = put_other after.connections _;
    mine = λ other there. not_busy after.connections _ other there;
    names = λ named its. refl;
    executed_is = refl;
    replays = refl;
    settings = kept_settings request.slot false (result_of request last) after.table;
  }

  closed : (request : InProgress) (last : Status) (executed : Option Entry) → IsBehind here after request executed (closes after here request last executed)
  closed request last executed =
      either (IsBehind here after request executed) (is_to_hold request after.table) _ _
      (λ holds. gone_on request (record request { ended = Some last }) executed refl) (λ none. ended request last executed)

  as_request : (request new : InProgress) (executed : Option Entry) (t : Turned) → new.altered ≡ request.altered → IsBehind here after new executed t → IsBehind here after request executed t
  as_request request new executed t same is = record {
    others = is.others;
    mine = λ other there. is.mine other there ∙ same;
    names = is.names;
    executed_is = is.executed_is;
    replays = is.replays;
    settings = is.settings;
  }

  pub is_behind : (request : InProgress) (outcome : Outcome) (executed : Option Entry) → IsBehind here after request executed (behind after here request outcome executed)
  is_behind request (Refused operation reason) executed =
      as_request request (with_result request (Refused operation reason)) executed _ refl (closed (with_result request (Refused operation reason)) reason executed)
  is_behind request (Done answer) executed =
      either (IsBehind here after request executed) (is_last request) _ _
      (λ last. as_request request (with_result request (Done answer)) executed _ refl (closed (with_result request (Done answer)) status.Ok executed))
      (λ more. gone_on request (with_result request (Done answer)) executed refl)

-- The settings stay

turned_settings : (world : World) (here now : ℕ) (t : Turned) → IsTurn world here now t → t.world.table.settings ≡ world.table.settings
turned_settings world here now _ Idles = refl
turned_settings world here now _ (Says bytes xid reply waits) = refl
turned_settings world here now _ (Closes request last there ended_as) = kept_settings here world request.slot true (result_of request last) world.table
turned_settings world here now _ (Unread request operation reason goes) = (is_behind here world request (Refused operation reason) None).settings
turned_settings world here now _ (TooBig request operation rest goes reads) =
    (is_behind here world (noting world world operation (read_of request rest)) (Refused (operation_of operation) status.RepTooBig) _).settings
turned_settings world here now _ (Gave request operation rest outcome after left goes reads ran) =
    (is_behind here after (noting world after operation left) outcome _).settings
    ∙ (subst (HasLeft world (read_of request rest)) ran (run_left world (read_of request rest) now operation)).settings
turned_settings world here now _ (Repeats request operation rest result session slot goes reads ran) = refl

pub one_settings : (world : World) (here now : ℕ) → (one world here now).world.table.settings ≡ world.table.settings
one_settings world here now = turned_settings world here now (one world here now) (turn_is world here now)

event_settings : (world : World) (event : Event) → (effect_of world event).table.settings ≡ world.table.settings
event_settings world (Arrives connection piece) = ap (λ (t : Table). t.settings) (arrives_table world connection piece)
event_settings world (Turns connection now) = one_settings world connection now
event_settings world (HangsUp connection) = ap (λ (t : Table). t.settings) (hangs_up_table world connection)
event_settings world (Connects connection) = ap (λ (t : Table). t.settings) (connects_table world connection)
event_settings world (Takes connection) = ap (λ (t : Table). t.settings) (takes_table world connection)

-- What is named, while a request goes on

-- of these operations none is a change that has to last, unless the request has altered
abbrev pub Notes : (altered : Bool) → List Entry → List ℕ → Type 0
Notes altered done names = NamesChange done names → altered ≡ true

none_named : {T : Type 0} (done : List Entry) → NamesChange done [] → T
none_named done change = absurd (let less = change.named.1.0 in omega (arith, less))

-- what one more operation adds
record IsNew (executed : Option Entry) : Type 0 where
  entry : Entry
  is : executed ≡ Some entry
  changes : before entry ≢ entry.after
  lasting : is_unstable entry.operation ≡ false

only_number : (number place : ℕ) → IsAmong (number ∷ []) place → place ≡ number
only_number number place (zero, (less, same)) = same
only_number number place (suc i, (less, same)) = absurd (omega (arith, less))

module _ (history : RunHistory) (names : List ℕ) (below : (i : ℕ) → IsAmong names i → i < length history.done) where
  -- of older operations
  old_named : (more : List Entry) → NamesChange (history.done ++ more) names → NamesChange history.done names
  old_named more change = record {
    place = change.place;
    entry = change.entry;
    named = change.named;
    is = sym (slice_get-append history.done more change.place (below change.place change.named)) ∙ change.is;
    changes = change.changes;
    lasting = change.lasting;
  }

  new_named : (executed : Option Entry) → NamesChange (history.done ++ option_to_list executed) (names ++ numbers_of history executed) → NamesChange history.done names ⊎ IsNew executed
  new_named executed change = elim (either_list names (numbers_of history executed) change.place change.named) [
    | inl old ↦ inl (old_named (option_to_list executed) (record {
      place = change.place;
      entry = change.entry;
      named = old;
      is = change.is;
      changes = change.changes;
      lasting = change.lasting;
    }))
    | inr new ↦ inr (by_entry executed change new)
  ]
    where
      by_entry : (executed : Option Entry) (change : NamesChange (history.done ++ option_to_list executed) (names ++ numbers_of history executed))
          → IsAmong (numbers_of history executed) change.place → IsNew executed
      by_entry None change new = absurd (let less = new.1.0 in omega (arith, less))
      by_entry (Some entry) change new =
          let here = only_number (length history.done) change.place new in
          let both : Some entry ≡ Some change.entry
          = sym (get-last history.done entry) ∙ (ap (slice_get (history.done ++ entry ∷ [])) (sym here) ∙ change.is) in
          let same : entry ≡ change.entry = cc in
          record { entry = change.entry; is = ap (λ (e : Entry). Some e) same; changes = change.changes; lasting = change.lasting }

-- A turn

module _ (history : RunHistory) (world : World) (here now : ℕ)
    (below : (number i : ℕ) → IsAmong (history.named number) i → i < length history.done)
    (notes : (number : ℕ) (request : InProgress) → at number world.connections ≡ Some (Busy request) → Notes request.altered history.done (history.named number)) where
  abbrev pub so_far : List ℕ
  so_far = named_so_far history world here

  either_below : (b : Bool) (i : ℕ) → IsAmong (cond b (history.named here) []) i → i < length history.done
  either_below true i among = below here i among
  either_below false i among = absurd (let less = among.1.0 in omega (arith, less))

  so_far_below : (i : ℕ) → IsAmong so_far i → i < length history.done
  so_far_below = either_below (is_busy (at here world.connections))

  -- of the request that the turn goes on with
  its_notes : (request : InProgress) → GoesWith world here request → Notes request.altered history.done so_far
  its_notes request (Begun _ is) change =
      let busy : so_far ≡ history.named here = ap (λ (c : Option Connection). cond (is_busy c) (history.named here) []) is in
      notes here request is (subst (NamesChange history.done) busy change)
  its_notes _ (New bytes xid cred compound is some) change =
      let quiet : so_far ≡ [] = ap (λ (c : Option Connection). cond (is_busy c) (history.named here) []) is in
      none_named history.done (subst (NamesChange history.done) quiet change)

  -- and with what the turn executes
  abbrev pub NotesWith : (altered : Bool) → Option Entry → Type 0
  NotesWith altered executed = Notes altered (history.done ++ option_to_list executed) (so_far ++ numbers_of history executed)

  no_new : {T : Type 0} → IsNew None → T
  no_new new = let wrong = new.is in absurd (cc)

  pub unread_notes : (request : InProgress) → GoesWith world here request → NotesWith request.altered None
  unread_notes request goes change = elim (new_named history so_far so_far_below None change) [
    | inl old ↦ its_notes request goes old
    | inr new ↦ no_new new
  ]

  its_entry : (entry : Entry) (new : IsNew (Some entry)) → entry ≡ new.entry
  its_entry entry new = let both = new.is in cc

  pub big_notes : (request : InProgress) (operation : Argument) (rest : List ℕ) (outcome : Outcome) → GoesWith world here request
      → NotesWith (noting world world operation (read_of request rest)).altered (Some (executed_entry world (read_of request rest) operation outcome world))
  big_notes request operation rest outcome goes change = elim (new_named history so_far so_far_below _ change) [
    | inl old ↦ or_left request.altered (not (world.changes == world.changes) && not (is_unstable operation)) (its_notes request goes old)
    | inr new ↦
        let same = its_entry (executed_entry world (read_of request rest) operation outcome world) new in
        absurd (new.changes (subst (λ (e : Entry). before e ≡ e.after) same refl))
  ]

  rose : (old new : ℕ) → new ≡ old + 1 → not (old == new) ≡ true
  rose old new more = by_test (old == new) refl
    where
      by_test : (b : Bool) → (old == new) ≡ b → not b ≡ true
      by_test false apart = refl
      by_test true same = let equal = eqb-true old new same in absurd (omega (arith, equal, more))

  not_false : (b : Bool) → b ≡ false → not b ≡ true
  not_false b is = ap not is

  pub gave_notes : (request : InProgress) (operation : Argument) (rest : List ℕ) (outcome : Outcome) (after : World) (left : InProgress) → GoesWith world here request
      → run world (read_of request rest) now operation ≡ Gives outcome after left
      → NotesWith (noting world after operation left).altered (Some (executed_entry world (read_of request rest) operation outcome after))
  gave_notes request operation rest outcome after left goes ran change = elim (new_named history so_far so_far_below _ change) [
    | inl old ↦
        let leaves : Leaves world (read_of request rest) after left = subst (HasLeft world (read_of request rest)) ran (run_left world (read_of request rest) now operation) in
        or_left left.altered (not (world.changes == after.changes) && not (is_unstable operation)) (leaves.altered ∙ its_notes request goes old)
    | inr new ↦
        let entry : Entry = executed_entry world (read_of request rest) operation outcome after in
        let same = its_entry entry new in
        let differs : world.tree ≢ after.tree = subst (λ (e : Entry). before e ≢ e.after) (sym same) new.changes in
        let counts = (subst (RanCounts world) ran (run_counts world (read_of request rest) now operation)).1 differs in
        let lasting : is_unstable operation ≡ false = subst (λ (e : Entry). is_unstable e.operation ≡ false) (sym same) new.lasting in
        or_right left.altered (not (world.changes == after.changes) && not (is_unstable operation))
        (and_from (not (world.changes == after.changes)) (not (is_unstable operation)) (rose world.changes after.changes counts.0) (not_false (is_unstable operation) lasting))
  ]

  abbrev TurnNotes : Turned → Type 0
  TurnNotes t = (number : ℕ) (request : InProgress) → at number t.world.connections ≡ Some (Busy request)
      → Notes request.altered (history.done ++ option_to_list t.executed) (naming_by t.turn history.named here (names_after history world here t) number)

  old_notes : (number : ℕ) (request : InProgress) (executed : Option Entry) → at number world.connections ≡ Some (Busy request)
      → Notes request.altered (history.done ++ option_to_list executed) (history.named number)
  old_notes number request executed there change = notes number request there (old_named history (history.named number) (below number) (option_to_list executed) change)

  named_other : (its : List ℕ) (number : ℕ) → number ≢ here → naming history.named here its number ≡ history.named number
  named_other its number apart = by_test (number == here) refl
    where
      by_test : (b : Bool) → (number == here) ≡ b → cond b its (history.named number) ≡ history.named number
      by_test false other = refl
      by_test true same = absurd (apart (eqb-true number here same))

  named_here : (its : List ℕ) → naming history.named here its here ≡ its
  named_here its = ap (λ (b : Bool). cond b its (history.named here)) (eq-eqb here here refl)

  -- a turn that puts a reply there
  replied_notes : (t : Turned) (reply : List ℕ) → t.world.connections ≡ with world.connections here (Replied reply)
      → ((named : ℕ → List ℕ) (its : List ℕ) → naming_by t.turn named here its ≡ naming named here its) → TurnNotes t
  replied_notes t reply are names number request there = elim (cases_eq number here) [
    | inl same ↦ not_busy here world world.connections reply request
        (subst (λ (n : ℕ). at n (with world.connections here (Replied reply)) ≡ Some (Busy request)) same (ap (at number) (sym are) ∙ there))
    | inr apart ↦
        let before_it = sym (at-with_other world.connections here number (Replied reply) apart) ∙ (ap (at number) (sym are) ∙ there) in
        subst (Notes request.altered (history.done ++ option_to_list t.executed))
        (sym (ap (λ (f : ℕ → List ℕ). f number) (names history.named _) ∙ named_other _ number apart)) (old_notes number request t.executed before_it)
  ]

  -- one behind a result
  behind_notes : (after : World) (request : InProgress) (executed : Option Entry) (t : Turned) → IsBehind here after request executed t → after.connections ≡ world.connections
      → NotesWith request.altered executed → TurnNotes t
  behind_notes after request executed t is are notes_it number other there = elim (cases_eq number here) [
    | inl same ↦
        let mine = is.mine other (subst (λ (n : ℕ). at n t.world.connections ≡ Some (Busy other)) same there) in
        let names : names_after history world here t ≡ so_far ++ numbers_of history executed
        = ap (names_by history world here t) is.replays ∙ ap (λ (e : Option Entry). so_far ++ numbers_of history e) is.executed_is in
        subst (Notes other.altered (history.done ++ option_to_list t.executed))
        (sym (ap (naming_by t.turn history.named here (names_after history world here t)) same
        ∙ (ap (λ (f : ℕ → List ℕ). f here) (is.names history.named _) ∙ (named_here _ ∙ names))))
        (subst (λ (e : Option Entry). Notes other.altered (history.done ++ option_to_list e) (so_far ++ numbers_of history executed)) (sym is.executed_is)
        (λ change. mine ∙ notes_it change))
    | inr apart ↦
        let before_it = ap (at number) (sym are) ∙ (sym (is.others number apart) ∙ there) in
        subst (Notes other.altered (history.done ++ option_to_list t.executed))
        (sym (ap (λ (f : ℕ → List ℕ). f number) (is.names history.named _) ∙ named_other _ number apart)) (old_notes number other t.executed before_it)
  ]

  abbrev sent_again : InProgress → (result session : List ℕ) → (slot : ℕ) → Turned
  sent_again request result session slot = record {
    turn = Answered;
    world = with_connection world here (Replied (framed (reply_text request.xid (Success result))));
    executed = None;
    keeps = None;
    holds = false;
    replays = Some (session, slot);
  }

  turned_notes : (t : Turned) → IsTurn world here now t → TurnNotes t
  turned_notes _ Idles = λ number request there. old_notes number request None there
  turned_notes _ (Says bytes xid reply waits) = replied_notes (replies world here xid reply) _ refl (λ named its. refl)
  turned_notes _ (Closes request last there ended_as) = replied_notes (ends world here request last true None) _ refl (λ named its. refl)
  turned_notes _ (Unread request operation reason goes) =
      behind_notes world request None _ (is_behind here world request (Refused operation reason) None) refl (unread_notes request goes)
  turned_notes _ (TooBig request operation rest goes reads) =
      let outcome : Outcome = Refused (operation_of operation) status.RepTooBig in
      let noted : InProgress = noting world world operation (read_of request rest) in
      behind_notes world noted _ _ (is_behind here world noted outcome _) refl (big_notes request operation rest outcome goes)
  turned_notes _ (Gave request operation rest outcome after left goes reads ran) =
      let leaves : Leaves world (read_of request rest) after left = subst (HasLeft world (read_of request rest)) ran (run_left world (read_of request rest) now operation) in
      let noted : InProgress = noting world after operation left in
      behind_notes after noted _ _ (is_behind here after noted outcome _) leaves.connections (gave_notes request operation rest outcome after left goes ran)
  turned_notes _ (Repeats request operation rest result session slot goes reads ran) =
      replied_notes (sent_again request result session slot) (framed (reply_text request.xid (Success result))) refl (λ named its. refl)

  pub one_notes : TurnNotes (one world here now)
  one_notes = turned_notes (one world here now) (turn_is world here now)

-- The other events: no request begins

changed_busy : (world : World) (here : ℕ) (change : Connection → Connection) → ((c : Connection) (request : InProgress) → change c ≡ Busy request → c ≡ Busy request)
    → (connection : Option Connection) → at here world.connections ≡ connection → (number : ℕ) (request : InProgress)
    → at number (connection_changed world here change connection).connections ≡ Some (Busy request) → at number world.connections ≡ Some (Busy request)
changed_busy world here change only None is number request there = there
changed_busy world here change only (Some c) is number request there = elim (cases_eq number here) [
  | inl same ↦
      let now : Some (change c) ≡ Some (Busy request)
      = sym (at-with_same world.connections here (change c)) ∙ subst (λ (n : ℕ). at n (with world.connections here (change c)) ≡ Some (Busy request)) same there in
      let made : change c ≡ Busy request = cc in
      ap (λ (n : ℕ). at n world.connections) same ∙ (is ∙ ap (λ (c : Connection). Some c) (only c request made))
  | inr apart ↦ sym (at-with_other world.connections here number (change c) apart) ∙ there
]

connected_busy : (world : World) (here : ℕ) (b : Bool) (number : ℕ) (request : InProgress)
    → at number (cond b (with_connection world here (Quiet [])) world).connections ≡ Some (Busy request) → at number world.connections ≡ Some (Busy request)
connected_busy world here false number request there = there
connected_busy world here true number request there = elim (cases_eq number here) [
  | inl same ↦
      let now : Some (Quiet []) ≡ Some (Busy request)
      = sym (at-with_same world.connections here (Quiet [])) ∙ subst (λ (n : ℕ). at n (with world.connections here (Quiet [])) ≡ Some (Busy request)) same there in
      absurd (cc)
  | inr apart ↦ sym (at-with_other world.connections here number (Quiet []) apart) ∙ there
]

hung_busy : (world : World) (here : ℕ) (b : Bool) (number : ℕ) (request : InProgress)
    → at number (cond b world (without_connection world here)).connections ≡ Some (Busy request) → at number world.connections ≡ Some (Busy request)
hung_busy world here true number request there = there
hung_busy world here false number request there = elim (cases_eq number here) [
  | inl same ↦
      let now : None ≡ Some (Busy request)
      = sym (at-without_same world.connections here) ∙ subst (λ (n : ℕ). at n (without world.connections here) ≡ Some (Busy request)) same there in
      absurd (cc)
  | inr apart ↦ sym (at-without_other world.connections here number apart) ∙ there
]

module _ (history : RunHistory) (world : World) (below : (number i : ℕ) → IsAmong (history.named number) i → i < length history.done)
    (notes : (number : ℕ) (request : InProgress) → at number world.connections ≡ Some (Busy request) → Notes request.altered history.done (history.named number)) where
  taken_notes : (connection : ℕ) (reply : Option (List ℕ)) (number : ℕ) (altered : Bool) → Notes altered history.done (history.named number)
      → Notes altered (taken_by history connection reply).done ((taken_by history connection reply).named number)
  taken_notes connection None number altered notes_it = notes_it
  taken_notes connection (Some reply) number altered notes_it = notes_it

  event_notes : (event : Event) (number : ℕ) (request : InProgress) → at number (effect_of world event).connections ≡ Some (Busy request)
      → Notes request.altered (history_after history world event).done ((history_after history world event).named number)
  unfolding arrives takes connects hangs_up
  event_notes (Arrives connection piece) number request there =
      notes number request (changed_busy world connection (arrives_at world.limits.records piece) (arrival_only world.limits.records piece) (at connection world.connections) refl number request there)
  event_notes (Turns connection now) number request there = one_notes history world connection now below notes number request there
  event_notes (HangsUp connection) number request there = notes number request (hung_busy world connection (is_busy (at connection world.connections)) number request there)
  event_notes (Connects connection) number request there = notes number request (connected_busy world connection (can_connect world connection) number request there)
  event_notes (Takes connection) number request there =
      taken_notes connection (reply_at world connection) number request.altered
      (notes number request (changed_busy world connection without_reply taking_only (at connection world.connections) refl number request there))

-- A run

pub record RunNotes (limits : ServerLimits) (serving : Serving) (history : RunHistory) : Type 0 where
  pub settings : serving.world.table.settings ≡ limits.settings
  pub below : (number i : ℕ) → IsAmong (history.named number) i → i < length history.done
  pub notes : serving.is_down ≡ false → (number : ℕ) (request : InProgress) → at number serving.world.connections ≡ Some (Busy request)
      → Notes request.altered history.done (history.named number)

module _ (limits : ServerLimits) (run : ℕ) (start : Tree) (seats : Seats) where
  named_below : (serving : Serving) (history : RunHistory) → IsRun (mounted limits run start seats) serving history → (number i : ℕ) → IsAmong (history.named number) i
      → i < length history.done
  named_below serving history is_run number i among =
      let is = holds start (mounted limits run start seats) serving history (holds_at_start limits run start seats) is_run in
      let less = AreBelow-at is.bound (history.named number) i (is.names.named number) among in
      omega (arith, less, is.inside)

  none_busy : {T : Type 0} (number : ℕ) (request : InProgress) → None ≡ Some (Busy request) → T
  none_busy number request wrong = absurd (cc)

  pub run_notes : (serving : Serving) (history : RunHistory) → IsRun (mounted limits run start seats) serving history → RunNotes limits serving history
  run_notes serving history Begins = record {
    settings = refl;
    below = λ number i among. absurd (let less = among.1.0 in omega (arith, less));
    notes = λ up number request there. none_busy number request there;
  }
  run_notes serving history (Goes_on {old = old} {new = new} {history = earlier} event is_run happens) =
      let was = run_notes old earlier is_run in
      record {
        settings = ap (λ (w : World). w.table.settings) happens.world ∙ (event_settings old.world event ∙ was.settings);
        below = named_below new (history_after earlier old.world event) (Goes_on event is_run happens);
        notes = λ up number request there.
            event_notes earlier old.world was.below (was.notes happens.up) event number request (ap (λ (w : World). at number w.connections) (sym happens.world) ∙ there);
      }
  run_notes serving history (Fails_at {old = old} {new = new} {history = earlier} event is_run fails) =
      let was = run_notes old earlier is_run in
      record {
        settings = ap (λ (w : World). w.table.settings) fails.world ∙ was.settings;
        below = named_below new history (Fails_at event is_run fails);
        notes = λ up. absurd (true≢false (sym fails.down ∙ up));
      }
  run_notes serving history (Stays_down {old = old} {new = new} {history = earlier} connection is_run stays_down) =
      let was = run_notes old earlier is_run in
      record {
        settings = ap (λ (w : World). w.table.settings) stays_down.world ∙ (ap (λ (t : Table). t.settings) (takes_table old.world connection) ∙ was.settings);
        below = named_below new (history_after earlier old.world (Takes connection)) (Stays_down connection is_run stays_down);
        notes = λ up. absurd (true≢false (sym stays_down.still_down ∙ up));
      }
  run_notes serving history (Flushed {old = old} {new = new} is_run flushes) =
      let was = run_notes old history is_run in
      record {
        settings = ap (λ (w : World). w.table.settings) flushes.world ∙ was.settings;
        below = was.below;
        notes = λ up number request there. was.notes flushes.up number request (ap (λ (w : World). at number w.connections) (sym flushes.world) ∙ there);
      }
