-- At each moment of a run each open, each session and each request that has begun is of a client
-- with a confirmed record.
use Rattle.std.proofs.Common.{◌≡◌, ◌≢◌, ℕ, ◌≤◌, ◌+◌, ◌⊎◌, inl, inr, Bool, true, false, ◌&&◌, ◌==◌, nat_lt, List, [], ◌∷◌, find, filter, Option, None, Some, Result, Ok, Err, refl, sym, ap, ◌∙◌, subst, arith, eqb-true, eq-eqb, ltb-false, bytes_eq, is_some}
use Rattle.std.specs.List.{list_all}
use Rattle.std.proofs.lemmas.Bool.{true≢false, cases_eq, and_parts, and_from, or_left}
use Rattle.std.proofs.lemmas.Slice.Eq.{bytes_eq-Decides}
use Rattle.model_tree.specs.Seats.Seats.{Seats}
use Rattle.model_tree.specs.declared.status.Status.{Status}
use Rattle.model_tree.specs.declared.status.Status.TheVariants as status
use Rattle.model.specs.Operations.Answer.{Answer, Outcome, Done, Refused, ExchangeIdAnswer, CreateSessionAnswer}
use Rattle.model.specs.Operations.Context.{is_same_name}
use Rattle.model.specs.Operations.Files.{has_bytes}
use Rattle.model_tree.specs.Trees.Keyed.{Keyed, at, with, without, here_or, in_place_of, before_or_behind, kept_or_not}
use Rattle.model_tree.specs.declared.limits.Limits.{Limits}
use Rattle.model.specs.Operations.Open.{asked_open, closed_by}
use Rattle.model.specs.Sessions.OpenClients.{has_record, RunsInSession, EveryOpenHasClient}
use Rattle.model.specs.Sessions.Opens.{Opens, Open}
use Rattle.model.specs.Operations.Operation.{Argument, SequenceArguments, NewDirectory, OtherType, RenameArguments, operation_of}
use Rattle.model.specs.Wire.Record.{framed}
use Rattle.model.specs.Wire.Rpc.{Success, reply_text}
use Rattle.model.specs.Server.Runs.{Serving, RunHistory, IsRun, mounted, Event, Arrives, Turns, HangsUp, Connects, Takes, effect_of, Begins, Goes_on, Fails_at, Stays_down, Flushed, is_done}
use Rattle.model.specs.Sessions.Session as sessions
use Rattle.model.specs.Sessions.Session.{holds_reply}
use Rattle.model.specs.Sessions.Session.{Session, Table, is_session}
use Rattle.model.specs.Operations.SetAttr.{sets}
use Rattle.model.specs.Sessions.SlotsHeld.{is_slot_running, is_on, is_busy_on}
use Rattle.model.specs.Sessions.StateIds.{Found, Anonymous, Names, found, is_like, open_like, upgraded, opened, opened_by, without_clients}
use Rattle.model.specs.Operations.Step.{State, Stepped, effect, rename, does}
use Rattle.model_tree.specs.Trees.Tree.{Tree}
use Rattle.model.specs.Server.World.{ServerLimits, InProgress, Connection, Quiet, Busy, Replied, World, HasRun, Gives, Replays, Entry, executed_entry, exchanged, created_by, tabled, started_in, begun, reclaimed, refuses, stepped, state_of, run, Turned, with_connection, with_result, result_of, kept_by, behind, ends, goes_on, is_last, stands_alone, is_sequence, one, in_progress, mounted_world, Reads, next_operation, arrives, takes, connects, hangs_up, can_connect, connection_changed, arrives_at, without_reply, is_busy, without_connection, closes, is_to_hold, noting, is_seated}
use Rattle.model.proofs.Sessions.ClientTables.{is_of_known, Lives, StaysFor, KeepsRunning, exchange_lives, exchange_running, destroy_client_lives, destroy_client_running, reclaim_lives, reclaim_running, destroy_lives, destroy_running, create_lives, create_running, started_lives, started_stays, finish_lives, finish_stays}
use Rattle.model_tree.proofs.Trees.KeyedLaws.{at-with_same, at-with_other, at-without_same, at-without_other}
use Rattle.model_tree.proofs.Rights.LimitLaws.{modes_keep_limits, inheritance_keeps_limits}
use Rattle.model.proofs.Sessions.OpensSteps.{set_opens, write_opens}
use Rattle.model.proofs.Operations.ReadOperations.{is_first, first_read, alone_read}
use Rattle.model.proofs.Sessions.SlotsHeld.{Held, run_held}
use Rattle.model.proofs.Operations.StepCases.{does_cases}
use Rattle.model.proofs.Operations.StepProofs.{every_step}
use Rattle.model.proofs.Sessions.TableCalls.{either, found_given, ids_differ}
use Rattle.model.proofs.Sessions.TableLaws.{all-filter}
use Rattle.model_tree.proofs.Facts.Counting.{size}
use Rattle.model.proofs.Server.TurnCases.{GoesWith, Begun, New, IsTurn, Idles, Says, Unread, TooBig, Gave, Repeats, turn_is, read_of, arrival_only, taking_only, Closes}

-- Opens as lists of entries that all pass a test

module _ {A : Type 0} (p : ℕ × A → Bool) where
  all-with : (entries : Keyed A) (key : ℕ) (value : A) → list_all p entries ≡ true → p (key, value) ≡ true → list_all p (with entries key value) ≡ true
  all-with [] key value all here = and_from (p (key, value)) true here refl
  all-with (entry ∷ rest) key value all here =
      let parts = and_parts (p entry) (list_all p rest) all in
      by_key (key == entry.0) (nat_lt key entry.0) parts.0 parts.1 (all-with rest key value parts.1 here)
    where
      by_key : (same less : Bool) → p entry ≡ true → list_all p rest ≡ true → list_all p (with rest key value) ≡ true
          → list_all p (in_place_of same (key, value) rest (before_or_behind less (key, value) entry rest (with rest key value))) ≡ true
      by_key true less first others later = and_from (p (key, value)) (list_all p rest) here others
      by_key false true first others later =
          and_from (p (key, value)) (p entry && list_all p rest) here (and_from (p entry) (list_all p rest) first others)
      by_key false false first others later = and_from (p entry) (list_all p (with rest key value)) first later

  all-without : (entries : Keyed A) (key : ℕ) → list_all p entries ≡ true → list_all p (without entries key) ≡ true
  all-without [] key all = refl
  all-without (entry ∷ rest) key all =
      let parts = and_parts (p entry) (list_all p rest) all in by_key (key == entry.0) parts.0 (all-without rest key parts.1)
    where
      by_key : (same : Bool) → p entry ≡ true → list_all p (without rest key) ≡ true → list_all p (kept_or_not same entry (without rest key)) ≡ true
      by_key true first later = later
      by_key false first later = and_from (p entry) (list_all p (without rest key)) first later

  all-at : (entries : Keyed A) (key : ℕ) (value : A) → list_all p entries ≡ true → at key entries ≡ Some value → p (key, value) ≡ true
  all-at [] key value all there = absurd (cc)
  all-at (entry ∷ rest) key value all there =
      let parts = and_parts (p entry) (list_all p rest) all in
      by_key (key == entry.0) refl there parts.0 (all-at rest key value parts.1)
    where
      by_key : (same : Bool) → (key == entry.0) ≡ same → here_or same entry.1 (at key rest) ≡ Some value → p entry ≡ true
          → (at key rest ≡ Some value → p (key, value) ≡ true) → p (key, value) ≡ true
      by_key true same there first later =
          let value_is : entry.1 ≡ value = cc in
          let key_is : key ≡ entry.0 = eqb-true key entry.0 same in
          let entry_is : (entry.0, entry.1) ≡ (key, value) = ap (λ (k : ℕ). (k, entry.1)) (sym key_is) ∙ ap (λ (v : A). (key, v)) value_is in
          subst (λ (e : ℕ × A). p e ≡ true) entry_is first
      by_key false same there first later = later there

-- What an operation on the tree makes of the opens: each is of a client that had one, or of the
-- caller

module _ (table : Table) where
  abbrev Known : Opens → Type 0
  Known opens = list_all (is_of_known table) opens.known ≡ true

  closed_known : (opens : Opens) (of : Found) → Known opens → Known (closed_by of opens)
  closed_known opens Anonymous known = known
  closed_known opens (Found.Refused reason) known = known
  closed_known opens (Names serial of) known = all-without (is_of_known table) opens.known serial known

  joined_known : (opens : Opens) (asked : Open) → Known opens → has_record table asked.client ≡ true → (joins : Option (ℕ × Open)) → open_like opens asked ≡ joins
      → Known (opened_by opens asked joins).opens
  joined_known opens asked known mine (Some entry) like =
      all-with (is_of_known table) opens.known entry.0 (upgraded asked.access entry.1) known
      (found_given (is_like asked) (is_of_known table) opens.known entry known like)
  joined_known opens asked known mine None like = all-with (is_of_known table) opens.known (opens.given + 1) asked known mine

  fewer_known : (opens : Opens) (keeps : ℕ × Open → Bool) → Known opens → list_all (is_of_known table) (filter keeps opens.known) ≡ true
  fewer_known opens keeps known = all-filter (is_of_known table) keeps opens.known known

  rename_known : (state : State) (now : ℕ) (arguments : RenameArguments) (same : Bool) → Known state.opens
      → Known (rename same state now arguments).state.opens
  rename_known state now arguments true known = known
  rename_known state now arguments false known = fewer_known state.opens _ known

  effect_known : (limits : Limits) (state : State) (now : ℕ) (operation : Argument) → Known state.opens → has_record table state.context.client ≡ true
      → Known (effect limits state now operation).state.opens
  unfolding effect opened
  effect_known limits state now (Argument.Open arguments) known mine =
      joined_known state.opens (asked_open state arguments) known mine (open_like state.opens (asked_open state arguments)) refl
  effect_known limits state now (Argument.Close arguments) known mine =
      closed_known state.opens (found state.opens state.context arguments.state) known
  effect_known limits state now (Argument.Remove name) known mine = fewer_known state.opens _ known
  effect_known limits state now (Argument.Rename arguments) known mine = rename_known state now arguments (is_same_name state.context arguments) known
  effect_known limits state now (Argument.SetAttr arguments) known mine = subst Known (sym (set_opens (sets arguments) state now arguments)) known
  effect_known limits state now (Argument.Write arguments) known mine = subst Known (sym (write_opens (has_bytes arguments) limits state now arguments)) known
  effect_known limits state now (Argument.Create (NewDirectory name given)) known mine = known
  effect_known limits state now (Argument.Create (OtherType number)) known mine = known
  effect_known limits state now operation known mine = known

  does_known : (limits : Limits) (state : State) (now : ℕ) (operation : Argument) → Known state.opens → has_record table state.context.client ≡ true
      → Known (does limits state now operation).state.opens
  does_known limits state now operation known mine = elim (does_cases limits state now operation) [
    | inl went ↦ subst (λ (s : Stepped). Known s.state.opens) (sym went.1) (effect_known limits state now operation known mine)
    | inr not_gone ↦ subst (λ (s : Stepped). Known s.state.opens) (sym not_gone.1) known
  ]

-- What holds between two events

pub record Living (world : World) : Type 0 where
  pub lives : Lives world.table world.opens
  pub requests : (number : ℕ) (request : InProgress) → at number world.connections ≡ Some (Busy request) → RunsInSession world.table request

-- no other request has begun than before
fewer_busy : (world : World) (connections : Keyed Connection) → Living world
    → ((number : ℕ) (request : InProgress) → at number connections ≡ Some (Busy request) → at number world.connections ≡ Some (Busy request))
    → Living (record world { connections = connections })
fewer_busy world connections living before = record {
  lives = living.lives;
  requests = λ number request is. living.requests number request (before number request is);
}

pub in_place : (connections : Keyed Connection) (here : ℕ) (new : Connection) → ((request : InProgress) → new ≡ Busy request → at here connections ≡ Some (Busy request))
    → (number : ℕ) (request : InProgress) → at number (with connections here new) ≡ Some (Busy request) → at number connections ≡ Some (Busy request)
in_place connections here new only number request is = elim (cases_eq number here) [
  | inl same ↦
      let there : at here (with connections here new) ≡ Some (Busy request) = ap (λ (n : ℕ). at n (with connections here new)) (sym same) ∙ is in
      ap (λ (n : ℕ). at n connections) same
      ∙ only request (some_connection new (Busy request) (sym (at-with_same connections here new) ∙ there))
  | inr apart ↦ sym (at-with_other connections here number new apart) ∙ is
]
  where
    some_connection : (a b : Connection) → Some a ≡ Some b → a ≡ b
    some_connection a b same = cc

-- One operation

-- the sessions that run stay, and a request that goes on runs in one
record Leaves (world : World) (outcome : Outcome) (after : World) (left : InProgress) : Type 0 where
  lives : Lives after.table after.opens
  connections : after.connections ≡ world.connections
  running : KeepsRunning world.table after.table
  more : is_done outcome ≡ true → is_last left ≡ false → RunsInSession after.table left
  slotted : is_some left.slot ≡ true → RunsInSession after.table left

noted : (altered : Bool) (world : World) (outcome : Outcome) (after : World) (left : InProgress) → Leaves world outcome after left
    → Leaves world outcome after (record left { altered = altered })
noted altered world outcome after left leaves = record {
  lives = leaves.lives;
  connections = leaves.connections;
  running = leaves.running;
  more = λ done last. runs_noted (leaves.more done last);
  slotted = λ some. runs_noted (leaves.slotted some);
}
  where
    runs_noted : RunsInSession after.table left → RunsInSession after.table (record left { altered = altered })
    runs_noted on = record { slot = on.slot; session = on.session; on = on.on; stands = on.stands; client = on.client }

abbrev HasLeft : World → HasRun → Type 0
HasLeft world (Gives outcome after left) = Leaves world outcome after left
HasLeft world (Replays result session slot) = Unit {0}

-- an operation that must be the only one is the last one, and all except a first operation run in a
-- session that runs
record Goes (world : World) (request : InProgress) (operation : Argument) : Type 0 where
  last : stands_alone (operation_of operation) ≡ true → is_last request ≡ true
  within : is_first (operation_of operation) ≡ false → RunsInSession world.table request

never : {A : Type 0} (b : Bool) → b ≡ true → b ≡ false → A
never b is other = absurd (true≢false (sym is ∙ other))

stays_same : (table : Table) → KeepsRunning table table
stays_same table id place session runs found = record { session = session; stands = found; client = refl }

stays_in : (old new : Table) (request : InProgress) → KeepsRunning old new → (on : RunsInSession old request)
    → is_slot_running on.slot.0 on.slot.1 old ≡ true → RunsInSession new request
stays_in old new request running on runs =
    let stays = running on.slot.0 on.slot.1 on.session runs on.stands in
    record { slot = on.slot; session = stays.session; on = on.on; stands = stays.stands; client = stays.client ∙ on.client }

module _ (limits : ServerLimits) (world : World) (held : Held limits world) (living : Living world) (request : InProgress)
    (runs : (on : RunsInSession world.table request) → is_slot_running on.slot.0 on.slot.1 world.table ≡ true)
    (mine : is_some request.slot ≡ true → RunsInSession world.table request) where
  one_each : (id : List ℕ) → size (is_session id) world.table.sessions ≤ 1
  one_each id = ids_differ limits.sessions world.table.session_serial world.table.sessions held.holds.1 id

  left_refused : (operation : ℕ) (reason : Status) → HasLeft world (refuses world request operation reason)
  left_refused operation reason =
      record { lives = living.lives; connections = refl; running = stays_same world.table; more = λ done last. never false done refl; slotted = mine }

  stays_mine : (table : Table) → KeepsRunning world.table table → is_some request.slot ≡ true → RunsInSession table request
  stays_mine table running some = stays_in world.table table request running (mine some) (runs (mine some))

  table_left : (outcome : Outcome) (table : Table) → Lives table world.opens → KeepsRunning world.table table
      → (is_last request ≡ false → RunsInSession table request) → Leaves world outcome (record world { table = table }) request
  table_left outcome table lives running on =
      record { lives = lives; connections = refl; running = running; more = λ done last. on last; slotted = stays_mine table running }

  exchanged_left : (r : Result ExchangeIdAnswer Status × Table) → is_last request ≡ true → Lives r.1 world.opens → KeepsRunning world.table r.1
      → HasLeft world (exchanged world request r)
  exchanged_left (Err reason, table) last lives running = table_left _ table lives running (never (is_last request) last)
  exchanged_left (Ok answer, table) last lives running = table_left _ table lives running (never (is_last request) last)

  created_left : (o : sessions.CreateSessionOutcome) (answer : Result CreateSessionAnswer Status) → is_last request ≡ true
      → Lives o.table (without_clients o.ended_clients world.opens) → KeepsRunning world.table o.table → HasLeft world (created_by world request o answer)
  created_left o (Err reason) last lives running = left_refused _ reason
  created_left o (Ok answer) last lives running =
      record { lives = lives; connections = refl; running = running; more = λ done more. never (is_last request) last more; slotted = stays_mine o.table running }

  tabled_left : (operation : ℕ) (answer : Answer) (r : Option Status × Table) → Lives r.1 world.opens → KeepsRunning world.table r.1
      → (is_last request ≡ false → RunsInSession r.1 request) → HasLeft world (tabled world request operation answer r)
  tabled_left operation answer (Some reason, table) lives running on = table_left _ table lives running on
  tabled_left operation answer (None, table) lives running on = table_left _ table lives running on

  reclaimed_left : RunsInSession world.table request → (refusal : Option Status) → HasLeft world (reclaimed world request refusal)
  reclaimed_left on None = table_left _ world.table living.lives (stays_same world.table) (λ more. on)
  reclaimed_left on (Some reason) = left_refused _ reason

  started_left : (arguments : SequenceArguments) (known : Option Session) → find (is_session arguments.session) world.table.sessions ≡ known
      → HasLeft world (started_in world request arguments known)
  started_left arguments None is = left_refused _ _
  started_left arguments (Some session) is =
      let uid = request.context.cred.uid in
      let stays = started_stays uid arguments world.table arguments.session session is in
      record {
        lives = started_lives uid arguments world.table world.opens living.lives;
        connections = refl;
        running = λ id place other on found. started_stays uid arguments world.table id other found;
        more = λ done last. record {
          slot = (arguments.session, arguments.slot);
          session = stays.session;
          on = refl;
          stands = stays.stands;
          client = stays.client;
        };
        slotted = λ some. record {
          slot = (arguments.session, arguments.slot);
          session = stays.session;
          on = refl;
          stands = stays.stands;
          client = stays.client;
        };
      }

  begun_left : (arguments : SequenceArguments) (b : sessions.Begun) → HasLeft world (begun world request arguments b)
  begun_left arguments (sessions.Refuses reason) = left_refused _ reason
  begun_left arguments (sessions.Replays reply) = tt
  begun_left arguments sessions.Runs = started_left arguments (find (is_session arguments.session) world.table.sessions) refl

  stepped_left : (now : ℕ) (operation : Argument) → RunsInSession world.table request
      → HasLeft world (stepped world request (does world.limits.volume (state_of world request) now operation))
  stepped_left now operation on =
      let law = every_step modes_keep_limits inheritance_keeps_limits world.limits.volume (state_of world request) now operation in
      let known : has_record world.table request.context.client ≡ true
      = ap (has_record world.table) (sym on.client)
      ∙ found_given (is_session on.slot.0) (λ (session : Session). has_record world.table session.client) world.table.sessions on.session
      living.lives.of_sessions on.stands in
      record {
        lives = record {
          of_opens = does_known world.table world.limits.volume (state_of world request) now operation living.lives.of_opens known;
          of_sessions = living.lives.of_sessions;
        };
        connections = refl;
        running = stays_same world.table;
        more = λ done last. record { slot = on.slot; session = on.session; on = on.on; stands = on.stands; client = on.client ∙ sym law.keeps_caller.1 };
        slotted = λ some. record { slot = on.slot; session = on.session; on = on.on; stands = on.stands; client = on.client ∙ sym law.keeps_caller.1 };
      }

  run_left : (now : ℕ) (operation : Argument) → Goes world request operation → HasLeft world (run world request now operation)
  unfolding run
  run_left now (Argument.ExchangeId arguments) goes =
      exchanged_left _ (goes.last refl)
      (exchange_lives world.limits.sessions world.opens request.context.cred.uid arguments world.table living.lives)
      (exchange_running world.limits.sessions world.opens request.context.cred.uid arguments world.table)
  run_left now (Argument.CreateSession arguments) goes =
      created_left (sessions.create_session world.limits.sessions request.context.cred.uid arguments world.table) _ (goes.last refl)
      (create_lives world.table one_each world.limits.sessions request.context.cred.uid arguments world.opens living.lives)
      (create_running world.table one_each world.limits.sessions request.context.cred.uid arguments)
  run_left now (Argument.DestroySession id) goes =
      tabled_left _ Answer.DestroySession _ (destroy_lives world.table one_each id world.opens living.lives)
      (destroy_running world.table one_each id) (never (is_last request) (goes.last refl))
  run_left now (Argument.DestroyClientId client) goes =
      tabled_left _ Answer.DestroyClientId _ (destroy_client_lives world.opens client world.table living.lives)
      (destroy_client_running world.opens client world.table) (never (is_last request) (goes.last refl))
  run_left now (Argument.Sequence arguments) goes = begun_left arguments _
  run_left now (Argument.ReclaimComplete true) goes = reclaimed_left (goes.within refl) _
  run_left now (Argument.ReclaimComplete false) goes =
      let on = goes.within refl in
      tabled_left _ Answer.ReclaimComplete _ (reclaim_lives world.opens request.context.client world.table living.lives)
      (reclaim_running world.opens request.context.client world.table)
      (λ more. stays_in world.table _ request (reclaim_running world.opens request.context.client world.table) on (runs on))
  run_left now _ goes = stepped_left now _ (goes.within refl)

-- A turn

-- the slot of a request that has begun runs
its_slot : (limits : ServerLimits) (world : World) → Held limits world → (number : ℕ) (request : InProgress)
    → at number world.connections ≡ Some (Busy request) → (slot : List ℕ × ℕ) → request.slot ≡ Some slot → is_slot_running slot.0 slot.1 world.table ≡ true
its_slot limits world held number request is slot on =
    held.law.runs slot.0 slot.1 number
    (ap (is_busy_on slot.0 slot.1) is
    ∙ (ap (λ (s : Option (List ℕ × ℕ)). is_on s slot.0 slot.1) on
    ∙ and_from (bytes_eq slot.0 slot.0) (slot.1 == slot.1) ((bytes_eq-Decides slot.0 slot.0).1 refl) (eq-eqb slot.1 slot.1 refl)))

module _ (limits : ServerLimits) (world : World) (held : Held limits world) (living : Living world) (here : ℕ) where
  -- a connection is put down; the sessions of the others stay
  put_down : (table : Table) (after : World) (new : Connection) → KeepsRunning world.table table
      → ((id : List ℕ) (session : Session) → find (is_session id) table.sessions ≡ Some session → StaysFor id session.client after.table)
      → after.connections ≡ with world.connections here new → Lives after.table after.opens
      → ((request : InProgress) → new ≡ Busy request → RunsInSession after.table request) → Living after
  put_down table after new running stays are lives mine = record {
    lives = lives;
    requests = λ number request is. by_place number request (ap (at number) (sym are) ∙ is) (cases_eq number here);
  }
    where
      some_connection : (a b : Connection) → Some a ≡ Some b → a ≡ b
      some_connection a b same = cc

      by_place : (number : ℕ) (request : InProgress) → at number (with world.connections here new) ≡ Some (Busy request) → (number ≡ here) ⊎ (number ≢ here)
          → RunsInSession after.table request
      by_place number request there (inl same) =
          mine request (some_connection new (Busy request)
          (sym (at-with_same world.connections here new) ∙ (ap (λ (n : ℕ). at n (with world.connections here new)) (sym same) ∙ there)))
      by_place number request there (inr apart) =
          let was : at number world.connections ≡ Some (Busy request) = sym (at-with_other world.connections here number new apart) ∙ there in
          let on = living.requests number request was in
          let first = running on.slot.0 on.slot.1 on.session (its_slot limits world held number request was on.slot on.on) on.stands in
          let then = stays on.slot.0 first.session first.stands in
          record { slot = on.slot; session = then.session; on = on.on; stands = then.stands; client = then.client ∙ (first.client ∙ on.client) }

  not_busy : (reply : List ℕ) (table : Table) (request : InProgress) → Replied reply ≡ Busy request → RunsInSession table request
  not_busy reply table request wrong = absurd (cc)

  busy_is : (a b : InProgress) → Busy a ≡ Busy b → a ≡ b
  busy_is a b same = cc

  replied : (reply : List ℕ) → Living (with_connection world here (Replied reply))
  replied reply =
      put_down world.table (with_connection world here (Replied reply)) (Replied reply) (stays_same world.table)
      (λ id session found. record { session = session; stands = found; client = refl }) refl living.lives (not_busy reply world.table)

  kept_lives : (slot : Option (List ℕ × ℕ)) (holds : Bool) (result : List ℕ) (table : Table) (opens : Opens) → Lives table opens → Lives (kept_by slot holds result table) opens
  kept_lives None holds result table opens lives = lives
  kept_lives (Some slot) holds result table opens lives = finish_lives slot.0 slot.1 holds result table opens lives

  kept_stays : (slot : Option (List ℕ × ℕ)) (holds : Bool) (result : List ℕ) (table : Table) (id : List ℕ) (session : Session) → find (is_session id) table.sessions ≡ Some session
      → StaysFor id session.client (kept_by slot holds result table)
  kept_stays None holds result table id session found = record { session = session; stands = found; client = refl }
  kept_stays (Some slot) holds result table id session found = finish_stays slot.0 slot.1 holds result table id session found

  module _ (outcome : Outcome) (after : World) (left : InProgress) (leaves : Leaves world outcome after left) where
    ended : (answered : ℕ) (results : List ℕ) (last : Status) (holds : Bool) (executed : Option Entry)
        → Living (ends after here (record left { answered = answered; results = results }) last holds executed).world
    ended answered results last holds executed =
        let result = result_of (record left { answered = answered; results = results }) last in
        let reply = framed (reply_text left.xid (Success result)) in
        put_down after.table (ends after here (record left { answered = answered; results = results }) last holds executed).world (Replied reply) leaves.running
        (kept_stays left.slot holds result after.table) (ap (λ (c : Keyed Connection). with c here (Replied reply)) leaves.connections)
        (kept_lives left.slot holds result after.table after.opens leaves.lives)
        (not_busy reply (kept_by left.slot holds result after.table))

    gone_on : RunsInSession after.table left → (status : Option Status) → (executed : Option Entry)
        → Living (goes_on after here (record (with_result left outcome) { ended = status }) executed).world
    gone_on on status executed =
        let new : InProgress = record (with_result left outcome) { ended = status } in
        put_down after.table (goes_on after here new executed).world (Busy new) leaves.running
        (λ id session found. record { session = session; stands = found; client = refl })
        (ap (λ (c : Keyed Connection). with c here (Busy new)) leaves.connections) leaves.lives
        (λ request is. subst (RunsInSession after.table) (busy_is new request is)
        (record { slot = on.slot; session = on.session; on = on.on; stands = on.stands; client = on.client }))

    closed : (last : Status) (executed : Option Entry) → Living (closes after here (with_result left outcome) last executed).world
    closed last executed =
        either (λ (t : Turned). Living t.world) (is_to_hold left after.table) _ _
        (λ seated. gone_on (leaves.slotted (some_slot left.slot (and_parts (holds_reply after.table.settings.holding left.altered) (is_seated left.slot after.table.seats) seated).1)) (Some last) executed)
        (λ none. ended (with_result left outcome).answered (with_result left outcome).results last false executed)
      where
        some_slot : (slot : Option (List ℕ × ℕ)) → is_seated slot after.table.seats ≡ true → is_some slot ≡ true
        some_slot None seated = seated
        some_slot (Some slot) seated = refl

  went : (outcome : Outcome) (after : World) (left : InProgress) → Leaves world outcome after left → (executed : Option Entry)
      → Living (behind after here left outcome executed).world
  went (Refused operation reason) after left leaves executed = closed (Refused operation reason) after left leaves reason executed
  went (Done answer) after left leaves executed =
      either (λ (t : Turned). Living t.world) (is_last left) _ _
      (λ last. closed (Done answer) after left leaves status.Ok executed)
      (λ more. gone_on (Done answer) after left leaves (leaves.more refl more) left.ended executed)

  refused_here : (request : InProgress) (operation : ℕ) (reason : Status) → (is_some request.slot ≡ true → RunsInSession world.table request)
      → Leaves world (Refused operation reason) world request
  refused_here request operation reason mine =
      record { lives = living.lives; connections = refl; running = stays_same world.table; more = λ done last. never false done refl; slotted = mine }

  -- a request that has a slot runs in a session
  its_session : (request : InProgress) → GoesWith world here request → is_some request.slot ≡ true → RunsInSession world.table request
  its_session request (Begun _ is) some = living.requests here request is
  its_session _ (New bytes xid cred compound waits few) some = absurd (true≢false (sym some))

  read_session : (request : InProgress) (rest : List ℕ) → GoesWith world here request → is_some (read_of request rest).slot ≡ true → RunsInSession world.table (read_of request rest)
  read_session request rest goes some =
      let on = its_session request goes some in
      record { slot = on.slot; session = on.session; on = on.on; stands = on.stands; client = on.client }

  -- a request that has begun runs in a session
  goes_so : (request : InProgress) (operation : Argument) (rest : List ℕ) → GoesWith world here request → next_operation request ≡ Reads operation rest
      → Goes world (read_of request rest) operation
  goes_so request operation rest (Begun _ is) reads = record {
    last = λ alone. absurd (omega (arith, held.begun here request is, first_read request operation rest reads (or_left (stands_alone (operation_of operation)) (is_sequence (operation_of operation)) alone)));
    within = λ later. let on = living.requests here request is in
        record { slot = on.slot; session = on.session; on = on.on; stands = on.stands; client = on.client };
  }
  goes_so _ operation rest (New bytes xid cred compound waits some) reads =
      let first = alone_read (in_progress world xid cred compound) operation rest reads refl in
      record {
        last = λ alone. is_one compound.count some (ap (λ b. b && nat_lt 1 compound.count) (sym alone) ∙ first.1);
        within = λ later. never (is_first (operation_of operation)) first.0 later;
      }
    where
      is_one : (count : ℕ) → count ≢ 0 → nat_lt 1 count ≡ false → (1 == count) ≡ true
      is_one count some few = let most = ltb-false 1 count few in eq-eqb 1 count (omega arith)

  its_running : (request : InProgress) (rest : List ℕ) → GoesWith world here request → (on : RunsInSession world.table (read_of request rest))
      → is_slot_running on.slot.0 on.slot.1 world.table ≡ true
  its_running request rest (Begun _ is) on = its_slot limits world held here request is on.slot on.on
  its_running _ rest (New bytes xid cred compound waits some) on = absurd (none on.slot on.on)
    where
      none : (slot : List ℕ × ℕ) → None ≡ Some slot → ⊥
      none slot same = cc

  turned : (now : ℕ) (t : Turned) → IsTurn world here now t → Living t.world
  turned now _ Idles = living
  turned now _ (Says bytes xid reply waits) = replied (framed (reply_text xid reply))
  turned now _ (Closes request last there is) =
      ended (Refused 0 status.Ok) world request (refused_here request 0 status.Ok (λ some. living.requests here request there)) request.answered request.results last true None
  turned now _ (Unread request operation reason goes) =
      went (Refused operation reason) world request (refused_here request operation reason (its_session request goes)) None
  turned now _ (TooBig request operation rest goes reads) =
      went (Refused (operation_of operation) status.RepTooBig) world (noting world world operation (read_of request rest))
      (noted _ world _ world (read_of request rest) (refused_here (read_of request rest) (operation_of operation) status.RepTooBig (read_session request rest goes)))
      (Some (executed_entry world (read_of request rest) operation (Refused (operation_of operation) status.RepTooBig) world))
  turned now _ (Gave request operation rest outcome after left goes reads is) =
      went outcome after (noting world after operation left)
      (noted _ world outcome after left (subst (HasLeft world) is (run_left limits world held living (read_of request rest) (its_running request rest goes) (read_session request rest goes) now operation
      (goes_so request operation rest goes reads))))
      (Some (executed_entry world (read_of request rest) operation outcome after))
  turned now _ (Repeats request operation rest result session slot goes reads is) = replied (framed (reply_text request.xid (Success result)))

  one_living : (now : ℕ) → Living (one world here now).world
  one_living now = turned now (one world here now) (turn_is world here now)

  -- The other events

  changed_living : (change : Connection → Connection) → ((c : Connection) (request : InProgress) → change c ≡ Busy request → c ≡ Busy request)
      → (connection : Option Connection) → at here world.connections ≡ connection → Living (connection_changed world here change connection)
  changed_living change only None is = living
  changed_living change only (Some connection) is =
      fewer_busy world (with world.connections here (change connection)) living
      (in_place world.connections here (change connection) (λ request busy. is ∙ ap (λ (c : Connection). Some c) (only connection request busy)))

  connected : Living (with_connection world here (Quiet []))
  connected =
      fewer_busy world (with world.connections here (Quiet [])) living
      (in_place world.connections here (Quiet []) (λ request wrong. absurd (quiet request wrong)))
    where
      quiet : (request : InProgress) → Quiet [] ≡ Busy request → ⊥
      quiet request same = cc

  dropped : Living (without_connection world here)
  dropped = fewer_busy world (without world.connections here) living (λ number request is. elim (cases_eq number here) [
    | inl same ↦ absurd (gone request
        (sym (at-without_same world.connections here) ∙ (ap (λ (n : ℕ). at n (without world.connections here)) (sym same) ∙ is)))
    | inr apart ↦ sym (at-without_other world.connections here number apart) ∙ is
  ])
    where
      gone : (request : InProgress) → None ≡ Some (Busy request) → ⊥
      gone request same = cc

event_living : (limits : ServerLimits) (world : World) (event : Event) → Held limits world → Living world → Living (effect_of world event)
unfolding arrives takes connects hangs_up
event_living limits world (Arrives connection piece) held living =
    changed_living limits world held living connection (arrives_at world.limits.records piece) (arrival_only world.limits.records piece)
    (at connection world.connections) refl
event_living limits world (Turns connection now) held living = one_living limits world held living connection now
event_living limits world (HangsUp connection) held living =
    either Living (is_busy (at connection world.connections)) _ _ (λ busy. living) (λ idle. dropped limits world held living connection)
event_living limits world (Connects connection) held living =
    either Living (can_connect world connection) _ _ (λ free. connected limits world held living connection) (λ full. living)
event_living limits world (Takes connection) held living =
    changed_living limits world held living connection without_reply taking_only (at connection world.connections) refl

-- A run

mounted_living : (limits : ServerLimits) (run : ℕ) (start : Tree) (seats : Seats) → Living (mounted_world limits run start seats)
mounted_living limits run start seats = record {
  lives = record { of_opens = refl; of_sessions = refl };
  requests = λ number request is. absurd (nothing request is);
}
  where
    nothing : (request : InProgress) → None ≡ Some (Busy request) → ⊥
    nothing request same = cc

run_living : (limits : ServerLimits) (run : ℕ) (start : Tree) (seats : Seats) (serving : Serving) (history : RunHistory) → IsRun (mounted limits run start seats) serving history
    → Living serving.world
run_living limits run start seats serving history Begins = mounted_living limits run start seats
run_living limits run start seats serving history (Goes_on {old = old} {new = new} {history = earlier} event is_run happens) =
    subst Living (sym happens.world)
    (event_living limits old.world event (run_held limits run start seats old earlier is_run) (run_living limits run start seats old earlier is_run))
run_living limits run start seats serving history (Fails_at {old = old} {new = new} {history = earlier} event is_run fails) =
    subst Living (sym fails.world) (run_living limits run start seats old earlier is_run)
run_living limits run start seats serving history (Stays_down {old = old} {new = new} {history = earlier} connection is_run stays) =
    subst Living (sym stays.world)
    (event_living limits old.world (Takes connection) (run_held limits run start seats old earlier is_run) (run_living limits run start seats old earlier is_run))
run_living limits run start seats serving history (Flushed {old = old} {new = new} is_run flushes) =
    subst Living (sym flushes.world) (run_living limits run start seats old history is_run)

pub every_open_has_client : EveryOpenHasClient
every_open_has_client limits run start seats serving history is_run =
    let living = run_living limits run start seats serving history is_run in
    record {
      opens = λ serial known there.
          all_at_known serving.world.table serving.world.opens serial known living.lives.of_opens there;
      sessions = living.lives.of_sessions;
      requests = living.requests;
    }
  where
    all_at_known : (table : Table) (opens : Opens) (serial : ℕ) (known : Open) → Known table opens → at serial opens.known ≡ Some known
        → has_record table known.client ≡ true
    all_at_known table opens serial known all there = all-at (is_of_known table) opens.known serial known all there
