-- What slots keep stays bounded.
use Rattle.std.proofs.Common.{◌≡◌, ◌≢◌, ◌⊎◌, inl, inr, ℕ, zero, suc, ◌+◌, ◌≤◌, Bool, true, false, not, cond, ◌==◌, nat_lt, List, [], ◌∷◌, ◌++◌, if◌then◌else◌, length, set, replicate, Option, None, Some, Result, Ok, Err, refl, sym, ap, ◌∙◌, subst, arith, find, length-append, leb-true, le-leb, ltb-false}
use Rattle.std.proofs.lemmas.Bool.{and_parts, and_from, cases_eq}
use Rattle.std.proofs.lemmas.Grind.{common_steps}
use Rattle.std.specs.List.{list_all}
use Rattle.std.specs.Int.{w32}
use Rattle.std.proofs.lemmas.Option.{same_Some}
use Rattle.xdr.specs.declared.refusal.Refusal.{Refusal}
use Rattle.xdr.specs.declared.refusal.Refusal.TheVariants.{Long}
use Rattle.xdr.specs.Grammar.{number, number_at, unsigned_int, ◌>>=◌, ◌&◌}
use Rattle.xdr.specs.Forms.{counted, counted_at, padded_at}
use Rattle.xdr.proofs.Sizes.{counted_length}
use Rattle.xdr.proofs.Steps.{bind_ok, guard_ok, ok_is}
use Rattle.xdr.proofs.Reading.{padded_len}
use Rattle.xdr.proofs.Numbers.{length-number_32}
use Rattle.model_tree.specs.Seats.Seats.{has_seat}
use Rattle.model_tree.specs.declared.acl.Cred.{Cred}
use Rattle.model_tree.specs.declared.status.Status.{Status}
use Rattle.model_tree.specs.declared.status.Status.TheVariants as status
use Rattle.model.specs.Operations.Answer.{Answer, Outcome, Done, Refused, ExchangeIdAnswer, CreateSessionAnswer}
use Rattle.model_tree.specs.Trees.Keyed.{Keyed, at, with}
use Rattle.model.specs.Operations.Operation.{Argument, SequenceArguments, CreateSessionArguments, operation_of}
use Rattle.model.specs.Wire.Record.{Prefix, Partial, Whole}
use Rattle.model.specs.Wire.Record as marks
use Rattle.model_tree.specs.Refusals.Refusal.{first_refusal}
use Rattle.model.specs.Wire.Rpc.{CallRead, NoCall, OtherVersion, Calls, Call, VersionRefused, read_call, is_call_read, Request, Answers, Runs, request_of, by_head, by_cred, compound_head, cred_of, is_empty, Success, reply_text, compound_text}
use Rattle.model.specs.Sessions.Session as sessions
use Rattle.model.specs.Sessions.Session.{SessionLimits, Client, Slot, Session, Table, no_slot, slot_at, is_session, is_client, destroy_by, destroy_session, create_session, create_by, create_again, create_unless, create_refusals, CreateSessionOutcome, is_of_clients, replaced_by, staying, next_number, new_session, with_slot, started, finish, is_running}
use Rattle.model.specs.Sessions.StateIds.{has_opens}
use Rattle.model_tree.specs.Refusals.Status.{code_of}
use Rattle.model.specs.Wire.WireAnswers.{behind_refusal}
use Rattle.model.specs.Server.World.{ServerLimits, InProgress, Connection, Quiet, Waiting, Busy, Replied, Closed, World, Entry, HasRun, Gives, Replays, Next, Refuses, Reads, Turned, next_operation, exchanged, created_by, tabled, started_in, begun, reclaimed, run, outcome_text, reply_with, has_room, in_room, status_of, with_result, result_of, kept_by, ends, goes_on, behind, has_run, operates, in_progress, requested, called, turned, with_connection, executed_entry, refuses, one, arrived, arrives_at, connection_changed, arrives, without_reply, takes, can_connect, connects, is_busy, without_connection, hangs_up, operations_left, turns, hung_up, is_last, further, closes, is_to_hold, noting}
use Rattle.model.specs.Sessions.KeptReplies.{reply_so_far, max_kept, is_short_state, keeps_short, IsShort, HasReplyRoom, KeepsShort, IsShortSoFar}
use Rattle.model_tree.proofs.Trees.KeyedLaws.{at-with_same, at-with_other, at-without_same, at-without_other}
use Rattle.model.proofs.Sessions.SlotLaw.{exchange_same, destroy_client_same, reclaim_same}
use Rattle.model.proofs.Sessions.TableLaws.{all-filter, all-append, all-map}
use Rattle.model.proofs.Sessions.TableCalls.{either}
use Rattle.model.proofs.Sessions.SlotsHeld.{busy_request}

-- Sessions

all-set : {A : Type 0} (p : A → Bool) (xs : List A) (place : ℕ) (y : A) → list_all p xs ≡ true → p y ≡ true → list_all p (set xs place y) ≡ true
all-set p [] place y all here = refl
all-set p (x ∷ xs) zero y all here = let parts = and_parts (p x) (list_all p xs) all in and_from (p y) (list_all p xs) here parts.1
all-set p (x ∷ xs) (suc place) y all here =
    let parts = and_parts (p x) (list_all p xs) all in
    and_from (p x) (list_all p (set xs place y)) parts.0 (all-set p xs place y parts.1 here)

all-replicate : {A : Type 0} (p : A → Bool) (count : ℕ) (x : A) → p x ≡ true → list_all p (replicate count x) ≡ true
all-replicate p zero x is = refl
all-replicate p (suc count) x is = and_from (p x) (list_all p (replicate count x)) is (all-replicate p count x is)

module _ (most : ℕ) where
  abbrev pub AllShort : List Session → Type 0
  AllShort all = list_all (keeps_short most) all ≡ true

  slotted_short : (id : List ℕ) (place : ℕ) (slot : Session → Slot) → ((s : Session) → is_short_state most (slot s).state ≡ true) → (all : List Session)
      → AllShort all → AllShort (sessions.changed_where (is_session id) (λ s. with_slot place (slot s) s) all)
  slotted_short id place slot short all is =
      all-map (keeps_short most) (λ s. cond (is_session id s) (with_slot place (slot s) s) s) all (λ s. by_test s (is_session id s)) is
    where
      by_test : (s : Session) (b : Bool) → keeps_short most s ≡ true → keeps_short most (cond b (with_slot place (slot s) s) s) ≡ true
      by_test s true kept = all-set (λ slot. is_short_state most slot.state) s.slots place (slot s) kept (short s)
      by_test s false kept = kept

  created_short : (limits : SessionLimits) (arguments : CreateSessionArguments) (client : Client) (table : Table) (first : Option Status)
      → AllShort table.sessions → AllShort (create_unless limits arguments client table first).table.sessions
  created_short limits arguments client table (Some reason) is = is
  created_short limits arguments client table None is =
      all-append (keeps_short most) (staying client table) (new_session limits arguments client table)
      (all-filter (keeps_short most) (λ x. not (is_of_clients (replaced_by client table) x)) table.sessions is)
      (all-replicate (λ slot. is_short_state most slot.state) ((sessions.fore_channel (sessions.limits_for limits (sessions.persists arguments client table)) arguments.fore).max_requests) no_slot refl)

  abbrev ShortOutcome : CreateSessionOutcome → Type 0
  ShortOutcome o = AllShort o.table.sessions

  create_short : (limits : SessionLimits) (uid : ℕ) (arguments : CreateSessionArguments) (table : Table) (known : Option Client) → AllShort table.sessions
      → AllShort (create_by limits uid arguments table known).table.sessions
  create_short limits uid arguments table None is = is
  create_short limits uid arguments table (Some client) is =
      either ShortOutcome (client.principal == uid) _ _ (λ own. again client.kept) (λ other. is)
    where
      again : (kept : Option CreateSessionAnswer) → ShortOutcome (create_again limits arguments client table kept)
      again None = created_short limits arguments client table (first_refusal (create_refusals limits arguments client table)) is
      again (Some answer) =
          either ShortOutcome (next_number arguments.sequence == client.sequence) _ _
          (λ same. is)
          (λ other. created_short limits arguments client table (first_refusal (create_refusals limits arguments client table)) is)

  destroy_short : (id : List ℕ) (table : Table) (known : Option Session) → AllShort table.sessions → AllShort (destroy_by id table known).1.sessions
  destroy_short id table None is =
      either (λ (r : Option Status × Table). AllShort r.1.sessions) (has_seat id table.seats) _ _ (λ seated. is) (λ none. is)
  destroy_short id table (Some session) is =
      either (λ (r : Option Status × Table). AllShort r.1.sessions) (is_running session) _ _
      (λ runs. is)
      (λ rests. all-filter (keeps_short most) (λ x. not (is_session id x)) table.sessions is)

-- Lengths

-- a reply's record with these results, without its header
abbrev weight : InProgress → ℕ
weight request = 32 + length (counted request.tag) + length request.results

reply_length : (xid : ℕ) (last : Status) (tag : List ℕ) (count : ℕ) (results : List ℕ)
    → length (reply_text xid (Success (compound_text last tag count results))) ≡ 32 + length (counted tag) + length results
unfolding reply_text compound_text number
reply_length xid last tag count results = grind (arith, common_steps)

result_length : (last : Status) (tag : List ℕ) (count : ℕ) (results : List ℕ)
    → length (compound_text last tag count results) ≡ 8 + length (counted tag) + length results
unfolding compound_text number
result_length last tag count results = grind (arith, common_steps)

so_far : (request : InProgress) → length (reply_so_far request) ≡ weight request
so_far request = reply_length request.xid status.Ok request.tag request.answered request.results

with_length : (request : InProgress) (outcome : Outcome) → length (with_result request outcome).results ≡ length request.results + length (outcome_text outcome)
with_length request outcome = length-append request.results (outcome_text outcome)

reply_with_length : (request : InProgress) (outcome : Outcome) → length (reply_with request outcome) ≡ weight request + length (outcome_text outcome)
reply_with_length request outcome =
    let whole = reply_length request.xid (status_of outcome) request.tag (request.answered + 1) (request.results ++ outcome_text outcome) in
    omega (arith, whole, with_length request outcome)

pub refused_length : (operation : ℕ) (reason : Status) → length (outcome_text (Refused operation reason)) ≤ 12
unfolding outcome_text number
refused_length operation reason = by_operation (behind_refusal operation) (behind operation)
  where
    behind : (operation : ℕ) → length (behind_refusal operation) ≤ 4
    behind operation = grind (arith, common_steps, length-number_32 0)

    by_operation : (text : List ℕ) → length text ≤ 4
        → length (number w32 operation ++ (number w32 (code_of reason) ++ text)) ≤ 12
    by_operation text short =
        omega (
          arith,
          short,
          length-append (number w32 operation) (number w32 (code_of reason) ++ text),
          length-append (number w32 (code_of reason)) text,
          length-number_32 operation,
          length-number_32 (code_of reason),
        )

-- the tag of a request

abbrev TagFits : Request → Type 0
TagFits (Answers reply) = Unit {0}
TagFits (Runs cred compound) = length compound.tag ≤ 255

tag_at : (bytes : List ℕ) (tag : List ℕ × List ℕ) → counted_at 255 bytes ≡ Ok tag → length tag.0 ≤ 255
unfolding counted_at
tag_at bytes tag read =
    let q = bind_ok (number_at w32 bytes) (λ n. if nat_lt 255 n.0 then Err Long else padded_at n.0 n.1) tag read in
    let r = guard_ok (nat_lt 255 q.0.0) Long (padded_at q.0.0 q.0.1) tag q.2 in
    omega (arith, padded_len q.0.0 q.0.1 tag.0 tag.1 r.1, ltb-false 255 q.0.0 r.0)

abbrev Head : Type 0
Head = (List ℕ × (ℕ × ℕ)) × List ℕ

head_tag : (bytes : List ℕ) (head : Head) → compound_head.read bytes ≡ Ok head → length head.0.0 ≤ 255
head_tag bytes head read =
    let p = bind_ok (counted_at 255 bytes) (λ x. (unsigned_int & unsigned_int).read x.1 >>= λ y. Ok ((x.0, y.0), y.1)) head read in
    let q = bind_ok ((unsigned_int & unsigned_int).read p.0.1) (λ y. Ok ((p.0.0, y.0), y.1)) head p.2 in
    let made : Head = ((p.0.0, q.0.0), q.0.1) in
    let same : made ≡ head = ok_is made head q.2 in
    subst (λ (h : Head). length h.0.0 ≤ 255) same (tag_at bytes p.0 p.1)

by_head_fits : (cred : Cred) (bytes : List ℕ) (read : Result Head Refusal) → compound_head.read bytes ≡ read → TagFits (by_head cred read)
by_head_fits cred bytes (Err fault) is = tt
by_head_fits cred bytes (Ok head) is =
    either TagFits (not (head.0.1.0 == 1)) _ _
    (λ other. tt)
    (λ minor. either TagFits (not (head.0.1.1 == 0)) _ _
    (λ some. head_tag bytes head is)
    (λ none. either TagFits (is_empty head.1) _ _ (λ empty. tt) (λ more. tt)))

by_cred_fits : (call : Call) (cred : Option Cred) → TagFits (by_cred call cred)
by_cred_fits call None = tt
by_cred_fits call (Some cred) = by_head_fits cred call.body (compound_head.read call.body) refl

request_fits : (call : Call) → TagFits (request_of call)
unfolding request_of
request_fits call =
    either TagFits (not (call.program == 100003)) _ _ (λ other. tt)
    (λ program. either TagFits (not (call.version == 4)) _ _ (λ other. tt)
    (λ version. either TagFits (call.procedure == 0) _ _
    (λ null. either TagFits (is_empty call.body) _ _ (λ empty. tt) (λ more. tt))
    (λ further. either TagFits (call.procedure == 1) _ _
    (λ compound. either TagFits (call.flavour == 0) _ _ (λ weak. tt)
    (λ strong. either TagFits (call.flavour == 1) _ _ (λ system. by_cred_fits call (cred_of call.credential)) (λ other. tt)))
    (λ other. tt))))

-- What an operation leaves

pub record Leaves (world : World) (request : InProgress) (after : World) (left : InProgress) : Type 0 where
  pub limits : after.limits ≡ world.limits
  pub connections : after.connections ≡ world.connections
  pub short : AllShort (max_kept world.limits) after.table.sessions
  pub tag : left.tag ≡ request.tag
  pub results : left.results ≡ request.results
  pub ended : left.ended ≡ request.ended

noted : (altered : Bool) (world : World) (request : InProgress) (after : World) (left : InProgress) → Leaves world request after left
    → Leaves world request after (record left { altered = altered })
noted altered world request after left leaves = record {
  limits = leaves.limits;
  connections = leaves.connections;
  short = leaves.short;
  tag = leaves.tag;
  results = leaves.results;
  ended = leaves.ended;
}

abbrev HasLeft : World → InProgress → HasRun → Type 0
HasLeft world request (Gives outcome after left) = Leaves world request after left
HasLeft world request (Replays result session slot) = Unit {0}

module _ (world : World) (request : InProgress) (short : AllShort (max_kept world.limits) world.table.sessions) where
  leaves_same : Leaves world request world request
  leaves_same = record { limits = refl; connections = refl; short = short; tag = refl; results = refl; ended = refl }

  leaves_table : (table : Table) → AllShort (max_kept world.limits) table.sessions → Leaves world request (record world { table = table }) request
  leaves_table table is = record { limits = refl; connections = refl; short = is; tag = refl; results = refl; ended = refl }

  exchanged_leaves : (r : Result ExchangeIdAnswer Status × Table) → AllShort (max_kept world.limits) r.1.sessions → HasLeft world request (exchanged world request r)
  exchanged_leaves (Err reason, table) is = leaves_table table is
  exchanged_leaves (Ok answer, table) is = leaves_table table is

  created_leaves : (o : CreateSessionOutcome) (answer : Result CreateSessionAnswer Status) → AllShort (max_kept world.limits) o.table.sessions
      → HasLeft world request (created_by world request o answer)
  created_leaves o (Err reason) is = leaves_same
  created_leaves o (Ok answer) is = record { limits = refl; connections = refl; short = is; tag = refl; results = refl; ended = refl }

  tabled_leaves : (operation : ℕ) (answer : Answer) (r : Option Status × Table) → AllShort (max_kept world.limits) r.1.sessions
      → HasLeft world request (tabled world request operation answer r)
  tabled_leaves operation answer (Some reason, table) is = leaves_table table is
  tabled_leaves operation answer (None, table) is = leaves_table table is

  begun_leaves : (arguments : SequenceArguments) (b : sessions.Begun) → HasLeft world request (begun world request arguments b)
  unfolding started
  begun_leaves arguments (sessions.Refuses reason) = leaves_same
  begun_leaves arguments (sessions.Replays reply) = tt
  begun_leaves arguments sessions.Runs = by_session (find (is_session arguments.session) world.table.sessions)
    where
      started_short : AllShort (max_kept world.limits) (started request.context.cred.uid arguments world.table).sessions
      started_short = slotted_short (max_kept world.limits) arguments.session arguments.slot
          (λ _. record { last = arguments.sequence; uid = request.context.cred.uid; state = sessions.Running }) (λ s. refl) world.table.sessions short

      by_session : (known : Option Session) → HasLeft world request (started_in world request arguments known)
      by_session None = leaves_same
      by_session (Some session) = record { limits = refl; connections = refl; short = started_short; tag = refl; results = refl; ended = refl }

  reclaimed_leaves : (refusal : Option Status) → HasLeft world request (reclaimed world request refusal)
  reclaimed_leaves None = leaves_same
  reclaimed_leaves (Some reason) = leaves_same

  run_leaves : (now : ℕ) (operation : Argument) → HasLeft world request (run world request now operation)
  unfolding run create_session destroy_session started
  run_leaves now (Argument.ExchangeId arguments) = exchanged_leaves _ (ap (list_all (keeps_short (max_kept world.limits))) (exchange_same world.limits.sessions (has_opens world.opens) request.context.cred.uid arguments world.table).sessions ∙ short)
  run_leaves now (Argument.CreateSession arguments) =
      created_leaves (sessions.create_session world.limits.sessions request.context.cred.uid arguments world.table) _ (create_short (max_kept world.limits) world.limits.sessions request.context.cred.uid arguments world.table (find (is_client arguments.client) world.table.clients) short)
  run_leaves now (Argument.DestroySession id) =
      tabled_leaves 44 Answer.DestroySession _ (destroy_short (max_kept world.limits) id world.table (find (is_session id) world.table.sessions) short)
  run_leaves now (Argument.DestroyClientId client) =
      tabled_leaves 57 Answer.DestroyClientId _ (ap (list_all (keeps_short (max_kept world.limits))) (destroy_client_same (has_opens world.opens) client world.table).sessions ∙ short)
  run_leaves now (Argument.Sequence arguments) = begun_leaves arguments _
  run_leaves now (Argument.ReclaimComplete true) = reclaimed_leaves _
  run_leaves now (Argument.ReclaimComplete false) =
      tabled_leaves 58 Answer.ReclaimComplete _ (ap (list_all (keeps_short (max_kept world.limits))) (reclaim_same request.context.client world.table).sessions ∙ short)
  run_leaves now operation = record { limits = refl; connections = refl; short = short; tag = refl; results = refl; ended = refl }

-- A turn

-- the world is short, and its limits are these
pub record Bounded (limits : ServerLimits) (world : World) : Type 0 where
  pub short : IsShort world
  pub same : world.limits ≡ limits

-- a connection that is put down in place of another
put_down : (limits : ServerLimits) (connections : Keyed Connection) (here : ℕ) (new : Connection) (world : World) → world.limits ≡ limits
    → world.connections ≡ with connections here new → AllShort (max_kept limits) world.table.sessions
    → ((other : ℕ) (request : InProgress) → at other connections ≡ Some (Busy request) → IsShortSoFar limits request request.ended)
    → ((request : InProgress) → new ≡ Busy request → IsShortSoFar limits request request.ended) → Bounded limits world
put_down limits connections here new world limits_are are short others mine = record {
  same = limits_are;
  short = record {
    kept = subst (λ (l : ServerLimits). AllShort (max_kept l) world.table.sessions) (sym limits_are) short;
    busy = λ other request busy.
        let there : at other (with connections here new) ≡ Some (Busy request) = ap (at other) (sym are) ∙ busy in
        subst (λ (l : ServerLimits). IsShortSoFar l request request.ended) (sym limits_are) (by_place other request there (cases_eq other here));
  };
}
  where
    by_place : (other : ℕ) (request : InProgress) → at other (with connections here new) ≡ Some (Busy request) → (other ≡ here) ⊎ (other ≢ here)
        → IsShortSoFar limits request request.ended
    by_place other request there (inl same) =
        mine request (same_Some new (Busy request)
        (sym (at-with_same connections here new) ∙ (ap (λ (n : ℕ). at n (with connections here new)) (sym same) ∙ there)))
    by_place other request there (inr differs) = others other request (sym (at-with_other connections here other new differs) ∙ there)

-- the requests of a short world are light
light_in : (world : World) → IsShort world → (other : ℕ) (request : InProgress) → at other world.connections ≡ Some (Busy request)
    → IsShortSoFar world.limits request request.ended
light_in world short other request busy = short.busy other request busy

-- of one that has operations left, its weight; and the other way round
its_weight : (limits : ServerLimits) (request : InProgress) → request.ended ≡ None → IsShortSoFar limits request request.ended → weight request ≤ limits.reply_bytes
its_weight limits request none short =
    let so : length (reply_so_far request) ≤ limits.reply_bytes = subst (IsShortSoFar limits request) none short in
    omega (arith, so_far request, so)

weighs : (limits : ServerLimits) (request : InProgress) → request.ended ≡ None → weight request ≤ limits.reply_bytes → IsShortSoFar limits request request.ended
weighs limits request none light =
    let so : length (reply_so_far request) ≤ limits.reply_bytes = omega (arith, so_far request, light) in
    subst (IsShortSoFar limits request) (sym none) so

module _ (world : World) (short : IsShort world) (here : ℕ) where
  abbrev limits : ServerLimits
  limits = world.limits

  -- the reply is there
  replied : (reply : List ℕ) (after : World) → after.limits ≡ limits → after.connections ≡ with world.connections here (Replied reply)
      → AllShort (max_kept limits) after.table.sessions → Bounded limits after
  replied reply after same are kept =
      put_down limits world.connections here (Replied reply) after same are kept (light_in world short) (λ request wrong. absurd (never request wrong))
    where
      never : (request : InProgress) → Replied reply ≡ Busy request → ⊥
      never request wrong = cc

  kept_short : (slot : Option (List ℕ × ℕ)) (holds : Bool) (result : List ℕ) (table : Table) → length result ≤ max_kept limits → AllShort (max_kept limits) table.sessions
      → AllShort (max_kept limits) (kept_by slot holds result table).sessions
  unfolding finish
  kept_short None holds result table fits kept = kept
  kept_short (Some slot) holds result table fits kept =
      slotted_short (max_kept limits) slot.0 slot.1 (λ s. record (slot_at s slot.1) { state = sessions.Kept result })
      (λ s. le-leb (length result) (max_kept limits) fits) table.sessions kept

  module _ (request : InProgress) (after : World) (left : InProgress) (leaves : Leaves world request after left) (light : weight request ≤ limits.reply_bytes)
      (goes : request.ended ≡ None) where
    same_weight : weight left ≡ weight request
    same_weight = ap (λ (tag : List ℕ). 32 + length (counted tag) + length left.results) leaves.tag
        ∙ ap (λ (results : List ℕ). 32 + length (counted request.tag) + length results) leaves.results

    ended : (outcome : Outcome) (last : Status) → weight request + length (outcome_text outcome) ≤ limits.reply_bytes + 12
        → Bounded limits (ends after here (with_result left outcome) last false None).world
    ended outcome last fits =
        let size = result_length last left.tag (left.answered + 1) (left.results ++ outcome_text outcome) in
        let most : length (result_of (with_result left outcome) last) ≤ max_kept limits =
        omega (arith, size, with_length left outcome, same_weight, fits) in
        replied (marks.framed (reply_text left.xid (Success (result_of (with_result left outcome) last))))
        (ends after here (with_result left outcome) last false None).world leaves.limits
        (ap (λ (c : Keyed Connection). with c here (Replied (marks.framed (reply_text left.xid (Success (result_of (with_result left outcome) last)))))) leaves.connections)
        (kept_short left.slot false (result_of (with_result left outcome) last) after.table most leaves.short)

    -- the reply is to be held
    waits : (outcome : Outcome) (last : Status) → weight request + length (outcome_text outcome) ≤ limits.reply_bytes + 12
        → Bounded limits (goes_on after here (record (with_result left outcome) { ended = Some last }) None).world
    waits outcome last fits =
        let size = result_length last left.tag (left.answered + 1) (left.results ++ outcome_text outcome) in
        let most : length (result_of (with_result left outcome) last) ≤ max_kept limits =
        omega (arith, size, with_length left outcome, same_weight, fits) in
        let new : InProgress = record (with_result left outcome) { ended = Some last } in
        put_down limits world.connections here (Busy new) (goes_on after here new None).world leaves.limits
        (ap (λ (c : Keyed Connection). with c here (Busy new)) leaves.connections) leaves.short (light_in world short)
        (λ other same.
        let is = busy_request new other same in
        subst (λ (r : InProgress). IsShortSoFar limits r r.ended) is most)

    closed : (outcome : Outcome) (last : Status) (executed : Option Entry) → weight request + length (outcome_text outcome) ≤ limits.reply_bytes + 12
        → Bounded limits (closes after here (with_result left outcome) last executed).world
    closed outcome last executed fits =
        either (λ (t : Turned). Bounded limits t.world) (is_to_hold left after.table) _ _
        (λ seated. waits outcome last fits) (λ none. ended outcome last fits)

    gone_on : (outcome : Outcome) → weight request + length (outcome_text outcome) ≤ limits.reply_bytes
        → Bounded limits (goes_on after here (with_result left outcome) None).world
    gone_on outcome fits =
        put_down limits world.connections here (Busy (with_result left outcome)) (goes_on after here (with_result left outcome) None).world leaves.limits
        (ap (λ (c : Keyed Connection). with c here (Busy (with_result left outcome))) leaves.connections) leaves.short (light_in world short)
        (λ other same.
        let is = busy_request (with_result left outcome) other same in
        subst (λ (r : InProgress). IsShortSoFar limits r r.ended) is
        (weighs limits (with_result left outcome) (leaves.ended ∙ goes) (omega (arith, with_length left outcome, same_weight, fits))))

    refused_behind : (operation : ℕ) (reason : Status) (executed : Option Entry)
        → Bounded limits (behind after here left (Refused operation reason) executed).world
    refused_behind operation reason executed = closed (Refused operation reason) reason executed (omega (arith, refused_length operation reason, light))

    done_behind : (answer : Answer) (executed : Option Entry) → weight request + length (outcome_text (Done answer)) ≤ limits.reply_bytes
        → Bounded limits (behind after here left (Done answer) executed).world
    done_behind answer executed fits =
        either (λ (t : Turned). Bounded limits t.world) (is_last left) _ _
        (λ last. closed (Done answer) status.Ok executed (omega (arith, fits)))
        (λ more. gone_on (Done answer) fits)

  -- the result that an operation gave, if there is room for it
  fits_behind : (request : InProgress) → weight request ≤ limits.reply_bytes → request.ended ≡ None → (operation : Argument) (before : InProgress) → (ran : HasRun)
      → HasLeft world request ran → Bounded limits (has_run world here before operation (in_room world request (operation_of operation) ran)).world
  fits_behind request light goes operation before (Gives (Refused number reason) after left) leaves =
      refused_behind request after (noting world after operation left) (noted _ world request after left leaves) light goes number reason (Some (executed_entry world before operation (Refused number reason) after))
  fits_behind request light goes operation before (Gives (Done answer) after left) leaves = by_room (has_room world request (Done answer)) refl
    where
      too_big : Bounded limits (has_run world here before operation (refuses world request (operation_of operation) status.RepTooBig)).world
      too_big = refused_behind request world (noting world world operation request) (noted _ world request world request (leaves_same world request short.kept)) light goes (operation_of operation) status.RepTooBig
          (Some (executed_entry world before operation (Refused (operation_of operation) status.RepTooBig) world))

      by_room : (room : Bool) → has_room world request (Done answer) ≡ room
          → Bounded limits (has_run world here before operation
          (cond room (Gives (Done answer) after left) (refuses world request (operation_of operation) status.RepTooBig))).world
      by_room true is =
          done_behind request after (noting world after operation left) (noted _ world request after left leaves) light goes answer (Some (executed_entry world before operation (Done answer) after))
          (omega (arith, reply_with_length request (Done answer), leb-true (length (reply_with request (Done answer))) limits.reply_bytes is))
      by_room false is = too_big
  fits_behind request light goes operation before (Replays result session slot) leaves =
      replied (marks.framed (reply_text before.xid (Success result))) (with_connection world here (Replied (marks.framed (reply_text before.xid (Success result)))))
      refl refl short.kept

  operates_bounded : (now : ℕ) (request : InProgress) → weight request ≤ limits.reply_bytes → request.ended ≡ None → (next : Next) → Bounded limits (operates world here now request next).world
  operates_bounded now request light goes (Refuses operation reason) =
      refused_behind request world request (leaves_same world request short.kept) light goes operation reason None
  operates_bounded now request light goes (Reads operation rest) =
      let read : InProgress = record request { rest = rest } in
      fits_behind read light goes operation read (run world read now operation) (run_leaves world read short.kept now operation)

  stays : Bounded limits world
  stays = record { short = short; same = refl }

  answered : (reply : List ℕ) → Bounded limits (with_connection world here (Replied reply))
  answered reply = replied reply (with_connection world here (Replied reply)) refl refl short.kept

  module _ (room : HasReplyRoom limits) (now : ℕ) where
    requested_bounded : (xid : ℕ) (request : Request) → TagFits request → Bounded limits (requested world here now xid request).world
    requested_bounded xid (Answers reply) fits = answered (marks.framed (reply_text xid reply))
    requested_bounded xid (Runs cred compound) fits =
        let light : weight (in_progress world xid cred compound) ≤ limits.reply_bytes = omega (arith, room, fits, counted_length compound.tag) in
        operates_bounded now (in_progress world xid cred compound) light refl (next_operation (in_progress world xid cred compound))

    called_bounded : (read : CallRead) → Bounded limits (called world here now read).world
    called_bounded NoCall = stays
    called_bounded (OtherVersion xid) = answered (marks.framed (reply_text xid VersionRefused))
    called_bounded (Calls call) = requested_bounded call.xid (request_of call) (request_fits call)

    -- one whose reply was to be held: it is there
    makes : (request : InProgress) (last : Status) → length (result_of request last) ≤ max_kept limits → Bounded limits (ends world here request last true None).world
    makes request last most =
        let reply = marks.framed (reply_text request.xid (Success (result_of request last))) in
        replied reply (ends world here request last true None).world refl refl (kept_short request.slot true (result_of request last) world.table most short.kept)

    further_bounded : (request : InProgress) → (status : Option Status) → request.ended ≡ status → IsShortSoFar limits request status
        → Bounded limits (further world here now request status).world
    further_bounded request None none so =
        operates_bounded now request (its_weight limits request none (subst (IsShortSoFar limits request) (sym none) so)) none (next_operation request)
    further_bounded request (Some last) is most = makes request last most

    turned_bounded : (connection : Option Connection) → at here world.connections ≡ connection → Bounded limits (turned world here now connection).world
    turned_bounded None is = stays
    turned_bounded (Some (Quiet bytes)) is = stays
    turned_bounded (Some (Waiting request)) is = called_bounded (read_call request)
    turned_bounded (Some (Busy request)) is = further_bounded request request.ended refl (light_in world short here request is)
    turned_bounded (Some (Replied reply)) is = stays
    turned_bounded (Some Closed) is = stays

turn_bounded : (world : World) (here now : ℕ) → HasReplyRoom world.limits → IsShort world → Bounded world.limits (one world here now).world
unfolding one
turn_bounded world here now room short = turned_bounded world short here room now (at here world.connections) refl

-- The other events: no connection becomes busy

module _ (world : World) (short : IsShort world) (here : ℕ) where
  changed_short : (change : Connection → Connection) → ((c : Connection) (request : InProgress) → change c ≡ Busy request → c ≡ Busy request)
      → (connection : Option Connection) → at here world.connections ≡ connection → IsShort (connection_changed world here change connection)
  changed_short change only None is = short
  changed_short change only (Some connection) is =
      (put_down world.limits world.connections here (change connection) (with_connection world here (change connection)) refl refl short.kept (light_in world short)
      (λ request busy. light_in world short here request (is ∙ ap in_some (only connection request busy)))).short
    where
      in_some : Connection → Option Connection
      in_some c = Some c

  arrived_quiet : (bytes : List ℕ) (f : Prefix) (request : InProgress) → arrived bytes f ≡ Busy request → ⊥
  arrived_quiet bytes Partial request same = cc
  arrived_quiet bytes (marks.Refused fault) request same = cc
  arrived_quiet bytes (Whole one rest) request same = by_call (is_call_read (read_call one)) same
    where
      by_call : (b : Bool) → cond b (Waiting one) Closed ≡ Busy request → ⊥
      by_call true same = cc
      by_call false same = cc

  arrival_only : (piece : List ℕ) (c : Connection) (request : InProgress) → arrives_at world.limits.records piece c ≡ Busy request → c ≡ Busy request
  arrival_only piece (Quiet bytes) request same = absurd (arrived_quiet (bytes ++ piece) (marks.prefix world.limits.records (bytes ++ piece)) request same)
  arrival_only piece (Waiting record_of) request same = same
  arrival_only piece (Busy other) request same = same
  arrival_only piece (Replied reply) request same = same
  arrival_only piece Closed request same = same

  taking_only : (c : Connection) (request : InProgress) → without_reply c ≡ Busy request → c ≡ Busy request
  taking_only (Quiet bytes) request same = same
  taking_only (Waiting record_of) request same = same
  taking_only (Busy other) request same = same
  taking_only (Replied reply) request same = absurd (cc)
  taking_only Closed request same = same

  connected : IsShort (with_connection world here (Quiet []))
  connected =
      (put_down world.limits world.connections here (Quiet []) (with_connection world here (Quiet [])) refl refl short.kept (light_in world short)
      (λ request busy. absurd (quiet request busy))).short
    where
      quiet : (request : InProgress) → Quiet [] ≡ Busy request → ⊥
      quiet request same = cc

  dropped : IsShort (without_connection world here)
  dropped = record {
    kept = short.kept;
    busy = λ other request busy. by_place other request busy (cases_eq other here);
  }
    where
      nothing : (request : InProgress) → None ≡ Some (Busy request) → ⊥
      nothing request same = cc

      by_place : (other : ℕ) (request : InProgress) → at other (without_connection world here).connections ≡ Some (Busy request)
          → (other ≡ here) ⊎ (other ≢ here) → IsShortSoFar world.limits request request.ended
      by_place other request there (inl same) =
          absurd (nothing request (sym (at-without_same world.connections here) ∙ (ap (λ (n : ℕ). at n (without_connection world here).connections) (sym same) ∙ there)))
      by_place other request there (inr differs) =
          short.busy other request (sym (at-without_other world.connections here other differs) ∙ there)

turns_short : (most : ℕ) (world : World) (here now : ℕ) → HasReplyRoom world.limits → IsShort world → IsShort (turns most world here now)
turns_short zero world here now room short = short
turns_short (suc most) world here now room short =
    let next = turn_bounded world here now room short in
    either IsShort (is_busy (at here world.connections)) _ _
    (λ busy. turns_short most (one world here now).world here now (subst HasReplyRoom (sym next.same) room) next.short)
    (λ idle. short)

hung_up_short : (world : World) (here now : ℕ) → HasReplyRoom world.limits → IsShort world → IsShort (hung_up world here now)
unfolding hung_up hangs_up
hung_up_short world here now room short =
    let left = turns (operations_left (at here world.connections)) world here now in
    let still = turns_short (operations_left (at here world.connections)) world here now room short in
    either IsShort (is_busy (at here left.connections)) _ _ (λ busy. still) (λ idle. dropped left still here)

pub keeps_short_law : KeepsShort
unfolding arrives takes connects
keeps_short_law = record {
  begins = λ limits run tree seats. record { kept = refl; busy = λ number request busy. absurd (nothing request busy) };
  turn = λ world number now room short. (turn_bounded world number now room short).short;
  arrival = λ world number piece short.
      changed_short world short number (arrives_at world.limits.records piece) (arrival_only world short number piece) (at number world.connections) refl;
  taking = λ world number short.
      changed_short world short number without_reply (taking_only world short number) (at number world.connections) refl;
  connecting = λ world number short.
      either IsShort (can_connect world number) _ _ (λ free. connected world short number) (λ full. short);
  hang_up = hung_up_short;
}
  where
    nothing : (request : InProgress) → None ≡ Some (Busy request) → ⊥
    nothing request same = cc
