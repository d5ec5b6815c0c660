-- The operations on a world are those on its table.
use Rattle.std.proofs.Common.{◌≡◌, ℕ, Bool, true, false, ◌==◌, if◌then◌else◌, ◌||◌, List, [], ◌∷◌, map, filter, Option, Some, None, Result, Ok, Err, refl, ap, ap₂, sym, subst, ◌∙◌}
use Rattle.model.specs.Operations.Answer.{Answer, Outcome, ExchangeIdAnswer, CreateSessionAnswer}
use Rattle.model.specs.Operations.Operation.{Argument, ExchangeIdArguments, CreateSessionArguments}
use Rattle.model.specs.Sessions.Opens.{Open, Opens}
use Rattle.model.specs.Sessions.Session as sessions
use Rattle.std.specs.List.{find, list_any}
use Rattle.std.proofs.Math.Path.{fun_ext}
use Rattle.layout.specs.declared.versions.VersionNumber.{VersionNumber}
use Rattle.layout.specs.declared.versions.VersionNumber.TheVariants.{One, Two, Three}
use Rattle.model_tree.specs.Refusals.Refusal.{first_refusal}
use Rattle.model_tree.specs.Seats.SeatEdits.{AreEdits, SeatEdit}
use Rattle.model_tree.specs.Seats.Seats.{Seats}
use Rattle.volume.specs.SeatUpdates.{slots_by}
use Rattle.model.specs.Sessions.Session.{Table, SessionLimits, CreateSessionOutcome, Client, create_refused, create_unless, create_again, create_by, create_refusals, next_number, is_client}
use Rattle.model.specs.Sessions.StateIds.{has_opens, without_clients}
use Rattle.model_tree.specs.Trees.Tree.{Tree}
use Rattle.model.specs.Server.World.{World, InProgress, Gives, run, exchanged, session_created, created_by, tabled, gives, with_table}
use Rattle.model_tree.specs.declared.status.Status.{Status}
use Rattle.session.specs.Views.{among}
use Rattle.fs.specs.FileSystem.{FileSystem}
use Rattle.compound.specs.Operates.{GivesIn, RunsTo}
use Rattle.compound.specs.Profile.{served_by}
use Rattle.compound.specs.Runs.{with_rest}
use Rattle.compound.specs.States.{Agrees, HasState, shared, with_state}
use Rattle.compound.specs.Volumes.{HasSameTree}
use Rattle.compound.proofs.Rooms.{gives_refusal, state_same}

-- the clients of opens

abbrev pub client_in : ℕ × Open → ℕ
client_in entry = entry.1.client

abbrev pub clients_of : Opens → List ℕ
clients_of opens = map client_in opens.known

among_each : (number : ℕ) (known : List (ℕ × Open)) → among (map client_in known) number ≡ list_any (λ (entry : ℕ × Open). entry.1.client == number) known
among_each number [] = refl
among_each number (entry ∷ rest) = ap (λ (b : Bool). (entry.1.client == number) || b) (among_each number rest)

among_clients : (opens : Opens) → among (clients_of opens) ≡ has_opens opens
among_clients opens = fun_ext (λ number. among_each number opens.known)

pub ran_exchange : (world : World) (request : InProgress) (now : ℕ) (arguments : ExchangeIdArguments) (old : Table) (wanted : Result ExchangeIdAnswer Status × Table) (limits : SessionLimits)
    → {fs : FileSystem} {opens : Opens} {clients : List ℕ} → HasState world (shared fs old opens) → limits ≡ served_by fs.volume.version → clients ≡ clients_of opens
    → sessions.exchange_id limits (among clients) request.context.cred.uid arguments old ≡ wanted
    → run world request now (Argument.ExchangeId arguments) ≡ exchanged world request wanted
unfolding run
ran_exchange world request now arguments old wanted limits {fs} {opens} {clients} on served are is =
    let uid = request.context.cred.uid in
    ap (exchanged world request)
    (ap (λ (limits : SessionLimits). sessions.exchange_id limits (has_opens world.opens) uid arguments world.table) (on.sessions ∙ sym served)
    ∙ (ap (λ (known : Opens). sessions.exchange_id limits (has_opens known) uid arguments world.table) on.opens
    ∙ (ap (λ (asks : ℕ → Bool). sessions.exchange_id limits asks uid arguments world.table) (sym (ap among are ∙ among_clients opens))
    ∙ (ap (sessions.exchange_id limits (among clients) uid arguments) on.table_is ∙ is))))

pub ran_create : (world : World) (request : InProgress) (now : ℕ) (arguments : CreateSessionArguments) (old : Table) (limits : SessionLimits)
    → {fs : FileSystem} {opens : Opens} → HasState world (shared fs old opens) → limits ≡ served_by fs.volume.version
    → run world request now (Argument.CreateSession arguments) ≡ session_created world request (sessions.create_session limits request.context.cred.uid arguments old)
unfolding run
ran_create world request now arguments old limits {fs} {opens} on served =
    let uid = request.context.cred.uid in
    ap (session_created world request)
    (ap (λ (limits : SessionLimits). sessions.create_session limits uid arguments world.table) (on.sessions ∙ sym served)
    ∙ ap (sessions.create_session limits uid arguments) on.table_is)

-- the opens of the clients that ended with it end
pub created_ok : (world : World) (request : InProgress) (outcome : CreateSessionOutcome) (answer : CreateSessionAnswer) (new : Table) (before : Opens) (ended : List ℕ)
    → world.opens ≡ before → outcome.answer ≡ Ok answer → outcome.ended_clients ≡ ended → outcome.table ≡ new
    → session_created world request outcome ≡ Gives (Outcome.Done (Answer.CreateSession answer)) (record world { table = new; opens = without_clients ended before }) request
created_ok world request outcome answer new before ended known is ends table =
    ap (created_by world request outcome) is
    ∙ (ap (λ (after : Table). gives (record world { table = after; opens = without_clients outcome.ended_clients world.opens }) request (Answer.CreateSession answer)) table
    ∙ ap₂ (λ (clients : List ℕ) (opens : Opens). gives (record world { table = new; opens = without_clients clients opens }) request (Answer.CreateSession answer)) ends known)

-- a refused CREATE_SESSION leaves the table
abbrev Leaves : Table → CreateSessionOutcome → Type 0
Leaves table outcome = (reason : Status) → outcome.answer ≡ Err reason → outcome.table ≡ table

chosen : (table : Table) (test : Bool) (one other : CreateSessionOutcome) → Leaves table one → Leaves table other → Leaves table (if test then one else other)
chosen table true one other first second = first
chosen table false one other first second = second

unless_leaves : (limits : SessionLimits) (arguments : CreateSessionArguments) (client : Client) (table : Table) (refusal : Option Status)
    → Leaves table (create_unless limits arguments client table refusal)
unless_leaves limits arguments client table (Some first) reason is = refl
unless_leaves limits arguments client table None reason is = absurd cc

again_leaves : (limits : SessionLimits) (arguments : CreateSessionArguments) (client : Client) (table : Table) (kept : Option CreateSessionAnswer)
    → Leaves table (create_again limits arguments client table kept)
again_leaves limits arguments client table None =
    unless_leaves limits arguments client table (first_refusal (create_refusals limits arguments client table))
again_leaves limits arguments client table (Some answer) =
    chosen table (next_number arguments.sequence == client.sequence) _ _
    (λ reason is. refl)
    (unless_leaves limits arguments client table (first_refusal (create_refusals limits arguments client table)))

found_leaves : (limits : SessionLimits) (uid : ℕ) (arguments : CreateSessionArguments) (table : Table) (found : Option Client)
    → Leaves table (create_by limits uid arguments table found)
found_leaves limits uid arguments table None = λ reason is. refl
found_leaves limits uid arguments table (Some client) =
    chosen table (client.principal == uid) _ _ (again_leaves limits arguments client table client.kept) (λ reason is. refl)

create_leaves : (limits : SessionLimits) (uid : ℕ) (arguments : CreateSessionArguments) (table : Table)
    → Leaves table (sessions.create_session limits uid arguments table)
unfolding sessions.create_session
create_leaves limits uid arguments table = found_leaves limits uid arguments table (find (is_client arguments.client) table.clients)

pub created_err : (limits : SessionLimits) (world : World) (request : InProgress) (arguments : CreateSessionArguments) (reason : Status) (old new : Table)
    → world.table ≡ old → (sessions.create_session limits request.context.cred.uid arguments old).table ≡ new
    → (sessions.create_session limits request.context.cred.uid arguments old).answer ≡ Err reason
    → session_created world request (sessions.create_session limits request.context.cred.uid arguments old)
    ≡ Gives (Outcome.Refused 43 reason) (with_table world new) request
created_err limits world request arguments reason old new is left refused =
    let outcome = sessions.create_session limits request.context.cred.uid arguments old in
    let same = create_leaves limits request.context.cred.uid arguments old reason refused in
    ap (created_by world request outcome) refused
    ∙ ap (λ (table : Table). Gives (Outcome.Refused 43 reason) (with_table world table) request) (is ∙ (sym same ∙ left))

pub ran_destroy_session : (world : World) (request : InProgress) (now : ℕ) (id : List ℕ) (old : Table) (wanted : Option Status × Table)
    → {fs : FileSystem} {opens : Opens} → HasState world (shared fs old opens) → sessions.destroy_session id old ≡ wanted
    → run world request now (Argument.DestroySession id) ≡ tabled world request 44 Answer.DestroySession wanted
unfolding run
ran_destroy_session world request now id old wanted {fs} {opens} on is =
    ap (tabled world request 44 Answer.DestroySession) (ap (sessions.destroy_session id) on.table_is ∙ is)

pub ran_destroy_client : (world : World) (request : InProgress) (now : ℕ) (client : ℕ) (old : Table) (wanted : Option Status × Table)
    → {fs : FileSystem} {opens : Opens} {clients : List ℕ} → HasState world (shared fs old opens) → clients ≡ clients_of opens → sessions.destroy_client_id (among clients) client old ≡ wanted
    → run world request now (Argument.DestroyClientId client) ≡ tabled world request 57 Answer.DestroyClientId wanted
unfolding run
ran_destroy_client world request now client old wanted {fs} {opens} {clients} on are is =
    ap (tabled world request 57 Answer.DestroyClientId)
    (ap (λ (known : Opens). sessions.destroy_client_id (has_opens known) client world.table) on.opens
    ∙ (ap (λ (asks : ℕ → Bool). sessions.destroy_client_id asks client world.table) (sym (ap among are ∙ among_clients opens))
    ∙ (ap (sessions.destroy_client_id (among clients) client) on.table_is ∙ is)))

-- with a file system and opens that are as they were
pub table_runs : (now : ℕ) (fs : FileSystem) (opens : Opens) (old new : Table) (request left : InProgress) (kind : Argument) (outcome : Outcome)
    → ((world : World) (rest : List ℕ) → HasState world (shared fs old opens)
    → run world (with_rest request rest) now kind ≡ Gives outcome (with_table world new) (with_rest left rest))
    → RunsTo now (shared fs old opens) (shared fs new opens) request left kind outcome
table_runs now fs opens old new request left kind outcome runs = λ world rest on.
    runs world rest on
    ∙ ap (λ (before : World). Gives outcome (with_table before new) (with_rest left rest)) (sym (state_same world (shared fs old opens) on))

-- and with opens that it changes too
pub clients_run : (now : ℕ) (fs : FileSystem) (before after : Opens) (old new : Table) (request left : InProgress) (kind : Argument) (outcome : Outcome)
    → ((world : World) (rest : List ℕ) → HasState world (shared fs old before)
    → run world (with_rest request rest) now kind ≡ Gives outcome (record world { table = new; opens = after }) (with_rest left rest))
    → RunsTo now (shared fs old before) (shared fs new after) request left kind outcome
clients_run now fs before after old new request left kind outcome runs = λ world rest on.
    runs world rest on
    ∙ ap (λ (known : World). Gives outcome (record known { table = new; opens = after }) (with_rest left rest)) (sym (state_same world (shared fs old before) on))

-- CREATE_SESSION and DESTROY_SESSION, if the volume keeps the seats: its tree is as it was

placed : (world : World) (fs new : FileSystem) (table after : Table) (known opens : Opens) → HasState world (shared fs table known) → HasSameTree fs new
    → (let placed : World = record world { table = after; opens = opens } in placed) ≡ with_state world (shared new after opens)
placed world fs new table after known opens on same =
    ap₂ (λ (tree : Tree) (changes : ℕ). let one : World = record world { tree = tree; changes = changes; table = after; opens = opens } in one)
    (on.tree ∙ sym same.tree) (on.changes ∙ sym same.changes)

pub same_tree : (fs : FileSystem) → HasSameTree fs fs
same_tree fs = record { tree = refl; changes = refl }

pub create_runs : (limits : SessionLimits) (now : ℕ) (fs new : FileSystem) (old table : Table) (before : Opens) (request : InProgress) (arguments : CreateSessionArguments) (answer : CreateSessionAnswer) (ended : List ℕ)
    → limits ≡ served_by fs.volume.version
    → (sessions.create_session limits request.context.cred.uid arguments old).answer ≡ Ok answer
    → (sessions.create_session limits request.context.cred.uid arguments old).ended_clients ≡ ended
    → (sessions.create_session limits request.context.cred.uid arguments old).table ≡ table → HasSameTree fs new
    → RunsTo now (shared fs old before) (shared new table (without_clients ended before)) request request (Argument.CreateSession arguments) (Outcome.Done (Answer.CreateSession answer))
create_runs limits now fs new old table before request arguments answer ended served is ends table_is same = λ world rest on.
    ran_create world (with_rest request rest) now arguments old limits on served
    ∙ created_ok world (with_rest request rest) (sessions.create_session limits request.context.cred.uid arguments old) answer table before ended on.opens is ends table_is
    ∙ ap (λ (after : World). Gives (Outcome.Done (Answer.CreateSession answer)) after (with_rest request rest)) (placed world fs new old table before (without_clients ended before) on same)

pub create_refuses : (limits : SessionLimits) (now : ℕ) (fs : FileSystem) (old : Table) (before : Opens) (request : InProgress) (arguments : CreateSessionArguments) (reason : Status)
    → limits ≡ served_by fs.volume.version
    → sessions.create_session limits request.context.cred.uid arguments old ≡ create_refused reason old
    → GivesIn now (shared fs old before) (shared fs old before) request request (Argument.CreateSession arguments) (Outcome.Refused 43 reason)
create_refuses limits now fs old before request arguments reason served is =
    gives_refusal now (shared fs old before) (shared fs old before) request (Argument.CreateSession arguments) 43 reason
    (table_runs now fs before old old request request (Argument.CreateSession arguments) (Outcome.Refused 43 reason)
    (λ world rest on. ran_create world (with_rest request rest) now arguments old limits on served
    ∙ created_err limits world (with_rest request rest) arguments reason old old on.table_is (ap (λ (o : CreateSessionOutcome). o.table) is) (ap (λ (o : CreateSessionOutcome). o.answer) is)))

pub destroy_runs : (now : ℕ) (fs new : FileSystem) (old table : Table) (opens : Opens) (request : InProgress) (id : List ℕ)
    → sessions.destroy_session id old ≡ (None, table) → HasSameTree fs new
    → RunsTo now (shared fs old opens) (shared new table opens) request request (Argument.DestroySession id) (Outcome.Done Answer.DestroySession)
destroy_runs now fs new old table opens request id is same = λ world rest on.
    ran_destroy_session world (with_rest request rest) now id old _ on is
    ∙ ap (λ (after : World). Gives (Outcome.Done Answer.DestroySession) after (with_rest request rest))
    (ap (λ (known : Opens). let one : World = record world { table = table; opens = known } in one) on.opens ∙ placed world fs new old table opens opens on same)

pub destroy_done : (id : List ℕ) (old table : Table) → (sessions.destroy_session id old).0 ≡ None → table ≡ (sessions.destroy_session id old).1
    → sessions.destroy_session id old ≡ (None, table)
destroy_done id old table none is = ap₂ (λ (reason : Option Status) (t : Table). (reason, t)) none (sym is)

pub destroy_refuses : (now : ℕ) (fs : FileSystem) (old : Table) (opens : Opens) (request : InProgress) (id : List ℕ) (reason : Status)
    → sessions.destroy_session id old ≡ (Some reason, old)
    → GivesIn now (shared fs old opens) (shared fs old opens) request request (Argument.DestroySession id) (Outcome.Refused 44 reason)
destroy_refuses now fs old opens request id reason is =
    gives_refusal now (shared fs old opens) (shared fs old opens) request (Argument.DestroySession id) 44 reason
    (table_runs now fs opens old old request request (Argument.DestroySession id) (Outcome.Refused 44 reason)
    (λ world rest on. ran_destroy_session world (with_rest request rest) now id old _ on is))

-- the edits of the table's seats are such edits of the volume's
pub edits_fit : (slots room : ℕ) (files : FileSystem) (table : Table) (edits : List SeatEdit) → slots ≡ room → Agrees files table → AreEdits table.run slots edits table.seats
    → AreEdits files.volume.run room edits files.volume.seats
edits_fit slots room files table edits same agrees are =
    subst (λ (run : ℕ). AreEdits run room edits files.volume.seats) agrees.run
    (subst (λ (seats : Seats). AreEdits table.run room edits seats) agrees.seats
    (subst (λ (n : ℕ). AreEdits table.run n edits table.seats) same are))

-- a seat of such a session has as many slots as a place of the volume has room for
pub seat_slots_are : (version : VersionNumber) → (served_by version).seat_slots ≡ slots_by version
seat_slots_are One = refl
seat_slots_are Two = refl
seat_slots_are (Three s) = refl

-- no opens end if no client does
pub none_ended : (opens : Opens) → without_clients [] opens ≡ opens
none_ended opens = ap (λ (known : List (ℕ × Open)). let of : Opens = record opens { known = known } in of) (all_stay opens.known)
  where
    all_stay : (known : List (ℕ × Open)) → filter (λ (entry : ℕ × Open). true) known ≡ known
    all_stay [] = refl
    all_stay (entry ∷ known) = ap (λ (rest : List (ℕ × Open)). entry ∷ rest) (all_stay known)
