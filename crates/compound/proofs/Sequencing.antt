-- SEQUENCE and RECLAIM_COMPLETE on a world are those on its table.
use Rattle.std.proofs.Common.{◌≡◌, ℕ, Bool, true, Option, Some, None, false, if◌then◌else◌, ap, sym, ◌∙◌}
use Rattle.std.specs.List.{find}
use Rattle.model.specs.Operations.Answer.{Answer, Outcome, SequenceAnswer}
use Rattle.model.specs.Sessions.Opens.{Opens}
use Rattle.model.specs.Operations.Operation.{Argument, SequenceArguments}
use Rattle.model.specs.Sessions.Session as sessions
use Rattle.model.specs.Sessions.Session.{Table, Session, Client, is_client, reclaim_by, is_session, started, sequence_answer}
use Rattle.model.specs.Server.World.{World, InProgress, Gives, run, begun, started_in, tabled, gives, with_table, of_session}
use Rattle.model_tree.specs.declared.status.Status.{Status}
use Rattle.fs.specs.FileSystem.{FileSystem}
use Rattle.compound.specs.States.{HasState, shared}

pub ran_sequence : (world : World) (request : InProgress) (now : ℕ) (arguments : SequenceArguments) (old : Table) (wanted : sessions.Begun)
    → {fs : FileSystem} {opens : Opens} → HasState world (shared fs old opens) → sessions.begin request.context.cred.uid request.count arguments old ≡ wanted
    → run world request now (Argument.Sequence arguments) ≡ begun world request arguments wanted
unfolding run
ran_sequence world request now arguments old wanted {fs} {opens} on is =
    ap (begun world request arguments) (ap (sessions.begin request.context.cred.uid request.count arguments) on.table_is ∙ is)

-- the request once the slot of this client's session runs it
abbrev pub taken_on : InProgress → SequenceArguments → (client : ℕ) → InProgress
taken_on request arguments client = record request {
  context = record request.context { client = client };
  slot = Some (arguments.session, arguments.slot);
}

pub begun_ok : (world : World) (request : InProgress) (arguments : SequenceArguments) (old new : Table) (session : Session) (client : ℕ) (answer : SequenceAnswer)
    → world.table ≡ old → find (is_session arguments.session) old.sessions ≡ Some session
    → client ≡ session.client → answer ≡ sequence_answer arguments session → new ≡ started request.context.cred.uid arguments old
    → begun world request arguments sessions.Runs ≡ Gives (Outcome.Done (Answer.Sequence answer)) (with_table world new) (taken_on request arguments client)
begun_ok world request arguments old new session client answer is found of same after =
    ap (λ (table : Table). started_in world request arguments (find (is_session arguments.session) table.sessions)) is
    ∙ (ap (started_in world request arguments) found
    ∙ (ap (λ (table : Table). gives (with_table world (started request.context.cred.uid arguments table)) (of_session request arguments session) (Answer.Sequence (sequence_answer arguments session))) is
    ∙ (ap (λ (table : Table). gives (with_table world table) (of_session request arguments session) (Answer.Sequence (sequence_answer arguments session))) (sym after)
    ∙ (ap (λ (one : SequenceAnswer). gives (with_table world new) (of_session request arguments session) (Answer.Sequence one)) (sym same)
    ∙ ap (λ (number : ℕ). gives (with_table world new) (taken_on request arguments number) (Answer.Sequence answer)) (sym of)))))

pub begun_err : (world : World) (request : InProgress) (arguments : SequenceArguments) (reason : Status) (old new : Table)
    → world.table ≡ old → new ≡ old
    → begun world request arguments (sessions.Refuses reason) ≡ Gives (Outcome.Refused 53 reason) (with_table world new) request
begun_err world request arguments reason old new is same =
    ap (λ (table : Table). Gives (Outcome.Refused 53 reason) (with_table world table) request) (is ∙ sym same)

pub ran_reclaim : (world : World) (request : InProgress) (now : ℕ) (old : Table) (wanted : Option Status × Table)
    → {fs : FileSystem} {opens : Opens} → HasState world (shared fs old opens) → sessions.reclaim_complete request.context.client old ≡ wanted
    → run world request now (Argument.ReclaimComplete false) ≡ tabled world request 58 Answer.ReclaimComplete wanted
unfolding run
ran_reclaim world request now old wanted {fs} {opens} on is =
    ap (tabled world request 58 Answer.ReclaimComplete) (ap (sessions.reclaim_complete request.context.client) on.table_is ∙ is)

-- a refused RECLAIM_COMPLETE leaves the table

abbrev chosen_of : (reclaimed : Bool) (table other : Table) (of : Status) → Option Status × Table
chosen_of reclaimed table other of = if reclaimed then (Some of, table) else (None, other)

chosen_refused : (reclaimed : Bool) (table other : Table) (of reason : Status)
    → (chosen_of reclaimed table other of).0 ≡ Some reason → chosen_of reclaimed table other of ≡ (Some reason, table)
chosen_refused true table other of reason is = ap (λ (first : Option Status). (first, table)) is
chosen_refused false table other of reason is = absurd (cc)

found_refused : (number : ℕ) (table : Table) (found : Option Client) (reason : Status)
    → (reclaim_by number table found).0 ≡ Some reason → reclaim_by number table found ≡ (Some reason, table)
found_refused number table None reason is = ap (λ (first : Option Status). (first, table)) is
found_refused number table (Some client) reason is = chosen_refused client.has_reclaimed table _ _ reason is

pub reclaim_refused : (number : ℕ) (table : Table) (reason : Status)
    → (sessions.reclaim_complete number table).0 ≡ Some reason → sessions.reclaim_complete number table ≡ (Some reason, table)
unfolding sessions.reclaim_complete
reclaim_refused number table reason is = found_refused number table (find (is_client number) table.clients) reason is

pub reclaim_none : (number : ℕ) (table : Table)
    → (sessions.reclaim_complete number table).0 ≡ None → sessions.reclaim_complete number table ≡ (None, (sessions.reclaim_complete number table).1)
reclaim_none number table is = ap (λ (first : Option Status). (first, (sessions.reclaim_complete number table).1)) is
