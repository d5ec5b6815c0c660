-- What a turn of a connection is, by what the connection does.
use Rattle.std.proofs.Common.{◌≡◌, ℕ, false, List, [], ◌∷◌, Option, Some, None, Result, Ok, Err, IfOk, inl, inr, refl, ap, ap₂, sym, subst, ◌∙◌, arith, eq-eqb, ne_eqb, le-ltb}
use Rattle.std.proofs.lemmas.Bool.{cases_order}
use Rattle.std.proofs.lemmas.Option.{same_Some}
use Rattle.compound.specs.States.{Agrees, SharedState, HasState, with_state}
use Rattle.compound.specs.Steps as compound
use Rattle.compound.specs.Steps.{stepped_on}
use Rattle.compound.specs.declared.step.Stepped.{Stepped}
use Rattle.compound.specs.declared.step.Stepped.TheVariants as stepped
use Rattle.compound.specs.declared.fault.Fault.{Fault}
use Rattle.compound.specs.Volumes.{TurnGives}
use Rattle.compound.proofs.VolumeLaws.{same_turns, idle_turns}
use Rattle.fs.specs.Changes.{FsChanges}
use Rattle.layout.specs.Stands.{Kept}
use Rattle.volume.specs.Changes.{Ending, Done}
use Rattle.fs.specs.FileSystem.{FileSystem}
use Rattle.fs.proofs.ChangeLaws.{changes_by}
use Rattle.compound.proofs.QuietLaws.{answers_still}
use Rattle.compound.proofs.Rooms.{state_same}
use Rattle.model_tree.proofs.Trees.KeyedLaws.{at-below, at-first, at-rest, some≢none}
use Rattle.model_tree.specs.Trees.Keyed.{Keyed, at, with, IsAbove}
use Rattle.model.specs.Wire.Rpc.{read_call}
use Rattle.model.specs.Sessions.Session.{Table}
use Rattle.model.specs.Server.World as world
use Rattle.model.specs.Server.World.{World, Connection, Turned, Waiting, Busy, Replied, one, called, turned, idle, is_busy, with_connection}
use Rattle.rpc.specs.Assembly.{Assembly, Gathers, Holds, Refuses, connection_of}
use Rattle.server.specs.declared.begun.Begun.{Begun}
use Rattle.server.specs.Connections.{IsRising, Leads, RecordSteps, ConnectionTurns, HasGoneOn, turn_view}
use Rattle.server.specs.Stages.{asked_at, in_progress_at, held_record, busy_with, left_of}
use Rattle.server.specs.declared.turn.Turn.{Turn}
use Rattle.server.specs.declared.turn.Turn.TheVariants as turn

-- Nothing changes if a connection stays as it is

rising_rest : (least : ℕ) (entries : Keyed Connection) → IsAbove least entries → IsRising entries
rising_rest least [] above = tt
rising_rest least (entry ∷ rest) above = above.1

pub with-held : (entries : Keyed Connection) (number : ℕ) (held : Connection) → IsRising entries → at number entries ≡ Some held
    → with entries number held ≡ entries
with-held [] number held rising is = absurd (some≢none held (sym is))
with-held (entry ∷ rest) number held rising is = elim (cases_order number entry.0) [
  | inl one ↦
      let value : entry.1 ≡ held = same_Some entry.1 held (sym (at-first entry.0 number entry.1 rest one) ∙ is) in
      rw (eq-eqb number entry.0 one) (ap₂ (λ (n : ℕ) (v : Connection). (n, v) ∷ rest) one (sym value))
  | inr apart ↦ elim apart [
    | inl low ↦ absurd (some≢none held (sym is ∙ at-below (entry ∷ rest) number number (low, rising) (omega arith)))
    | inr high ↦
        let behind : at number rest ≡ Some held = sym (at-rest entry.0 number entry.1 rest (omega arith)) ∙ is in
        rw (ne_eqb number entry.0 (omega arith), le-ltb number entry.0 (omega arith))
        (ap (λ (r : Keyed Connection). entry ∷ r) (with-held rest number held (rising_rest entry.0 rest rising) behind))
  ]
]

connection_still : (world : World) (number : ℕ) (held : Connection) → IsRising world.connections
    → at number world.connections ≡ Some held → with_connection world number held ≡ world
connection_still world number held rising is =
    ap (λ (cs : Keyed Connection). record world { connections = cs }) (with-held world.connections number held rising is)

still : (world : World) (state : SharedState) (number : ℕ) (held : Connection) → HasState world state
    → IsRising world.connections → at number world.connections ≡ Some held
    → with_connection (with_state world state) number held ≡ world
still world state number held has rising is =
    ap (λ (w : World). with_connection w number held) (state_same world state has) ∙ connection_still world number held rising is

-- A turn by what it comes to

pub one_is : (world : World) (number now : ℕ) (before : Connection) → at number world.connections ≡ Some before
    → one world number now ≡ turned world number now (Some before)
unfolding one
one_is world number now before is = rw is refl

module _ (now : ℕ) (before : Connection) (by : World → ℕ → Turned)
    (comes : (world : World) (number : ℕ) → turned world number now (Some before) ≡ by world number) where
  one_comes : (world : World) (number : ℕ) → at number world.connections ≡ Some before → one world number now ≡ by world number
  one_comes world number is = one_is world number now before is ∙ comes world number

  pub turns_by : (old new : SharedState) (after left : Connection) (done : Turn) (turn : world.Turn)
      → turn_view done ≡ turn → after ≡ left → Leads by old new left turn
      → ConnectionTurns now old new before after done
  turns_by old new after left done turn same_turn same_after leads = λ world number served rising is. (
    ap (λ (t : Turned). t.turn) (one_comes world number is) ∙ ((leads world number served).0 ∙ sym same_turn),
    ap (λ (t : Turned). t.world) (one_comes world number is)
        ∙ ((leads world number served).1 ∙ sym (ap (λ (c : Connection). with_connection (with_state world new) number c) same_after)),
  )

  pub turns_if : (old new : SharedState) (after : Connection) (result : Result Turn Fault)
      → IfOk result (λ done. Leads by old new after (turn_view done))
      → IfOk result (ConnectionTurns now old new before after)
  turns_if old new after (Ok done) leads =
      turns_by old new after after done (turn_view done) refl refl leads
  turns_if old new after (Err fault) leads = tt

-- nothing is done
idle_turn : (now : ℕ) (before : Connection) (state : SharedState)
    → ((world : World) (number : ℕ) → turned world number now (Some before) ≡ idle world)
    → ConnectionTurns now state state before before turn.Idle
idle_turn now before state comes = λ world number served rising is. (
  ap (λ (t : Turned). t.turn) (one_comes now before (λ w n. idle w) comes world number is),
  ap (λ (t : Turned). t.world) (one_comes now before (λ w n. idle w) comes world number is) ∙ sym (still world state number before served rising is),
)

pub idle_turn_to : (now : ℕ) (before after : Connection) (state : SharedState) → before ≡ after
    → ((world : World) (number : ℕ) → turned world number now (Some before) ≡ idle world)
    → ConnectionTurns now state state before after turn.Idle
idle_turn_to now before after state same comes =
    subst (λ (left : Connection). ConnectionTurns now state state before left turn.Idle) same (idle_turn now before state comes)

-- What it comes to

pub replied_comes : (now : ℕ) (before : Connection) (reply : List ℕ) → before ≡ Replied reply
    → (world : World) (number : ℕ) → turned world number now (Some before) ≡ idle world
replied_comes now before reply is world number = rw is refl

pub no_record_comes : (now : ℕ) (assembly : Assembly) → ((request : List ℕ) → assembly ≡ Holds request → ⊥)
    → (world : World) (number : ℕ) → turned world number now (Some (connection_of assembly)) ≡ idle world
no_record_comes now (Gathers bytes) none world number = refl
no_record_comes now (Holds request) none world number = absurd (none request refl)
no_record_comes now (Refuses fault) none world number = refl

pub waiting_comes : (now : ℕ) (before : Connection) (request : List ℕ) → before ≡ Waiting request
    → (world : World) (number : ℕ) → turned world number now (Some before) ≡ called world number now (read_call request)
waiting_comes now before request is world number = rw is refl

-- a request that has begun goes on with its next operation
pub held_comes : (now : ℕ) (assembly : Assembly) (request : List ℕ) (begun : Begun) → assembly ≡ Holds request → (world : World) (number : ℕ)
    → turned world number now (Some (busy_with (held_record assembly) begun)) ≡ stepped_on world number now (in_progress_at request begun)
held_comes now assembly request begun is world number = ap (λ (a : Assembly). turned world number now (Some (busy_with (held_record a) begun))) is

-- a turn that is the same as another, and what it leaves
pub leads_as : (by other : World → ℕ → Turned) (old new : SharedState) → ((world : World) (number : ℕ) → HasState world old → other world number ≡ by world number)
    → (after left : Connection) (done turn : world.Turn) → after ≡ left → done ≡ turn → Leads by old new left turn → Leads other old new after done
leads_as by other old new same after left done turn leaves did leads = λ world number served.
    let led = leads world number served in (
      ap (λ (t : Turned). t.turn) (same world number served) ∙ (led.0 ∙ sym did),
      ap (λ (t : Turned). t.world) (same world number served) ∙ (led.1 ∙ ap (λ (c : Connection). with_connection (with_state world new) number c) (sym leaves)),
    )

-- a step of a COMPOUND, by what it leaves
pub step_leads : (now : ℕ) (bytes : List ℕ) (begun : Begun) (done : Stepped) (old new : SharedState)
    → compound.RequestSteps now old new (asked_at bytes begun.call) (in_progress_at bytes begun) done → RecordSteps now old new bytes begun (left_of begun.call done)
step_leads now bytes begun (stepped.Ran progress) old new steps = steps
step_leads now bytes begun (stepped.Answered reply) old new steps = steps

-- A connection whose request has not begun may become anything

pub not_begun : (before : Connection) (after : Option Connection) → is_busy (Some before) ≡ false → HasGoneOn (Some before) after
not_begun (world.Quiet bytes) after none = tt
not_begun (Waiting request) after none = tt
not_begun (Busy request) after none = let never : ⊥ = cc in absurd never
not_begun (Replied reply) after none = tt
not_begun world.Closed after none = tt

-- What it does to the file system

module _ (keeps_word : Type 0) (state : SharedState) (fs new : FileSystem) (before after : ℕ) where
  -- a turn that is the same as another in each such world
  pub same_changes : (turn other : World → ℕ → Turned) → ((world : World) (number : ℕ) → HasState world state → other world number ≡ turn world number) → (ending : Ending)
      → FsChanges keeps_word (TurnGives state turn) fs new before after ending → FsChanges keeps_word (TurnGives state other) fs new before after ending
  same_changes turn other same ending changes =
      changes_by keeps_word (TurnGives state turn) (TurnGives state other) (same_turns state turn other same) fs new before after ending changes

-- one that does nothing, beside a table that has the seats of the volume
pub idle_changes : (keeps_word : Type 0) (state : SharedState) (failed : ℕ) (turn : World → ℕ → Turned) → state.files.volume.is_down ≡ false → (keeps_word → Agrees state.files state.table)
    → ((world : World) (number : ℕ) → HasState world state → (turn world number).executed ≡ None) → ((world : World) (number : ℕ) → HasState world state → (turn world number).world.table ≡ world.table)
    → FsChanges keeps_word (TurnGives state turn) state.files state.files failed failed Done
idle_changes keeps_word state failed turn up agrees idle tables =
    answers_still keeps_word (TurnGives state turn) state.files state.files failed failed refl (omega arith) up
    (λ keeps kept lasts gives.
    ap (λ (k : Kept). k.seats) gives.kept
    ∙ (ap (λ (t : Table). t.seats) (tables gives.world gives.number gives.has ∙ gives.has.table_is) ∙ (agrees keeps).seats))
    (λ keeps. idle_turns state turn idle)

-- a table that agrees with a volume agrees with one of the same run and seats
pub agrees_on : (old new : FileSystem) (table : Table) → new.volume.run ≡ old.volume.run → new.volume.seats ≡ old.volume.seats → Agrees old table → Agrees new table
agrees_on old new table runs seats agrees = record { run = agrees.run ∙ sym runs; seats = agrees.seats ∙ sym seats }
