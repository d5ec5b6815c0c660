-- The seats that a volume keeps, and the turn in which a seat holds a reply.
use Rattle.std.proofs.Common.{◌≡◌, ℕ, Bool, true, false, List, [], ◌∷◌, find, Option, Some, None, is_some, refl, sym, ap, ap₂, ◌∙◌, inl, inr}
use Rattle.std.specs.Global.{Vec}
use Rattle.layout.specs.Stands.{Kept}
use Rattle.volume.specs.Changes.{Ending, Done, IsSeats}
use Rattle.fs.specs.Changes.{FsChanges}
use Rattle.fs.specs.FileSystem.{FileSystem}
use Rattle.fs.proofs.ChangeLaws.{changes_by}
use Rattle.model.specs.Operations.Answer as model
use Rattle.model.specs.Sessions.Opens.{Opens}
use Rattle.model.specs.Operations.Operation.{Argument}
use Rattle.model.specs.Wire.Record.{framed}
use Rattle.model.specs.Wire.Rpc.{Success, reply_text}
use Rattle.model_tree.specs.Seats.SeatEdits.{SeatEdit, stays, all_stay, edited_all}
use Rattle.model_tree.specs.Seats.SeatEdits as edit
use Rattle.model_tree.specs.Seats.Seats.{Seats}
use Rattle.model.specs.Sessions.Session.{Table, is_session, finish, held_by}
use Rattle.model_tree.specs.Trees.Tree.{Tree}
use Rattle.model.specs.Server.World.{World, InProgress, HasRun, Turned, Replied, ends, further, kept_by, result_of, with_connection, with_table}
use Rattle.model_tree.specs.declared.status.Status.{Status}
use Rattle.compound.specs.Operates.{GivesIn, run_in_room, world_by}
use Rattle.compound.specs.Runs.{with_rest}
use Rattle.compound.specs.States.{SharedState, shared, with_state}
use Rattle.compound.specs.Steps.{RequestSteps, stepped_on}
use Rattle.compound.specs.Views.{Asked}
use Rattle.compound.specs.Volumes.{HasSameTree, IsSeated, RunGives, TurnGives, kept_of_world, lasts}
use Rattle.compound.specs.declared.step.Stepped.TheVariants as stepped
use Rattle.compound.proofs.QuietLaws.{answers_still, changes_when}
use Rattle.compound.proofs.VolumeLaws.{is_quiet, quiet_ran}

-- Edits

-- if each place stays, they all do
pub all_stayed : (edits : List SeatEdit) (seats : Seats) → all_stay edits ≡ true → edited_all edits seats ≡ seats
all_stayed [] seats stay = refl
all_stayed (edit.Stays ∷ edits) [] stay = refl
all_stayed (edit.Stays ∷ edits) (place ∷ seats) stay = ap (λ (rest : Seats). place ∷ rest) (all_stayed edits seats stay)
all_stayed (edit.Frees ∷ edits) seats stay = let never : ⊥ = cc in absurd never
all_stayed (edit.Takes seat ∷ edits) seats stay = let never : ⊥ = cc in absurd never
all_stayed (edit.Holds slot held ∷ edits) seats stay = let never : ⊥ = cc in absurd never

module _ (keeps_word : Type 0) (fs : FileSystem) where
  -- nothing is put, and these seats are there
  pub seated_still : (failed : ℕ) (seats : Seats) → fs.volume.is_down ≡ false → (keeps_word → seats ≡ fs.volume.seats)
      → FsChanges keeps_word (IsSeated fs.volume seats) fs fs failed failed Done
  seated_still failed seats up there =
      answers_still keeps_word (IsSeated fs.volume seats) fs fs failed failed refl refl up
      (λ keeps kept lasting given. ap (λ (of : Kept). of.seats) given.0 ∙ there keeps)
      (λ keeps kept lasting given stays. elim given.1 [
        | inl quiet ↦ quiet
        | inr differs ↦ absurd (differs stays)
      ])

  module _ (new : FileSystem) (before after : ℕ) (end : Ending) where
    -- what was put are these seats
    pub seated_as : (seats other : Seats) → (keeps_word → other ≡ seats)
        → FsChanges keeps_word (IsSeated fs.volume seats) fs new before after end → FsChanges keeps_word (IsSeated fs.volume other) fs new before after end
    seated_as seats other same changes =
        changes_when keeps_word (IsSeated fs.volume seats) (IsSeated fs.volume other)
        (λ keeps kept lasting given. (given.0 ∙ ap (λ (s : Seats). let of : Kept = record { tree = fs.volume.tree; seats = s } in of) (same keeps), given.1))
        (λ kept lasting given. (
          (let of : Kept = record { tree = fs.volume.tree; seats = seats } in of),
          false,
          (refl, inl refl),
          ap (λ (of : Kept). of.tree) (sym given.0),
        ))
        fs new before after end changes

    pub seats_put : (seats : Seats) → FsChanges keeps_word (IsSeats fs.volume seats) fs new before after end → FsChanges keeps_word (IsSeated fs.volume seats) fs new before after end
    seats_put seats changes = changes_by keeps_word (IsSeats fs.volume seats) (IsSeated fs.volume seats) (λ kept lasting given. given.0) fs new before after end changes

-- Operations that change only the seats

given_seats : (state : SharedState) (table : Table) (opens : Opens) (request left : InProgress) (now : ℕ) (operation : Argument) (outcome : model.Outcome) → is_quiet operation ≡ true
    → GivesIn now state (shared state.files table opens) request left operation outcome
    → (after : Kept) (lasting : Bool) → RunGives state request now operation after lasting → IsSeated state.files.volume table.seats after lasting
given_seats state table opens request left now operation outcome quiet gives after lasting ran = (
  ran.kept ∙ ap (λ (r : HasRun). kept_of_world (world_by ran.world r)) (gives ran.world ran.rest ran.has),
  elim ran.lasting_is [
    | inl durable ↦ inl (durable ∙ quiet_ran ran.world (with_rest request ran.rest) operation (run_in_room ran.world (with_rest request ran.rest) now operation) quiet)
    | inr differs ↦ inr differs
  ],
)

pub seats_change : (keeps_word : Type 0) (state : SharedState) (table : Table) (opens : Opens) (request left : InProgress) (now : ℕ) (operation : Argument) (outcome : model.Outcome)
    → is_quiet operation ≡ true → GivesIn now state (shared state.files table opens) request left operation outcome
    → (new : FileSystem) (before after : ℕ) (end : Ending)
    → FsChanges keeps_word (IsSeated state.files.volume table.seats) state.files new before after end
    → FsChanges keeps_word (RunGives state request now operation) state.files new before after end
seats_change keeps_word state table opens request left now operation outcome quiet gives new before after end changes =
    changes_by keeps_word (IsSeated state.files.volume table.seats) (RunGives state request now operation)
    (given_seats state table opens request left now operation outcome quiet gives) state.files new before after end changes

-- The turn in which a seat holds a reply

ends_now : (world : World) (number now : ℕ) (request : InProgress) (last : Status) → request.ended ≡ Some last
    → stepped_on world number now request ≡ ends world number request last true None
ends_now world number now request last ended = ap (further world number now request) ended

pub stored : (now : ℕ) (old new : FileSystem) (table after : Table) (known : Opens) (asked : Asked) (request : InProgress) (last : Status) (reply : Vec ℕ) → request.ended ≡ Some last
    → HasSameTree old new → reply.items ≡ framed (reply_text request.xid (Success (result_of request last))) → after ≡ kept_by request.slot true (result_of request last) table
    → RequestSteps now (shared old table known) (shared new after known) asked request (stepped.Answered reply)
stored now old new table after known asked request last reply ended same reply_is kept = λ world number has.
    let turn = ends_now world number now request last ended in
    let table_is : kept_by request.slot true (result_of request last) world.table ≡ after = ap (kept_by request.slot true (result_of request last)) has.table_is ∙ sym kept in
    let tree_is : world.tree ≡ new.volume.tree = has.tree ∙ sym same.tree in
    let count_is : world.changes ≡ new.changes = has.changes ∙ sym same.changes in
    let made : with_table world (kept_by request.slot true (result_of request last) world.table) ≡ with_state world (shared new after known) =
    ap (with_table world) table_is
    ∙ ap₂ (λ (tree : Tree) (changes : ℕ). let one : World = record world { tree = tree; changes = changes; table = after } in one) tree_is count_is
    ∙ ap (λ (opens : Opens). let one : World = record world { tree = new.volume.tree; changes = new.changes; table = after; opens = opens } in one) has.opens in (
      ap (λ (t : Turned). t.turn) turn,
      ap (λ (t : Turned). t.world) turn
          ∙ ap₂ (λ (w : World) (bytes : List ℕ). with_connection w number (Replied bytes)) made (sym reply_is),
    )

pub stored_gives : (state : SharedState) (now : ℕ) (request : InProgress) (last : Status) → request.ended ≡ Some last → (after : Kept) (lasting : Bool)
    → TurnGives state (λ world number. stepped_on world number now request) after lasting
    → IsSeated state.files.volume (kept_by request.slot true (result_of request last) state.table).seats after lasting
stored_gives state now request last ended after lasting gives =
    let turn = ends_now gives.world gives.number now request last ended in (
      gives.kept ∙ ap (λ (t : Turned). kept_of_world t.world) turn
          ∙ ap₂ (λ (tree : Tree) (table : Table). let of : Kept = record { tree = tree; seats = (kept_by request.slot true (result_of request last) table).seats } in of) gives.has.tree gives.has.table_is,
      elim gives.lasting_is [
        | inl durable ↦ inl (durable ∙ ap (λ (t : Turned). lasts t.executed) turn)
        | inr differs ↦ inr differs
      ],
    )

-- if a slot keeps the reply, a seat holds it too
pub kept_if_some : (slot : Option (List ℕ × ℕ)) (holds : Bool) (result : List ℕ) (table : Table) → holds ≡ is_some slot
    → kept_by slot holds result table ≡ kept_by slot true result table
kept_if_some None holds result table is = refl
kept_if_some (Some slot) holds result table is = ap (λ (holds : Bool). kept_by (Some slot) holds result table) is

-- the seats once the slot keeps the reply, by the edits that were planned
pub kept_held : (slot : Option (List ℕ × ℕ)) (id : List ℕ) (place : ℕ) (reply result : List ℕ) (table : Table) (edits : List SeatEdit) → slot ≡ Some (id, place) → reply ≡ result
    → edited_all edits table.seats ≡ held_by id place reply table.seats (find (is_session id) table.sessions)
    → edited_all edits table.seats ≡ (kept_by slot true result table).seats
unfolding finish
kept_held slot id place reply result table edits is same planned =
    planned ∙ ap₂ (λ (of : Option (List ℕ × ℕ)) (bytes : List ℕ). (kept_by of true bytes table).seats) (sym is) same
