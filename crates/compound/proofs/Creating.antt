-- CREATE of a directory on a world is that on its file system.
use Rattle.std.proofs.Common.{◌≡◌, ◌≤◌, ◌+◌, ℕ, Bool, true, false, if◌then◌else◌, List, ◌++◌, length, nat_le, Option, Some, None, refl, sym, ap, ◌∙◌, arith, rules, tests, length-append}
use Rattle.std.specs.Int.{w32}
use Rattle.xdr.specs.Grammar.{number}
use Rattle.xdr.specs.Forms.{elements}
use Rattle.xdr.proofs.Numbers.{length-number_32, length-number_64}
use Rattle.fs.specs.FileSystem.{FileSystem}
use Rattle.fs.specs.Operations.{created, new_directory}
use Rattle.fs.specs.declared.created.Created.{Created}
use Rattle.model.specs.Operations.Answer.{Done, Refused}
use Rattle.model.specs.Attributes.Attribute.{trimmed}
use Rattle.model.specs.Operations.Context.{at_node}
use Rattle.model.specs.Sessions.Opens.{Opens}
use Rattle.model.specs.Operations.Operation.{Attributes}
use Rattle.model_tree.specs.Refusals.Refusal.{first_refusal}
use Rattle.model.specs.Server.Runs.{is_done}
use Rattle.model.specs.Sessions.Session.{Table}
use Rattle.model.specs.Operations.Step.{State, does, effect, refused, refusals, change_refusals, unless_refused}
use Rattle.model.specs.Server.World.{World, InProgress, Gives, run, stepped, state_of, in_room, has_room, refuses, reply_with, outcome_text}
use Rattle.model_tree.specs.declared.limits.Limits.{Limits}
use Rattle.model_tree.specs.declared.status.Status.{Status}
use Rattle.model_tree.specs.declared.status.Status.TheVariants as status
use Rattle.compound.specs.Operates.{RunsTo, GivesIn, run_in_room, tree_by}
use Rattle.compound.specs.Runs.{with_rest}
use Rattle.compound.specs.States.{HasState, shared}
use Rattle.compound.specs.Trees.{IsHere, made_answer}
use Rattle.compound.proofs.Replies.{room_length}
use Rattle.compound.proofs.Rooms.{state_same, has_room_by}
use Rattle.compound.proofs.Trees.{here, tree_runs}

-- The answer's length does not depend on the change values

text_length : (before after : ℕ) (was_set : List ℕ)
    → length (outcome_text (Done (made_answer before after was_set))) ≡ 28 + length (elements (λ (n : ℕ). number w32 n) was_set)
unfolding outcome_text
text_length before after was_set = simp (length-append, length-number_32, length-number_64) (omega arith)

pub same_room : (request : InProgress) (before after before_2 after_2 : ℕ) (was_set : List ℕ)
    → length (reply_with request (Done (made_answer before after was_set))) ≡ length (reply_with request (Done (made_answer before_2 after_2 was_set)))
same_room request before after before_2 after_2 was_set = omega (
  arith,
  room_length request (Done (made_answer before after was_set)),
  room_length request (Done (made_answer before_2 after_2 was_set)),
  text_length before after was_set,
  text_length before_2 after_2 was_set,
)

pub made_room : (request : InProgress) (before after : ℕ) (was_set : List ℕ)
    → true ≡ nat_le (length (reply_with request (Done (made_answer 0 0 was_set)))) 16368
    → true ≡ nat_le (length (reply_with request (Done (made_answer before after was_set)))) 16368
made_room request before after was_set room = room ∙ ap (λ (n : ℕ). nat_le n 16368) (same_room request 0 0 before after was_set)

pub below : (m n : ℕ) → true ≡ nat_le m n → m ≤ n
below m n is = search (rules, tests)

pub made_short : (request : InProgress) (before after : ℕ) (was_set : List ℕ)
    → true ≡ nat_le (length (reply_with request (Done (made_answer 0 0 was_set)))) 16368
    → length (reply_with request (Done (made_answer before after was_set))) ≤ 16368
made_short request before after was_set room = below _ 16368 (made_room request before after was_set room)

-- Faults

pub up_or_down : (is_down : Bool) → is_down ≡ false → is_down ≡ true → ⊥
up_or_down is_down up down = cc

-- If it is made

module _ (now : ℕ) (fs : FileSystem) (table : Table) (opens : Opens) (request : InProgress) (name : List ℕ) (given : Attributes) where
  pub made_runs : (new : FileSystem) (made : Created)
      → ((state : State) → IsHere fs request state → does fs.volume.limits state now (new_directory name given) ≡ created new.volume.tree new.changes state given made)
      → RunsTo now (shared fs table opens) (shared new table opens) request (record request { context = at_node request.context made.number }) (new_directory name given) (Done (made_answer made.before made.number (trimmed given.bitmap)))
  unfolding run
  made_runs new made does_so = λ world rest on.
      let left = with_rest (record request { context = at_node request.context made.number }) rest in
      ap (λ (limits : Limits). stepped world (with_rest request rest) (does limits (state_of world (with_rest request rest)) now (new_directory name given))) on.volume
      ∙ (ap (stepped world (with_rest request rest)) (does_so (state_of world (with_rest request rest)) (here world fs table opens request rest on))
      ∙ (ap (λ (known : Table). Gives (Done (made_answer made.before made.number (trimmed given.bitmap))) (record world { tree = new.volume.tree; changes = new.changes; table = known }) left) on.table_is
      ∙ ap (λ (held : Opens). Gives (Done (made_answer made.before made.number (trimmed given.bitmap))) (record world { tree = new.volume.tree; changes = new.changes; table = table; opens = held }) left) on.opens))

  pub create_err : (reason : Status)
      → ((state : State) → IsHere fs request state → does fs.volume.limits state now (new_directory name given) ≡ refused state (new_directory name given) reason)
      → RunsTo now (shared fs table opens) (shared fs table opens) request request (new_directory name given) (Refused 6 reason)
  unfolding run
  create_err reason does_so = tree_runs now fs table opens request request.context (new_directory name given) (Refused 6 reason) (λ world rest. refl)
      (λ world rest on. does_so (state_of world (with_rest request rest)) (here world fs table opens request rest on))

  -- Whatever it comes to, by the room for its answer

  room_of : (room : Bool) (before after : ℕ) (world : World) (rest : List ℕ) → HasState world (shared fs table opens)
      → room ≡ nat_le (length (reply_with request (Done (made_answer 0 0 (trimmed given.bitmap))))) 16368
      → has_room world (with_rest request rest) (Done (made_answer before after (trimmed given.bitmap))) ≡ room
  room_of room before after world rest on is =
      has_room_by world (shared fs table opens) (with_rest request rest) (Done (made_answer before after (trimmed given.bitmap))) room on
      (is ∙ ap (λ (n : ℕ). nat_le n 16368) (same_room request 0 0 before after (trimmed given.bitmap)))

  in_room_by : (room : Bool) (before after : ℕ) (made : State) (world : World) (rest : List ℕ) → HasState world (shared fs table opens)
      → room ≡ nat_le (length (reply_with request (Done (made_answer 0 0 (trimmed given.bitmap))))) 16368
      → in_room world (with_rest request rest) 6 (stepped world (with_rest request rest) (record { outcome = Done (made_answer before after (trimmed given.bitmap)); state = made }))
      ≡ (if room then stepped world (with_rest request rest) (record { outcome = Done (made_answer before after (trimmed given.bitmap)); state = made })
      else refuses world (with_rest request rest) 6 status.RepTooBig)
  in_room_by room before after made world rest on is =
      ap (λ (b : Bool). if b then stepped world (with_rest request rest) (record { outcome = Done (made_answer before after (trimmed given.bitmap)); state = made })
      else refuses world (with_rest request rest) 6 status.RepTooBig) (room_of room before after world rest on is)

  full_by : (first : Option Status) (before after : ℕ) (made : State) (world : World) (rest : List ℕ) → HasState world (shared fs table opens)
      → false ≡ nat_le (length (reply_with request (Done (made_answer 0 0 (trimmed given.bitmap))))) 16368
      → is_done (unless_refused (state_of world (with_rest request rest)) (new_directory name given) first (record { outcome = Done (made_answer before after (trimmed given.bitmap)); state = made })).outcome ≡ true
      → in_room world (with_rest request rest) 6 (stepped world (with_rest request rest)
      (unless_refused (state_of world (with_rest request rest)) (new_directory name given) first (record { outcome = Done (made_answer before after (trimmed given.bitmap)); state = made })))
      ≡ refuses world (with_rest request rest) 6 status.RepTooBig
  full_by None before after made world rest on is done = in_room_by false before after made world rest on is
  full_by (Some reason) before after made world rest on is done = absurd (cc)

  pub full : false ≡ nat_le (length (reply_with request (Done (made_answer 0 0 (trimmed given.bitmap))))) 16368
      → ((state : State) → IsHere fs request state → is_done (does fs.volume.limits state now (new_directory name given)).outcome ≡ true)
      → GivesIn now (shared fs table opens) (shared fs table opens) request request (new_directory name given) (Refused 6 status.RepTooBig)
  unfolding run does effect
  full is done = λ world rest on.
      let state = state_of world (with_rest request rest) in
      let kind = new_directory name given in
      ap (λ (limits : Limits). in_room world (with_rest request rest) 6 (stepped world (with_rest request rest) (does limits state now kind))) on.volume
      ∙ (full_by (first_refusal (refusals fs.volume.limits state kind ++ change_refusals fs.volume.limits state kind (effect fs.volume.limits state now kind).state.tree)) _ _ _ world rest on is
      (done state (here world fs table opens request rest on))
      ∙ ap (λ (after : World). refuses after (with_rest request rest) 6 status.RepTooBig) (sym (state_same world (shared fs table opens) on)))

  tree_by_first : (first : Option Status) (before after : ℕ) (made : State) (world : World) (rest : List ℕ) → HasState world (shared fs table opens)
      → true ≡ nat_le (length (reply_with request (Done (made_answer 0 0 (trimmed given.bitmap))))) 16368
      → tree_by world (in_room world (with_rest request rest) 6 (stepped world (with_rest request rest)
      (unless_refused (state_of world (with_rest request rest)) (new_directory name given) first (record { outcome = Done (made_answer before after (trimmed given.bitmap)); state = made }))))
      ≡ (unless_refused (state_of world (with_rest request rest)) (new_directory name given) first (record { outcome = Done (made_answer before after (trimmed given.bitmap)); state = made })).state.tree
  tree_by_first None before after made world rest on is = ap (tree_by world) (in_room_by true before after made world rest on is)
  tree_by_first (Some reason) before after made world rest on is = refl

  pub tree_made : (world : World) (rest : List ℕ) → HasState world (shared fs table opens)
      → true ≡ nat_le (length (reply_with request (Done (made_answer 0 0 (trimmed given.bitmap))))) 16368
      → tree_by world (run_in_room world (with_rest request rest) now (new_directory name given)) ≡ (does fs.volume.limits (state_of world (with_rest request rest)) now (new_directory name given)).state.tree
  unfolding run does effect
  tree_made world rest on is =
      let state = state_of world (with_rest request rest) in
      let kind = new_directory name given in
      ap (λ (limits : Limits). tree_by world (in_room world (with_rest request rest) 6 (stepped world (with_rest request rest) (does limits state now kind)))) on.volume
      ∙ tree_by_first (first_refusal (refusals fs.volume.limits state kind ++ change_refusals fs.volume.limits state kind (effect fs.volume.limits state now kind).state.tree)) _ _ _ world rest on is
