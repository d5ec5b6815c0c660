-- Over every run: nobody is given what the lists deny him: RFC 8881, section 6.2.1. What was
-- answered OK, a reading as well as a change, was permitted to its caller by the lists of the tree
-- that it was answered from.
use Rattle.std.specs.Prelude.{ℕ, ◌≡◌, Some, slice_get, IsTrue}
use Rattle.model_tree.specs.Seats.Seats.{Seats}
use Rattle.model.specs.Operations.Step.{permitted}
use Rattle.model.specs.Server.Runs.{Event, Serving, RunHistory, IsRun, mounted, executed, done_with, is_done}
use Rattle.model_tree.specs.Trees.Tree.{Tree}
use Rattle.model.specs.Server.World.{ServerLimits, Entry}

abbrev pub IsPermittedAnswer : Entry → Type 0
IsPermittedAnswer entry =
    IsTrue (is_done entry.outcome)
    → IsTrue (permitted entry.state.tree entry.state.context entry.operation)

-- the operation that is under way included
abbrev pub EveryAnswerIsPermitted : Type 0
EveryAnswerIsPermitted =
    (limits : ServerLimits) (run : ℕ) (start : Tree) (seats : Seats) (serving : Serving)
    (history : RunHistory)
    → IsRun (mounted limits run start seats) serving history → (event : Event) → (i : ℕ) (entry : Entry)
    → slice_get (done_with history (executed serving event)) i ≡ Some entry
    → IsPermittedAnswer entry
