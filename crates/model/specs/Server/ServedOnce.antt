-- Exactly once, over every run of the whole server: RFC 8881, section 2.10.6.1. The numbers that a
-- slot of a session ran are those of the SEQUENCE operations that were answered OK, in their order.
use Rattle.std.specs.Prelude.{ℕ, ◌&&◌, ◌==◌, List, [], ◌∷◌, ◌++◌, Option, None, Some, option_to_list, if◌then◌else◌, bytes_eq}
use Rattle.model_tree.specs.Seats.Seats.{Seats}
use Rattle.model.specs.Operations.Answer.{Outcome}
use Rattle.model.specs.Operations.Operation.{Argument, SequenceArguments}
use Rattle.model.specs.Sessions.SessionRuns.{CountsFrom, OthersBetween}
use Rattle.model_tree.specs.Trees.Tree.{Tree}
use Rattle.model.specs.Server.World.{ServerLimits, Entry}
use Rattle.model.specs.Server.Runs.{RunHistory, Serving, mounted, IsRun}

abbrev pub number_begun : List ℕ → ℕ → SequenceArguments → Option ℕ
number_begun id slot arguments =
    if bytes_eq arguments.session id && arguments.slot == slot
    then Some arguments.sequence
    else None

-- the number that an operation runs on this slot of the session of this id
abbrev pub number_by : List ℕ → ℕ → Argument → Outcome → Option ℕ
number_by id slot (Argument.Sequence arguments) (Outcome.Done answer) =
    number_begun id slot arguments
number_by id slot _ _ = None

abbrev pub numbers_in : List ℕ → ℕ → List Entry → List ℕ
numbers_in id slot [] = []
numbers_in id slot (entry ∷ done) =
    option_to_list (number_by id slot entry.operation entry.outcome) ++ numbers_in id slot done

-- They run from 1 on, each after the one before it, and so one of them runs again only after the
-- 2^32 - 1 others.
abbrev pub EveryServedSlot : Type 0
EveryServedSlot =
    (limits : ServerLimits) (run : ℕ) (start : Tree) (seats : Seats) (serving : Serving)
    (history : RunHistory)
    → IsRun (mounted limits run start seats) serving history → (id : List ℕ) (slot : ℕ)
    → CountsFrom 0 (numbers_in id slot history.done)
    × OthersBetween (numbers_in id slot history.done)
