-- What an operation of a COMPOUND works on and leaves: RFC 8881, section 16.2.3.1.
use Rattle.std.specs.Prelude.{ℕ, Bool, true, [], ◌∷◌, List, ◌+◌, not}
use Rattle.model_tree.specs.declared.status.Status.{Status}
use Rattle.model_tree.specs.declared.status.Status.TheVariants as status
use Rattle.model.specs.Operations.Answer.{Answer, Outcome}
use Rattle.model.specs.Operations.Context.{Context, has_current, current_number, saved_number, at_node}
use Rattle.model.specs.Operations.Directory.{change_of}
use Rattle.model_tree.specs.Trees.Tree.{is_named, Tree, is_directory_at}
use Rattle.model_tree.specs.Trees.Edit.{Edit, edited}
use Rattle.model_tree.specs.Trees.Keyed.{at, is_key}
use Rattle.model_tree.specs.declared.limits.Limits.{Limits}
use Rattle.model_tree.specs.Refusals.Name.{name_refusals}
use Rattle.model.specs.Sessions.Opens.{Opens}
use Rattle.model.specs.Operations.Operation.{Argument, ChangeInfo, operation_of}
use Rattle.model_tree.specs.Refusals.Refusal.{Refusals}
use Rattle.model_tree.specs.Trees.Stamp.{next_stamp}
use Rattle.model.specs.Sessions.StateIds.{without_number}

-- What an operation works on: the tree, how many changes this run has made, the opens, and the
-- COMPOUND's context
pub record State : Type 0 where
  pub tree : Tree
  pub changes : ℕ
  pub opens : Opens
  pub context : Context

-- its answer or refusal, and what it leaves
pub record Stepped : Type 0 where
  pub outcome : Outcome
  pub state : State

-- the number of the current node, and the stamp of a change made now
abbrev pub current : State → ℕ
current state = current_number state.context

abbrev pub stamp_of : State → ℕ
stamp_of state = next_stamp state.context.run state.changes

abbrev pub saved : State → ℕ
saved state = saved_number state.context

-- Tests that many operations share

-- of each operation that takes the current filehandle (section 16.2.3.1.1)
abbrev pub current_refusals : State → Refusals
current_refusals state =
    (not (has_current state.context), status.NoFileHandle)
    ∷ (not (is_key (current state) state.tree), status.Stale) ∷ []

-- of a name in the current directory
abbrev pub named_refusals : Limits → State → (name : List ℕ) → Refusals
named_refusals limits state name =
    (not (is_directory_at state.tree (current state)), status.NotDir) ∷ name_refusals limits name

abbrev pub is_name_there : State → (name : List ℕ) → Bool
is_name_there state name = is_named state.tree (current state) name

-- What an operation leaves

-- the same tree, with this answer
abbrev pub answered : State → Answer → Stepped
answered state answer = record { outcome = Outcome.Done answer; state = state }

abbrev pub refused : State → Argument → Status → Stepped
refused state operation reason = record {
  outcome = Outcome.Refused (operation_of operation) reason;
  state = state;
}

-- the current filehandle is this node's from now on
abbrev pub moved_to : State → (number : ℕ) → State
moved_to state number = record state { context = at_node state.context number }

-- the tree after these edits, which are one change
abbrev pub changed : State → List Edit → State
changed state edits = record state { tree = edited edits state.tree; changes = state.changes + 1 }

-- what a change does to a directory, and what none does
abbrev pub change_to : State → (number after : ℕ) → ChangeInfo
change_to state number after = record {
  is_atomic = true;
  before = change_of (at number state.tree);
  after = after;
}

-- a node that is gone has no opens; 0, the number if there is none, had none
abbrev pub without_opens : State → (number : ℕ) → State
without_opens state number = record state { opens = without_number number state.opens }
