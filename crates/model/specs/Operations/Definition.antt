-- What the definition of one operation of a COMPOUND has: RFC 8881, sections 16.2 and 18. The order
-- of the tests is this server's profile.
use Rattle.std.specs.Prelude.{ℕ, Bool, false, List, []}
use Rattle.model.specs.Operations.Context.{Context}
use Rattle.model_tree.specs.Refusals.Refusal.{Refusals}
use Rattle.model.specs.Operations.State.{State, Stepped, current_refusals}
use Rattle.model.specs.Operations.Need.{Right, here}
use Rattle.model_tree.specs.declared.limits.Limits.{Limits}
use Rattle.model_tree.specs.Trees.Tree.{Tree}

pub record Definition : Type 0 where
  -- the tests and the rights, in the order in which they are looked at
  pub early : Limits → State → Refusals
  pub need_first : Tree → Context → List (List Right)
  pub middle : Limits → State → Refusals
  pub need_then : Tree → Context → List (List Right)
  pub late : Limits → State → Refusals
  -- whether it is a change: it alters the tree, and uses up a stamp
  pub alters : State → Bool
  -- what it does if nothing refuses it; `now` is the moment, in nanoseconds since 1970
  pub effect : Limits → State → (now : ℕ) → Stepped

-- What the caller has to be granted first: this mask on the current node, or nothing

abbrev pub needs : (mask : ℕ) → Tree → Context → List (List Right)
needs mask tree context = here context mask

abbrev pub needs_nothing : Tree → Context → List (List Right)
needs_nothing tree context = []

-- The definition of an operation begins with one of these two, and adds its tests, and whether it
-- is a change. It always says what it needs first: a forgotten right is a missing argument.

-- no test, no change
abbrev pub only : (need_first : Tree → Context → List (List Right))
    → (effect : Limits → State → (now : ℕ) → Stepped) → Definition
only need_first effect = record {
  early = λ limits state. [];
  need_first = need_first;
  middle = λ limits state. [];
  need_then = needs_nothing;
  late = λ limits state. [];
  alters = λ state. false;
  effect = effect;
}

-- the same with a current filehandle, whose node is there
abbrev pub on_current : (need_first : Tree → Context → List (List Right))
    → (effect : Limits → State → (now : ℕ) → Stepped) → Definition
on_current need_first effect =
    record (only need_first effect) { early = λ limits state. current_refusals state }
