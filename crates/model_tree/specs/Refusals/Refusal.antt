-- Why an operation is refused: the tests in their order, each with the status that is returned if
-- it holds.
use Rattle.std.specs.Prelude.{Bool, true, false, List, [], ◌∷◌, Option, Some, None}
use Rattle.model_tree.specs.declared.status.Status.{Status}

abbrev pub Refusals : Type 0
Refusals = List (Bool × Status)

abbrev pub refused_or : Bool → Status → Option Status → Option Status
refused_or true status others = Some status
refused_or false status others = others

-- the status of the first test that holds
abbrev pub first_refusal : Refusals → Option Status
first_refusal [] = None
first_refusal (test ∷ rest) = refused_or test.0 test.1 (first_refusal rest)
