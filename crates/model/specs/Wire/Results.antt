-- The result of a COMPOUND as a grammar: RFC 8881, section 16.2.2. It encodes what the server makes
-- of the results of a COMPOUND.
use Rattle.std.specs.Prelude.{◌≡◌, ℕ, ◌-◌, ◌^◌, List, [], ◌∷◌, ◌++◌, flat_map, length, Some}
use Rattle.xdr.specs.Grammar.{Grammar, ◌&◌, unsigned_int}
use Rattle.xdr.specs.Forms.{opaque, array}
use Rattle.model_tree.specs.Seats.Seats.{Seats}
use Rattle.model_tree.specs.declared.acl.Cred.{Cred}
use Rattle.model_tree.specs.declared.status.Status.{Status}
use Rattle.model.specs.Operations.Answer.{Outcome}
use Rattle.model_tree.specs.Trees.Keyed.{at}
use Rattle.model.specs.Wire.Rpc.{Compound, tag_limit}
use Rattle.model.specs.Server.Runs.{Serving, RunHistory, IsRun, mounted}
use Rattle.model_tree.specs.Refusals.Status.{code_of}
use Rattle.model_tree.specs.Trees.Tree.{Tree}
use Rattle.model.specs.Wire.WireAnswers.{outcome}
use Rattle.model.specs.Server.World.{ServerLimits, World, InProgress, Busy, in_progress, outcome_text, result_of, with_result}

-- COMPOUND4res: the status of the last result, the tag, and the results
abbrev pub compound_result : Grammar (ℕ × (List ℕ × List Outcome))
compound_result = unsigned_int & opaque tag_limit & array (2 ^ 32 - 1) outcome

-- The laws

-- these are the results of a request so far
pub record AreResults (request : InProgress) (results : List Outcome) : Type 0 where
  pub answered : request.answered ≡ length results
  pub encoded : request.results ≡ flat_map outcome_text results

-- A request begins without results, and goes on after one more; at its end they are encoded as one
-- result.
pub record EncodesResults : Type 0 where
  pub begins : (world : World) (xid : ℕ) (cred : Cred) (compound : Compound)
      → AreResults (in_progress world xid cred compound) []
  pub goes_on : (request : InProgress) (results : List Outcome) (next : Outcome)
      → AreResults request results
      → AreResults (with_result request next) (results ++ next ∷ [])
  pub ends : (request : InProgress) (results : List Outcome) (last : Status)
      → AreResults request results
      → result_of request last ≡ compound_result.encoding (code_of last, (request.tag, results))

-- So it is at each moment of every run of the server.
abbrev pub HasResults : InProgress → Type 0
HasResults request = (results : List Outcome) × AreResults request results

abbrev pub EveryRequestHasResults : Type 0
EveryRequestHasResults =
    (limits : ServerLimits) (run : ℕ) (start : Tree) (seats : Seats) (serving : Serving)
    (history : RunHistory)
    → IsRun (mounted limits run start seats) serving history
    → (number : ℕ) (request : InProgress)
    → at number serving.world.connections ≡ Some (Busy request) → HasResults request
