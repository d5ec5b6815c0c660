-- An operation that is refused before it is run is refused with a status that is not OK.
use Rattle.std.proofs.Common.{◌≡◌, ◌≢◌, ◌<◌, ◌^◌, ℕ, Bool, true, false, not, ◌&&◌, ◌||◌, if◌then◌else◌, List, Result, Ok, Err, subst, arith}
use Rattle.std.specs.Int.{w32}
use Rattle.std.specs.Prelude.{nat_lt}
use Rattle.xdr.specs.Grammar.{number_at}
use Rattle.xdr.specs.declared.refusal.Refusal.{Refusal}
use Rattle.model.specs.Operations.Answer as model
use Rattle.model.specs.Operations.Operation.{Argument}
use Rattle.model.specs.Server.Served.{is_served}
use Rattle.model_tree.specs.Refusals.Status.{code_of}
use Rattle.model.specs.Wire.WireArguments.{arguments_at}
use Rattle.model.specs.Server.World.{InProgress, Next, Refuses, Reads, next_operation, by_number, by_arguments, first_or, first_tests, later_tests, is_no_operation, is_sequence, stands_alone, op_illegal}
use Rattle.model_tree.specs.declared.status.Status.{Status}
use Rattle.model_tree.specs.declared.status.Status.TheVariants as status
use Rattle.model.proofs.Sessions.KeptLaws.{refused_length}
use Rattle.compound.specs.Operates.{IsEncoded}

abbrev NotOk : Next → Type 0
NotOk (Refuses operation reason) = code_of reason ≢ 0
NotOk (Reads operation rest) = Unit {0}

chosen : (test : Bool) (one other : Next) → NotOk one → NotOk other → NotOk (if test then one else other)
chosen true one other first second = first
chosen false one other first second = second

arguments_not_ok : (request : InProgress) (operation : ℕ) (given : Result (Argument × List ℕ) Refusal) → NotOk (by_arguments request operation given)
arguments_not_ok request operation (Err fault) = λ is. omega (arith, is)
arguments_not_ok request operation (Ok read) = chosen _ (Refuses operation status.BadXdr) (Reads read.0 read.1) (λ is. omega (arith, is)) tt

first_not_ok : (count operation : ℕ) (next : Next) → NotOk next → NotOk (first_or (first_tests count operation) next)
first_not_ok count operation next ok =
    chosen (is_no_operation operation) (Refuses op_illegal status.OpIllegal) _ (λ is. omega (arith, is))
    (chosen (not (is_sequence operation || stands_alone operation)) (Refuses operation status.OpNotInSession) _ (λ is. omega (arith, is))
    (chosen (stands_alone operation && nat_lt 1 count) (Refuses operation status.NotOnlyOp) next (λ is. omega (arith, is)) ok))

later_not_ok : (operation : ℕ) (next : Next) → NotOk next → NotOk (first_or (later_tests operation) next)
later_not_ok operation next ok =
    chosen (is_no_operation operation) (Refuses op_illegal status.OpIllegal) _ (λ is. omega (arith, is))
    (chosen (not (is_served operation) || stands_alone operation) (Refuses operation status.NotSupp) _ (λ is. omega (arith, is))
    (chosen (is_sequence operation) (Refuses operation status.SequencePos) next (λ is. omega (arith, is)) ok))

tests_not_ok : (test : Bool) (count operation : ℕ) (next : Next) → NotOk next
    → NotOk (first_or (if test then first_tests count operation else later_tests operation) next)
tests_not_ok true count operation next ok = first_not_ok count operation next ok
tests_not_ok false count operation next ok = later_not_ok operation next ok

number_not_ok : (request : InProgress) (given : Result (ℕ × List ℕ) Refusal) → NotOk (by_number request given)
number_not_ok request (Err fault) = λ is. omega (arith, is)
number_not_ok request (Ok read) =
    tests_not_ok _ request.count read.0 _ (arguments_not_ok request read.0 (arguments_at read.0 read.1))

next_not_ok : (request : InProgress) → NotOk (next_operation request)
unfolding next_operation
next_not_ok request = number_not_ok request (number_at w32 request.rest)

pub refused_not_ok : (request : InProgress) (operation : ℕ) (reason : Status) → next_operation request ≡ Refuses operation reason → code_of reason ≢ 0
refused_not_ok request operation reason is = subst NotOk is (next_not_ok request)

pub refused_encoded : (request : InProgress) (operation : ℕ) (reason : Status) → next_operation request ≡ Refuses operation reason → operation < 2 ^ 32
    → IsEncoded request (model.Refused operation reason)
refused_encoded request operation reason is fits = record {
  fits = (fits, refused_not_ok request operation reason is);
  small = omega (arith, refused_length operation reason);
  room = tt;
}
