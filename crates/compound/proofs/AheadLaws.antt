-- The word with which the next operation's bytes begin gives the number of its result.
use Rattle.std.proofs.Common.{◌≡◌, ◌==◌, ◌&&◌, ◌||◌, not, ℕ, Bool, true, false, if◌then◌else◌, List, drop, None, Result, Ok, Err, refl, sym, ap, subst, ◌∙◌, nat_lt}
use Rattle.std.specs.Int.{w32}
use Rattle.xdr.specs.declared.refusal.Refusal.{Refusal}
use Rattle.xdr.specs.Grammar.{number, number_at}
use Rattle.xdr.specs.Laws.{IsBytes}
use Rattle.xdr.proofs.Numbers.{int_takes}
use Rattle.xdr.proofs.Steps.{IsBytes-behind, IsBytes-drop}
use Rattle.model_tree.specs.declared.status.Status.TheVariants as status
use Rattle.model.specs.Operations.Operation.{Argument, operation_of}
use Rattle.model.specs.Wire.Rpc.{is_empty}
use Rattle.model.specs.Wire.WireArguments.{encoded_argument, arguments_at}
use Rattle.model.specs.Server.Served.{is_served, looks_no_further}
use Rattle.model.specs.Server.World.{InProgress, Next, Refuses, Reads, next_operation, is_last, is_no_operation, is_sequence, stands_alone, op_illegal, first_tests, later_tests, first_or, by_arguments, by_number, tests_of}
use Rattle.wire.proofs.ExactArguments.{argument_takes}
use Rattle.compound.specs.Ahead.{number_of_next, number_of_read, ahead_by, ahead_of}
use Rattle.compound.specs.Views.{Asked, resumed}
use Rattle.compound.specs.declared.ahead.Ahead.TheVariants as ahead
use Rattle.compound.specs.declared.progress.Progress.{Progress}

number_is : (a : Argument) → (encoded_argument a).number ≡ operation_of a
number_is (Argument.Access rights) = refl
number_is a = refl

-- what is read at a number is of this number
read_number : (bytes rest after : List ℕ) (n : ℕ) (a : Argument) → IsBytes bytes → number_at w32 bytes ≡ Ok (n, rest) → arguments_at n rest ≡ Ok (a, after)
    → operation_of a ≡ n
unfolding arguments_at
read_number bytes rest after n a are is given =
    let t = int_takes bytes n rest are is in
    let u = argument_takes n rest a after t.0 (IsBytes-behind bytes (number w32 n) rest are t.1) given in
    sym (u.is_number ∙ number_is a)

module _ (request : InProgress) (n : ℕ) where
  -- the number of its result
  abbrev own : ℕ
  own = if is_no_operation n then op_illegal else n

  abbrev Says : Next → Type 0
  Says next = number_of_next next ≡ own

  chosen : (test : Bool) (one other : Next) → (test ≡ true → Says one) → (test ≡ false → Says other) → Says (if test then one else other)
  chosen true one other first second = first refl
  chosen false one other first second = second refl

  illegal : is_no_operation n ≡ true → op_illegal ≡ own
  illegal is = sym (ap (λ (b : Bool). if b then op_illegal else n) is)

  known : is_no_operation n ≡ false → n ≡ own
  known is = sym (ap (λ (b : Bool). if b then op_illegal else n) is)

  first_says : (next : Next) → (is_no_operation n ≡ false → Says next) → Says (first_or (first_tests request.count n) next)
  first_says next on =
      chosen (is_no_operation n) (Refuses op_illegal status.OpIllegal) _ illegal (λ some.
      chosen (not (is_sequence n || stands_alone n)) (Refuses n status.OpNotInSession) _ (λ test. known some) (λ test.
      chosen (stands_alone n && nat_lt 1 request.count) (Refuses n status.NotOnlyOp) next (λ test. known some) (λ test. on some)))

  later_says : (next : Next) → (is_no_operation n ≡ false → Says next) → Says (first_or (later_tests n) next)
  later_says next on =
      chosen (is_no_operation n) (Refuses op_illegal status.OpIllegal) _ illegal (λ some.
      chosen (not (is_served n) || stands_alone n) (Refuses n status.NotSupp) _ (λ test. known some) (λ test.
      chosen (is_sequence n) (Refuses n status.SequencePos) next (λ test. known some) (λ test. on some)))

  tests_say : (next : Next) → (is_no_operation n ≡ false → Says next) → Says (first_or (tests_of request n) next)
  tests_say next on = by_place (request.answered == 0)
    where
      by_place : (b : Bool) → Says (first_or (if b then first_tests request.count n else later_tests n) next)
      by_place true = first_says next on
      by_place false = later_says next on

  arguments_say : (given : Result (Argument × List ℕ) Refusal) → ((a : Argument) (after : List ℕ) → given ≡ Ok (a, after) → operation_of a ≡ n)
      → is_no_operation n ≡ false → Says (by_arguments request n given)
  arguments_say (Err fault) of some = known some
  arguments_say (Ok read) of some =
      chosen (is_last request && (not (looks_no_further read.0) && not (is_empty read.1))) (Refuses n status.BadXdr) (Reads read.0 read.1)
      (λ test. known some) (λ test. of read.0 read.1 refl ∙ known some)

module _ (request : InProgress) (are : IsBytes request.rest) where
  number_says : (given : Result (ℕ × List ℕ) Refusal) → number_at w32 request.rest ≡ given → number_of_next (by_number request given) ≡ number_of_read given
  number_says (Err fault) is = refl
  number_says (Ok read) is =
      tests_say request read.0 (by_arguments request read.0 (arguments_at read.0 read.1))
      (arguments_say request read.0 (arguments_at read.0 read.1) (λ a after given. read_number request.rest read.1 after read.0 a are is given))

  pub next_says : number_of_next (next_operation request) ≡ number_of_read (number_at w32 request.rest)
  unfolding next_operation
  next_says = number_says (number_at w32 request.rest) refl

-- what is known of a COMPOUND of these operations, of which one comes next
pub told_ahead : (asked : Asked) (progress : Progress) (operations : List ℕ) → IsBytes operations → asked.compound.operations ≡ operations → progress.ended ≡ None
    → (n : ℕ) → n ≡ number_of_read (number_at w32 (drop progress.position operations)) → ahead.Operation n ≡ ahead_of (resumed asked progress)
told_ahead asked progress operations are is none n told =
    let own : IsBytes asked.compound.operations = subst IsBytes (sym is) are in
    let here : n ≡ number_of_read (number_at w32 (drop progress.position asked.compound.operations)) =
    told ∙ ap (λ (bytes : List ℕ). number_of_read (number_at w32 (drop progress.position bytes))) (sym is) in
    let next : n ≡ number_of_next (next_operation (resumed asked progress)) =
    here ∙ sym (next_says (resumed asked progress) (IsBytes-drop progress.position asked.compound.operations own)) in
    ap (λ (m : ℕ). ahead.Operation m) next ∙ ap (ahead_by (number_of_next (next_operation (resumed asked progress)))) (sym none)
