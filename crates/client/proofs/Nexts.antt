-- If an operation's encoding comes next, the operation is read, or refused under its own number.
use Rattle.std.proofs.Common.{◌≡◌, ◌==◌, ◌&&◌, ◌||◌, not, ℕ, Bool, true, false, cond, List, ◌++◌, Result, Ok, refl, sym, ap, ◌∙◌, subst, nat_lt, append_assoc}
use Rattle.std.proofs.lemmas.Bool.{true≢false}
use Rattle.std.specs.Int.{w32}
use Rattle.xdr.specs.declared.refusal.Refusal.{Refusal}
use Rattle.xdr.specs.Grammar.{number, number_at}
use Rattle.xdr.proofs.Numbers.{int_again}
use Rattle.model_tree.specs.declared.status.Status.TheVariants as status
use Rattle.model.specs.Operations.Operation.{Argument, operation_of}
use Rattle.model.specs.Wire.Rpc.{is_empty}
use Rattle.model.specs.Server.Served.{is_served, looks_no_further}
use Rattle.model.specs.Wire.WireArguments.{encoded_argument, arguments_at, argument}
use Rattle.model.specs.Server.World.{InProgress, Next, Refuses, Reads, next_operation, is_last, is_no_operation, is_sequence, stands_alone, op_illegal, first_tests, later_tests, first_or, by_arguments, by_number, tests_of}
use Rattle.wire.proofs.ExactArguments.{argument_again}

number_is : (a : Argument) → (encoded_argument a).number ≡ operation_of a
number_is (Argument.Access rights) = refl
number_is a = refl

is_operation : (a : Argument) → is_no_operation (encoded_argument a).number ≡ false
is_operation (Argument.Access rights) = refl
is_operation a = refl

abbrev pub IsNext : Argument → List ℕ → Next → Type 0
IsNext asked rest (Refuses operation reason) = operation ≡ operation_of asked
IsNext asked rest (Reads operation behind) = (operation ≡ asked) × (behind ≡ rest)

module _ (request : InProgress) (asked : Argument) (rest : List ℕ) where
  abbrev Own : Next → Type 0
  Own next = IsNext asked rest next

  abbrev n : ℕ
  n = (encoded_argument asked).number

  chosen : (b : Bool) (x y : Next) → (b ≡ true → Own x) → Own y → Own (cond b x y)
  chosen true x y first second = first refl
  chosen false x y first second = second

  no_illegal : is_no_operation n ≡ true → Own (Refuses op_illegal status.OpIllegal)
  no_illegal none = absurd (true≢false (sym none ∙ is_operation asked))

  first_own : (next : Next) → Own next → Own (first_or (first_tests request.count n) next)
  first_own next own =
      chosen (is_no_operation n) (Refuses op_illegal status.OpIllegal) _ no_illegal
      (chosen (not (is_sequence n || stands_alone n)) (Refuses n status.OpNotInSession) _ (λ test. number_is asked)
      (chosen (stands_alone n && nat_lt 1 request.count) (Refuses n status.NotOnlyOp) next (λ test. number_is asked) own))

  later_own : (next : Next) → Own next → Own (first_or (later_tests n) next)
  later_own next own =
      chosen (is_no_operation n) (Refuses op_illegal status.OpIllegal) _ no_illegal
      (chosen (not (is_served n) || stands_alone n) (Refuses n status.NotSupp) _ (λ test. number_is asked)
      (chosen (is_sequence n) (Refuses n status.SequencePos) next (λ test. number_is asked) own))

  tested : (next : Next) → Own next → Own (first_or (tests_of request n) next)
  tested next own = by_place (request.answered == 0)
    where
      by_place : (b : Bool) → Own (first_or (cond b (first_tests request.count n) (later_tests n)) next)
      by_place true = first_own next own
      by_place false = later_own next own

  read_own : Own (by_arguments request n (Ok (asked, rest)))
  read_own =
      chosen (is_last request && (not (looks_no_further asked) && not (is_empty rest))) (Refuses n status.BadXdr) (Reads asked rest)
      (λ test. number_is asked) (refl, refl)

  pub next_is : argument.Fits asked → request.rest ≡ argument.encoding asked ++ rest → Own (next_operation request)
  unfolding next_operation arguments_at
  next_is fits is =
      let text : List ℕ = (encoded_argument asked).text in
      let at_prefix : number_at w32 request.rest ≡ Ok (n, text ++ rest) =
      ap (number_at w32) (is ∙ append_assoc (number w32 n) text rest) ∙ int_again n (text ++ rest) fits.0 in
      let whole : arguments_at n (text ++ rest) ≡ Ok (asked, rest) = argument_again asked rest fits.0 fits.1 in
      let read : Own (by_arguments request n (arguments_at n (text ++ rest))) =
      subst (λ (r : Result (Argument × List ℕ) Refusal). Own (by_arguments request n r)) (sym whole) read_own in
      subst (λ (r : Result (ℕ × List ℕ) Refusal). Own (by_number request r)) (sym at_prefix)
      (tested (by_arguments request n (arguments_at n (text ++ rest))) read)
