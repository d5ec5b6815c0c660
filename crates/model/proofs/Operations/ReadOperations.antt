-- An operation that may only be the first of a COMPOUND is not read as a later one, and each that
-- is read is served.
use Rattle.std.proofs.Common.{◌≡◌, ℕ, Bool, true, false, not, ◌&&◌, ◌||◌, ◌==◌, if◌then◌else◌, List, Result, Ok, Err, refl, ap, sym, subst, ◌∙◌, ◌⊎◌, inl, inr, nat_lt}
use Rattle.std.proofs.lemmas.Bool.{eqb-true, eq-eqb, not-false}
use Rattle.std.specs.Int.{w32}
use Rattle.xdr.specs.Forms.{boolean, bitmap}
use Rattle.xdr.specs.Grammar.{Grammar, ◌>>=◌, number_at, void, unsigned_int, unsigned_hyper}
use Rattle.xdr.specs.Union.{Choice, on, no_other}
use Rattle.xdr.specs.declared.refusal.Refusal.{Refusal}
use Rattle.model.specs.Operations.Operation.{Argument, operation_of}
use Rattle.model.specs.Operations.OperationNumber.{OP_ACCESS, OP_CLOSE, OP_COMMIT, OP_CREATE, OP_GETATTR, OP_GETFH, OP_LOOKUP, OP_LOOKUPP, OP_OPEN, OP_PUTFH, OP_PUTROOTFH, OP_READ, OP_READDIR, OP_REMOVE, OP_RENAME, OP_RESTOREFH, OP_SAVEFH, OP_SETATTR, OP_WRITE, OP_EXCHANGE_ID, OP_CREATE_SESSION, OP_DESTROY_SESSION, OP_SEQUENCE, OP_DESTROY_CLIENTID, OP_RECLAIM_COMPLETE}
use Rattle.model.specs.Wire.Rpc.{is_empty}
use Rattle.model.specs.Server.Served.{is_served, looks_no_further}
use Rattle.model.specs.Wire.WireArguments.{close_arguments, commit_arguments, create_arguments, open_arguments, read_arguments, read_dir_arguments, rename_arguments, set_attr_arguments, write_arguments, exchange_id_arguments, create_session_arguments, sequence_arguments, argument_choice, arguments_at}
use Rattle.model.specs.Wire.WireTypes.{any_opaque, file_handle, session_id}
use Rattle.model.specs.Server.World.{InProgress, Next, Refuses, Reads, next_operation, by_number, by_arguments, first_or, first_tests, later_tests, is_last, is_no_operation, is_sequence, stands_alone, op_illegal}
use Rattle.model_tree.specs.declared.status.Status.TheVariants as status
use Rattle.model_tree.proofs.Facts.BooleanLaws.{second_of_neither}

-- The number of what is read

abbrev pub is_first : (operation : ℕ) → Bool
is_first operation = stands_alone operation || is_sequence operation

abbrev IsOf : (operation : ℕ) → Result (Argument × List ℕ) Refusal → Type 0
IsOf operation (Err fault) = Unit {0}
IsOf operation (Ok read) = operation_of read.0 ≡ operation

by_test : (operation : ℕ) (test : Bool) (one other : Result (Argument × List ℕ) Refusal) → (test ≡ true → IsOf operation one) → IsOf operation other
    → IsOf operation (if test then one else other)
by_test operation true one other first second = first refl
by_test operation false one other first second = second

made_first : {V : Type 0} (operation : ℕ) (make : V → Argument) (read : Result (V × List ℕ) Refusal)
    → ((v : V) → operation_of (make v) ≡ operation) → IsOf operation (read >>= λ x. Ok (make x.0, x.1))
made_first operation make (Err fault) here = tt
made_first operation make (Ok read) here = here read.0

abbrev Firsts : Choice Argument → Type 0
Firsts choice = (operation : ℕ) (bytes : List ℕ) (argument : Argument) (rest : List ℕ) → choice operation bytes ≡ Ok (argument, rest)
    → operation_of argument ≡ operation

is_of : (operation : ℕ) (given : Result (Argument × List ℕ) Refusal)
    → ((argument : Argument) (rest : List ℕ) → given ≡ Ok (argument, rest) → operation_of argument ≡ operation) → IsOf operation given
is_of operation (Err fault) each = tt
is_of operation (Ok read) each = each read.0 read.1 refl

on_first : {V : Type 0} (number : ℕ) (form : Grammar V) (make : V → Argument) (otherwise : Choice Argument)
    → ((v : V) → operation_of (make v) ≡ number) → Firsts otherwise → Firsts (on number form make otherwise)
on_first number form make otherwise here others = λ operation bytes argument rest is.
    subst (IsOf operation) is
    (by_test operation (operation == number) (form.read bytes >>= λ x. Ok (make x.0, x.1)) (otherwise operation bytes)
    (λ same. made_first operation make (form.read bytes) (λ v. here v ∙ sym (eqb-true operation number same)))
    (is_of operation (otherwise operation bytes) (others operation bytes)))

choice_first : Firsts argument_choice
choice_first =
    on_first OP_ACCESS unsigned_int Argument.Access _ (λ v. refl)
    (on_first OP_CLOSE close_arguments Argument.Close _ (λ v. refl)
    (on_first OP_COMMIT commit_arguments Argument.Commit _ (λ v. refl)
    (on_first OP_CREATE create_arguments Argument.Create _ (λ v. refl)
    (on_first OP_GETATTR bitmap Argument.GetAttr _ (λ v. refl)
    (on_first OP_GETFH void (λ _. Argument.GetFh) _ (λ v. refl)
    (on_first OP_LOOKUP any_opaque Argument.Lookup _ (λ v. refl)
    (on_first OP_LOOKUPP void (λ _. Argument.LookupParent) _ (λ v. refl)
    (on_first OP_OPEN open_arguments Argument.Open _ (λ v. refl)
    (on_first OP_PUTFH file_handle Argument.PutFh _ (λ v. refl)
    (on_first OP_PUTROOTFH void (λ _. Argument.PutRootFh) _ (λ v. refl)
    (on_first OP_READ read_arguments Argument.Read _ (λ v. refl)
    (on_first OP_READDIR read_dir_arguments Argument.ReadDir _ (λ v. refl)
    (on_first OP_REMOVE any_opaque Argument.Remove _ (λ v. refl)
    (on_first OP_RENAME rename_arguments Argument.Rename _ (λ v. refl)
    (on_first OP_RESTOREFH void (λ _. Argument.RestoreFh) _ (λ v. refl)
    (on_first OP_SAVEFH void (λ _. Argument.SaveFh) _ (λ v. refl)
    (on_first OP_SETATTR set_attr_arguments Argument.SetAttr _ (λ v. refl)
    (on_first OP_WRITE write_arguments Argument.Write _ (λ v. refl)
    (on_first OP_EXCHANGE_ID exchange_id_arguments Argument.ExchangeId _ (λ v. refl)
    (on_first OP_CREATE_SESSION create_session_arguments Argument.CreateSession _ (λ v. refl)
    (on_first OP_DESTROY_SESSION session_id Argument.DestroySession _ (λ v. refl)
    (on_first OP_SEQUENCE sequence_arguments Argument.Sequence _ (λ v. refl)
    (on_first OP_DESTROY_CLIENTID unsigned_hyper Argument.DestroyClientId _ (λ v. refl)
    (on_first OP_RECLAIM_COMPLETE boolean Argument.ReclaimComplete no_other (λ v. refl) (λ operation bytes argument rest is. absurd cc)))))))))))))))))))))))))

arguments_first : Firsts arguments_at
unfolding arguments_at
arguments_first = choice_first

-- What is read comes first if it must, and is served

abbrev Passed : InProgress → Argument → Type 0
Passed request argument = (is_first (operation_of argument) ≡ true → request.answered ≡ 0) × (is_served (operation_of argument) ≡ true)

abbrev Alone : InProgress → Next → Type 0
Alone request (Refuses operation reason) = Unit {0}
Alone request (Reads argument rest) = Passed request argument

otherwise : (request : InProgress) (test : Bool) (one other : Next) → Alone request one → (test ≡ false → Alone request other)
    → Alone request (if test then one else other)
otherwise request true one other first second = first
otherwise request false one other first second = second refl

none_first : (operation : ℕ) → stands_alone operation ≡ false → is_sequence operation ≡ false → is_first operation ≡ false
none_first operation alone sequence = ap (λ (test : Bool). test || is_sequence operation) alone ∙ sequence

true_false : {T : Type 0} → true ≡ false → T
true_false is = absurd cc

read_alone : (request : InProgress) (operation : ℕ) (given : Result (Argument × List ℕ) Refusal) → IsOf operation given
    → (is_first operation ≡ true → request.answered ≡ 0) → is_served operation ≡ true → Alone request (by_arguments request operation given)
read_alone request operation (Err fault) of first served = tt
read_alone request operation (Ok read) of first served =
    otherwise request (is_last request && (not (looks_no_further read.0) && not (is_empty read.1))) (Refuses operation status.BadXdr) (Reads read.0 read.1) tt
    (λ enough. (λ is. first (sym (ap is_first of) ∙ is), ap is_served of ∙ served))

left_false : (left right : Bool) → (left || right) ≡ false → left ≡ false
left_false true right is = is
left_false false right is = refl

one_of : (left right : Bool) → (left || right) ≡ true → (left ≡ true) ⊎ (right ≡ true)
one_of true right is = inl refl
one_of false right is = inr is

-- each that may come first is served
served_at : (operation number : ℕ) → (operation == number) ≡ true → is_served number ≡ true → is_served operation ≡ true
served_at operation number same is = ap is_served (eqb-true operation number same) ∙ is

first_served : (operation : ℕ) → (is_sequence operation || stands_alone operation) ≡ true → is_served operation ≡ true
first_served operation is = elim (one_of (operation == OP_SEQUENCE) (stands_alone operation) is) [
  | inl sequence ↦ served_at operation OP_SEQUENCE sequence refl
  | inr alone ↦ elim (one_of (operation == OP_EXCHANGE_ID || operation == OP_CREATE_SESSION || operation == OP_DESTROY_SESSION) (operation == OP_DESTROY_CLIENTID) alone) [
    | inl some ↦ elim (one_of (operation == OP_EXCHANGE_ID || operation == OP_CREATE_SESSION) (operation == OP_DESTROY_SESSION) some) [
      | inl two ↦ elim (one_of (operation == OP_EXCHANGE_ID) (operation == OP_CREATE_SESSION) two) [
        | inl exchange ↦ served_at operation OP_EXCHANGE_ID exchange refl
        | inr create ↦ served_at operation OP_CREATE_SESSION create refl
      ]
      | inr destroy ↦ served_at operation OP_DESTROY_SESSION destroy refl
    ]
    | inr client ↦ served_at operation OP_DESTROY_CLIENTID client refl
  ]
]

begins_alone : (request : InProgress) (operation : ℕ) (given : Result (Argument × List ℕ) Refusal) → request.answered ≡ 0 → IsOf operation given
    → Alone request (first_or (first_tests request.count operation) (by_arguments request operation given))
begins_alone request operation given first of =
    otherwise request (is_no_operation operation) (Refuses op_illegal status.OpIllegal) _ tt (λ some.
    otherwise request (not (is_sequence operation || stands_alone operation)) (Refuses operation status.OpNotInSession) _ tt (λ known.
    otherwise request (stands_alone operation && nat_lt 1 request.count) (Refuses operation status.NotOnlyOp) (by_arguments request operation given) tt (λ only.
    read_alone request operation given of (λ is. first)
    (first_served operation (not-false (is_sequence operation || stands_alone operation) known)))))

later_alone : (request : InProgress) (operation : ℕ) (given : Result (Argument × List ℕ) Refusal) → IsOf operation given
    → Alone request (first_or (later_tests operation) (by_arguments request operation given))
later_alone request operation given of =
    otherwise request (is_no_operation operation) (Refuses op_illegal status.OpIllegal) _ tt (λ some.
    otherwise request (not (is_served operation) || stands_alone operation) (Refuses operation status.NotSupp) _ tt (λ served.
    otherwise request (is_sequence operation) (Refuses operation status.SequencePos) (by_arguments request operation given) tt (λ sequence.
    read_alone request operation given of
    (λ is. true_false (sym is ∙ none_first operation (second_of_neither (not (is_served operation)) (stands_alone operation) served) sequence))
    (not-false (is_served operation) (left_false (not (is_served operation)) (stands_alone operation) served)))))

tests_alone : (request : InProgress) (test : Bool) (operation : ℕ) (given : Result (Argument × List ℕ) Refusal)
    → (test ≡ true → request.answered ≡ 0) → IsOf operation given
    → Alone request (first_or (if test then first_tests request.count operation else later_tests operation) (by_arguments request operation given))
tests_alone request true operation given first of = begins_alone request operation given (first refl) of
tests_alone request false operation given first of = later_alone request operation given of

number_alone : (request : InProgress) (given : Result (ℕ × List ℕ) Refusal) → Alone request (by_number request given)
number_alone request (Err fault) = tt
number_alone request (Ok read) =
    tests_alone request (request.answered == 0) read.0 (arguments_at read.0 read.1) (λ first. eqb-true request.answered 0 first)
    (is_of read.0 (arguments_at read.0 read.1) (arguments_first read.0 read.1))

next_alone : (request : InProgress) → Alone request (next_operation request)
unfolding next_operation
next_alone request = number_alone request (number_at w32 request.rest)

passed_tests : (request : InProgress) (argument : Argument) (rest : List ℕ) → next_operation request ≡ Reads argument rest → Passed request argument
passed_tests request argument rest is = subst (Alone request) is (next_alone request)

pub first_read : (request : InProgress) (argument : Argument) (rest : List ℕ) → next_operation request ≡ Reads argument rest
    → is_first (operation_of argument) ≡ true → request.answered ≡ 0
first_read request argument rest is = (passed_tests request argument rest is).0

-- What is read first of all may come first, and is the only one if it must be

abbrev ComesFirst : InProgress → Next → Type 0
ComesFirst request (Refuses operation reason) = Unit {0}
ComesFirst request (Reads argument rest) = (is_first (operation_of argument) ≡ true)
    × ((stands_alone (operation_of argument) && nat_lt 1 request.count) ≡ false)

by_either : (request : InProgress) (test : Bool) (one other : Next) → ComesFirst request one → (test ≡ false → ComesFirst request other)
    → ComesFirst request (if test then one else other)
by_either request true one other first second = first
by_either request false one other first second = second refl

turned_round : (left right : Bool) → (left || right) ≡ true → (right || left) ≡ true
turned_round true true is = refl
turned_round true false is = refl
turned_round false right is = ap (λ b. b || false) is

read_first : (request : InProgress) (operation : ℕ) (given : Result (Argument × List ℕ) Refusal) → IsOf operation given → is_first operation ≡ true
    → (stands_alone operation && nat_lt 1 request.count) ≡ false → ComesFirst request (by_arguments request operation given)
read_first request operation (Err fault) of first alone = tt
read_first request operation (Ok read) of first alone =
    by_either request (is_last request && (not (looks_no_further read.0) && not (is_empty read.1))) (Refuses operation status.BadXdr) (Reads read.0 read.1) tt
    (λ enough. (ap is_first of ∙ first, ap (λ (n : ℕ). stands_alone n && nat_lt 1 request.count) of ∙ alone))

begins_first : (request : InProgress) (operation : ℕ) (given : Result (Argument × List ℕ) Refusal) → IsOf operation given
    → ComesFirst request (first_or (first_tests request.count operation) (by_arguments request operation given))
begins_first request operation given of =
    by_either request (is_no_operation operation) (Refuses op_illegal status.OpIllegal) _ tt (λ some.
    by_either request (not (is_sequence operation || stands_alone operation)) (Refuses operation status.OpNotInSession) _ tt (λ known.
    by_either request (stands_alone operation && nat_lt 1 request.count) (Refuses operation status.NotOnlyOp) (by_arguments request operation given) tt (λ only.
    read_first request operation given of
    (turned_round (is_sequence operation) (stands_alone operation) (not-false (is_sequence operation || stands_alone operation) known)) only)))

number_first : (request : InProgress) → request.answered ≡ 0 → (given : Result (ℕ × List ℕ) Refusal) → ComesFirst request (by_number request given)
number_first request none (Err fault) = tt
number_first request none (Ok read) =
    subst (λ (b : Bool). ComesFirst request (first_or (if b then first_tests request.count read.0 else later_tests read.0)
    (by_arguments request read.0 (arguments_at read.0 read.1)))) (sym (eq-eqb request.answered 0 none))
    (begins_first request read.0 (arguments_at read.0 read.1) (is_of read.0 (arguments_at read.0 read.1) (arguments_first read.0 read.1)))

next_first : (request : InProgress) → request.answered ≡ 0 → ComesFirst request (next_operation request)
unfolding next_operation
next_first request none = number_first request none (number_at w32 request.rest)

pub alone_read : (request : InProgress) (argument : Argument) (rest : List ℕ) → next_operation request ≡ Reads argument rest → request.answered ≡ 0
    → (is_first (operation_of argument) ≡ true) × ((stands_alone (operation_of argument) && nat_lt 1 request.count) ≡ false)
alone_read request argument rest is none = subst (ComesFirst request) is (next_first request none)
