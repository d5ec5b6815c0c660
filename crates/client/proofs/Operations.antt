-- The text of operations as a loop writes it.
use Rattle.std.proofs.Common.{◌≡◌, ℕ, suc, ◌+◌, List, [], ◌∷◌, ◌++◌, length, Option, None, Some, Result, Ok, Err, refl, ap, sym, ◌∙◌, arith}
use Rattle.std.specs.Prelude.{map, IfOk}
use Rattle.std.specs.Option.{option_map}
use Rattle.std.specs.List.{flat_map}
use Rattle.model.specs.Operations.Operation.{operation_of}
use Rattle.model.specs.Wire.WireArguments.{argument}
use Rattle.wire.specs.declared.argument.Argument.{Argument}
use Rattle.wire.specs.ArgumentView.{argument_view}
use Rattle.xdr.specs.declared.refusal.Refusal.{Refusal}
use Rattle.xdr.specs.Clauses.{Written, Wrote}
use Rattle.client.specs.declared.sent.Session.{Session}
use Rattle.client.specs.Requests.{operations_text, head_text, call_text, sequence_of, behind}
use Rattle.client.specs.Rests.{sequence_number, number_asked}
use Rattle.client.specs.Views.{session_of}

abbrev pub text_of : Argument → List ℕ
text_of a = argument.encoding (argument_view a)

pub each_text : (list : List Argument) → flat_map text_of list ≡ operations_text (map argument_view list)
unfolding operations_text
each_text [] = refl
each_text (a ∷ list) = ap (λ (rest : List ℕ). text_of a ++ rest) (each_text list)

count : (list : List Argument) → length (map argument_view list) ≡ length list
count [] = refl
count (a ∷ list) = ap suc (count list)

-- the call of just the operations, and of them after a SEQUENCE, in the parts that are written

pub alone_text : (xid : ℕ) (credential tag : List ℕ) (list : List Argument)
    → head_text xid credential tag (length list) ++ operations_text (map argument_view list) ≡ call_text xid credential tag (map argument_view list)
unfolding call_text
alone_text xid credential tag list =
    ap (λ (n : ℕ). head_text xid credential tag n ++ operations_text (map argument_view list)) (sym (count list))

pub behind_text : (xid : ℕ) (credential tag : List ℕ) (session : Session) (list : List Argument)
    → head_text xid credential tag (length list + 1) ++ (argument.encoding (sequence_of (session_of session)) ++ operations_text (map argument_view list))
    ≡ call_text xid credential tag (sequence_of (session_of session) ∷ map argument_view list)
unfolding call_text operations_text
behind_text xid credential tag session list =
    ap (λ (n : ℕ). head_text xid credential tag n ++ operations_text (sequence_of (session_of session) ∷ map argument_view list))
    (omega (arith, count list))

pub wrote_text : {a b : Written} {r : Result (Unit {0}) Refusal} {t u : List ℕ} → Wrote a b r t → t ≡ u → IfOk r (λ _. b.bytes ≡ a.bytes ++ u)
wrote_text {a = a} {r = Ok x} w same = w.ok ∙ ap (λ (text : List ℕ). a.bytes ++ text) same
wrote_text {r = Err e} w same = tt

each_number : (list : List Argument) → map number_asked list ≡ map operation_of (map argument_view list)
each_number [] = refl
each_number (a ∷ list) = ap (λ (ns : List ℕ). number_asked a ∷ ns) (each_number list)

-- the numbers of the operations, in the parts that are pushed
pub behind_numbers : (session : Option Session) (list : List Argument)
    → sequence_number session ++ map number_asked list ≡ map operation_of (behind (option_map session_of session) (map argument_view list))
behind_numbers None list = each_number list
behind_numbers (Some session) list = ap (λ (ns : List ℕ). 53 ∷ ns) (each_number list)
