-- What is left of an operation's bytes is at the end of all of them.
use Rattle.std.proofs.Common.{◌≡◌, ℕ, Bool, true, false, not, ◌&&◌, if◌then◌else◌, Result, Ok, ◌-◌, ◌≤◌, List, ◌++◌, length, take, drop, ap, sym, subst, ◌∙◌, append_assoc, arith, length-drop, length-append}
use Rattle.std.proofs.lemmas.List.{take-append-drop, drop_at}
use Rattle.xdr.specs.declared.refusal.Refusal.{Refusal}
use Rattle.model_tree.specs.declared.status.Status.TheVariants as status
use Rattle.model.specs.Operations.Operation.{Argument}
use Rattle.model.specs.Wire.Rpc.{is_empty}
use Rattle.model.specs.Server.Served.{looks_no_further}
use Rattle.model.specs.Server.World.{InProgress, is_last, by_arguments, Reads, Refuses}

pub rest_short : (bytes : List ℕ) (p : ℕ) (prefix rest : List ℕ) → drop p bytes ≡ prefix ++ rest → length rest ≤ length bytes
rest_short bytes p prefix rest e = omega (arith, ap length e, length-drop p bytes, length-append prefix rest)

pub drop_rest : (bytes : List ℕ) (p : ℕ) (prefix rest : List ℕ) → drop p bytes ≡ prefix ++ rest → drop (length bytes - length rest) bytes ≡ rest
drop_rest bytes p prefix rest e =
    let whole : bytes ≡ (take p bytes ++ prefix) ++ rest =
    sym (take-append-drop p bytes) ∙ ap (λ (tail : List ℕ). take p bytes ++ tail) e ∙ sym (append_assoc (take p bytes) prefix rest) in
    let n : length (take p bytes ++ prefix) ≡ length bytes - length rest =
    omega (arith, ap length whole, length-append (take p bytes ++ prefix) rest) in
    subst (λ (all : List ℕ). drop (length bytes - length rest) all ≡ rest) (sym whole)
    (drop_at (take p bytes ++ prefix) rest (length bytes - length rest) n)

-- arguments that are read, if no extra byte follows them
pub by_read : (request : InProgress) (operation : ℕ) (given : Result (Argument × List ℕ) Refusal) (read : Argument) (behind rest : List ℕ)
    → given ≡ Ok (read, behind) → (is_last request && (not (looks_no_further read) && not (is_empty behind))) ≡ false → rest ≡ behind
    → by_arguments request operation given ≡ Reads read rest
by_read request operation given read behind rest is enough same =
    ap (by_arguments request operation) is
    ∙ (ap (λ (much : Bool). if much then Refuses operation status.BadXdr else Reads read behind) enough ∙ ap (Reads read) (sym same))

-- and if one does
pub by_much : (request : InProgress) (operation : ℕ) (given : Result (Argument × List ℕ) Refusal) (read : Argument) (behind : List ℕ)
    → given ≡ Ok (read, behind) → (is_last request && (not (looks_no_further read) && not (is_empty behind))) ≡ true
    → by_arguments request operation given ≡ Refuses operation status.BadXdr
by_much request operation given read behind is much =
    ap (by_arguments request operation) is
    ∙ ap (λ (b : Bool). if b then Refuses operation status.BadXdr else Reads read behind) much
