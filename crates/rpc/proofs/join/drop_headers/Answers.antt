use Rattle.std.proofs.Common.{◌≡◌, ◌++◌, Bool, true, List, ℕ, [], refl, subst, ◌∙◌, arith}
use Rattle.std.proofs.lemmas.List.{append-nil}
use Rattle.model.specs.Wire.Record.{nothing_gathered}
use Rattle.rpc.specs.declared.fragment.Fragment.TheVariants as fragments
use Rattle.rpc.specs.Assembly.{Finds}
use Rattle.rpc.proofs.Joins.{one_fragment}
use Rattle.rpc.proofs.join.drop_headers.Goals as goal

abbrev alone : (bytes : List ℕ) (size : ℕ) → Bool → Type 0
alone bytes size is_last = Finds nothing_gathered bytes (fragments.Brings size is_last)

found : (bytes read : List ℕ) (size : ℕ) (is_last : Bool) → read ≡ bytes → is_last ≡ true → alone (read ++ []) size is_last → alone bytes size true
found bytes read size is_last same last is =
    subst (λ (b : Bool). alone bytes size b) last (subst (λ (all : List ℕ). alone all size is_last) (append-nil read ∙ same) is)

pub returns-in-Brings-default-true-clause-request : goal.returns-in-Brings-default-true-clause-request
returns-in-Brings-default-true-clause-request c =
    one_fragment c.args.bytes.now.items c.in-Brings-default-true.size c.requires (found c.args.bytes.now.items c.deref.result.now c.in-Brings-default-true.size c.in-Brings-default-true.is_last c.deref.ensures
    c.in-Brings-default-true.is_last-test (c.in-Brings-default-true.ensures nothing_gathered refl refl))

pub returns-in-Brings-default-true-clause-within : goal.returns-in-Brings-default-true-clause-within
returns-in-Brings-default-true-clause-within c =
    let is = found c.args.bytes.now.items c.deref.result.now c.in-Brings-default-true.size c.in-Brings-default-true.is_last c.deref.ensures c.in-Brings-default-true.is_last-test
    (c.in-Brings-default-true.ensures nothing_gathered refl refl) in
    let long = is.0 in
    omega arith
