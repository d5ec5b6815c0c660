-- The arguments are exact.
use Rattle.std.proofs.Common.{◌≡◌, ◌≢◌, ℕ, ◌^◌, ◌<◌, List, Result, refl, arith}
use Rattle.std.proofs.lemmas.Bool.{ne_eqb, lt-ltb}
use Rattle.xdr.specs.Grammar.{◌&◌, void, unsigned_int, unsigned_hyper}
use Rattle.xdr.specs.Forms.{boolean, bitmap}
use Rattle.xdr.specs.Laws.{IsBytes, Exact, OneEncoding}
use Rattle.xdr.specs.declared.refusal.Refusal.{Refusal}
use Rattle.xdr.specs.Clauses.{ReadsBy, Accepts}
use Rattle.xdr.proofs.Accepting.{accepts}
use Rattle.wire.specs.declared.argument.Argument.{Argument as Argument'}
use Rattle.wire.specs.ArgumentView.{argument_view}
use Rattle.xdr.proofs.Numbers.{int_exact, hyper_exact}
use Rattle.xdr.proofs.Sequences.{void_exact, then_exact, of_exact, one_encoding}
use Rattle.xdr.proofs.Passing.{boolean_exact, below_exact, always_exact}
use Rattle.xdr.proofs.Arrays.{array_exact, optional_exact, bitmap_exact}
use Rattle.xdr.proofs.Unions.{TakesBy, AgainBy, on_takes, no_other_takes, any_other_takes, other_below_takes, union_exact, made_again}
use Rattle.model.specs.Operations.Operation.{Attributes, NewDirectory, OtherType, NoCreate, Unchecked, Guarded, Claim, ByName, ByHandle, OtherClaim, Opening, Opens, Exclusive, Argument}
use Rattle.model.specs.Wire.WireTypes.{any_opaque, file_handle, session_id, attributes, implementation, callback_security}
use Rattle.model.specs.Wire.WireArguments.{close_arguments, commit_arguments, encoded_create, create_choice, create_arguments, encoded_claim, claim_choice, claim, encoded_create_how, create_how_choice, create_how, encoded_opening, opening_choice, opening, open_arguments, read_arguments, read_dir_arguments, rename_arguments, set_attr_arguments, write_arguments, exchange_id_arguments, create_session_arguments, sequence_arguments, encoded_argument, argument_choice, arguments_at, argument}
use Rattle.model.proofs.Wire.ExactTypes.{any_opaque_exact, file_handle_exact, verifier_exact, session_id_exact, owner_id_exact, state_id_exact, attributes_exact, channel_exact, implementation_exact, callback_security_exact}

pub close_arguments_exact : Exact close_arguments
close_arguments_exact = of_exact _ _ _ (λ _. refl) (λ _. refl) (then_exact int_exact state_id_exact)

pub commit_arguments_exact : Exact commit_arguments
commit_arguments_exact = of_exact _ _ _ (λ _. refl) (λ _. refl) (then_exact hyper_exact int_exact)

directory_exact : Exact (any_opaque & attributes)
directory_exact = then_exact any_opaque_exact attributes_exact

create_takes : TakesBy encoded_create (λ n. n < 2 ^ 32) create_choice
create_takes =
    on_takes encoded_create _ 2 (any_opaque & attributes) (λ (p : List ℕ × Attributes). NewDirectory p.0 p.1) _ directory_exact (λ _ _. refl)
    (any_other_takes encoded_create (λ n. (n < 2 ^ 32) × (n ≢ 2)) OtherType (λ n p. (refl, p.1, refl)))

create_again : AgainBy encoded_create create_choice
create_again (NewDirectory name given) rest small fits =
    made_again (any_opaque & attributes) (λ (p : List ℕ × Attributes). NewDirectory p.0 p.1) directory_exact (name, given) rest fits
create_again (OtherType n) rest small fits = rw (ne_eqb n 2 fits) refl

pub create_arguments_exact : Exact create_arguments
create_arguments_exact = union_exact _ _ create_takes create_again

claim_takes : TakesBy encoded_claim (λ n. n < 2 ^ 32) claim_choice
claim_takes =
    on_takes encoded_claim _ 0 any_opaque ByName _ any_opaque_exact (λ _ _. refl)
    (on_takes encoded_claim _ 4 void (λ _. ByHandle) _ void_exact (λ _ _. refl)
    (any_other_takes encoded_claim (λ n. ((n < 2 ^ 32) × (n ≢ 0)) × (n ≢ 4)) OtherClaim (λ n p. (refl, (p.0.1, p.1), refl))))

claim_again : AgainBy encoded_claim claim_choice
claim_again (ByName name) rest small fits = made_again any_opaque ByName any_opaque_exact name rest fits
claim_again ByHandle rest small fits = refl
claim_again (OtherClaim n) rest small fits = rw (ne_eqb n 0 fits.0, ne_eqb n 4 fits.1) refl

pub claim_exact : Exact claim
claim_exact = union_exact _ _ claim_takes claim_again

given_exact : Exact (attributes & claim)
given_exact = then_exact attributes_exact claim_exact

create_how_takes : TakesBy encoded_create_how (λ n. n < 2 ^ 32) create_how_choice
create_how_takes =
    on_takes encoded_create_how _ 0 (attributes & claim) (λ (p : Attributes × Claim). Opens (Unchecked p.0) p.1) _ given_exact (λ _ _. refl)
    (on_takes encoded_create_how _ 1 (attributes & claim) (λ (p : Attributes × Claim). Opens (Guarded p.0) p.1) _ given_exact (λ _ _. refl)
    (other_below_takes encoded_create_how (λ n. ((n < 2 ^ 32) × (n ≢ 0)) × (n ≢ 1)) 4 Exclusive (λ n p lt. (refl, (p.0.1, p.1, lt), refl))))

create_how_again : AgainBy encoded_create_how create_how_choice
create_how_again (Opens NoCreate by) rest small fits = absurd fits
create_how_again (Opens (Unchecked given) by) rest small fits =
    made_again (attributes & claim) (λ (p : Attributes × Claim). Opens (Unchecked p.0) p.1) given_exact (given, by) rest fits
create_how_again (Opens (Guarded given) by) rest small fits =
    made_again (attributes & claim) (λ (p : Attributes × Claim). Opens (Guarded p.0) p.1) given_exact (given, by) rest fits
create_how_again (Exclusive mode) rest small fits = rw (ne_eqb mode 0 fits.0, ne_eqb mode 1 fits.1, lt-ltb mode 4 fits.2) refl

pub create_how_exact : Exact create_how
create_how_exact = union_exact _ _ create_how_takes create_how_again

encoded_how : (how : Opening) → create_how.Fits how → encoded_opening how ≡ Rattle.xdr.specs.Union.arm 1 create_how how
encoded_how (Opens NoCreate by) fits = absurd fits.1
encoded_how (Opens (Unchecked given) by) fits = refl
encoded_how (Opens (Guarded given) by) fits = refl
encoded_how (Exclusive mode) fits = refl

opening_takes : TakesBy encoded_opening (λ n. n < 2 ^ 32) opening_choice
opening_takes =
    on_takes encoded_opening _ 0 claim (λ by. Opens NoCreate by) _ claim_exact (λ _ _. refl)
    (on_takes encoded_opening _ 1 create_how (λ how. how) _ create_how_exact encoded_how
    (no_other_takes encoded_opening _))

opening_again : AgainBy encoded_opening opening_choice
opening_again (Opens NoCreate by) rest small fits = made_again claim (λ b. Opens NoCreate b) claim_exact by rest fits
opening_again (Opens (Unchecked given) by) rest small fits = made_again create_how (λ how. how) create_how_exact (Opens (Unchecked given) by) rest fits
opening_again (Opens (Guarded given) by) rest small fits = made_again create_how (λ how. how) create_how_exact (Opens (Guarded given) by) rest fits
opening_again (Exclusive mode) rest small fits = made_again create_how (λ how. how) create_how_exact (Exclusive mode) rest fits

pub opening_exact : Exact opening
opening_exact = union_exact _ _ opening_takes opening_again

pub open_arguments_exact : Exact open_arguments
open_arguments_exact = of_exact _ _ _ (λ _. refl) (λ _. refl)
    (then_exact int_exact (then_exact int_exact (then_exact int_exact (then_exact hyper_exact (then_exact owner_id_exact opening_exact)))))

pub read_arguments_exact : Exact read_arguments
read_arguments_exact = of_exact _ _ _ (λ _. refl) (λ _. refl) (then_exact state_id_exact (then_exact hyper_exact int_exact))

pub read_dir_arguments_exact : Exact read_dir_arguments
read_dir_arguments_exact = of_exact _ _ _ (λ _. refl) (λ _. refl)
    (then_exact hyper_exact (then_exact verifier_exact (then_exact int_exact (then_exact int_exact bitmap_exact))))

pub rename_arguments_exact : Exact rename_arguments
rename_arguments_exact = of_exact _ _ _ (λ _. refl) (λ _. refl) (then_exact any_opaque_exact any_opaque_exact)

pub set_attr_arguments_exact : Exact set_attr_arguments
set_attr_arguments_exact = of_exact _ _ _ (λ _. refl) (λ _. refl) (then_exact state_id_exact attributes_exact)

pub write_arguments_exact : Exact write_arguments
write_arguments_exact = of_exact _ _ _ (λ _. refl) (λ _. refl)
    (then_exact state_id_exact (then_exact hyper_exact (then_exact (below_exact 3) any_opaque_exact)))

pub exchange_id_arguments_exact : Exact exchange_id_arguments
exchange_id_arguments_exact = of_exact _ _ _ (λ _. refl) (λ _. refl)
    (then_exact verifier_exact (then_exact owner_id_exact (then_exact int_exact (then_exact (always_exact 0 unsigned_int (omega arith) int_exact) (optional_exact implementation implementation_exact)))))

pub create_session_arguments_exact : Exact create_session_arguments
create_session_arguments_exact = of_exact _ _ _ (λ _. refl) (λ _. refl)
    (then_exact hyper_exact (then_exact int_exact (then_exact int_exact (then_exact channel_exact (then_exact channel_exact (then_exact int_exact (array_exact 4 callback_security (omega arith) callback_security_exact)))))))

pub sequence_arguments_exact : Exact sequence_arguments
sequence_arguments_exact = of_exact _ _ _ (λ _. refl) (λ _. refl)
    (then_exact session_id_exact (then_exact int_exact (then_exact int_exact (then_exact int_exact boolean_exact))))

pub argument_takes : TakesBy encoded_argument (λ n. n < 2 ^ 32) argument_choice
argument_takes =
    (on_takes encoded_argument _ 3 unsigned_int Argument.Access _ int_exact (λ _ _. refl)
    (on_takes encoded_argument _ 4 close_arguments Argument.Close _ close_arguments_exact (λ _ _. refl)
    (on_takes encoded_argument _ 5 commit_arguments Argument.Commit _ commit_arguments_exact (λ _ _. refl)
    (on_takes encoded_argument _ 6 create_arguments Argument.Create _ create_arguments_exact (λ _ _. refl)
    (on_takes encoded_argument _ 9 bitmap Argument.GetAttr _ bitmap_exact (λ _ _. refl)
    (on_takes encoded_argument _ 10 void (λ _. Argument.GetFh) _ void_exact (λ _ _. refl)
    (on_takes encoded_argument _ 15 any_opaque Argument.Lookup _ any_opaque_exact (λ _ _. refl)
    (on_takes encoded_argument _ 16 void (λ _. Argument.LookupParent) _ void_exact (λ _ _. refl)
    (on_takes encoded_argument _ 18 open_arguments Argument.Open _ open_arguments_exact (λ _ _. refl)
    (on_takes encoded_argument _ 22 file_handle Argument.PutFh _ file_handle_exact (λ _ _. refl)
    (on_takes encoded_argument _ 24 void (λ _. Argument.PutRootFh) _ void_exact (λ _ _. refl)
    (on_takes encoded_argument _ 25 read_arguments Argument.Read _ read_arguments_exact (λ _ _. refl)
    (on_takes encoded_argument _ 26 read_dir_arguments Argument.ReadDir _ read_dir_arguments_exact (λ _ _. refl)
    (on_takes encoded_argument _ 28 any_opaque Argument.Remove _ any_opaque_exact (λ _ _. refl)
    (on_takes encoded_argument _ 29 rename_arguments Argument.Rename _ rename_arguments_exact (λ _ _. refl)
    (on_takes encoded_argument _ 31 void (λ _. Argument.RestoreFh) _ void_exact (λ _ _. refl)
    (on_takes encoded_argument _ 32 void (λ _. Argument.SaveFh) _ void_exact (λ _ _. refl)
    (on_takes encoded_argument _ 34 set_attr_arguments Argument.SetAttr _ set_attr_arguments_exact (λ _ _. refl)
    (on_takes encoded_argument _ 38 write_arguments Argument.Write _ write_arguments_exact (λ _ _. refl)
    (on_takes encoded_argument _ 42 exchange_id_arguments Argument.ExchangeId _ exchange_id_arguments_exact (λ _ _. refl)
    (on_takes encoded_argument _ 43 create_session_arguments Argument.CreateSession _ create_session_arguments_exact (λ _ _. refl)
    (on_takes encoded_argument _ 44 session_id Argument.DestroySession _ session_id_exact (λ _ _. refl)
    (on_takes encoded_argument _ 53 sequence_arguments Argument.Sequence _ sequence_arguments_exact (λ _ _. refl)
    (on_takes encoded_argument _ 57 unsigned_hyper Argument.DestroyClientId _ hyper_exact (λ _ _. refl)
    (on_takes encoded_argument _ 58 boolean Argument.ReclaimComplete _ boolean_exact (λ _ _. refl)
    (no_other_takes encoded_argument _))))))))))))))))))))))))))

pub argument_again : AgainBy encoded_argument argument_choice
argument_again (Argument.Access v) rest small fits = made_again unsigned_int Argument.Access int_exact v rest fits
argument_again (Argument.Close v) rest small fits = made_again close_arguments Argument.Close close_arguments_exact v rest fits
argument_again (Argument.Commit v) rest small fits = made_again commit_arguments Argument.Commit commit_arguments_exact v rest fits
argument_again (Argument.Create v) rest small fits = made_again create_arguments Argument.Create create_arguments_exact v rest fits
argument_again (Argument.GetAttr v) rest small fits = made_again bitmap Argument.GetAttr bitmap_exact v rest fits
argument_again Argument.GetFh rest small fits = refl
argument_again (Argument.Lookup v) rest small fits = made_again any_opaque Argument.Lookup any_opaque_exact v rest fits
argument_again Argument.LookupParent rest small fits = refl
argument_again (Argument.Open v) rest small fits = made_again open_arguments Argument.Open open_arguments_exact v rest fits
argument_again (Argument.PutFh v) rest small fits = made_again file_handle Argument.PutFh file_handle_exact v rest fits
argument_again Argument.PutRootFh rest small fits = refl
argument_again (Argument.Read v) rest small fits = made_again read_arguments Argument.Read read_arguments_exact v rest fits
argument_again (Argument.ReadDir v) rest small fits = made_again read_dir_arguments Argument.ReadDir read_dir_arguments_exact v rest fits
argument_again (Argument.Remove v) rest small fits = made_again any_opaque Argument.Remove any_opaque_exact v rest fits
argument_again (Argument.Rename v) rest small fits = made_again rename_arguments Argument.Rename rename_arguments_exact v rest fits
argument_again Argument.RestoreFh rest small fits = refl
argument_again Argument.SaveFh rest small fits = refl
argument_again (Argument.SetAttr v) rest small fits = made_again set_attr_arguments Argument.SetAttr set_attr_arguments_exact v rest fits
argument_again (Argument.Write v) rest small fits = made_again write_arguments Argument.Write write_arguments_exact v rest fits
argument_again (Argument.ExchangeId v) rest small fits = made_again exchange_id_arguments Argument.ExchangeId exchange_id_arguments_exact v rest fits
argument_again (Argument.CreateSession v) rest small fits = made_again create_session_arguments Argument.CreateSession create_session_arguments_exact v rest fits
argument_again (Argument.DestroySession v) rest small fits = made_again session_id Argument.DestroySession session_id_exact v rest fits
argument_again (Argument.Sequence v) rest small fits = made_again sequence_arguments Argument.Sequence sequence_arguments_exact v rest fits
argument_again (Argument.DestroyClientId v) rest small fits = made_again unsigned_hyper Argument.DestroyClientId hyper_exact v rest fits
argument_again (Argument.ReclaimComplete v) rest small fits = made_again boolean Argument.ReclaimComplete boolean_exact v rest fits

pub argument_exact : Exact argument
unfolding arguments_at
argument_exact = union_exact encoded_argument arguments_at argument_takes argument_again

-- a reader that gives what is read takes exactly its encodings
pub argument_accepted : (old new : List ℕ) (result : Result Argument' Refusal) → IsBytes old → ReadsBy argument_view argument.read old new result → Accepts argument_view argument old new result
argument_accepted old new result bytes reads = accepts argument_view argument argument_exact old new result bytes reads

pub one_argument : OneEncoding argument
one_argument = one_encoding argument argument_exact
