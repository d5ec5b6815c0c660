-- The small types are exact.
use Rattle.std.proofs.Common.{ℕ, ◌^◌, ◌<◌, List, refl, arith}
use Rattle.xdr.specs.Grammar.{Grammar, void, unsigned_int}
use Rattle.xdr.specs.Forms.{bitmap}
use Rattle.xdr.specs.Union.{on, no_other}
use Rattle.xdr.specs.Laws.{Exact}
use Rattle.xdr.proofs.Numbers.{int_exact, hyper_exact}
use Rattle.xdr.proofs.Sequences.{void_exact, then_exact, of_exact}
use Rattle.xdr.proofs.Passing.{boolean_exact}
use Rattle.xdr.proofs.Opaques.{fixed_exact, opaque_exact}
use Rattle.xdr.proofs.Arrays.{array_exact, optional_exact, bitmap_exact}
use Rattle.xdr.proofs.Unions.{TakesBy, AgainBy, on_takes, no_other_takes, union_exact, made_again}
use Rattle.model.specs.Operations.Operation.{NoSecurity, SystemSecurity}
use Rattle.model.specs.Wire.WireTypes.{any_opaque, file_handle, verifier, session_id, owner_id, state_id, attributes_of, attributes, change_info, channel, implementation, system_credential, encoded_security, callback_security}

pub any_opaque_exact : Exact any_opaque
any_opaque_exact = opaque_exact _ (omega arith)

pub file_handle_exact : Exact file_handle
file_handle_exact = opaque_exact 128 (omega arith)

pub verifier_exact : Exact verifier
verifier_exact = fixed_exact 8

pub session_id_exact : Exact session_id
session_id_exact = fixed_exact 16

pub owner_id_exact : Exact owner_id
owner_id_exact = opaque_exact 1024 (omega arith)

pub state_id_exact : Exact state_id
state_id_exact = of_exact _ _ _ (λ _. refl) (λ _. refl) (then_exact int_exact (fixed_exact 12))

pub attributes_of_exact : (words : Grammar (List ℕ)) → Exact words → Exact (attributes_of words)
attributes_of_exact words exact = of_exact _ _ _ (λ _. refl) (λ _. refl) (then_exact exact any_opaque_exact)

pub attributes_exact : Exact attributes
attributes_exact = attributes_of_exact bitmap bitmap_exact

pub change_info_exact : Exact change_info
change_info_exact = of_exact _ _ _ (λ _. refl) (λ _. refl) (then_exact boolean_exact (then_exact hyper_exact hyper_exact))

pub channel_exact : Exact channel
channel_exact = of_exact _ _ _ (λ _. refl) (λ _. refl)
    (then_exact int_exact (then_exact int_exact (then_exact int_exact (then_exact int_exact (then_exact int_exact (then_exact int_exact (optional_exact unsigned_int int_exact)))))))

pub implementation_exact : Exact implementation
implementation_exact = of_exact _ _ _ (λ _. refl) (λ _. refl) (then_exact any_opaque_exact (then_exact any_opaque_exact (then_exact hyper_exact int_exact)))

pub system_credential_exact : Exact system_credential
system_credential_exact = of_exact _ _ _ (λ _. refl) (λ _. refl)
    (then_exact int_exact (then_exact (opaque_exact 255 (omega arith)) (then_exact int_exact (then_exact int_exact (array_exact 16 unsigned_int (omega arith) int_exact)))))

security_takes : TakesBy encoded_security (λ n. n < 2 ^ 32) (on 0 void (λ _. NoSecurity) (on 1 system_credential SystemSecurity no_other))
security_takes =
    on_takes encoded_security _ 0 void (λ _. NoSecurity) _ void_exact (λ _ _. refl)
    (on_takes encoded_security _ 1 system_credential SystemSecurity _ system_credential_exact (λ _ _. refl)
    (no_other_takes encoded_security _))

security_again : AgainBy encoded_security (on 0 void (λ _. NoSecurity) (on 1 system_credential SystemSecurity no_other))
security_again NoSecurity rest small fits = refl
security_again (SystemSecurity credential) rest small fits = made_again system_credential SystemSecurity system_credential_exact credential rest fits

pub callback_security_exact : Exact callback_security
callback_security_exact = union_exact _ _ security_takes security_again
