-- How long a credential is.
use Rattle.std.proofs.Common.{◌≡◌, ◌+◌, ◌*◌, [], ◌++◌, length, length-append, arith}
use Rattle.std.specs.Int.{w32}
use Rattle.xdr.specs.Grammar.{number}
use Rattle.xdr.specs.Forms.{counted, elements}
use Rattle.xdr.proofs.Sizes.{counted_length, elements_length}
use Rattle.xdr.proofs.Numbers.{length-number_32}
use Rattle.model_tree.specs.declared.acl.Cred.{Cred}
use Rattle.client.specs.Requests.{credential_text}
use Rattle.client.specs.Rests.{ids_text}

ids_length : (cred : Cred) → length (ids_text cred) ≡ 12 + 4 * length cred.gids
ids_length cred =
    omega (
      arith,
      length-append (number w32 cred.uid) (number w32 cred.gid ++ elements (λ n. number w32 n) cred.gids),
      length-append (number w32 cred.gid) (elements (λ n. number w32 n) cred.gids),
      length-number_32 cred.uid,
      length-number_32 cred.gid,
      elements_length cred.gids,
    )

pub credential_length : (cred : Cred) → length (credential_text cred) ≡ 20 + 4 * length cred.gids
credential_length cred =
    omega (arith, length-append (number w32 0) (counted [] ++ ids_text cred), length-append (counted []) (ids_text cred), length-number_32 0, counted_length [], ids_length cred)
