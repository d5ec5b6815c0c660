-- What is encoded after the first fields of longer forms.
use Rattle.std.specs.Prelude.{ℕ, Option, None, Some, List, [], ◌∷◌, ◌++◌}
use Rattle.std.specs.Int.{w32}
use Rattle.xdr.specs.Grammar.{number}
use Rattle.xdr.specs.Forms.{elements}
use Rattle.model_tree.specs.declared.acl.Cred.{Cred}
use Rattle.model.specs.Wire.Rpc.{opaque_auth}
use Rattle.model.specs.Operations.Operation.{operation_of}
use Rattle.model.specs.Operations.OperationNumber.{OP_SEQUENCE}
use Rattle.wire.specs.declared.argument.Argument.{Argument}
use Rattle.client.specs.declared.sent.Session.{Session}
use Rattle.wire.specs.ArgumentView.{argument_view}

-- after the machine's name
abbrev pub ids_text : Cred → List ℕ
ids_text cred =
    number w32 cred.uid ++ (number w32 cred.gid ++ elements (λ n. number w32 n) cred.gids)

-- the credential and the verifier of a call
abbrev pub auths_text : (credential : List ℕ) → List ℕ
auths_text credential = opaque_auth.encoding (1, credential) ++ opaque_auth.encoding (0, [])

-- after the version of RPC
abbrev pub procedure_text : (credential : List ℕ) → List ℕ
procedure_text credential =
    number w32 100003 ++ (number w32 4 ++ (number w32 1 ++ auths_text credential))

-- the number of an operation, and that of SEQUENCE if it comes before them
abbrev pub number_asked : Argument → ℕ
number_asked a = operation_of (argument_view a)

abbrev pub sequence_number : Option Session → List ℕ
sequence_number None = []
sequence_number (Some session) = OP_SEQUENCE ∷ []
