use Rattle.std.proofs.Common.{◌≡◌, ◌++◌, ◌∙◌, ℕ, List, length, ap, arith}
use Rattle.client.specs.Requests.{credential_text}
use Rattle.client.proofs.Lengths.{credential_length}
use Rattle.client.proofs.call.credential_body.Goals as goal

pub returns-clause-short : goal.returns-clause-short
returns-clause-short c =
    let text = credential_text c.args.cred.now in
    let is : c.into_vec.result.items ≡ text =
    c.into_vec.ensures.bytes ∙ c.in_ok-write_credential.ensures.ok ∙ ap (λ (prefix : List ℕ). prefix ++ text) c.in-Ok.ensures.bytes in
    omega (arith, ap length is, credential_length c.args.cred.now, c.as_slice.ensures.few, ap length c.as_slice.ensures.numbers)
