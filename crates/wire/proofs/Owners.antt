-- How long an opaque is that was read.
use Rattle.std.proofs.Common.{◌≡◌, ◌≤◌, ℕ, List, length, Ok, Err, arith, nat_lt, if◌then◌else◌}
use Rattle.std.proofs.lemmas.Bool.{ltb-false}
use Rattle.std.specs.Int.{w32}
use Rattle.xdr.specs.declared.refusal.Refusal.TheVariants.{Long}
use Rattle.xdr.specs.Grammar.{number_at}
use Rattle.xdr.specs.Forms.{padded_at, counted_at}
use Rattle.xdr.proofs.Opaques.{padded_takes}
use Rattle.xdr.proofs.Steps.{bind_ok, guard_ok}

pub within_limit : (limit : ℕ) (bytes text rest : List ℕ) → counted_at limit bytes ≡ Ok (text, rest) → length text ≤ limit
unfolding counted_at
within_limit limit bytes text rest h =
    let found = bind_ok (number_at w32 bytes) (λ n. if nat_lt limit n.0 then Err Long else padded_at n.0 n.1) (text, rest) h in
    let passed = guard_ok (nat_lt limit found.0.0) Long (padded_at found.0.0 found.0.1) (text, rest) found.2 in
    let small : found.0.0 ≤ limit = ltb-false limit found.0.0 passed.0 in
    let long : length text ≡ found.0.0 = (padded_takes found.0.0 found.0.1 text rest passed.1).0 in
    omega arith
