use Rattle.std.proofs.Common.{ℕ, List, sym, subst}
use Rattle.rpc.specs.Places.{EndsWith}
use Rattle.rpc.proofs.Places.{ends_on, start_ends, header_ends}
use Rattle.rpc.proofs.call.read_call.Goals as goal

pub returns-in-Ok-read_header-clause-body : goal.returns-in-Ok-read_header-clause-body
returns-in-Ok-read_header-clause-body c =
    let start = start_ends c.new-at.result _ c.read_start.new.r c.in-Ok.ensures in
    let header = header_ends c.read_start.new.r _ c.read_header.new.r c.in-Ok-read_header.ensures in
    let whole = ends_on c.new-at.result c.read_start.new.r c.read_header.new.r start header in
    subst (λ (part : List ℕ). EndsWith c.args.bytes.now part) (sym c.rest.ensures)
    (subst (λ (bytes : List ℕ). EndsWith bytes c.read_header.new.r) c.new-at.ensures whole)
