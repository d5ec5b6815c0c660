use Rattle.std.proofs.Common.{◌≡◌, ◌+◌, ◌-◌, length, ◌∙◌, arith}
use Rattle.directory.proofs.Sector.{length_there, number_there, stamp_there, name_there, same_record}
use Rattle.directory.proofs.sectors.entry_at.Goals as goal

pub returns-clause-only : goal.returns-clause-only
returns-clause-only c = λ other rest fits e.
    let sector = c.args.sector.now in
    let at = c.args.at in
    let len = length_there sector at other rest fits e in
    let count : at + 17 + c.from-len.result - (at + 17) ≡ length other.1.name = omega (arith, len, c.from-len.ensures) in
    c.in_ok-entry.ensures
    ∙ same_record c.u64_at.result c.u64_at-2.result _ other (stamp_there sector at other rest fits e c.u64_at.result c.u64_at.ensures.only)
    (name_there sector at other rest fits e (at + 17 + c.from-len.result - (at + 17)) count) (number_there sector at other rest fits e c.u64_at-2.result c.u64_at-2.ensures.only)
