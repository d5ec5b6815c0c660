use Rattle.std.proofs.Common.{◌≤◌, ◌*◌, List, length, subst, ap, arith}
use Rattle.std.specs.List.{concat}
use Rattle.std.proofs.lemmas.List.{length-map}
use Rattle.freemap.specs.Kept.{IsFirstClear}
use Rattle.freemap.proofs.PageLaws.{Shared, bytes_of, length-pages, made_group}
use Rattle.freemap.proofs.group.Group.new.Goals as goal

pub first_clear-first-requires-clause-few : goal.first_clear-first-requires-clause-few
first_clear-first-requires-clause-few c =
    let pages = c.in_ok-pages.pages in
    omega (arith, length-pages (bytes_of pages.items) c.in_ok-pages.ensures.sectors, ap length c.in_ok-pages.ensures.bytes, c.requires.len, c.requires.few, length-map pages.items (λ (p : Shared). p.value), ap (λ (ps : List Shared). length ps) c.deref.ensures.value)

pub invariant_of-result : goal.invariant_of-result
invariant_of-result c =
    let pages = c.in_ok-pages.pages in
    let few : length pages.items ≤ 128 = omega (arith, length-pages (bytes_of pages.items) c.in_ok-pages.ensures.sectors, ap length c.in_ok-pages.ensures.bytes, c.requires.len, c.requires.few, length-map pages.items (λ (p : Shared). p.value)) in
    made_group pages.items c.first_clear-first.result few c.in_ok-pages.ensures.sectors
    (subst (λ (ps : List Shared). IsFirstClear (concat (bytes_of ps)) (32768 * length ps) c.first_clear-first.result) c.deref.ensures.value c.first_clear-first.ensures)
