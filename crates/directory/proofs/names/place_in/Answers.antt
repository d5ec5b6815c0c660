use Rattle.std.proofs.Common.{◌≡◌, ◌≤◌, [], length, bytes_eq, get_or, true≢false, sym, ap, ◌∙◌, arith}
use Rattle.std.proofs.lemmas.List.{get_or_default}
use Rattle.directory.specs.Records.{Record, record_from}
use Rattle.directory.proofs.Apart.{place_of-first, place_of-none}
use Rattle.directory.proofs.Named.{first_found}
use Rattle.directory.proofs.Places.{bytes_eq-true, bytes_eq-same}
use Rattle.directory.proofs.Sorting.{past_end, found_at}
use Rattle.directory.proofs.names.place_in.Goals as goal

pub position-at-requires-clause-within : goal.position-at-requires-clause-within
position-at-requires-clause-within c = λ place has. (c.requires.all place).0 has

pub returns-in_default-clause-place : goal.returns-in_default-clause-place
returns-in_default-clause-place c =
    let end : length c.args.by_name.now ≤ c.position-at.result = past_end c.args.by_name.now c.position-at.result (sym c.get.ensures ∙ c.in_default.is) in
    c.len.ensures
    ∙ place_of-none c.args.name.now c.args.records.now (record_from 0 [] 0)
    (λ j e inside named.
    let found = first_found c.args.by_name.now c.args.records.now c.args.name.now c.requires c.position-at.result c.position-at.ensures j e inside named in
    omega (arith, found.0, end))

pub get-requires-2 : goal.get-requires-2
get-requires-2 c =
    let order = c.args.by_name.now in
    let at = c.position-at.result in
    let here = found_at order at c.in-Some.place (sym c.get.ensures ∙ c.in-Some.is) in
    (c.requires.all c.in-Some.place).0 (at, here.0, get_or_default order at c.in-Some.place 0 here.0 ∙ here.1)

pub returns-then-eq-clause-within : goal.returns-then-eq-clause-within
returns-then-eq-clause-within c =
    let order = c.args.by_name.now in
    let at = c.position-at.result in
    let here = found_at order at c.in-Some.place (sym c.get.ensures ∙ c.in-Some.is) in
    let low = (c.requires.all c.in-Some.place).0 (at, here.0, get_or_default order at c.in-Some.place 0 here.0 ∙ here.1) in
    omega (arith, low)

pub returns-then-eq-clause-place : goal.returns-then-eq-clause-place
returns-then-eq-clause-place c =
    let nothing = record_from 0 [] 0 in
    let order = c.args.by_name.now in
    let name = c.args.name.now in
    let at = c.position-at.result in
    let here = found_at order at c.in-Some.place (sym c.get.ensures ∙ c.in-Some.is) in
    let low = (c.requires.all c.in-Some.place).0 (at, here.0, get_or_default order at c.in-Some.place 0 here.0 ∙ here.1) in
    let same : name ≡ c.as_slice.result.now = bytes_eq-true name c.as_slice.result.now (sym c.eq.ensures ∙ c.if-eq.true) in
    let named = ap (λ (r : Record). r.1.name) (c.get-2.ensures nothing) ∙ (sym c.as_slice.ensures.value ∙ sym same) in
    place_of-first name c.args.records.now c.in-Some.place nothing low named
    (λ j e before named_j.
    let found = first_found order c.args.records.now name c.requires at c.position-at.ensures j e (omega (arith, before, low)) named_j in
    omega (arith, found.1, here.1, before))

pub returns-clause-place : goal.returns-clause-place
returns-clause-place c =
    let nothing = record_from 0 [] 0 in
    let order = c.args.by_name.now in
    let name = c.args.name.now in
    let at = c.position-at.result in
    let here = found_at order at c.in-Some.place (sym c.get.ensures ∙ c.in-Some.is) in
    c.len-2.ensures
    ∙ place_of-none name c.args.records.now nothing
    (λ j e inside named.
    let found = first_found order c.args.records.now name c.requires at c.position-at.ensures j e inside named in
    let there : (get_or c.args.records.now c.in-Some.place nothing).1.name ≡ name = ap (λ i. (get_or c.args.records.now i nothing).1.name) (sym here.1) ∙ found.2 in
    let same : c.as_slice.result.now ≡ name = c.as_slice.ensures.value ∙ (sym (ap (λ (r : Record). r.1.name) (c.get-2.ensures nothing)) ∙ there) in
    let told = bytes_eq-same name in
    true≢false (sym told ∙ (ap (bytes_eq name) (sym same) ∙ (sym c.eq.ensures ∙ c.if-eq.false))))
