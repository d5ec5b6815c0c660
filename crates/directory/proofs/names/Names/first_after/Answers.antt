use Rattle.std.proofs.Common.{ℕ, ◌≡◌, ◌≤◌, ◌∙◌, [], ◌∷◌, Some, length, get_or, sym, ap, subst, arith}
use Rattle.std.proofs.lemmas.List.{get_or_default}
use Rattle.directory.specs.Least.{IsLeast}
use Rattle.directory.specs.Listing.{by_stamp, after}
use Rattle.directory.specs.Records.{record_of}
use Rattle.directory.proofs.ByStamp.{first_behind, none_behind}
use Rattle.directory.proofs.InOrder.{none_least, found_least}
use Rattle.directory.proofs.Sorting.{past_end, found_at}
use Rattle.directory.proofs.names.Names.first_after.Goals as goal

pub position-next-requires-clause-within : goal.position-next-requires-clause-within
position-next-requires-clause-within c = λ place has. (c.self.invariant.stamps.all place).0 has

pub returns-in_default : goal.returns-in_default
returns-in_default c =
    let order = c.self.inside.by_stamp in
    let records = c.self.inside.records in
    let cookie = c.args.cookie in
    let next = c.position-next.result in
    let far : ℕ = 18446744073709551615 in
    let end : length order ≤ next = past_end order next (sym c.get.ensures ∙ c.in_default.is) in
    let wide : length records ≤ far = omega (arith, c.self.invariant.directory.few) in
    subst (λ names. after cookie (by_stamp names) ≡ []) c.self.view_is
    (none_behind cookie records (none_least order records cookie far c.self.invariant.stamps next c.position-next.ensures wide end))

pub get-requires-2 : goal.get-requires-2
get-requires-2 c =
    let order = c.self.inside.by_stamp in
    let next = c.position-next.result in
    let place = c.in-Some.place in
    let found = found_at order next place (sym c.get.ensures ∙ c.in-Some.is) in
    (c.self.invariant.stamps.all place).0 (next, found.0, get_or_default order next place 0 found.0 ∙ found.1)

pub returns : goal.returns
returns c =
    let order = c.self.inside.by_stamp in
    let records = c.self.inside.records in
    let cookie = c.args.cookie in
    let next = c.position-next.result in
    let far : ℕ = 18446744073709551615 in
    let entry = c.get-2.result.now in
    let found = found_at order next c.in-Some.place (sym c.get.ensures ∙ c.in-Some.is) in
    let wide : length records ≤ far = omega (arith, c.self.invariant.directory.few) in
    let there : get_or records (get_or order next 0) (record_of entry) ≡ record_of entry =
    ap (λ i. get_or records i (record_of entry)) found.1 ∙ c.get-2.ensures (record_of entry) in
    let least : IsLeast cookie records (Some (record_of entry)) =
    subst (λ r. IsLeast cookie records (Some r)) there
    (found_least order records cookie far c.self.invariant.stamps next c.position-next.ensures wide found.0 (record_of entry)) in
    subst (λ names. after cookie (by_stamp names) ≡ record_of entry ∷ after entry.stamp (by_stamp names)) c.self.view_is (first_behind cookie records (record_of entry) least)
