use Rattle.std.proofs.Common.{◌≡◌, ◌<◌, ◌≤◌, ◌++◌, ◌∷◌, [], length, set, ap, subst, sym, ◌∙◌, arith}
use Rattle.model_tree.specs.Trees.Tree.{entry_of}
use Rattle.directory.specs.Listing.{PutsByStamp}
use Rattle.directory.specs.Records.{Record, record_from, place_of, NamesApart}
use Rattle.directory.proofs.Changes.{has_name}
use Rattle.directory.proofs.Places.{with_record-set, with_record-push, absent}
use Rattle.directory.proofs.RecordMaps.{put_found, put_others, puts_by_stamp}
use Rattle.directory.proofs.names.Names.put.Goals as goal

pub change-requires-clause-named : goal.change-requires-clause-named
change-requires-clause-named c = λ d.
    let names = c.args.self.now in
    let name = c.args.name.now in
    let is : c.place_in-place.result ≡ place_of name names = c.place_in-place.ensures.place ∙ ap (place_of name) c.self.view_is in
    let within : c.place_in-place.result < length names = omega (arith, c.if-place-len.true, c.len.ensures, ap length c.self.view_is) in
    has_name names name c.place_in-place.result d is within ∙ sym (ap (λ (r : Record). r.1.name) c.in_ok-entry.ensures)

pub add-requires-clause-fresh : goal.add-requires-clause-fresh
add-requires-clause-fresh c = λ i d within same.
    let names = c.args.self.now in
    let name = c.args.name.now in
    let is : c.place_in-place.result ≡ place_of name names = c.place_in-place.ensures.place ∙ ap (place_of name) c.self.view_is in
    let past : length names ≤ place_of name names = omega (arith, is, c.if-place-len.false, c.len.ensures, ap length c.self.view_is) in
    absent name names past i d within (same ∙ ap (λ (r : Record). r.1.name) c.in_ok-entry.ensures)

pub returns-then-place-len-clause-ok : goal.returns-then-place-len-clause-ok
returns-then-place-len-clause-ok c =
    let names = c.args.self.now in
    let name = c.args.name.now in
    let new = record_from c.args.stamp name c.args.number in
    let is : c.place_in-place.result ≡ place_of name names = c.place_in-place.ensures.place ∙ ap (place_of name) c.self.view_is in
    let within : place_of name names < length names = omega (arith, is, c.if-place-len.true, c.len.ensures, ap length c.self.view_is) in
    c.in_ok-change.ensures.ok
    ∙ (ap (set names c.place_in-place.result) c.in_ok-entry.ensures
    ∙ (ap (λ i. set names i new) is ∙ sym (with_record-set names new within)))

pub returns-clause-ok : goal.returns-clause-ok
returns-clause-ok c =
    let names = c.args.self.now in
    let name = c.args.name.now in
    let new = record_from c.args.stamp name c.args.number in
    let is : c.place_in-place.result ≡ place_of name names = c.place_in-place.ensures.place ∙ ap (place_of name) c.self.view_is in
    let past : length names ≤ place_of name names = omega (arith, is, c.if-place-len.false, c.len.ensures, ap length c.self.view_is) in
    c.in_ok-add.ensures.ok ∙ (ap (λ r. names ++ r ∷ []) c.in_ok-entry.ensures ∙ sym (with_record-push names new past))

pub returns-then-place-len-clause-found : goal.returns-then-place-len-clause-found
returns-then-place-len-clause-found c =
    ap (entry_of c.args.name.now) (returns-then-place-len-clause-ok c)
    ∙ put_found c.args.self.now (record_from c.args.stamp c.args.name.now c.args.number) (subst NamesApart c.self.view_is c.self.invariant.directory.apart)

pub returns-then-place-len-clause-others : goal.returns-then-place-len-clause-others
returns-then-place-len-clause-others c = λ other differs.
    ap (entry_of other) (returns-then-place-len-clause-ok c)
    ∙ put_others c.args.self.now (record_from c.args.stamp c.args.name.now c.args.number) (subst NamesApart c.self.view_is c.self.invariant.directory.apart) other differs

pub returns-then-place-len-clause-by_stamp : goal.returns-then-place-len-clause-by_stamp
returns-then-place-len-clause-by_stamp c = λ stamped high fresh.
    subst (λ names. PutsByStamp c.args.self.now names (record_from c.args.stamp c.args.name.now c.args.number)) (sym (returns-then-place-len-clause-ok c))
    (puts_by_stamp c.args.self.now (record_from c.args.stamp c.args.name.now c.args.number) (subst NamesApart c.self.view_is c.self.invariant.directory.apart) stamped high fresh)

pub returns-clause-found : goal.returns-clause-found
returns-clause-found c =
    ap (entry_of c.args.name.now) (returns-clause-ok c)
    ∙ put_found c.args.self.now (record_from c.args.stamp c.args.name.now c.args.number) (subst NamesApart c.self.view_is c.self.invariant.directory.apart)

pub returns-clause-others : goal.returns-clause-others
returns-clause-others c = λ other differs.
    ap (entry_of other) (returns-clause-ok c)
    ∙ put_others c.args.self.now (record_from c.args.stamp c.args.name.now c.args.number) (subst NamesApart c.self.view_is c.self.invariant.directory.apart) other differs

pub returns-clause-by_stamp : goal.returns-clause-by_stamp
returns-clause-by_stamp c = λ stamped high fresh.
    subst (λ names. PutsByStamp c.args.self.now names (record_from c.args.stamp c.args.name.now c.args.number)) (sym (returns-clause-ok c))
    (puts_by_stamp c.args.self.now (record_from c.args.stamp c.args.name.now c.args.number) (subst NamesApart c.self.view_is c.self.invariant.directory.apart) stamped high fresh)
