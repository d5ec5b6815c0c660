use Rattle.std.proofs.Common.{◌≡◌, ◌<◌, length, ap, subst, sym, ◌∙◌, arith}
use Rattle.model_tree.specs.Trees.Tree.{entry_of}
use Rattle.directory.specs.Listing.{by_stamp, without_entry, RemovesByStamp}
use Rattle.directory.specs.Records.{record_of, place_of, without_place, NamesApart}
use Rattle.directory.proofs.Changes.{found_entry}
use Rattle.directory.proofs.RecordMaps.{absent_name, removed_gone, removed_others, removes_by_stamp}
use Rattle.directory.proofs.names.Names.remove.Goals as goal

pub returns-then-place-len-clause-gone : goal.returns-then-place-len-clause-gone
returns-then-place-len-clause-gone c =
    let name = c.args.name.now in
    let names = c.args.self.now in
    let is : c.place_in-place.result ≡ place_of name names = c.place_in-place.ensures.place ∙ ap (place_of name) c.self.view_is in
    absent_name name names (omega (arith, is, ap length c.self.view_is, c.len.ensures, c.if-place-len.true))

pub returns-then-place-len-clause-by_stamp : goal.returns-then-place-len-clause-by_stamp
returns-then-place-len-clause-by_stamp c = λ stamped.
    record { stamped = stamped; entries = ap (without_entry (by_stamp c.args.self.now)) (sym (returns-then-place-len-clause-gone c)) }

pub returns-clause-record : goal.returns-clause-record
returns-clause-record c =
    let name = c.args.name.now in
    let names = c.args.self.now in
    let is : c.place_in-place.result ≡ place_of name names = c.place_in-place.ensures.place ∙ ap (place_of name) c.self.view_is in
    let within : c.place_in-place.result < length names = omega (arith, ap length c.self.view_is, c.len.ensures, c.if-place-len.false) in
    found_entry names name c.place_in-place.result (record_of c.in_ok-entry.entry) is within c.in_ok-entry.ensures.entry

pub returns-clause-gone : goal.returns-clause-gone
returns-clause-gone c =
    let name = c.args.name.now in
    let names = c.args.self.now in
    let is : c.place_in-place.result ≡ place_of name names = c.place_in-place.ensures.place ∙ ap (place_of name) c.self.view_is in
    let within : place_of name names < length names = omega (arith, is, ap length c.self.view_is, c.len.ensures, c.if-place-len.false) in
    let apart : NamesApart names = subst NamesApart c.self.view_is c.self.invariant.directory.apart in
    ap (entry_of name) (c.in_ok-entry.ensures.ok ∙ ap (without_place names) is) ∙ removed_gone name names within apart

pub returns-clause-others : goal.returns-clause-others
returns-clause-others c = λ other differs.
    let name = c.args.name.now in
    let names = c.args.self.now in
    let is : c.place_in-place.result ≡ place_of name names = c.place_in-place.ensures.place ∙ ap (place_of name) c.self.view_is in
    let within : place_of name names < length names = omega (arith, is, ap length c.self.view_is, c.len.ensures, c.if-place-len.false) in
    let apart : NamesApart names = subst NamesApart c.self.view_is c.self.invariant.directory.apart in
    ap (entry_of other) (c.in_ok-entry.ensures.ok ∙ ap (without_place names) is) ∙ removed_others name names within apart other differs

pub returns-clause-by_stamp : goal.returns-clause-by_stamp
returns-clause-by_stamp c = λ stamped.
    let name = c.args.name.now in
    let names = c.args.self.now in
    let is : c.place_in-place.result ≡ place_of name names = c.place_in-place.ensures.place ∙ ap (place_of name) c.self.view_is in
    let within : place_of name names < length names = omega (arith, is, ap length c.self.view_is, c.len.ensures, c.if-place-len.false) in
    subst (λ new. RemovesByStamp names new name) (sym (c.in_ok-entry.ensures.ok ∙ ap (without_place names) is)) (removes_by_stamp name names within stamped)
