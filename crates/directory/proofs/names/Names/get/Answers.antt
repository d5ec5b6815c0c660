use Rattle.std.proofs.Common.{◌≤◌, ◌<◌, length, ap, subst, sym, ◌∙◌, arith}
use Rattle.model_tree.specs.Trees.Tree.{entry_of}
use Rattle.directory.specs.Records.{NamesApart}
use Rattle.directory.proofs.Changes.{none_found, some_found}
use Rattle.directory.proofs.NamedByStamp.{entry_of-by_stamp}
use Rattle.directory.proofs.names.Names.get.Goals as goal

pub returns-then-place-len-clause-found : goal.returns-then-place-len-clause-found
returns-then-place-len-clause-found c =
    let records = c.self.inside.records in
    let name = c.args.name.now in
    let past : length records ≤ c.place_in-place.result = omega (arith, c.if-place-len.true, c.len.ensures) in
    sym (none_found records name c.place_in-place.result c.place_in-place.ensures.place past) ∙ ap (entry_of name) c.self.view_is

pub returns-clause-found : goal.returns-clause-found
returns-clause-found c =
    let records = c.self.inside.records in
    let name = c.args.name.now in
    let within : c.place_in-place.result < length records = omega (arith, c.if-place-len.false, c.len.ensures) in
    some_found records name c.place_in-place.result c.get-entry.result.now c.place_in-place.ensures.place within c.get-entry.ensures ∙ ap (entry_of name) c.self.view_is

pub returns-then-place-len-clause-by_stamp : goal.returns-then-place-len-clause-by_stamp
returns-then-place-len-clause-by_stamp c = λ stamped.
    returns-then-place-len-clause-found c
    ∙ sym (entry_of-by_stamp c.args.name.now c.args.self.now (subst NamesApart c.self.view_is c.self.invariant.directory.apart) stamped.apart)

pub returns-clause-by_stamp : goal.returns-clause-by_stamp
returns-clause-by_stamp c = λ stamped.
    returns-clause-found c
    ∙ sym (entry_of-by_stamp c.args.name.now c.args.self.now (subst NamesApart c.self.view_is c.self.invariant.directory.apart) stamped.apart)
