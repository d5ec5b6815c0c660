use Rattle.std.proofs.Common.{◌≡◌, ◌-◌, [], length, take, set, get_or, sym, ap, ◌∙◌, arith}
use Rattle.std.proofs.lemmas.List.{length-set}
use Rattle.directory.specs.Records.{record_of, record_from}
use Rattle.directory.proofs.Blocks.{counted}
use Rattle.directory.proofs.records.Records.swap_remove.Goals as goal

pub get-requires : goal.get-requires
get-requires c = omega (arith, counted _ c.self.inside.count c.self.invariant, ap length c.self.view_is, c.requires)

pub returns-clause-ok : goal.returns-clause-ok
returns-clause-ok c =
    let names = c.args.self.now in
    let place = c.args.place in
    let nothing = record_from 0 [] 0 in
    let end : c.self.inside.count ≡ length names = sym (counted _ c.self.inside.count c.self.invariant) ∙ ap length c.self.view_is in
    let moved : record_of c.in_ok-moved.moved ≡ get_or names (length names - 1) nothing =
    c.in_ok-moved.ensures ∙ (sym (c.get.ensures nothing) ∙ ap (λ n. get_or names (n - 1) nothing) end) in
    c.shorten.ensures
    ∙ (ap (λ xs. take (length xs - 1) xs) (c.in_ok-set.ensures.ok ∙ ap (set names place) moved)
    ∙ ap (λ n. take (n - 1) (set names place (get_or names (length names - 1) nothing))) (length-set names place (get_or names (length names - 1) nothing)))
