use Rattle.std.proofs.Common.{◌<◌, ◌*◌, ℕ, List, [], get_or, length, sym, subst, ap, ◌∙◌, arith}
use Rattle.std.proofs.lemmas.List.{length-map}
use Rattle.freemap.specs.Kept.{IsSectorAt}
use Rattle.freemap.proofs.PageLaws.{Shared, bytes_of, page_there, length-pages, sector_at}
use Rattle.freemap.proofs.group.Group.page.Goals as goal

pub index-requires : goal.index-requires
index-requires c =
    let own = c.self.inside in
    let pages = bytes_of own.pages.items in
    omega (arith, length-pages pages c.self.invariant.sectors, ap length c.self.view_is, c.requires, length-map own.pages.items (λ (p : Shared). p.value), own.pages.ok.0)

pub returns : goal.returns
returns c =
    let own = c.self.inside in
    let pages = bytes_of own.pages.items in
    let within : c.args.page < length pages = omega (arith, length-pages pages c.self.invariant.sectors, ap length c.self.view_is, c.requires) in
    let there : c.args.page < length own.pages.items = omega (arith, within, length-map own.pages.items (λ (p : Shared). p.value)) in
    let page = c.bytes.ensures ∙ (c.deref.ensures ∙ page_there own.pages.items c.args.page c.index.result.now c.index.ensures there) in
    subst (λ (bytes : List ℕ). IsSectorAt bytes c.args.self.now (4096 * c.args.page)) (sym page)
    (subst (λ (all : List ℕ). IsSectorAt (get_or pages c.args.page []) all (4096 * c.args.page)) c.self.view_is (sector_at pages c.self.invariant.sectors c.args.page within))
