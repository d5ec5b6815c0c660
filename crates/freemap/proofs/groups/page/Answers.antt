use Rattle.std.proofs.Common.{◌<◌, ◌*◌, ◌/◌, ◌%◌, ℕ, List, length, subst, ap, ◌∙◌, arith}
use Rattle.std.proofs.lemmas.List.{length-map}
use Rattle.freemap.specs.Kept.{IsSectorAt}
use Rattle.freemap.proofs.GroupLaws.{SharedGroup, bytes_in, group_there, page_group, page_in_group, sector_in_group}
use Rattle.freemap.proofs.groups.page.Goals as goal

pub page-requires : goal.page-requires
page-requires c =
    let groups = c.args.groups.now in
    let row = c.args.page / 128 in
    let there : row < length groups = omega (arith, page_group (bytes_in groups) c.requires.groups c.args.page c.requires.within, length-map groups (λ (g : SharedGroup). g.value)) in
    let group = group_there groups row c.index-groups-page.result c.index-groups-page.is there in
    omega (arith, page_in_group (bytes_in groups) c.requires.groups c.args.page c.requires.within, ap length c.deref.ensures, ap length group)

pub returns : goal.returns
returns c =
    let groups = c.args.groups.now in
    let row = c.args.page / 128 in
    let there : row < length groups = omega (arith, page_group (bytes_in groups) c.requires.groups c.args.page c.requires.within, length-map groups (λ (g : SharedGroup). g.value)) in
    let group = group_there groups row c.index-groups-page.result c.index-groups-page.is there in
    sector_in_group (bytes_in groups) c.requires.groups c.args.page c.page.result.now
    (subst (λ (all : List ℕ). IsSectorAt c.page.result.now all (4096 * (c.args.page % 128))) (c.deref.ensures ∙ group) c.page.ensures)
