use Rattle.std.proofs.Common.{◌*◌, ℕ, List, length, sym, ap, subst, arith}
use Rattle.std.specs.List.{concat}
use Rattle.freemap.specs.Places.{ShowsPlaces}
use Rattle.freemap.specs.Kept.{IsSectorAt}
use Rattle.freemap.proofs.GroupLaws.{SharedGroup, bytes_in, part_in, page_shown}
use Rattle.freemap.proofs.places.SharedBitmap.write_sector.Goals as goal

pub page-requires-clause-within : goal.page-requires-clause-within
page-requires-clause-within c =
    let own = c.self.inside in
    let groups = bytes_in own.groups.items in
    omega (arith, part_in groups own.count own.lowest c.self.invariant c.args.part _ c.self.view_is c.requires, ap (λ (gs : List SharedGroup). length (concat (bytes_in gs))) c.deref.ensures.value)

pub returns : goal.returns
returns c =
    let own = c.self.inside in
    let groups = bytes_in own.groups.items in
    let part = c.args.part in
    let is = subst (λ (gs : List SharedGroup). IsSectorAt c.page.result.now (concat (bytes_in gs)) (4096 * part)) c.deref.ensures.value c.page.ensures in
    subst (λ (bytes : List ℕ). ShowsPlaces bytes c.args.self.now (32768 * part)) (sym c.copy_from_slice.ensures.after)
    (page_shown groups own.count own.lowest c.self.invariant part _ c.page.result.now c.self.view_is is)
