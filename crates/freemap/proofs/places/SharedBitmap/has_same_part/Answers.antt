use Rattle.std.proofs.Common.{◌*◌, List, length, ap, subst, arith}
use Rattle.std.specs.List.{concat}
use Rattle.freemap.specs.Kept.{IsSectorAt}
use Rattle.freemap.proofs.PartLaws.{same_shown, shown_same}
use Rattle.freemap.proofs.GroupLaws.{SharedGroup, bytes_in, part_in, page_shown}
use Rattle.freemap.proofs.places.SharedBitmap.has_same_part.Goals as goal

pub page-requires-clause-within : goal.page-requires-clause-within
page-requires-clause-within c =
    let own = c.self.inside in
    let groups = bytes_in own.groups.items in
    omega (arith, part_in groups own.count own.lowest c.self.invariant c.args.part _ c.self.view_is c.requires.own, ap (λ (gs : List SharedGroup). length (concat (bytes_in gs))) c.deref.ensures.value)

pub page-requires-2-clause-within : goal.page-requires-2-clause-within
page-requires-2-clause-within c =
    let other = c.other.inside in
    let groups = bytes_in other.groups.items in
    omega (arith, part_in groups other.count other.lowest c.other.invariant c.args.part _ c.other.view_is c.requires.other, ap (λ (gs : List SharedGroup). length (concat (bytes_in gs))) c.deref-2.ensures.value)

pub returns : goal.returns
returns c =
    let own = c.self.inside in
    let other = c.other.inside in
    let part = c.args.part in
    let low = bytes_in own.groups.items in
    let high = bytes_in other.groups.items in
    let is = subst (λ (gs : List SharedGroup). IsSectorAt c.page.result.now (concat (bytes_in gs)) (4096 * part)) c.deref.ensures.value c.page.ensures in
    let other_is = subst (λ (gs : List SharedGroup). IsSectorAt c.page-2.result.now (concat (bytes_in gs)) (4096 * part)) c.deref-2.ensures.value c.page-2.ensures in
    let own_shows = page_shown low own.count own.lowest c.self.invariant part _ c.page.result.now c.self.view_is is in
    let other_shows = page_shown high other.count other.lowest c.other.invariant part _ c.page-2.result.now c.other.view_is other_is in
    let shows = same_shown c.page.result.now c.page-2.result.now c.args.self.now c.args.other.now (32768 * part) own_shows other_shows in
    let bits = shown_same c.page.result.now c.page-2.result.now c.args.self.now c.args.other.now (32768 * part) own_shows other_shows in
    (λ yes. shows (c.have_same_bits.ensures.0 yes), λ alike. c.have_same_bits.ensures.1 (bits alike))
