use Rattle.std.proofs.Common.{◌≡◌, ◌<◌, ◌/◌, ◌%◌, min, ℕ, List, [], Bool, false, length, get_or, set, sym, ap, subst, ◌∙◌, arith}
use Rattle.std.specs.List.{concat}
use Rattle.std.proofs.Math.Seq.{map-set_same}
use Rattle.std.proofs.lemmas.List.{length-map, map-set}
use Rattle.freemap.specs.Places.{places_in}
use Rattle.freemap.specs.Kept.{IsShared, BitBecomes}
use Rattle.freemap.proofs.Bits.{place_used}
use Rattle.freemap.proofs.PageLaws.{on_err}
use Rattle.freemap.proofs.GroupLaws.{SharedGroup, bytes_in, group_there, place_there, place_in, changed, kept_given}
use Rattle.freemap.proofs.places.SharedBitmap.give.Goals as goal

pub index_mut-group-requires : goal.index_mut-group-requires
index_mut-group-requires c =
    let own = c.self.inside in
    let groups = bytes_in own.groups.items in
    let used = place_used (concat groups) own.count c.args.place (ap (λ places. get_or places c.args.place false) c.self.view_is ∙ c.requires) in
    omega (arith, place_in groups own.count own.lowest c.self.invariant c.args.place used.0, length-map own.groups.items (λ (g : SharedGroup). g.value), own.groups.ok.0)

pub give-requires : goal.give-requires
give-requires c =
    let own = c.self.inside in
    let groups = bytes_in own.groups.items in
    let place = c.args.place in
    let group = c.index_mut-group.result.now in
    let used = place_used (concat groups) own.count place (ap (λ places. get_or places place false) c.self.view_is ∙ c.requires) in
    let there : place / 4194304 < length own.groups.items =
    omega (arith, place_in groups own.count own.lowest c.self.invariant place used.0, length-map own.groups.items (λ (g : SharedGroup). g.value)) in
    let old : group.value ≡ get_or groups (place / 4194304) [] = group_there own.groups.items (place / 4194304) group c.index_mut-group.ensures.value there in
    omega (arith, place_there groups own.count own.lowest c.self.invariant place used.0, ap length old)

pub invariant_of-self : goal.invariant_of-self
invariant_of-self c =
    let own = c.self.inside in
    let group = c.index_mut-group.result.now in
    let same = map-set_same (λ (g : SharedGroup). g.value) own.groups.items (c.args.place / 4194304) c.give.new.group group
    (c.in_err-give.ensures.unchanged ∙ ap (λ (g : SharedGroup). g.value) c.index_mut-group.ensures.value) in
    subst (λ (groups : List (List ℕ)). IsShared groups own.count own.lowest) (sym same) c.self.invariant

pub returns-in_err-give-clause-unchanged : goal.returns-in_err-give-clause-unchanged
returns-in_err-give-clause-unchanged c =
    let own = c.self.inside in
    let group = c.index_mut-group.result.now in
    let same = map-set_same (λ (g : SharedGroup). g.value) own.groups.items (c.args.place / 4194304) c.give.new.group group
    (c.in_err-give.ensures.unchanged ∙ ap (λ (g : SharedGroup). g.value) c.index_mut-group.ensures.value) in
    on_err c.from_residual.result (ap (λ (groups : List (List ℕ)). places_in (concat groups) own.count) same ∙ c.self.view_is)

pub invariant_of-self-2 : goal.invariant_of-self-2
invariant_of-self-2 c =
    let own = c.self.inside in
    let groups = bytes_in own.groups.items in
    let place = c.args.place in
    let group = c.index_mut-group.result.now in
    let new = c.give.new.group in
    let used = place_used (concat groups) own.count place (ap (λ places. get_or places place false) c.self.view_is ∙ c.requires) in
    let there : place / 4194304 < length own.groups.items =
    omega (arith, place_in groups own.count own.lowest c.self.invariant place used.0, length-map own.groups.items (λ (g : SharedGroup). g.value)) in
    let old : group.value ≡ get_or groups (place / 4194304) [] = group_there own.groups.items (place / 4194304) group c.index_mut-group.ensures.value there in
    let becomes = subst (λ (bytes : List ℕ). BitBecomes bytes new.value (place % 4194304) 0) old c.in_ok-give.ensures.bit in
    rw c.min-self-inside.ensures
    (subst (λ (ps : List (List ℕ)). IsShared ps own.count (min own.lowest place)) (sym (map-set (λ (g : SharedGroup). g.value) own.groups.items (place / 4194304) new))
    (kept_given groups own.count own.lowest c.self.invariant place used.0 new.value (c.in_ok-give.ensures.len ∙ ap length old) becomes))

pub returns-clause-given : goal.returns-clause-given
returns-clause-given c =
    let own = c.self.inside in
    let groups = bytes_in own.groups.items in
    let place = c.args.place in
    let group = c.index_mut-group.result.now in
    let new = c.give.new.group in
    let used = place_used (concat groups) own.count place (ap (λ places. get_or places place false) c.self.view_is ∙ c.requires) in
    let there : place / 4194304 < length own.groups.items =
    omega (arith, place_in groups own.count own.lowest c.self.invariant place used.0, length-map own.groups.items (λ (g : SharedGroup). g.value)) in
    let old : group.value ≡ get_or groups (place / 4194304) [] = group_there own.groups.items (place / 4194304) group c.index_mut-group.ensures.value there in
    let becomes = subst (λ (bytes : List ℕ). BitBecomes bytes new.value (place % 4194304) 0) old c.in_ok-give.ensures.bit in
    ap (λ (ps : List (List ℕ)). places_in (concat ps) own.count) (map-set (λ (g : SharedGroup). g.value) own.groups.items (place / 4194304) new)
    ∙ (changed groups own.count own.lowest c.self.invariant place used.0 new.value (c.in_ok-give.ensures.len ∙ ap length old) 0 becomes
    ∙ ap (λ (places : List Bool). set places place false) c.self.view_is)
