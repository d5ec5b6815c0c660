use Rattle.std.proofs.Common.{◌≡◌, ◌<◌, ◌+◌, ◌*◌, ◌/◌, ◌%◌, ℕ, List, [], Bool, true, false, Some, All, length, get_or, set, sym, ap, subst, ◌∙◌, arith}
use Rattle.std.specs.Prelude.{slice_get}
use Rattle.std.specs.List.{concat}
use Rattle.std.proofs.Math.Seq.{map-set_same}
use Rattle.std.proofs.lemmas.List.{length-map, map-set}
use Rattle.std.proofs.lemmas.Option.{slice_get-get_or}
use Rattle.freemap.specs.Places.{bit_of, is_one, places_in}
use Rattle.freemap.specs.Kept.{IsShared, IsSetBelow, BitBecomes}
use Rattle.freemap.proofs.Bits.{all_used, length-places_in, places_in-at}
use Rattle.freemap.proofs.PageLaws.{on_err}
use Rattle.freemap.proofs.GroupLaws.{SharedGroup, bytes_in, group_there, groups_few, place_there, places_within, place_in, changed, kept_taken}
use Rattle.freemap.proofs.places.SharedBitmap.take.Goals as goal

pub first_clear-place-requires-clause-few : goal.first_clear-place-requires-clause-few
first_clear-place-requires-clause-few c =
    let own = c.self.inside in
    let groups = bytes_in own.groups.items in
    omega (arith, groups_few groups own.count own.lowest c.self.invariant, length-map own.groups.items (λ (g : SharedGroup). g.value), ap (λ (ps : List SharedGroup). length ps) c.deref.ensures.value)

pub returns-then-place-count-clause-full : goal.returns-then-place-count-clause-full
returns-then-place-count-clause-full c =
    let own = c.self.inside in
    let groups = bytes_in own.groups.items in
    let place = c.first_clear-place.result in
    let below = subst (λ (ps : List SharedGroup). IsSetBelow (concat (bytes_in ps)) place) c.deref.ensures.value c.first_clear-place.ensures.below in
    λ full. subst (λ (places : List Bool). All (λ used. used ≡ true) places) c.self.view_is
    (all_used (concat groups) own.count (λ i h. below i (omega (arith, c.if-place-count.true))))

pub index_mut-group-requires : goal.index_mut-group-requires
index_mut-group-requires c =
    let own = c.self.inside in
    let groups = bytes_in own.groups.items in
    omega (arith, place_in groups own.count own.lowest c.self.invariant c.first_clear-place.result c.if-place-count.false, length-map own.groups.items (λ (g : SharedGroup). g.value), own.groups.ok.0)

pub take-requires : goal.take-requires
take-requires c =
    let own = c.self.inside in
    let groups = bytes_in own.groups.items in
    let place = c.first_clear-place.result in
    let within = c.if-place-count.false in
    let group = c.index_mut-group.result.now in
    let there : place / 4194304 < length own.groups.items =
    omega (arith, place_in groups own.count own.lowest c.self.invariant place within, length-map own.groups.items (λ (g : SharedGroup). g.value)) in
    let old : group.value ≡ get_or groups (place / 4194304) [] = group_there own.groups.items (place / 4194304) group c.index_mut-group.ensures.value there in
    omega (arith, place_there groups own.count own.lowest c.self.invariant place within, ap length old)

pub invariant_of-self-in_err-take : goal.invariant_of-self-in_err-take
invariant_of-self-in_err-take c =
    let own = c.self.inside in
    let group = c.index_mut-group.result.now in
    let same = map-set_same (λ (g : SharedGroup). g.value) own.groups.items (c.first_clear-place.result / 4194304) c.take.new.group group
    (c.in_err-take.ensures.unchanged ∙ ap (λ (g : SharedGroup). g.value) c.index_mut-group.ensures.value) in
    subst (λ (groups : List (List ℕ)). IsShared groups own.count own.lowest) (sym same) c.self.invariant

pub returns-in_err-take-clause-unchanged : goal.returns-in_err-take-clause-unchanged
returns-in_err-take-clause-unchanged c =
    let own = c.self.inside in
    let group = c.index_mut-group.result.now in
    let same = map-set_same (λ (g : SharedGroup). g.value) own.groups.items (c.first_clear-place.result / 4194304) c.take.new.group group
    (c.in_err-take.ensures.unchanged ∙ ap (λ (g : SharedGroup). g.value) c.index_mut-group.ensures.value) in
    on_err c.from_residual.result (ap (λ (groups : List (List ℕ)). places_in (concat groups) own.count) same ∙ c.self.view_is)

pub invariant_of-self-2 : goal.invariant_of-self-2
invariant_of-self-2 c =
    let own = c.self.inside in
    let groups = bytes_in own.groups.items in
    let place = c.first_clear-place.result in
    let within = c.if-place-count.false in
    let group = c.index_mut-group.result.now in
    let new = c.take.new.group in
    let there : place / 4194304 < length own.groups.items =
    omega (arith, place_in groups own.count own.lowest c.self.invariant place within, length-map own.groups.items (λ (g : SharedGroup). g.value)) in
    let old : group.value ≡ get_or groups (place / 4194304) [] = group_there own.groups.items (place / 4194304) group c.index_mut-group.ensures.value there in
    let becomes = subst (λ (bytes : List ℕ). BitBecomes bytes new.value (place % 4194304) 1) old c.in_ok-take.ensures.bit in
    let below = subst (λ (ps : List SharedGroup). IsSetBelow (concat (bytes_in ps)) place) c.deref.ensures.value c.first_clear-place.ensures.below in
    subst (λ (ps : List (List ℕ)). IsShared ps own.count (place + 1)) (sym (map-set (λ (g : SharedGroup). g.value) own.groups.items (place / 4194304) new))
    (kept_taken groups own.count own.lowest c.self.invariant place within new.value (c.in_ok-take.ensures.len ∙ ap length old) becomes below)

pub returns-clause-free : goal.returns-clause-free
returns-clause-free c =
    let own = c.self.inside in
    let bytes = concat (bytes_in own.groups.items) in
    let place = c.first_clear-place.result in
    let within = c.if-place-count.false in
    let end : place < 8 * length (concat (bytes_in c.deref.result.now)) =
    omega (arith, places_within (bytes_in own.groups.items) own.count own.lowest c.self.invariant place within, ap (λ (ps : List SharedGroup). length (concat (bytes_in ps))) c.deref.ensures.value) in
    let clear = subst (λ (ps : List SharedGroup). bit_of (concat (bytes_in ps)) place ≡ 0) c.deref.ensures.value (c.first_clear-place.ensures.clear end) in
    let there : place < length (places_in bytes own.count) = omega (arith, within, length-places_in bytes own.count) in
    ap (λ (places : List Bool). slice_get places place) (sym c.self.view_is) ∙ (slice_get-get_or (places_in bytes own.count) place false there
    ∙ ap (λ (used : Bool). Some used) (places_in-at bytes own.count place false within ∙ ap is_one clear))

pub returns-clause-taken : goal.returns-clause-taken
returns-clause-taken c =
    let own = c.self.inside in
    let groups = bytes_in own.groups.items in
    let place = c.first_clear-place.result in
    let within = c.if-place-count.false in
    let group = c.index_mut-group.result.now in
    let new = c.take.new.group in
    let there : place / 4194304 < length own.groups.items =
    omega (arith, place_in groups own.count own.lowest c.self.invariant place within, length-map own.groups.items (λ (g : SharedGroup). g.value)) in
    let old : group.value ≡ get_or groups (place / 4194304) [] = group_there own.groups.items (place / 4194304) group c.index_mut-group.ensures.value there in
    let becomes = subst (λ (bytes : List ℕ). BitBecomes bytes new.value (place % 4194304) 1) old c.in_ok-take.ensures.bit in
    ap (λ (ps : List (List ℕ)). places_in (concat ps) own.count) (map-set (λ (g : SharedGroup). g.value) own.groups.items (place / 4194304) new)
    ∙ (changed groups own.count own.lowest c.self.invariant place within new.value (c.in_ok-take.ensures.len ∙ ap length old) 1 becomes
    ∙ ap (λ (places : List Bool). set places place true) c.self.view_is)
