use Rattle.std.proofs.Common.{◌≡◌, ◌+◌, ◌*◌, length, List, ℕ, Bool, true, false, Some, All, set, ◌<◌, ◌≤◌, ap, sym, subst, ◌∙◌, arith}
use Rattle.std.specs.Prelude.{slice_get}
use Rattle.std.proofs.lemmas.List.{with_items_is}
use Rattle.std.proofs.lemmas.Option.{slice_get-get_or}
use Rattle.freemap.specs.Places.{is_one, places_in}
use Rattle.freemap.specs.Kept.{IsBitmap, IsSetBelow, BitBecomes, parts}
use Rattle.freemap.proofs.Bits.{all_used, length-places_in, places_in-at}
use Rattle.freemap.proofs.KeptLemmas.{IsKept-take, below-more, places_in-set}
use Rattle.freemap.proofs.bitmap.Bitmap.take.Goals as goal

pub returns-in_default-clause-full : goal.returns-in_default-clause-full
returns-in_default-clause-full c =
    let old = c.self.inside in
    subst (λ (places : List Bool). All (λ used. used ≡ true) places) c.self.view_is
    (all_used old.bits.items old.count (subst (λ (bytes : List ℕ). IsSetBelow bytes old.count) c.deref.ensures.value c.in_default.ensures.none))

pub invariant_of-self-2 : goal.invariant_of-self-2
invariant_of-self-2 c =
    let old = c.self.inside in
    let new = c.set_bit.new.bits in
    let place = c.in-Some.place in
    let found = rw c.deref.ensures.value at c.in-Some.ensures.found in
    let first = subst (λ (bytes : List ℕ). IsSetBelow bytes place) c.deref.ensures.value c.in-Some.ensures.first in
    let becomes = subst (λ (bytes : List ℕ). BitBecomes bytes new place 1) c.deref_mut.ensures.value c.set_bit.ensures in
    let len : length new ≡ 4096 * parts old.count = omega (arith, ap length c.deref_mut.ensures.value, c.self.invariant.len) in
    let whole : length new ≡ old.bits.len = omega (arith, old.bits.ok.0, c.self.invariant.len) in
    let within : place + 1 ≤ old.count = omega (arith, found.0) in
    subst (λ (bytes : List ℕ). IsBitmap bytes old.count (place + 1)) (sym (with_items_is old.bits new whole))
    (IsKept-take old.bits.items new old.count place old.lowest c.self.invariant len found.0 becomes (place + 1) within (below-more old.bits.items new place becomes first))

pub returns-clause-free : goal.returns-clause-free
returns-clause-free c =
    let old = c.self.inside in
    let place = c.in-Some.place in
    let found = rw c.deref.ensures.value at c.in-Some.ensures.found in
    let there : place < length (places_in old.bits.items old.count) = omega (arith, found.0, length-places_in old.bits.items old.count) in
    ap (λ (places : List Bool). slice_get places place) (sym c.self.view_is) ∙ slice_get-get_or (places_in old.bits.items old.count) place false there
    ∙ ap (λ (used : Bool). Some used) (places_in-at old.bits.items old.count place false found.0 ∙ ap is_one found.1)

pub returns-clause-taken : goal.returns-clause-taken
returns-clause-taken c =
    let old = c.self.inside in
    let new = c.set_bit.new.bits in
    let place = c.in-Some.place in
    let found = rw c.deref.ensures.value at c.in-Some.ensures.found in
    let becomes = subst (λ (bytes : List ℕ). BitBecomes bytes new place 1) c.deref_mut.ensures.value c.set_bit.ensures in
    let whole : length new ≡ old.bits.len = omega (arith, old.bits.ok.0, ap length c.deref_mut.ensures.value) in
    ap (λ (bytes : List ℕ). places_in bytes old.count) (with_items_is old.bits new whole) ∙ places_in-set old.bits.items new old.count place 1 becomes found.0
    ∙ ap (λ (places : List Bool). set places place true) c.self.view_is
