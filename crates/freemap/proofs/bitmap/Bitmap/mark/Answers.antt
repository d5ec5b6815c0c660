use Rattle.std.proofs.Common.{◌≡◌, ◌*◌, length, List, ℕ, Bool, true, set, ap, sym, subst, ◌∙◌, arith}
use Rattle.std.specs.Prelude.{slice_get}
use Rattle.std.proofs.lemmas.List.{with_items_is}
use Rattle.freemap.specs.Places.{places_in}
use Rattle.freemap.specs.Kept.{IsBitmap, BitBecomes, parts}
use Rattle.freemap.proofs.Bits.{place_free}
use Rattle.freemap.proofs.KeptLemmas.{IsKept-take, below-set, places_in-set}
use Rattle.freemap.proofs.bitmap.Bitmap.mark.Goals as goal

pub set_bit-requires-clause-within : goal.set_bit-requires-clause-within
set_bit-requires-clause-within c =
    let free = place_free c.self.inside.bits.items c.self.inside.count c.args.place (ap (λ places. slice_get places c.args.place) c.self.view_is ∙ c.requires) in
    omega (arith, free.0, c.self.invariant.len, ap length c.deref_mut.ensures.value)

pub invariant_of-self : goal.invariant_of-self
invariant_of-self c =
    let old = c.self.inside in
    let new = c.set_bit.new.bits in
    let free = place_free old.bits.items old.count c.args.place (ap (λ places. slice_get places c.args.place) c.self.view_is ∙ c.requires) in
    let becomes = subst (λ (bytes : List ℕ). BitBecomes bytes new c.args.place 1) c.deref_mut.ensures.value c.set_bit.ensures in
    let len : length new ≡ 4096 * parts old.count = omega (arith, ap length c.deref_mut.ensures.value, c.self.invariant.len) in
    let whole : length new ≡ old.bits.len = omega (arith, old.bits.ok.0, c.self.invariant.len) in
    let below = below-set old.bits.items new old.count c.args.place old.lowest c.self.invariant len free.0 becomes in
    subst (λ (bytes : List ℕ). IsBitmap bytes old.count old.lowest) (sym (with_items_is old.bits new whole))
    (IsKept-take old.bits.items new old.count c.args.place old.lowest c.self.invariant len free.0 becomes old.lowest c.self.invariant.lowest_in below)

pub returns : goal.returns
returns c =
    let old = c.self.inside in
    let new = c.set_bit.new.bits in
    let free = place_free old.bits.items old.count c.args.place (ap (λ places. slice_get places c.args.place) c.self.view_is ∙ c.requires) in
    let becomes = subst (λ (bytes : List ℕ). BitBecomes bytes new c.args.place 1) c.deref_mut.ensures.value c.set_bit.ensures in
    let whole : length new ≡ old.bits.len = omega (arith, old.bits.ok.0, ap length c.deref_mut.ensures.value) in
    ap (λ (bytes : List ℕ). places_in bytes old.count) (with_items_is old.bits new whole) ∙ places_in-set old.bits.items new old.count c.args.place 1 becomes free.0
    ∙ ap (λ (places : List Bool). set places c.args.place true) c.self.view_is
