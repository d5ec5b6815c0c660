use Rattle.std.proofs.Common.{◌≡◌, ◌*◌, min, length, List, ℕ, Bool, false, get_or, set, ap, sym, subst, ◌∙◌, arith}
use Rattle.std.proofs.lemmas.List.{with_items_is}
use Rattle.freemap.specs.Places.{places_in}
use Rattle.freemap.specs.Kept.{IsBitmap, BitBecomes, parts}
use Rattle.freemap.proofs.Bits.{place_used}
use Rattle.freemap.proofs.KeptLemmas.{IsKept-give, places_in-set}
use Rattle.freemap.proofs.bitmap.Bitmap.give.Goals as goal

pub clear_bit-requires-clause-within : goal.clear_bit-requires-clause-within
clear_bit-requires-clause-within c =
    let used = place_used c.self.inside.bits.items c.self.inside.count c.args.place (ap (λ places. get_or places c.args.place false) c.self.view_is ∙ c.requires) in
    omega (arith, used.0, c.self.invariant.len, ap length c.deref_mut.ensures.value)

pub invariant_of-self : goal.invariant_of-self
invariant_of-self c =
    let old = c.self.inside in
    let new = c.clear_bit.new.bits in
    let used = place_used old.bits.items old.count c.args.place (ap (λ places. get_or places c.args.place false) c.self.view_is ∙ c.requires) in
    let becomes = subst (λ (bytes : List ℕ). BitBecomes bytes new c.args.place 0) c.deref_mut.ensures.value c.clear_bit.ensures in
    let len : length new ≡ 4096 * parts old.count = omega (arith, ap length c.deref_mut.ensures.value, c.self.invariant.len) in
    let whole : length new ≡ old.bits.len = omega (arith, old.bits.ok.0, c.self.invariant.len) in
    rw c.min-self-inside.ensures (subst (λ (bytes : List ℕ). IsBitmap bytes old.count (min old.lowest c.args.place)) (sym (with_items_is old.bits new whole))
    (IsKept-give old.bits.items new old.count c.args.place old.lowest c.self.invariant len used.0 becomes))

pub returns : goal.returns
returns c =
    let old = c.self.inside in
    let new = c.clear_bit.new.bits in
    let used = place_used old.bits.items old.count c.args.place (ap (λ places. get_or places c.args.place false) c.self.view_is ∙ c.requires) in
    let becomes = subst (λ (bytes : List ℕ). BitBecomes bytes new c.args.place 0) c.deref_mut.ensures.value c.clear_bit.ensures in
    let whole : length new ≡ old.bits.len = omega (arith, old.bits.ok.0, ap length c.deref_mut.ensures.value) in
    ap (λ (bytes : List ℕ). places_in bytes old.count) (with_items_is old.bits new whole) ∙ places_in-set old.bits.items new old.count c.args.place 0 becomes used.0
    ∙ ap (λ (places : List Bool). set places c.args.place false) c.self.view_is
