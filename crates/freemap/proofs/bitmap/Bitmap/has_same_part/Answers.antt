use Rattle.std.proofs.Common.{◌≡◌, ◌+◌, ◌*◌, ◌↔◌, ℕ, IsTrue, length, ap, arith}
use Rattle.freemap.specs.Places.{places_in, HaveSamePart}
use Rattle.freemap.specs.Kept.{HaveSameBits}
use Rattle.freemap.proofs.PartLaws.{part_of, part-shown, part-within, same_shown, shown_same}
use Rattle.freemap.proofs.bitmap.Bitmap.has_same_part.Goals as goal

pub slice_bounds-have_same_bits-end : goal.slice_bounds-have_same_bits-end
slice_bounds-have_same_bits-end c =
    let own = c.self.inside in
    let within = part-within own.bits.items own.count own.lowest c.args.part _ c.self.invariant c.self.view_is c.requires.own in
    omega (arith, within, ap length c.deref.ensures.value)

pub slice_bounds-have_same_bits-end-2 : goal.slice_bounds-have_same_bits-end-2
slice_bounds-have_same_bits-end-2 c =
    let other = c.other.inside in
    let within = part-within other.bits.items other.count other.lowest c.args.part _ c.other.invariant c.other.view_is c.requires.other in
    omega (arith, within, ap length c.deref-2.ensures.value)

pub returns : goal.returns
returns c =
    let own = c.self.inside in
    let other = c.other.inside in
    let start : ℕ = c.args.part * 4096 in
    let end : ℕ = c.args.part * 4096 + 4096 in
    let low = part_of own.bits.items start end in
    let high = part_of other.bits.items start end in
    let own_within = part-within own.bits.items own.count own.lowest c.args.part _ c.self.invariant c.self.view_is c.requires.own in
    let other_within = part-within other.bits.items other.count other.lowest c.args.part _ c.other.invariant c.other.view_is c.requires.other in
    let own_shows = part-shown own.bits.items own.count own.lowest c.self.invariant start end (omega arith) (omega (arith, own_within)) in
    let other_shows = part-shown other.bits.items other.count other.lowest c.other.invariant start end (omega arith) (omega (arith, other_within)) in
    let test : IsTrue c.have_same_bits.result ↔ HaveSameBits low high = rw (c.deref.ensures.value, c.deref-2.ensures.value) at c.have_same_bits.ensures in
    let shows = same_shown low high _ _ _ own_shows other_shows in
    let bits = shown_same low high _ _ _ own_shows other_shows in
    let place : 8 * start ≡ 32768 * c.args.part = omega arith in
    let told : IsTrue c.have_same_bits.result ↔ HaveSamePart (places_in own.bits.items own.count) (places_in other.bits.items other.count) (8 * start) = (λ yes. shows (test.0 yes), λ alike. test.1 (bits alike)) in
    rw (c.self.view_is, c.other.view_is, place) at told
