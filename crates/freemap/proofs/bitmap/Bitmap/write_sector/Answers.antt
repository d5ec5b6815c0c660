use Rattle.std.proofs.Common.{◌≡◌, ◌*◌, ◌+◌, List, ℕ, Bool, length, get_or, ap, subst, ◌∙◌, arith}
use Rattle.freemap.specs.Places.{ShowsPlaces}
use Rattle.freemap.proofs.Bits.{Shows-part, part-there}
use Rattle.freemap.proofs.PartLaws.{part-within}
use Rattle.freemap.proofs.bitmap.Bitmap.write_sector.Goals as goal

pub slice_bounds-copy_from_slice-end-2 : goal.slice_bounds-copy_from_slice-end-2
slice_bounds-copy_from_slice-end-2 c =
    let old = c.self.inside in
    let within = part-within old.bits.items old.count old.lowest c.args.part _ c.self.invariant c.self.view_is c.requires in
    omega (arith, within, ap length c.deref.ensures.value)

pub returns : goal.returns
returns c =
    let old = c.self.inside in
    let first = 4096 * c.args.part in
    let new = c.copy_from_slice.new.self in
    let place : 8 * (4096 * c.args.part) ≡ 32768 * c.args.part = omega arith in
    let within = part-within old.bits.items old.count old.lowest c.args.part _ c.self.invariant c.self.view_is c.requires in
    let shown = Shows-part old.bits.items new old.count (4096 * c.args.part) c.self.invariant.past (omega arith)
    (λ k h. ap (λ (s : List ℕ). get_or s k 0) c.copy_from_slice.ensures.after ∙ part-there c.deref.result.now (4096 * c.args.part) (4096 * c.args.part + 4096) k (omega arith)
    ∙ ap (λ (s : List ℕ). get_or s (4096 * c.args.part + k) 0) c.deref.ensures.value) in
    subst (λ (n : ℕ). ShowsPlaces new c.args.self.now n) place (subst (λ (places : List Bool). ShowsPlaces new places (8 * (4096 * c.args.part))) c.self.view_is shown)
