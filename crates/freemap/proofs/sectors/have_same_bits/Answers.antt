use Rattle.std.proofs.Common.{◌≡◌, Decides, ap}
use Rattle.std.proofs.Math.Facts.{Fits-lt-pow}
use Rattle.std.proofs.lemmas.Bool.Decides.{Decides-eqb}
use Rattle.std.proofs.lemmas.Slice.Eq.{slice_eq-Decides}
use Rattle.freemap.proofs.Laws.{same_bytes}
use Rattle.freemap.specs.Places.{bit_of}
use Rattle.freemap.proofs.sectors.have_same_bits.Goals as goal

pub returns : goal.returns
returns c =
    let a = c.args.a.now in
    let b = c.args.b.now in
    let test : Decides c.eq.result (a ≡ b) = slice_eq-Decides Decides-eqb _ _ _ c.eq.ensures in
    (λ yes i h. ap (λ s. bit_of s i) (test.0 yes), λ same. test.1 (same_bytes a b c.requires.a_len c.requires.b_len (λ i. Fits-lt-pow (c.type_inv.a i)) (λ i. Fits-lt-pow (c.type_inv.b i)) same))
