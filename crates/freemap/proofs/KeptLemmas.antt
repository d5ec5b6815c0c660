-- What taking and freeing a place keep.
use Rattle.std.proofs.Common.{◌≡◌, ◌≢◌, ◌<◌, ◌≤◌, ◌+◌, ◌*◌, min, ℕ, false, List, length, set, sym, ap, ◌∙◌, arith, inl, inr}
use Rattle.std.proofs.lemmas.List.{length-set, get_or-set_same, get_or-set_other, ext_get_or}
use Rattle.std.proofs.lemmas.Bool.{cases_eq, cases_lt}
use Rattle.freemap.specs.Places.{is_one, places_in}
use Rattle.freemap.specs.Kept.{IsBitmap, IsSetBelow, IsFirstClear, IsClearFrom, BitBecomes, parts}
use Rattle.freemap.proofs.Bits.{length-places_in, places_in-at}

module _ (old new : List ℕ) (count place bit : ℕ) (becomes : BitBecomes old new place bit) (within : place < count) where
  -- a bit that changes is a place that changes
  pub places_in-set : places_in new count ≡ set (places_in old count) place (is_one bit)
  places_in-set =
      let there : place < length (places_in old count) = omega (arith, length-places_in old count) in
      ext_get_or false (places_in new count) (set (places_in old count) place (is_one bit)) (length-places_in new count ∙ sym (length-set (places_in old count) place (is_one bit) ∙ length-places_in old count)) (λ i h.
      let inside : i < count = omega (arith, length-places_in new count) in
      elim (cases_eq i place) [
        | inl e ↦ rw e (places_in-at new count place false within ∙ ap is_one becomes.here ∙ sym (get_or-set_same (places_in old count) place (is_one bit) false there))
        | inr apart ↦ places_in-at new count i false inside ∙ ap is_one (becomes.others i apart) ∙ sym (places_in-at old count i false inside) ∙ sym (get_or-set_other (places_in old count) place i (is_one bit) false apart)
      ])

  past-set : IsClearFrom old count → IsClearFrom new count
  past-set past i h = let apart : i ≢ place = omega arith in becomes.others i apart ∙ past i h

-- what is set stays set
pub stays_set : (old new : List ℕ) (place end : ℕ) → BitBecomes old new place 1 → IsSetBelow old end → IsSetBelow new end
stays_set old new place end becomes below i h = elim (cases_eq i place) [ inl e ↦ rw e becomes.here | inr apart ↦ becomes.others i apart ∙ below i h ]

module _ (old new : List ℕ) (count place lowest : ℕ) (kept : IsBitmap old count lowest) (len : length new ≡ 4096 * parts count) (within : place < count) where
  pub IsKept-take : BitBecomes old new place 1 → (from : ℕ) → from ≤ count → IsSetBelow new from → IsBitmap new count from
  IsKept-take becomes from from_in below = record {
    len = len;
    fits = kept.fits;
    past = past-set old new count place 1 becomes within kept.past;
    lowest_in = from_in;
    below = below;
  }

  pub IsKept-give : BitBecomes old new place 0 → IsBitmap new count (min lowest place)
  IsKept-give becomes = record {
    len = len;
    fits = kept.fits;
    past = past-set old new count place 0 becomes within kept.past;
    lowest_in = omega (arith, kept.lowest_in);
    below = λ i h. let apart : i ≢ place = omega arith in becomes.others i apart ∙ kept.below i (omega arith);
  }

  pub below-set : BitBecomes old new place 1 → IsSetBelow new lowest
  below-set becomes = stays_set old new place lowest becomes kept.below

-- if all below a place are set, and then the place, all up to it are
pub below-more : (old new : List ℕ) (place : ℕ) → BitBecomes old new place 1 → IsSetBelow old place → IsSetBelow new (place + 1)
below-more old new place becomes below i h = elim (cases_eq i place) [ inl e ↦ rw e becomes.here | inr apart ↦ becomes.others i apart ∙ below i (omega arith) ]

-- a place that is freed is the first clear one, or the one that was is
pub first_given : (old new : List ℕ) (place first end : ℕ) → BitBecomes old new place 0 → IsFirstClear old end first → IsFirstClear new end (min first place)
first_given old new place first end becomes is = record {
  within = omega (arith, is.within);
  below = λ i h. let apart : i ≢ place = omega arith in becomes.others i apart ∙ is.below i (omega arith);
  clear = λ h. elim (cases_lt first place) [
    | inl lt ↦
        let same : min first place ≡ first = omega arith in
        let apart : first ≢ place = omega arith in
        rw same (becomes.others first apart ∙ is.clear (omega arith))
    | inr le ↦ let same : min first place ≡ place = omega arith in rw same becomes.here
  ];
}
