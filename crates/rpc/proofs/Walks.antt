-- Going from fragment to fragment.
use Rattle.std.proofs.Common.{◌≡◌, ℕ, zero, suc, ◌+◌, ◌-◌, ◌<◌, ◌≤◌, true, false, List, ◌++◌, length, take, drop, refl, ap, sym, subst, ◌∙◌, arith}
use Rattle.std.proofs.lemmas.List.{length-append, length-drop, length-take-le, drop-drop}
use Rattle.model.specs.Wire.Record.{RecordFault, Gathered, nothing_gathered, gathered_with, Waits, Refuses, Brings, fragment, Partial, Refused, Whole, behind_fragment, prefix_from, prefix}
use Rattle.rpc.specs.declared.fragment.Place.{Place}
use Rattle.rpc.specs.declared.fragment.Fragment.TheVariants as found
use Rattle.rpc.specs.declared.scan.Scan.TheVariants as scans
use Rattle.rpc.specs.Assembly.{record_limits, Finds, scan_of}

-- One step of `prefix_from`

at_waits : (n : ℕ) (gathered : Gathered) (bytes : List ℕ) → fragment record_limits gathered bytes ≡ Waits → prefix_from record_limits n gathered bytes ≡ Partial
unfolding prefix_from
at_waits zero gathered bytes is = refl
at_waits (suc n) gathered bytes is = ap (behind_fragment (prefix_from record_limits n) gathered) is

at_refuses : (n : ℕ) (gathered : Gathered) (bytes : List ℕ) (fault : RecordFault) → 0 < n → fragment record_limits gathered bytes ≡ Refuses fault
    → prefix_from record_limits n gathered bytes ≡ Refused fault
unfolding prefix_from
at_refuses zero gathered bytes fault some is = absurd (omega arith)
at_refuses (suc n) gathered bytes fault some is = ap (behind_fragment (prefix_from record_limits n) gathered) is

at_last : (n : ℕ) (gathered : Gathered) (bytes part rest : List ℕ) → 0 < n → fragment record_limits gathered bytes ≡ Brings part true rest
    → prefix_from record_limits n gathered bytes ≡ Whole (gathered.bytes ++ part) rest
unfolding prefix_from
at_last zero gathered bytes part rest some is = absurd (omega arith)
at_last (suc n) gathered bytes part rest some is = ap (behind_fragment (prefix_from record_limits n) gathered) is

at_other : (n : ℕ) (gathered : Gathered) (bytes part rest : List ℕ) → 0 < n → fragment record_limits gathered bytes ≡ Brings part false rest
    → prefix_from record_limits n gathered bytes ≡ prefix_from record_limits (n - 1) (gathered_with gathered part) rest
unfolding prefix_from
at_other zero gathered bytes part rest some is = absurd (omega arith)
at_other (suc n) gathered bytes part rest some is =
    let less : n ≡ suc n - 1 = omega arith in
    ap (behind_fragment (prefix_from record_limits n) gathered) is
    ∙ ap (λ (m : ℕ). prefix_from record_limits m (gathered_with gathered part) rest) less

-- What is known at a place: the fragments before it are gathered, and the record goes on there

pub record Walks (all : List ℕ) (gathered : Gathered) (fuel : ℕ) (rest : List ℕ) (place : Place) : Type 0 where
  pub on : prefix record_limits all ≡ prefix_from record_limits fuel gathered rest
  pub enough : length rest ≤ fuel
  pub size : length gathered.bytes ≡ place.size
  pub fragments : gathered.fragments ≡ place.fragments

pub waits : {all rest : List ℕ} {gathered : Gathered} {fuel : ℕ} {place : Place} → Walks all gathered fuel rest place → Finds gathered rest found.Waits → prefix record_limits all ≡ Partial
waits {rest = rest} {gathered = gathered} {fuel = fuel} w is = w.on ∙ at_waits fuel gathered rest is

pub refuses : {all rest : List ℕ} {gathered : Gathered} {fuel : ℕ} {place : Place} (fault : RecordFault) → Walks all gathered fuel rest place
    → 4 ≤ length rest → fragment record_limits gathered rest ≡ Refuses fault → prefix record_limits all ≡ Refused fault
refuses {rest = rest} {gathered = gathered} {fuel = fuel} fault w long is =
    let enough = w.enough in
    w.on ∙ at_refuses fuel gathered rest fault (omega arith) is

-- the bytes of a fragment of this size
abbrev pub part_of : (size : ℕ) → (rest : List ℕ) → List ℕ
part_of size rest = take size (drop 4 rest)

abbrev pub behind_part : (size : ℕ) → (rest : List ℕ) → List ℕ
behind_part size rest = drop size (drop 4 rest)

pub last : {all rest : List ℕ} {gathered : Gathered} {fuel : ℕ} {place : Place} (size : ℕ) → Walks all gathered fuel rest place → Finds gathered rest (found.Brings size true)
    → prefix record_limits all ≡ Whole (gathered.bytes ++ part_of size rest) (behind_part size rest)
last {rest = rest} {gathered = gathered} {fuel = fuel} size w is =
    let enough = w.enough in
    let long = is.0 in
    w.on ∙ at_last fuel gathered rest (part_of size rest) (behind_part size rest) (omega arith) is.3

pub next : {all rest : List ℕ} {gathered : Gathered} {fuel : ℕ} {place : Place} (behind : Place) (size : ℕ) → Walks all gathered fuel rest place → Finds gathered rest (found.Brings size false)
    → behind.size ≡ place.size + size → behind.fragments ≡ place.fragments + 1
    → Walks all (gathered_with gathered (part_of size rest)) (fuel - 1) (behind_part size rest) behind
next {rest = rest} {gathered = gathered} {fuel = fuel} {place = place} behind size w is size_is fragments_is =
    let enough = w.enough in
    let long = is.0 in
    let fragments = w.fragments in
    let before = w.size in
    let inner = length-drop 4 rest in
    let part : length (part_of size rest) ≡ size = length-take-le size (drop 4 rest) (omega arith) in
    record {
      on = w.on ∙ at_other fuel gathered rest (part_of size rest) (behind_part size rest) (omega arith) is.3;
      enough = omega (arith, length-drop size (drop 4 rest));
      size = omega (arith, length-append gathered.bytes (part_of size rest));
      fragments = omega arith;
    }

-- The search for the end

pub record Searches (all : List ℕ) (place : Place) : Type 0 where
  pub gathered : Gathered
  pub fuel : ℕ
  pub walks : Walks all gathered fuel (drop place.at all) place
  pub within : place.at ≤ length all
  pub small : place.size ≤ 16384

pub begins : (all : List ℕ) (place : Place) → place.at ≡ 0 → place.size ≡ 0 → place.fragments ≡ 0 → Searches all place
begins all place at size fragments = record {
  gathered = nothing_gathered;
  fuel = length all;
  walks = record {
    on = ap (λ (n : ℕ). prefix_from record_limits (length all) nothing_gathered (drop n all)) (sym at);
    enough = omega (arith, length-drop place.at all);
    size = sym size;
    fragments = sym fragments;
  };
  within = omega arith;
  small = omega arith;
}

pub searches_on : (all : List ℕ) (place behind : Place) (size : ℕ) (s : Searches all place) → Finds s.gathered (drop place.at all) (found.Brings size false)
    → behind.at ≡ place.at + 4 + size → behind.size ≡ place.size + size → behind.fragments ≡ place.fragments + 1 → Searches all behind
searches_on all place behind size s is at_is size_is fragments_is =
    let here : behind_part size (drop place.at all) ≡ drop behind.at all =
    drop-drop size 4 (drop place.at all) ∙ drop-drop (4 + size) place.at all ∙ ap (λ (n : ℕ). drop n all) (omega arith) in
    let walks = next behind size s.walks is size_is fragments_is in
    let inside = s.within in
    let whole = is.0 in
    let fits = is.1 in
    let before = s.walks.size in
    record {
      gathered = gathered_with s.gathered (part_of size (drop place.at all));
      fuel = s.fuel - 1;
      walks = subst (λ (rest : List ℕ). Walks all (gathered_with s.gathered (part_of size (drop place.at all))) (s.fuel - 1) rest behind) here walks;
      within = omega (arith, length-drop place.at all);
      small = omega arith;
    }

pub ended : (all : List ℕ) (place : Place) (size : ℕ) (s : Searches all place) → Finds s.gathered (drop place.at all) (found.Brings size true)
    → scans.Whole (place.at + 4 + size) ≡ scan_of all (prefix record_limits all)
ended all place size s is =
    let inside = s.within in
    let whole = is.0 in
    let at_end : place.at + 4 + size ≡ length all - length (behind_part size (drop place.at all)) =
    omega (arith, length-drop place.at all, length-drop 4 (drop place.at all), length-drop size (drop 4 (drop place.at all))) in
    ap (λ (n : ℕ). scans.Whole n) at_end ∙ ap (scan_of all) (sym (last size s.walks is))
