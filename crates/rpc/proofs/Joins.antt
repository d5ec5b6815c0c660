-- Moving the fragments of a record to its front.
use Rattle.std.proofs.Common.{◌≡◌, ℕ, ◌+◌, ◌-◌, ◌<◌, ◌≤◌, Bool, true, false, List, [], ◌++◌, length, take, drop, refl, ap, sym, subst, ◌∙◌, arith}
use Rattle.std.proofs.lemmas.List.{length-drop, length-take-le, drop-drop, append-nil, take-append-drop}
use Rattle.std.proofs.lemmas.List.Edits.{length-paste, take-paste, drop-paste}
use Rattle.std.specs.List.{copy_within}
use Rattle.model.specs.Wire.Record.{RecordTooBig, TooManyFragments, Gathered, nothing_gathered, Partial, Refused, Whole, prefix, prefix_from}
use Rattle.rpc.specs.declared.fragment.Place.{Place}
use Rattle.rpc.specs.declared.fragment.Fragment.{Fragment}
use Rattle.rpc.specs.declared.fragment.Fragment.TheVariants as fragments
use Rattle.rpc.specs.Assembly.{record_limits, Finds, IsWhole}
use Rattle.rpc.proofs.Walks.{Walks, waits, refuses, last, next, part_of, behind_part}

-- what is gathered is at the front, and the record goes on at the place
abbrev pub gathered_in : (bytes : List ℕ) → Place → Gathered
gathered_in bytes place = record { bytes = take place.size bytes; fragments = place.fragments }

pub record Joins (old bytes : List ℕ) (place : Place) : Type 0 where
  pub fuel : ℕ
  pub walks : Walks old (gathered_in bytes place) fuel (drop place.at bytes) place
  pub within : place.at ≤ length bytes
  pub behind : place.size ≤ place.at
  pub small : place.size ≤ 16384

pub begins : (bytes : List ℕ) (place : Place) → place.at ≡ 0 → place.size ≡ 0 → place.fragments ≡ 0 → Joins bytes bytes place
begins bytes place at size fragments =
    let none : length (take place.size bytes) ≡ place.size = length-take-le place.size bytes (omega arith) in
    record {
      fuel = length bytes;
      walks = record {
        on = ap (λ (n : ℕ). prefix_from record_limits (length bytes) (record { bytes = []; fragments = 0 }) (drop n bytes)) (sym at)
            ∙ ap (λ (n : ℕ). prefix_from record_limits (length bytes) (record { bytes = take n bytes; fragments = 0 }) (drop place.at bytes)) (sym size)
            ∙ ap (λ (n : ℕ). prefix_from record_limits (length bytes) (record { bytes = take place.size bytes; fragments = n }) (drop place.at bytes)) (sym fragments);
        enough = omega (arith, length-drop place.at bytes);
        size = none;
        fragments = refl;
      };
      within = omega arith;
      behind = omega arith;
      small = omega arith;
    }

-- a whole record has a whole fragment there
pub not_waits : (old bytes : List ℕ) (place : Place) → IsWhole old → (j : Joins old bytes place) → Finds (gathered_in bytes place) (drop place.at bytes) fragments.Waits → ⊥
not_waits old bytes place whole j is = let never : Partial ≡ Whole whole.0 [] = sym (waits j.walks is) ∙ whole.1 in cc

pub not_big : (old bytes : List ℕ) (place : Place) → IsWhole old → (j : Joins old bytes place) → Finds (gathered_in bytes place) (drop place.at bytes) fragments.TooBig → ⊥
not_big old bytes place whole j is = let never : Refused RecordTooBig ≡ Whole whole.0 [] = sym (refuses RecordTooBig j.walks is.0 is.1) ∙ whole.1 in cc

pub not_many : (old bytes : List ℕ) (place : Place) → IsWhole old → (j : Joins old bytes place) → Finds (gathered_in bytes place) (drop place.at bytes) fragments.TooMany → ⊥
not_many old bytes place whole j is = let never : Refused TooManyFragments ≡ Whole whole.0 [] = sym (refuses TooManyFragments j.walks is.0 is.1) ∙ whole.1 in cc

-- What moving a fragment leaves

moved : (bytes : List ℕ) (place : Place) (size : ℕ) → List ℕ
moved bytes place size = copy_within bytes (place.at + 4) (place.at + 4 + size) place.size

moved_prefix : (bytes : List ℕ) (place : Place) (size : ℕ) → place.size ≤ place.at → place.at + 4 + size ≤ length bytes
    → take (place.size + size) (moved bytes place size) ≡ take place.size bytes ++ part_of size (drop place.at bytes)
unfolding moved
moved_prefix bytes place size behind whole =
    let n = place.at + 4 + size - (place.at + 4) in
    let is : n ≡ size = omega arith in
    ap (λ (m : ℕ). take (place.size + m) (moved bytes place size)) (sym is)
    ∙ take-paste bytes place.size (drop (place.at + 4) bytes) n (omega arith) (omega (arith, length-drop (place.at + 4) bytes))
    ∙ ap (λ (m : ℕ). take place.size bytes ++ take m (drop (place.at + 4) bytes)) is
    ∙ ap (λ (rest : List ℕ). take place.size bytes ++ take size rest) (sym (drop-drop 4 place.at bytes))

moved_rest : (bytes : List ℕ) (place : Place) (size : ℕ) → place.size ≤ place.at → place.at + 4 + size ≤ length bytes
    → drop (place.at + 4 + size) (moved bytes place size) ≡ behind_part size (drop place.at bytes)
unfolding moved
moved_rest bytes place size behind whole =
    let n = place.at + 4 + size - (place.at + 4) in
    let is : n ≡ size = omega arith in
    let gap = place.at + 4 - place.size in
    let sum : place.at + 4 + size ≡ (place.size + n) + gap = omega arith in
    ap (λ (m : ℕ). drop m (moved bytes place size)) sum
    ∙ sym (drop-drop gap (place.size + n) (moved bytes place size))
    ∙ ap (drop gap) (drop-paste bytes place.size (drop (place.at + 4) bytes) n (omega arith) (omega (arith, length-drop (place.at + 4) bytes)))
    ∙ drop-drop gap (place.size + n) bytes
    ∙ ap (λ (m : ℕ). drop m bytes) (sym sum)
    ∙ sym (drop-drop size (place.at + 4) bytes)
    ∙ ap (drop size) (sym (drop-drop 4 place.at bytes))

moved_length : (bytes : List ℕ) (place : Place) (size : ℕ) → place.size ≤ place.at → place.at + 4 + size ≤ length bytes → length (moved bytes place size) ≡ length bytes
unfolding moved
moved_length bytes place size behind whole =
    length-paste bytes place.size (drop (place.at + 4) bytes) (place.at + 4 + size - (place.at + 4)) (omega arith) (omega (arith, length-drop (place.at + 4) bytes))

-- what the fragment at the place is, read from the bytes with nothing after them
abbrev pub Found : (bytes : List ℕ) → Place → Fragment → Type 0
Found bytes place found =
    (gathered : Gathered) → length gathered.bytes ≡ place.size → gathered.fragments ≡ place.fragments → Finds gathered (drop place.at (bytes ++ [])) found

seen : (old bytes : List ℕ) (place : Place) (found : Fragment) → (j : Joins old bytes place) → Found bytes place found → Finds (gathered_in bytes place) (drop place.at bytes) found
seen old bytes place found j is =
    subst (λ (all : List ℕ). Finds (gathered_in bytes place) (drop place.at all) found) (append-nil bytes) (is (gathered_in bytes place) j.walks.size refl)

pub record Room (bytes : List ℕ) (place : Place) (size : ℕ) : Type 0 where
  pub room : place.at + 4 + size ≤ length bytes
  pub small : place.size + size ≤ 16384
  pub few : place.fragments < 64
  pub behind : place.size + size ≤ place.at + 4 + size

pub room_for : (old bytes : List ℕ) (place : Place) (size : ℕ) (is_last : Bool) → (j : Joins old bytes place) → Found bytes place (fragments.Brings size is_last) → Room bytes place size
room_for old bytes place size is_last j is =
    let f = seen old bytes place (fragments.Brings size is_last) j is in
    let whole = f.0 in
    let small = f.1 in
    let few = f.2 in
    let before = j.behind in
    let inside = j.within in
    let size_is = j.walks.size in
    record { room = omega (arith, length-drop place.at bytes); small = omega arith; few = few; behind = omega arith }

pub not_other : (old bytes : List ℕ) (place : Place) (found : Fragment) → IsWhole old → Joins old bytes place → Found bytes place found
    → ((size : ℕ) (is_last : Bool) → found ≡ fragments.Brings size is_last → ⊥) → ⊥
not_other old bytes place fragments.Waits whole j is not = not_waits old bytes place whole j (seen old bytes place fragments.Waits j is)
not_other old bytes place fragments.TooBig whole j is not = not_big old bytes place whole j (seen old bytes place fragments.TooBig j is)
not_other old bytes place fragments.TooMany whole j is not = not_many old bytes place whole j (seen old bytes place fragments.TooMany j is)
not_other old bytes place (fragments.Brings size is_last) whole j is not = not size is_last refl

pub joins_on : (old bytes after : List ℕ) (place behind : Place) (size : ℕ) (is_last : Bool) → is_last ≡ false → (j : Joins old bytes place) → Found bytes place (fragments.Brings size is_last)
    → after ≡ copy_within bytes (place.at + 4) (place.at + 4 + size) place.size
    → behind.at ≡ place.at + 4 + size → behind.size ≡ place.size + size → behind.fragments ≡ place.fragments + 1 → Joins old after behind
unfolding moved
joins_on old bytes after place behind size is_last last_is j found after_is at_is size_is fragments_is =
    let is = subst (λ (b : Bool). Finds (gathered_in bytes place) (drop place.at bytes) (fragments.Brings size b)) last_is (seen old bytes place (fragments.Brings size is_last) j found) in
    let inside = j.within in
    let before = j.behind in
    let whole = is.0 in
    let few = is.1 in
    let room : place.at + 4 + size ≤ length bytes = omega (arith, length-drop place.at bytes) in
    let taken : length (take place.size bytes) ≡ place.size = length-take-le place.size bytes (omega arith) in
    let walks = next behind size j.walks is size_is fragments_is in
    let prefix_is : take place.size bytes ++ part_of size (drop place.at bytes) ≡ take behind.size after =
    sym (moved_prefix bytes place size before room) ∙ ap (λ (n : ℕ). take n (moved bytes place size)) (sym size_is) ∙ ap (take behind.size) (sym after_is) in
    let rest_is : behind_part size (drop place.at bytes) ≡ drop behind.at after =
    sym (moved_rest bytes place size before room) ∙ ap (λ (n : ℕ). drop n (moved bytes place size)) (sym at_is) ∙ ap (drop behind.at) (sym after_is) in
    let long : length after ≡ length bytes = ap length after_is ∙ moved_length bytes place size before room in
    let there = subst (λ (rest : List ℕ). Walks old (record { bytes = take place.size bytes ++ part_of size (drop place.at bytes); fragments = place.fragments + 1 }) (j.fuel - 1) rest behind) rest_is walks in
    let joined = subst (λ (all : List ℕ). Walks old (record { bytes = all; fragments = place.fragments + 1 }) (j.fuel - 1) (drop behind.at after) behind) prefix_is there in
    record {
      fuel = j.fuel - 1;
      walks = subst (λ (n : ℕ). Walks old (record { bytes = take behind.size after; fragments = n }) (j.fuel - 1) (drop behind.at after) behind) (sym fragments_is) joined;
      within = omega arith;
      behind = omega arith;
      small = omega arith;
    }

pub joined : (old bytes after : List ℕ) (place : Place) (size : ℕ) (is_last : Bool) → is_last ≡ true → IsWhole old → (j : Joins old bytes place) → Found bytes place (fragments.Brings size is_last)
    → after ≡ copy_within bytes (place.at + 4) (place.at + 4 + size) place.size → prefix record_limits old ≡ Whole (take (place.size + size) after) []
unfolding moved
joined old bytes after place size is_last last_is whole j found after_is =
    let is = subst (λ (b : Bool). Finds (gathered_in bytes place) (drop place.at bytes) (fragments.Brings size b)) last_is (seen old bytes place (fragments.Brings size is_last) j found) in
    let inside = j.within in
    let before = j.behind in
    let long = is.0 in
    let room : place.at + 4 + size ≤ length bytes = omega (arith, length-drop place.at bytes) in
    let e = last size j.walks is in
    let both : Whole (take place.size bytes ++ part_of size (drop place.at bytes)) (behind_part size (drop place.at bytes)) ≡ Whole whole.0 [] = sym e ∙ whole.1 in
    let none : behind_part size (drop place.at bytes) ≡ [] = cc in
    e ∙ ap (λ (rest : List ℕ). Whole (take place.size bytes ++ part_of size (drop place.at bytes)) rest) none
    ∙ ap (λ (all : List ℕ). Whole all []) (sym (moved_prefix bytes place size before room) ∙ ap (take (place.size + size)) (sym after_is))

-- a record of one fragment
pub one_fragment : (bytes : List ℕ) (size : ℕ) → IsWhole bytes → Finds nothing_gathered bytes (fragments.Brings size true) → prefix record_limits bytes ≡ Whole (drop 4 bytes) []
one_fragment bytes size whole is =
    let e = last size (begins bytes (record { at = 0; size = 0; fragments = 0 }) refl refl refl).walks is in
    let both : Whole (part_of size bytes) (behind_part size bytes) ≡ Whole whole.0 [] = sym e ∙ whole.1 in
    let none : behind_part size bytes ≡ [] = cc in
    let all : part_of size bytes ≡ drop 4 bytes =
    sym (append-nil (part_of size bytes)) ∙ ap (λ (rest : List ℕ). part_of size bytes ++ rest) (sym none) ∙ take-append-drop size (drop 4 bytes) in
    e ∙ ap (λ (rest : List ℕ). Whole (part_of size bytes) rest) none ∙ ap (λ (request : List ℕ). Whole request []) all
