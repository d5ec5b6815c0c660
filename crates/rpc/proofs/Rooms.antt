-- How many bytes may have come of one record.
use Rattle.std.proofs.Common.{◌≡◌, ℕ, zero, suc, ◌+◌, ◌*◌, ◌-◌, ◌%◌, ◌^◌, ◌<◌, ◌≤◌, Bool, true, false, cond, nat_lt, nat_le, List, ◌++◌, length, take, drop, refl, subst, arith, length-append, length-take, ltb-true, ltb-false, leb-false}
use Rattle.std.proofs.lemmas.List.{length-drop}
use Rattle.std.specs.Int.{w32, from_be_bytes}
use Rattle.model.specs.Wire.Record.{Gathered, nothing_gathered, Fragment, Waits, Refuses, Brings, behind_header, fragment, Prefix, Partial, Refused, Whole, gathered_with, prefix_from, prefix, behind_fragment}
use Rattle.rpc.specs.Assembly.{record_limits, max_received}

by_test : (P : Fragment → Type 0) (b : Bool) (x y : Fragment) → (b ≡ true → P x) → (b ≡ false → P y) → P (cond b x y)
by_test P true x y holds fails = holds refl
by_test P false x y holds fails = fails refl

-- what has come of the record, headers included
abbrev came : Gathered → List ℕ → ℕ
came gathered bytes = length gathered.bytes + 4 * gathered.fragments + length bytes

record Bounded (gathered : Gathered) : Type 0 where
  size : length gathered.bytes ≤ 16384
  number : gathered.fragments ≤ 64

abbrev Measured : Gathered → List ℕ → Fragment → Type 0
Measured gathered bytes Waits = came gathered bytes < max_received
Measured gathered bytes (Refuses fault) = Unit {0}
Measured gathered bytes (Brings part is_last rest) = (length bytes ≡ 4 + length part + length rest) × Bounded (gathered_with gathered part)

measured_behind : (gathered : Gathered) (header : ℕ) (bytes : List ℕ) → 4 ≤ length bytes → Measured gathered bytes (behind_header record_limits gathered header (drop 4 bytes))
unfolding behind_header
measured_behind gathered header bytes long =
    let size = header % 2 ^ 31 in
    let body = length-drop 4 bytes in
    by_test (Measured gathered bytes) (nat_lt 16384 (length gathered.bytes + size)) _ _ (λ big. _) (λ small.
    let fits : length gathered.bytes + size ≤ 16384 = ltb-false 16384 (length gathered.bytes + size) small in
    by_test (Measured gathered bytes) (nat_le 64 gathered.fragments) _ _ (λ many. _) (λ few.
    let below : gathered.fragments < 64 = leb-false 64 gathered.fragments few in
    by_test (Measured gathered bytes) (nat_lt (length (drop 4 bytes)) size) _ _
    (λ short. let less : length (drop 4 bytes) < size = ltb-true (length (drop 4 bytes)) size short in omega arith)
    (λ whole.
    let enough : size ≤ length (drop 4 bytes) = ltb-false (length (drop 4 bytes)) size whole in
    let part = length-take size (drop 4 bytes) in
    let rest = length-drop size (drop 4 bytes) in
    let both = length-append gathered.bytes (take size (drop 4 bytes)) in
    (omega arith, record { size = omega arith; number = omega arith }))))

measured : (gathered : Gathered) (bytes : List ℕ) → Bounded gathered → Measured gathered bytes (fragment record_limits gathered bytes)
unfolding fragment
measured gathered bytes b =
    by_test (Measured gathered bytes) (nat_lt (length bytes) 4) _ _
    (λ short. let less : length bytes < 4 = ltb-true (length bytes) 4 short in let size = b.size in let number = b.number in omega arith)
    (λ long. measured_behind gathered (from_be_bytes w32 (take 4 bytes)) bytes (ltb-false (length bytes) 4 long))

-- of a record that is not whole, and of a whole one
abbrev Fits : (came : ℕ) → Prefix → Type 0
Fits came Partial = came < max_received
Fits came (Refused fault) = Unit {0}
Fits came (Whole request rest) = came ≤ 16640 + length rest

fits_behind : (n : ℕ) (gathered : Gathered) (bytes : List ℕ) (found : Fragment) → Measured gathered bytes found → length bytes ≤ suc n
    → ((further : Gathered) (rest : List ℕ) → Bounded further → length rest ≤ n → Fits (came further rest) (prefix_from record_limits n further rest))
    → Fits (came gathered bytes) (behind_fragment (prefix_from record_limits n) gathered found)
fits_behind n gathered bytes Waits is enough step = is
fits_behind n gathered bytes (Refuses fault) is enough step = _
fits_behind n gathered bytes (Brings part true rest) is enough step =
    let size = is.1.size in
    let number = is.1.number in
    let parts = is.0 in
    let both = length-append gathered.bytes part in
    omega arith
fits_behind n gathered bytes (Brings part false rest) is enough step =
    let parts = is.0 in
    let both = length-append gathered.bytes part in
    let same : came (gathered_with gathered part) rest ≡ came gathered bytes = omega arith in
    subst (λ (size : ℕ). Fits size (prefix_from record_limits n (gathered_with gathered part) rest)) same (step (gathered_with gathered part) rest is.1 (omega arith))

fits_from : (n : ℕ) (gathered : Gathered) (bytes : List ℕ) → Bounded gathered → length bytes ≤ n → Fits (came gathered bytes) (prefix_from record_limits n gathered bytes)
unfolding prefix_from
fits_from zero gathered bytes b enough = let size = b.size in let number = b.number in omega arith
fits_from (suc n) gathered bytes b enough =
    fits_behind n gathered bytes (fragment record_limits gathered bytes) (measured gathered bytes b) enough (λ further rest c less. fits_from n further rest c less)

fits : (bytes : List ℕ) → Fits (length bytes) (prefix record_limits bytes)
fits bytes =
    let same : came nothing_gathered bytes ≡ length bytes = omega arith in
    subst (λ (size : ℕ). Fits size (prefix record_limits bytes)) same
    (fits_from (length bytes) nothing_gathered bytes (record { size = omega arith; number = omega arith }) (omega arith))

pub partial_fits : (bytes : List ℕ) → prefix record_limits bytes ≡ Partial → length bytes < max_received
partial_fits bytes is = subst (Fits (length bytes)) is (fits bytes)

pub whole_fits : (bytes request rest : List ℕ) → prefix record_limits bytes ≡ Whole request rest → length bytes ≤ 16640 + length rest
whole_fits bytes request rest is = subst (Fits (length bytes)) is (fits bytes)

-- there is room for what is taken of a piece
pub room_for_piece : (old piece : List ℕ) (spare : ℕ) → prefix record_limits (old ++ piece) ≡ Partial → max_received ≤ length old + spare → length piece ≤ spare
room_for_piece old piece spare is room =
    let fits = partial_fits (old ++ piece) is in
    let both = length-append old piece in
    omega arith

pub room_for_prefix : (old piece rest request : List ℕ) (count spare : ℕ) → prefix record_limits (old ++ piece) ≡ Whole request rest → max_received ≤ length old + spare
    → count ≡ length piece - length rest → length (take count piece) ≤ spare
room_for_prefix old piece rest request count spare is room count_is =
    let fits = whole_fits (old ++ piece) request rest is in
    let both = length-append old piece in
    let prefix_size = length-take count piece in
    omega arith
