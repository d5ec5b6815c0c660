-- The tests of a fragment's header, in their order.
use Rattle.std.proofs.Common.{◌≡◌, ℕ, ◌+◌, ◌%◌, ◌^◌, ◌<◌, ◌≤◌, Bool, List, length, take, drop, nat_lt, nat_le, ap, sym, ◌∙◌, arith, if◌then◌else◌}
use Rattle.std.proofs.lemmas.List.{length-drop}
use Rattle.std.proofs.lemmas.Bool.{lt-ltb, le-ltb, le-leb, lt-leb, cond-true, cond-false}
use Rattle.std.specs.Int.{w32, from_be_bytes}
use Rattle.model.specs.Wire.Record.{RecordTooBig, TooManyFragments, Gathered, Waits, Refuses, Brings, behind_header, fragment}
use Rattle.rpc.specs.Assembly.{record_limits}

pub waits : (gathered : Gathered) (bytes : List ℕ) → length bytes < 4 → fragment record_limits gathered bytes ≡ Waits
unfolding fragment
waits gathered bytes short = cond-true _ _ _ (lt-ltb (length bytes) 4 short)

there : (gathered : Gathered) (bytes : List ℕ) (header : ℕ) → 4 ≤ length bytes → header ≡ from_be_bytes w32 (take 4 bytes)
    → fragment record_limits gathered bytes ≡ behind_header record_limits gathered header (drop 4 bytes)
unfolding fragment
there gathered bytes header long is =
    cond-false _ _ _ (le-ltb (length bytes) 4 long) ∙ ap (λ (n : ℕ). behind_header record_limits gathered n (drop 4 bytes)) (sym is)

too_big : (gathered : Gathered) (header : ℕ) (bytes : List ℕ) → 16384 < length gathered.bytes + header % 2 ^ 31
    → behind_header record_limits gathered header bytes ≡ Refuses RecordTooBig
unfolding behind_header
too_big gathered header bytes above = cond-true _ _ _ (lt-ltb 16384 (length gathered.bytes + header % 2 ^ 31) above)

small_enough : (gathered : Gathered) (header : ℕ) (bytes : List ℕ) → length gathered.bytes + header % 2 ^ 31 ≤ 16384
    → behind_header record_limits gathered header bytes
    ≡ (if nat_le 64 gathered.fragments then Refuses TooManyFragments
    else (if nat_lt (length bytes) (header % 2 ^ 31) then Waits
    else Brings (take (header % 2 ^ 31) bytes) (nat_le (2 ^ 31) header) (drop (header % 2 ^ 31) bytes)))
unfolding behind_header
small_enough gathered header bytes small = cond-false _ _ _ (le-ltb 16384 (length gathered.bytes + header % 2 ^ 31) small)

pub refuses_size : (gathered : Gathered) (bytes : List ℕ) (header : ℕ) → 4 ≤ length bytes → header ≡ from_be_bytes w32 (take 4 bytes)
    → 16384 < length gathered.bytes + header % 2 ^ 31 → fragment record_limits gathered bytes ≡ Refuses RecordTooBig
refuses_size gathered bytes header long is above = there gathered bytes header long is ∙ too_big gathered header (drop 4 bytes) above

pub refuses_number : (gathered : Gathered) (bytes : List ℕ) (header : ℕ) → 4 ≤ length bytes → header ≡ from_be_bytes w32 (take 4 bytes)
    → length gathered.bytes + header % 2 ^ 31 ≤ 16384 → 64 ≤ gathered.fragments → fragment record_limits gathered bytes ≡ Refuses TooManyFragments
refuses_number gathered bytes header long is small many =
    there gathered bytes header long is ∙ small_enough gathered header (drop 4 bytes) small ∙ cond-true _ _ _ (le-leb 64 gathered.fragments many)

pub waits_body : (gathered : Gathered) (bytes : List ℕ) (header : ℕ) → 4 ≤ length bytes → header ≡ from_be_bytes w32 (take 4 bytes)
    → length gathered.bytes + header % 2 ^ 31 ≤ 16384 → gathered.fragments < 64 → length bytes < 4 + header % 2 ^ 31 → fragment record_limits gathered bytes ≡ Waits
waits_body gathered bytes header long is small few short =
    there gathered bytes header long is ∙ small_enough gathered header (drop 4 bytes) small
    ∙ cond-false _ _ _ (lt-leb 64 gathered.fragments few)
    ∙ cond-true _ _ _ (lt-ltb (length (drop 4 bytes)) (header % 2 ^ 31) (omega (arith, length-drop 4 bytes)))

pub brings : (gathered : Gathered) (bytes : List ℕ) (header : ℕ) (is_last : Bool) → 4 ≤ length bytes → header ≡ from_be_bytes w32 (take 4 bytes)
    → length gathered.bytes + header % 2 ^ 31 ≤ 16384 → gathered.fragments < 64 → 4 + header % 2 ^ 31 ≤ length bytes → is_last ≡ nat_le (2 ^ 31) header
    → fragment record_limits gathered bytes ≡ Brings (take (header % 2 ^ 31) (drop 4 bytes)) is_last (drop (header % 2 ^ 31) (drop 4 bytes))
brings gathered bytes header is_last long is small few whole last =
    there gathered bytes header long is ∙ small_enough gathered header (drop 4 bytes) small
    ∙ cond-false _ _ _ (lt-leb 64 gathered.fragments few)
    ∙ cond-false _ _ _ (le-ltb (length (drop 4 bytes)) (header % 2 ^ 31) (omega (arith, length-drop 4 bytes)))
    ∙ ap (λ (b : Bool). Brings (take (header % 2 ^ 31) (drop 4 bytes)) b (drop (header % 2 ^ 31) (drop 4 bytes))) (sym last)
