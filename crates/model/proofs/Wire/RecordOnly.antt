-- Only what was sent as a record is read as one.
use Rattle.std.proofs.Common.{◌≡◌, ℕ, zero, suc, ◌+◌, ◌%◌, ◌^◌, ◌<◌, ◌≤◌, Bool, true, false, cond, nat_lt, nat_le, List, [], ◌∷◌, ◌++◌, length, take, drop, refl, sym, ap, ◌∙◌, subst, arith, append_assoc, length-append, length-take, take-append-drop, drop_at, ltb-false, leb-true, leb-false}
use Rattle.std.specs.Int.{w32, to_be_bytes, from_be_bytes}
use Rattle.xdr.specs.Laws.{IsBytes}
use Rattle.xdr.proofs.Numbers.{wide32}
use Rattle.xdr.proofs.Steps.{IsBytes-take, IsBytes-drop}
use Rattle.model.specs.Wire.Record.{RecordLimits, RecordFault, RecordTooBig, TooManyFragments, Gathered, nothing_gathered, Fragment, Waits, Refuses, Brings, behind_header, fragment, Prefix, Partial, Whole, gathered_with, behind_fragment, prefix_from, prefix, top_bit, fragment_text, record_text, joined, OnlySent}

-- A test that let a fragment through

let_through : (b : Bool) (x y : Fragment) (bytes rest : List ℕ) (is_last : Bool) → (x ≡ Brings bytes is_last rest → ⊥) → cond b x y ≡ Brings bytes is_last rest
    → (b ≡ false) × (y ≡ Brings bytes is_last rest)
let_through true x y bytes rest is_last never e = absurd (never e)
let_through false x y bytes rest is_last never e = (refl, e)

waits_not : (bytes rest : List ℕ) (is_last : Bool) → Waits ≡ Brings bytes is_last rest → ⊥
waits_not bytes rest is_last e = cc

refuses_not : (fault : RecordFault) (bytes rest : List ℕ) (is_last : Bool) → Refuses fault ≡ Brings bytes is_last rest → ⊥
refuses_not fault bytes rest is_last e = cc

record Brought (limits : RecordLimits) (gathered : Gathered) (bytes part : List ℕ) (is_last : Bool) (rest : List ℕ) : Type 0 where
  text : bytes ≡ fragment_text is_last part ++ rest
  size : length gathered.bytes + length part ≤ limits.bytes
  number : gathered.fragments < limits.fragments

-- the header is its top bit and its size
header_is : (header : ℕ) (b : Bool) → header < 2 ^ 32 → nat_le (2 ^ 31) header ≡ b → top_bit b + header % 2 ^ 31 ≡ header
header_is header true small e = let above : 2 ^ 31 ≤ header = leb-true (2 ^ 31) header e in omega arith
header_is header false small e = let below : header < 2 ^ 31 = leb-false (2 ^ 31) header e in omega arith

brought_by : (limits : RecordLimits) (gathered : Gathered) (bytes part : List ℕ) (is_last : Bool) (rest : List ℕ) → IsBytes bytes → nat_lt (length bytes) 4 ≡ false
    → behind_header limits gathered (from_be_bytes w32 (take 4 bytes)) (drop 4 bytes) ≡ Brings part is_last rest → Brought limits gathered bytes part is_last rest
unfolding behind_header fragment_text
brought_by limits gathered bytes part is_last rest are long e =
    let header = from_be_bytes w32 (take 4 bytes) in
    let size = header % 2 ^ 31 in
    let one = let_through (nat_lt limits.bytes (length gathered.bytes + size)) (Refuses RecordTooBig) _ part rest is_last (refuses_not RecordTooBig part rest is_last) e in
    let two = let_through (nat_le limits.fragments gathered.fragments) (Refuses TooManyFragments) _ part rest is_last (refuses_not TooManyFragments part rest is_last) one.1 in
    let three = let_through (nat_lt (length (drop 4 bytes)) size) Waits _ part rest is_last (waits_not part rest is_last) two.1 in
    let brings : Brings (take size (drop 4 bytes)) (nat_le (2 ^ 31) header) (drop size (drop 4 bytes)) ≡ Brings part is_last rest = three.1 in
    let part_is : take size (drop 4 bytes) ≡ part = cc in
    let last_is : nat_le (2 ^ 31) header ≡ is_last = cc in
    let rest_is : drop size (drop 4 bytes) ≡ rest = cc in
    let enough : size ≤ length (drop 4 bytes) = ltb-false (length (drop 4 bytes)) size three.0 in
    let four : 4 ≤ length bytes = ltb-false (length bytes) 4 long in
    let part_size : length part ≡ size = ap length (sym part_is) ∙ length_of_take size (drop 4 bytes) enough in
    let prefix_bytes = IsBytes-take 4 bytes are in
    let small : header < 2 ^ 32 = wide32.below (take 4 bytes) prefix_bytes in
    let encoded : to_be_bytes w32 header ≡ take 4 bytes = wide32.back (take 4 bytes) (length_of_take 4 bytes four) prefix_bytes in
    let number : top_bit is_last + length part ≡ header = ap (λ (n : ℕ). top_bit is_last + n) part_size ∙ header_is header is_last small last_is in
    record {
      text = sym (take-append-drop 4 bytes)
          ∙ ap (λ (all : List ℕ). all ++ drop 4 bytes) (sym encoded ∙ ap (to_be_bytes w32) (sym number))
          ∙ ap (λ (all : List ℕ). to_be_bytes w32 (top_bit is_last + length part) ++ all) (sym (take-append-drop size (drop 4 bytes)))
          ∙ ap (λ (all : List ℕ). to_be_bytes w32 (top_bit is_last + length part) ++ (all ++ drop size (drop 4 bytes))) part_is
          ∙ ap (λ (all : List ℕ). to_be_bytes w32 (top_bit is_last + length part) ++ (part ++ all)) rest_is
          ∙ sym (append_assoc (to_be_bytes w32 (top_bit is_last + length part)) part rest);
      size = let fits = ltb-false limits.bytes (length gathered.bytes + size) one.0 in omega arith;
      number = leb-false limits.fragments gathered.fragments two.0;
    }
  where
    length_of_take : (n : ℕ) (all : List ℕ) → n ≤ length all → length (take n all) ≡ n
    length_of_take n all h = omega (arith, length-take n all)

brought : (limits : RecordLimits) (gathered : Gathered) (bytes part : List ℕ) (is_last : Bool) (rest : List ℕ) → IsBytes bytes
    → fragment limits gathered bytes ≡ Brings part is_last rest → Brought limits gathered bytes part is_last rest
unfolding fragment
brought limits gathered bytes part is_last rest are e =
    let long = let_through (nat_lt (length bytes) 4) Waits _ part rest is_last (waits_not part rest is_last) e in
    brought_by limits gathered bytes part is_last rest are long.0 long.1

-- the bytes after a fragment are bytes
behind_bytes : (prefix rest bytes : List ℕ) → bytes ≡ prefix ++ rest → IsBytes bytes → IsBytes rest
behind_bytes prefix rest bytes e are =
    subst IsBytes (ap (drop (length prefix)) e ∙ drop_at prefix rest (length prefix) refl) (IsBytes-drop (length prefix) bytes are)

record SentFrom (limits : RecordLimits) (gathered : Gathered) (bytes one rest : List ℕ) : Type 0 where
  earlier : List (List ℕ)
  last : List ℕ
  sent : bytes ≡ record_text earlier last ++ rest
  whole : one ≡ gathered.bytes ++ joined earlier last
  size : length one ≤ limits.bytes
  number : gathered.fragments + length earlier < limits.fragments

partial_not : {A : Type 0} (one rest : List ℕ) → Partial ≡ Whole one rest → A
partial_not one rest e = let never : ⊥ = cc in absurd never

by_fragment : (limits : RecordLimits) (further : Gathered → List ℕ → Prefix) (gathered : Gathered) (bytes one rest : List ℕ) → IsBytes bytes
    → ((next : Gathered) (more : List ℕ) → IsBytes more → further next more ≡ Whole one rest → SentFrom limits next more one rest)
    → (this : Fragment) → fragment limits gathered bytes ≡ this → behind_fragment further gathered this ≡ Whole one rest → SentFrom limits gathered bytes one rest
by_fragment limits further gathered bytes one rest are step Waits is e = partial_not one rest e
by_fragment limits further gathered bytes one rest are step (Refuses fault) is e = let never : ⊥ = cc in absurd never
by_fragment limits further gathered bytes one rest are step (Brings part true more) is e =
    let from = brought limits gathered bytes part true more are is in
    let one_is : gathered.bytes ++ part ≡ one = cc in
    let rest_is : more ≡ rest = cc in
    let fits = from.size in
    let some = from.number in
    record {
      earlier = [];
      last = part;
      sent = from.text ∙ ap (λ (all : List ℕ). fragment_text true part ++ all) rest_is;
      whole = sym one_is;
      size = omega (arith, length-append gathered.bytes part, ap length one_is);
      number = omega arith;
    }
by_fragment limits further gathered bytes one rest are step (Brings part false more) is e =
    let from = brought limits gathered bytes part false more are is in
    let behind = step (gathered_with gathered part) more (behind_bytes (fragment_text false part) more bytes from.text are) e in
    let some = behind.number in
    record {
      earlier = part ∷ behind.earlier;
      last = behind.last;
      sent = from.text ∙ ap (λ (all : List ℕ). fragment_text false part ++ all) behind.sent
          ∙ sym (append_assoc (fragment_text false part) (record_text behind.earlier behind.last) rest);
      whole = behind.whole ∙ append_assoc gathered.bytes part (joined behind.earlier behind.last);
      size = behind.size;
      number = omega arith;
    }

sent_from : (limits : RecordLimits) (n : ℕ) (gathered : Gathered) (bytes one rest : List ℕ) → IsBytes bytes → prefix_from limits n gathered bytes ≡ Whole one rest
    → SentFrom limits gathered bytes one rest
unfolding prefix_from
sent_from limits zero gathered bytes one rest are e = partial_not one rest e
sent_from limits (suc n) gathered bytes one rest are e =
    by_fragment limits (prefix_from limits n) gathered bytes one rest are
    (λ next more are_more e_more. sent_from limits n next more one rest are_more e_more)
    (fragment limits gathered bytes) refl e

pub only_sent : OnlySent
only_sent limits bytes one rest are e =
    let from = sent_from limits (length bytes) nothing_gathered bytes one rest are e in
    let some = from.number in
    record { earlier = from.earlier; last = from.last; sent = from.sent; whole = from.whole; size = from.size; number = omega arith }
