-- Record marking does not depend on how the stream was cut, and reads what was sent.
use Rattle.std.proofs.Common.{◌≡◌, ℕ, zero, suc, ◌+◌, ◌%◌, ◌^◌, ◌<◌, ◌≤◌, Bool, true, false, cond, nat_lt, nat_le, List, [], ◌∷◌, ◌++◌, length, take, drop, fold, Option, None, Some, refl, sym, ap, ◌∙◌, subst, arith, append_assoc, append-nil, length-append, length-drop, ltb-false, lt-ltb, le-ltb, le-leb, take_at, drop_at}
use borrow.Author.Tests.{lt-leb}
use Rattle.std.proofs.lemmas.List.{take-append-le, drop-append-le}
use Rattle.std.proofs.lemmas.Nat.{from_be_bytes-to_be_bytes_4}
use Rattle.std.specs.List.{flat_map}
use Rattle.std.specs.Int.{w32, from_be_bytes}
use Rattle.model.specs.Wire.Record.{RecordLimits, RecordFault, Gathered, nothing_gathered, Fragment, Waits, Refuses, Brings, behind_header, fragment, Prefix, Partial, Refused, Whole, gathered_with, behind_fragment, prefix_from, prefix, Stream, behind_prefix, records_from, records, framed, top_bit, fragment_text, record_text, joined, EveryFragmenting, fed_by, fed, EveryCut, SentIsRead}

-- What more bytes after it make of a fragment

abbrev Extends : List ℕ → Fragment → Fragment → Type 0
Extends more Waits after = Unit {0}
Extends more (Refuses fault) after = after ≡ Refuses fault
Extends more (Brings bytes is_last rest) after = after ≡ Brings bytes is_last (rest ++ more)

same_test : (more : List ℕ) (b : Bool) (x x' y y' : Fragment) → Extends more x x' → Extends more y y' → Extends more (cond b x y) (cond b x' y')
same_test more true x x' y y' first second = first
same_test more false x x' y y' first second = second

long_enough : (size : ℕ) (bytes more : List ℕ) → nat_lt (length bytes) size ≡ false → nat_lt (length (bytes ++ more)) size ≡ false
long_enough size bytes more e =
    let here : size ≤ length bytes = ltb-false (length bytes) size e in
    le-ltb (length (bytes ++ more)) size (omega (arith, length-append bytes more))

body_extends : (size : ℕ) (is_last : Bool) (bytes more : List ℕ) (b : Bool) → nat_lt (length bytes) size ≡ b
    → Extends more (cond b Waits (Brings (take size bytes) is_last (drop size bytes)))
    (cond (nat_lt (length (bytes ++ more)) size) Waits (Brings (take size (bytes ++ more)) is_last (drop size (bytes ++ more))))
body_extends size is_last bytes more true e = tt
body_extends size is_last bytes more false e =
    let here : size ≤ length bytes = ltb-false (length bytes) size e in
    let long = long_enough size bytes more e in
    ap (λ (b : Bool). cond b Waits (Brings (take size (bytes ++ more)) is_last (drop size (bytes ++ more)))) long
    ∙ ap (λ (prefix : List ℕ). Brings prefix is_last (drop size (bytes ++ more))) (take-append-le size bytes more here)
    ∙ ap (λ (rest : List ℕ). Brings (take size bytes) is_last rest) (drop-append-le size bytes more here)

header_extends : (limits : RecordLimits) (gathered : Gathered) (header : ℕ) (bytes more : List ℕ)
    → Extends more (behind_header limits gathered header bytes) (behind_header limits gathered header (bytes ++ more))
unfolding behind_header
header_extends limits gathered header bytes more =
    same_test more (nat_lt limits.bytes (length gathered.bytes + header % 2 ^ 31)) _ _ _ _ refl
    (same_test more (nat_le limits.fragments gathered.fragments) _ _ _ _ refl
    (body_extends (header % 2 ^ 31) (nat_le (2 ^ 31) header) bytes more _ refl))

fragment_by : (limits : RecordLimits) (gathered : Gathered) (bytes more : List ℕ) (b : Bool) → nat_lt (length bytes) 4 ≡ b
    → Extends more (cond b Waits (behind_header limits gathered (from_be_bytes w32 (take 4 bytes)) (drop 4 bytes))) (fragment limits gathered (bytes ++ more))
unfolding fragment
fragment_by limits gathered bytes more true e = tt
fragment_by limits gathered bytes more false e =
    let here : 4 ≤ length bytes = ltb-false (length bytes) 4 e in
    let header = from_be_bytes w32 (take 4 bytes) in
    let is : fragment limits gathered (bytes ++ more) ≡ behind_header limits gathered header (drop 4 bytes ++ more) =
    ap (λ (b : Bool). cond b Waits (behind_header limits gathered (from_be_bytes w32 (take 4 (bytes ++ more))) (drop 4 (bytes ++ more)))) (long_enough 4 bytes more e)
    ∙ ap (λ (prefix : List ℕ). behind_header limits gathered (from_be_bytes w32 prefix) (drop 4 (bytes ++ more))) (take-append-le 4 bytes more here)
    ∙ ap (λ (rest : List ℕ). behind_header limits gathered header rest) (drop-append-le 4 bytes more here) in
    subst (λ (after : Fragment). Extends more (behind_header limits gathered header (drop 4 bytes)) after) (sym is)
    (header_extends limits gathered header (drop 4 bytes) more)

fragment_extends : (limits : RecordLimits) (gathered : Gathered) (bytes more : List ℕ) → Extends more (fragment limits gathered bytes) (fragment limits gathered (bytes ++ more))
unfolding fragment
fragment_extends limits gathered bytes more = fragment_by limits gathered bytes more _ refl

-- A fragment takes its header's bytes

abbrev Shrinks : ℕ → Fragment → Type 0
Shrinks most Waits = Unit {0}
Shrinks most (Refuses fault) = Unit {0}
Shrinks most (Brings bytes is_last rest) = length rest + 4 ≤ most

either_shrinks : (most : ℕ) (b : Bool) (x y : Fragment) → (b ≡ true → Shrinks most x) → (b ≡ false → Shrinks most y) → Shrinks most (cond b x y)
either_shrinks most true x y first second = first refl
either_shrinks most false x y first second = second refl

header_shrinks : (limits : RecordLimits) (gathered : Gathered) (header : ℕ) (bytes : List ℕ) → Shrinks (length bytes + 4) (behind_header limits gathered header bytes)
unfolding behind_header
header_shrinks limits gathered header bytes =
    either_shrinks (length bytes + 4) (nat_lt limits.bytes (length gathered.bytes + header % 2 ^ 31)) _ _ (λ e. tt)
    (λ e. either_shrinks (length bytes + 4) (nat_le limits.fragments gathered.fragments) _ _ (λ e. tt)
    (λ e. either_shrinks (length bytes + 4) (nat_lt (length bytes) (header % 2 ^ 31)) _ _ (λ e. tt)
    (λ e. omega (arith, length-drop (header % 2 ^ 31) bytes))))

fragment_shrinks : (limits : RecordLimits) (gathered : Gathered) (bytes : List ℕ) → Shrinks (length bytes) (fragment limits gathered bytes)
unfolding fragment
fragment_shrinks limits gathered bytes =
    either_shrinks (length bytes) (nat_lt (length bytes) 4) _ _ (λ e. tt)
    (λ e.
    let here : 4 ≤ length bytes = ltb-false (length bytes) 4 e in
    let most : length (drop 4 bytes) + 4 ≡ length bytes = omega (arith, length-drop 4 bytes) in
    subst (λ (n : ℕ). Shrinks n (behind_header limits gathered (from_be_bytes w32 (take 4 bytes)) (drop 4 bytes))) most
    (header_shrinks limits gathered (from_be_bytes w32 (take 4 bytes)) (drop 4 bytes)))

-- What more bytes after it make of a record

abbrev pub Follows : List ℕ → Prefix → Prefix → Type 0
Follows more Partial after = Unit {0}
Follows more (Refused fault) after = after ≡ Refused fault
Follows more (Whole bytes rest) after = after ≡ Whole bytes (rest ++ more)

behind_follows : (more : List ℕ) (further further' : Gathered → List ℕ → Prefix) (gathered : Gathered) (most : ℕ)
    → ((next : Gathered) (rest : List ℕ) → length rest + 4 ≤ most → Follows more (further next rest) (further' next (rest ++ more)))
    → (this after : Fragment) → Extends more this after → Shrinks most this
    → Follows more (behind_fragment further gathered this) (behind_fragment further' gathered after)
behind_follows more further further' gathered most step Waits after extends shrinks = tt
behind_follows more further further' gathered most step (Refuses fault) after extends shrinks = ap (behind_fragment further' gathered) extends
behind_follows more further further' gathered most step (Brings bytes true rest) after extends shrinks = ap (behind_fragment further' gathered) extends
behind_follows more further further' gathered most step (Brings bytes false rest) after extends shrinks =
    subst (λ (prefix : Fragment). Follows more (further (gathered_with gathered bytes) rest) (behind_fragment further' gathered prefix)) (sym extends)
    (step (gathered_with gathered bytes) rest shrinks)

waits_at_nothing : (limits : RecordLimits) (gathered : Gathered) (bytes : List ℕ) → length bytes ≤ 0 → fragment limits gathered bytes ≡ Waits
unfolding fragment
waits_at_nothing limits gathered bytes h =
    ap (λ (b : Bool). cond b Waits (behind_header limits gathered (from_be_bytes w32 (take 4 bytes)) (drop 4 bytes)))
    (lt-ltb (length bytes) 4 (omega arith))

pub prefix_follows : (limits : RecordLimits) (n m : ℕ) (gathered : Gathered) (bytes more : List ℕ) → length (bytes ++ more) ≤ m
    → Follows more (prefix_from limits n gathered bytes) (prefix_from limits m gathered (bytes ++ more))
unfolding prefix_from
prefix_follows limits zero m gathered bytes more h = tt
prefix_follows limits (suc n) zero gathered bytes more h =
    let none : length bytes ≤ 0 = omega (arith, length-append bytes more) in
    subst (λ (this : Fragment). Follows more (behind_fragment (prefix_from limits n) gathered this) Partial) (sym (waits_at_nothing limits gathered bytes none)) tt
prefix_follows limits (suc n) (suc m) gathered bytes more h =
    behind_follows more (prefix_from limits n) (prefix_from limits m) gathered (length bytes)
    (λ next rest less. prefix_follows limits n m next rest more (omega (arith, length-append rest more, length-append bytes more)))
    (fragment limits gathered bytes) (fragment limits gathered (bytes ++ more))
    (fragment_extends limits gathered bytes more) (fragment_shrinks limits gathered bytes)

-- A record takes bytes

abbrev Leaves : ℕ → Prefix → Type 0
Leaves most Partial = Unit {0}
Leaves most (Refused fault) = Unit {0}
Leaves most (Whole bytes rest) = length rest + 4 ≤ most

behind_leaves : (further : Gathered → List ℕ → Prefix) (gathered : Gathered) (most : ℕ) → ((next : Gathered) (rest : List ℕ) → Leaves (length rest) (further next rest))
    → (this : Fragment) → Shrinks most this → Leaves most (behind_fragment further gathered this)
behind_leaves further gathered most step Waits shrinks = tt
behind_leaves further gathered most step (Refuses fault) shrinks = tt
behind_leaves further gathered most step (Brings bytes true rest) shrinks = shrinks
behind_leaves further gathered most step (Brings bytes false rest) shrinks =
    leaves_more (length rest) most (further (gathered_with gathered bytes) rest) (omega arith) (step (gathered_with gathered bytes) rest)
  where
    leaves_more : (less most : ℕ) (prefix : Prefix) → less ≤ most → Leaves less prefix → Leaves most prefix
    leaves_more less most Partial h leaves = tt
    leaves_more less most (Refused fault) h leaves = tt
    leaves_more less most (Whole bytes rest) h leaves = omega arith

prefix_leaves : (limits : RecordLimits) (n : ℕ) (gathered : Gathered) (bytes : List ℕ) → Leaves (length bytes) (prefix_from limits n gathered bytes)
unfolding prefix_from
prefix_leaves limits zero gathered bytes = tt
prefix_leaves limits (suc n) gathered bytes =
    behind_leaves (prefix_from limits n) gathered (length bytes) (λ next rest. prefix_leaves limits n next rest) (fragment limits gathered bytes) (fragment_shrinks limits gathered bytes)

-- The records of a stream, whatever the fuel

behind_same : (further further' : List ℕ → Stream) (bytes : List ℕ) (most : ℕ) → ((rest : List ℕ) → length rest + 4 ≤ most → further rest ≡ further' rest)
    → (this : Prefix) → Leaves most this → behind_prefix further bytes this ≡ behind_prefix further' bytes this
behind_same further further' bytes most step Partial leaves = refl
behind_same further further' bytes most step (Refused fault) leaves = refl
behind_same further further' bytes most step (Whole one rest) leaves =
    ap (λ (stream : Stream). record stream { records = one ∷ stream.records }) (step rest leaves)

pub partial_at_nothing : (limits : RecordLimits) (n : ℕ) (gathered : Gathered) (bytes : List ℕ) → length bytes ≤ 0 → prefix_from limits n gathered bytes ≡ Partial
unfolding prefix_from
partial_at_nothing limits zero gathered bytes h = refl
partial_at_nothing limits (suc n) gathered bytes h = ap (behind_fragment (prefix_from limits n) gathered) (waits_at_nothing limits gathered bytes h)

same_records : (limits : RecordLimits) (n m : ℕ) (bytes : List ℕ) → length bytes ≤ n → length bytes ≤ m → records_from limits n bytes ≡ records_from limits m bytes
unfolding records_from
same_records limits zero zero bytes h k = refl
same_records limits zero (suc m) bytes h k = sym (ap (behind_prefix (records_from limits m) bytes) (partial_at_nothing limits (length bytes) nothing_gathered bytes h))
same_records limits (suc n) zero bytes h k = ap (behind_prefix (records_from limits n) bytes) (partial_at_nothing limits (length bytes) nothing_gathered bytes k)
same_records limits (suc n) (suc m) bytes h k =
    behind_same (records_from limits n) (records_from limits m) bytes (length bytes)
    (λ rest less. same_records limits n m rest (omega arith) (omega arith))
    (prefix limits bytes) (prefix_leaves limits (length bytes) nothing_gathered bytes)

-- from the front on
pub records_by : (limits : RecordLimits) (n : ℕ) (bytes : List ℕ) → length bytes ≤ n → records_from limits n bytes ≡ behind_prefix (records limits) bytes (prefix limits bytes)
unfolding records_from
records_by limits zero bytes h = sym (ap (behind_prefix (records limits) bytes) (partial_at_nothing limits (length bytes) nothing_gathered bytes h))
records_by limits (suc n) bytes h =
    behind_same (records_from limits n) (records limits) bytes (length bytes)
    (λ rest less. same_records limits n (length rest) rest (omega arith) (omega arith))
    (prefix limits bytes) (prefix_leaves limits (length bytes) nothing_gathered bytes)

-- A piece that follows

fed_one : (limits : RecordLimits) (one piece : List ℕ) (stream : Stream) (fault : Option RecordFault)
    → fed_by limits piece (record stream { records = one ∷ stream.records }) fault ≡ record (fed_by limits piece stream fault) { records = one ∷ (fed_by limits piece stream fault).records }
fed_one limits one piece stream (Some fault) = refl
fed_one limits one piece stream None = refl

behind_fed : (limits : RecordLimits) (bytes piece : List ℕ) (most : ℕ) → ((rest : List ℕ) → length rest + 4 ≤ most → records limits (rest ++ piece) ≡ fed limits (records limits rest) piece)
    → (this after : Prefix) → prefix limits (bytes ++ piece) ≡ after → Follows piece this after → Leaves most this
    → behind_prefix (records limits) (bytes ++ piece) after ≡ fed limits (behind_prefix (records limits) bytes this) piece
behind_fed limits bytes piece most step Partial after is follows leaves =
    ap (behind_prefix (records limits) (bytes ++ piece)) (sym is) ∙ sym (records_by limits (length (bytes ++ piece)) (bytes ++ piece) (omega arith))
behind_fed limits bytes piece most step (Refused fault) after is follows leaves = ap (behind_prefix (records limits) (bytes ++ piece)) follows
behind_fed limits bytes piece most step (Whole one rest) after is follows leaves =
    ap (behind_prefix (records limits) (bytes ++ piece)) follows
    ∙ ap (λ (stream : Stream). record stream { records = one ∷ stream.records }) (step rest leaves)
    ∙ sym (fed_one limits one piece (records limits rest) (records limits rest).fault)

fed_with : (limits : RecordLimits) (bytes piece : List ℕ) → ((rest : List ℕ) → length rest + 4 ≤ length bytes → records limits (rest ++ piece) ≡ fed limits (records limits rest) piece)
    → records limits (bytes ++ piece) ≡ fed limits (records limits bytes) piece
fed_with limits bytes piece step =
    records_by limits (length (bytes ++ piece)) (bytes ++ piece) (omega arith)
    ∙ behind_fed limits bytes piece (length bytes) step
    (prefix limits bytes) (prefix limits (bytes ++ piece)) refl
    (prefix_follows limits (length bytes) (length (bytes ++ piece)) nothing_gathered bytes piece (omega arith))
    (prefix_leaves limits (length bytes) nothing_gathered bytes)
    ∙ ap (λ (stream : Stream). fed limits stream piece) (sym (records_by limits (length bytes) bytes (omega arith)))

pub fed_behind : (limits : RecordLimits) (n : ℕ) (bytes piece : List ℕ) → length bytes ≤ n → records limits (bytes ++ piece) ≡ fed limits (records limits bytes) piece
fed_behind limits zero bytes piece h = fed_with limits bytes piece (λ rest less. absurd (omega arith))
fed_behind limits (suc n) bytes piece h = fed_with limits bytes piece (λ rest less. fed_behind limits n rest piece (omega arith))

each_piece : (limits : RecordLimits) (bytes : List ℕ) (pieces : List (List ℕ))
    → fold (fed limits) (records limits bytes) pieces ≡ records limits (bytes ++ flat_map (λ piece. piece) pieces)
each_piece limits bytes [] = ap (records limits) (sym (append-nil bytes))
each_piece limits bytes (piece ∷ pieces) =
    ap (λ (stream : Stream). fold (fed limits) stream pieces) (sym (fed_behind limits (length bytes) bytes piece (omega arith)))
    ∙ each_piece limits (bytes ++ piece) pieces
    ∙ ap (records limits) (append_assoc bytes piece (flat_map (λ piece. piece) pieces))

pub every_cut : EveryCut
unfolding records_from
every_cut limits pieces = each_piece limits [] pieces

-- What is sent is read back

if_false : {A : Type 0} (b : Bool) (x y : A) → b ≡ false → cond b x y ≡ y
if_false b x y e = ap (λ (b : Bool). cond b x y) e

sent_header : (limits : RecordLimits) (bytes rest : List ℕ) → length bytes ≤ limits.bytes → length bytes < 2 ^ 31 → 0 < limits.fragments
    → behind_header limits nothing_gathered (2 ^ 31 + length bytes) (bytes ++ rest) ≡ Brings bytes true rest
unfolding behind_header
sent_header limits bytes rest small short some =
    let size : (2 ^ 31 + length bytes) % 2 ^ 31 ≡ length bytes = omega arith in
    if_false _ _ _ (le-ltb limits.bytes (0 + (2 ^ 31 + length bytes) % 2 ^ 31) (omega arith))
    ∙ if_false _ _ _ (lt-leb limits.fragments 0 some)
    ∙ if_false _ _ _ (le-ltb (length (bytes ++ rest)) ((2 ^ 31 + length bytes) % 2 ^ 31) (omega (arith, length-append bytes rest)))
    ∙ ap (λ (n : ℕ). Brings (take n (bytes ++ rest)) (nat_le (2 ^ 31) (2 ^ 31 + length bytes)) (drop n (bytes ++ rest))) size
    ∙ ap (λ (b : Bool). Brings (take (length bytes) (bytes ++ rest)) b (drop (length bytes) (bytes ++ rest))) (le-leb (2 ^ 31) (2 ^ 31 + length bytes) (omega arith))
    ∙ ap (λ (prefix : List ℕ). Brings prefix true (drop (length bytes) (bytes ++ rest))) (take_at bytes rest (length bytes) refl)
    ∙ ap (λ (left : List ℕ). Brings bytes true left) (drop_at bytes rest (length bytes) refl)

sent_fragment : (limits : RecordLimits) (bytes rest : List ℕ) → length bytes ≤ limits.bytes → length bytes < 2 ^ 31 → 0 < limits.fragments
    → fragment limits nothing_gathered (framed bytes ++ rest) ≡ Brings bytes true rest
unfolding fragment framed
sent_fragment limits bytes rest small short some =
    if_false _ _ _ (le-ltb (length (framed bytes ++ rest)) 4 (omega arith))
    ∙ ap (λ (header : ℕ). behind_header limits nothing_gathered header (bytes ++ rest)) (from_be_bytes-to_be_bytes_4 (2 ^ 31 + length bytes) (omega arith))
    ∙ sent_header limits bytes rest small short some

prefix_one : (limits : RecordLimits) (n : ℕ) (all bytes rest : List ℕ) → fragment limits nothing_gathered all ≡ Brings bytes true rest
    → prefix_from limits (suc n) nothing_gathered all ≡ Whole bytes rest
unfolding prefix_from
prefix_one limits n all bytes rest e = ap (behind_fragment (prefix_from limits n) nothing_gathered) e

pub sent_is_read : SentIsRead
unfolding framed
sent_is_read limits bytes rest small short some =
    prefix_one limits (suc (suc (suc (length (bytes ++ rest))))) (framed bytes ++ rest) bytes rest (sent_fragment limits bytes rest small short some)

-- However it is fragmented

top_is : (is_last : Bool) (size : ℕ) → size < 2 ^ 31 → nat_le (2 ^ 31) (top_bit is_last + size) ≡ is_last
top_is true size small = le-leb (2 ^ 31) (2 ^ 31 + size) (omega arith)
top_is false size small = lt-leb (2 ^ 31) (0 + size) (omega arith)

top_size : (is_last : Bool) (size : ℕ) → size < 2 ^ 31 → (top_bit is_last + size) % 2 ^ 31 ≡ size
top_size true size small = omega arith
top_size false size small = omega arith

top_fits : (is_last : Bool) (size : ℕ) → size < 2 ^ 31 → top_bit is_last + size < 2 ^ 32
top_fits true size small = omega arith
top_fits false size small = omega arith

header_brings : (limits : RecordLimits) (gathered : Gathered) (is_last : Bool) (bytes rest : List ℕ) → length gathered.bytes + length bytes ≤ limits.bytes → length bytes < 2 ^ 31
    → gathered.fragments < limits.fragments
    → behind_header limits gathered (top_bit is_last + length bytes) (bytes ++ rest) ≡ Brings bytes is_last rest
unfolding behind_header
header_brings limits gathered is_last bytes rest small short some =
    let size = top_size is_last (length bytes) short in
    if_false _ _ _ (le-ltb limits.bytes (length gathered.bytes + (top_bit is_last + length bytes) % 2 ^ 31) (omega (arith, size)))
    ∙ if_false _ _ _ (lt-leb limits.fragments gathered.fragments some)
    ∙ if_false _ _ _ (le-ltb (length (bytes ++ rest)) ((top_bit is_last + length bytes) % 2 ^ 31) (omega (arith, size, length-append bytes rest)))
    ∙ ap (λ (n : ℕ). Brings (take n (bytes ++ rest)) (nat_le (2 ^ 31) (top_bit is_last + length bytes)) (drop n (bytes ++ rest))) size
    ∙ ap (λ (b : Bool). Brings (take (length bytes) (bytes ++ rest)) b (drop (length bytes) (bytes ++ rest))) (top_is is_last (length bytes) short)
    ∙ ap (λ (prefix : List ℕ). Brings prefix is_last (drop (length bytes) (bytes ++ rest))) (take_at bytes rest (length bytes) refl)
    ∙ ap (λ (left : List ℕ). Brings bytes is_last left) (drop_at bytes rest (length bytes) refl)

fragment_brings : (limits : RecordLimits) (gathered : Gathered) (is_last : Bool) (bytes rest : List ℕ) → length gathered.bytes + length bytes ≤ limits.bytes → length bytes < 2 ^ 31
    → gathered.fragments < limits.fragments → fragment limits gathered (fragment_text is_last bytes ++ rest) ≡ Brings bytes is_last rest
unfolding fragment fragment_text
fragment_brings limits gathered is_last bytes rest small short some =
    if_false _ _ _ (le-ltb (length (fragment_text is_last bytes ++ rest)) 4 (omega arith))
    ∙ ap (λ (header : ℕ). behind_header limits gathered header (bytes ++ rest)) (from_be_bytes-to_be_bytes_4 (top_bit is_last + length bytes) (top_fits is_last (length bytes) short))
    ∙ header_brings limits gathered is_last bytes rest small short some

prefix_joins : (limits : RecordLimits) (n : ℕ) (gathered : Gathered) (earlier : List (List ℕ)) (last rest : List ℕ) → length earlier < n
    → length gathered.bytes + length (joined earlier last) ≤ limits.bytes → length (joined earlier last) < 2 ^ 31 → gathered.fragments + length earlier < limits.fragments
    → prefix_from limits n gathered (record_text earlier last ++ rest) ≡ Whole (gathered.bytes ++ joined earlier last) rest
unfolding prefix_from
prefix_joins limits zero gathered earlier last rest fuel small short some = absurd (omega arith)
prefix_joins limits (suc n) gathered [] last rest fuel small short some =
    ap (behind_fragment (prefix_from limits n) gathered) (fragment_brings limits gathered true last rest small short (omega arith))
prefix_joins limits (suc n) gathered (bytes ∷ earlier) last rest fuel small short some =
    let size = length-append bytes (joined earlier last) in
    let next = gathered_with gathered bytes in
    ap (λ (all : List ℕ). prefix_from limits (suc n) gathered all) (append_assoc (fragment_text false bytes) (record_text earlier last) rest)
    ∙ ap (behind_fragment (prefix_from limits n) gathered)
    (fragment_brings limits gathered false bytes (record_text earlier last ++ rest) (omega (arith, size)) (omega (arith, size)) (omega arith))
    ∙ prefix_joins limits n next earlier last rest (omega arith) (omega (arith, size, length-append gathered.bytes bytes)) (omega (arith, size)) (omega arith)
    ∙ ap (λ (all : List ℕ). Whole all rest) (append_assoc gathered.bytes bytes (joined earlier last))

enough : (earlier : List (List ℕ)) (last rest : List ℕ) → length earlier < length (record_text earlier last ++ rest)
unfolding fragment_text
enough [] last rest = omega arith
enough (bytes ∷ earlier) last rest =
    let more = enough earlier last rest in
    let split = append_assoc bytes (record_text earlier last) rest in
    omega (arith, ap length split, length-append bytes (record_text earlier last ++ rest))

pub every_fragmenting : EveryFragmenting
every_fragmenting limits earlier last rest small short some =
    prefix_joins limits (length (record_text earlier last ++ rest)) nothing_gathered earlier last rest (enough earlier last rest) (omega arith) short (omega arith)
