-- A record that is read from a stream, fragment by fragment.
use Rattle.std.proofs.Common.{◌≡◌, ℕ, ◌+◌, ◌-◌, ◌%◌, ◌^◌, ◌<◌, ◌≤◌, Bool, true, false, List, [], ◌++◌, length, take, drop, Option, None, Some, nat_le, refl, sym, ap, subst, ◌∙◌, arith, append_assoc, append-nil, take_all, drop_at}
use Rattle.std.proofs.lemmas.List.{length-append, length-drop, length-take-le, drop-drop, drop-take, drop-append-le}
use lib.Seq.{take-add, take-append-le, take-append-add}
use Rattle.std.specs.Int.{w32, from_be_bytes, to_be_bytes}
use Rattle.std.specs.Io.KnownBytes.{Consumes}
use Rattle.std.proofs.KnownBytes.{Consumes-nil, Consumes-trans}
use Rattle.model.specs.Wire.Record.{RecordTooBig, TooManyFragments, Gathered, Partial, Whole, prefix, prefix_from, framed}
use Rattle.rpc.specs.declared.fragment.Place.{Place}
use Rattle.rpc.specs.declared.fragment.Fragment.TheVariants as found
use Rattle.rpc.specs.Assembly.{record_limits, Finds}
use Rattle.rpc.proofs.Fragments as fragments
use Rattle.rpc.proofs.Walks.{Walks, waits, refuses, last, next, part_of, behind_part}
use Rattle.client.specs.declared.receive.Fetched.TheVariants as fetched
use Rattle.client.specs.declared.receive.Received.TheVariants as received
use Rattle.client.specs.Streams.{ReadsHeader, Fetches, Receives}

-- One fragment

header_is : (read rest : List ℕ) (header : ℕ) → length read ≡ 4 → header ≡ from_be_bytes w32 read → header ≡ from_be_bytes w32 (take 4 (read ++ rest))
header_is read rest header four is =
    is ∙ ap (from_be_bytes w32) (sym (take-append-le 4 read rest (omega arith) ∙ take_all 4 read (omega arith)))

pub no_header : (old new : Option (List ℕ)) (size count : ℕ) (room : List ℕ) → ReadsHeader old new None → Fetches old new size count room room fetched.Ended
no_header old new size count room h = record {
  read = h.read;
  reads = h.reads;
  is = λ gathered size_is fragments_is. fragments.waits gathered h.read h.is;
  prefix = refl;
  long = refl;
}

alone : (read : List ℕ) (header : ℕ) → length read ≡ 4 → header ≡ from_be_bytes w32 read → header ≡ from_be_bytes w32 (take 4 read)
alone read header four is = is ∙ ap (from_be_bytes w32) (sym (take_all 4 read (omega arith)))

pub too_big : (old new : Option (List ℕ)) (size count header : ℕ) (room : List ℕ) → ReadsHeader old new (Some header) → 16384 < size + header % 2 ^ 31
    → Fetches old new size count room room fetched.Refused
too_big old new size count header room h above =
    let four = h.is.0 in
    record {
      read = h.read;
      reads = h.reads;
      is = λ gathered size_is fragments_is.
          (omega arith, (RecordTooBig, fragments.refuses_size gathered h.read header (omega arith) (alone h.read header four h.is.1) (omega arith)));
      prefix = refl;
      long = refl;
    }

pub too_many : (old new : Option (List ℕ)) (size count header : ℕ) (room : List ℕ) → ReadsHeader old new (Some header) → size + header % 2 ^ 31 ≤ 16384 → 64 ≤ count
    → Fetches old new size count room room fetched.Refused
too_many old new size count header room h small many =
    let four = h.is.0 in
    record {
      read = h.read;
      reads = h.reads;
      is = λ gathered size_is fragments_is.
          (omega arith, (TooManyFragments, fragments.refuses_number gathered h.read header (omega arith) (alone h.read header four h.is.1) (omega arith) (omega arith)));
      prefix = refl;
      long = refl;
    }

-- the reader ends in the middle of the fragment
pub cut_short : (old mid new : Option (List ℕ)) (size count header : ℕ) (before room body : List ℕ) → ReadsHeader old mid (Some header) → Consumes mid new body
    → size + header % 2 ^ 31 ≤ 16384 → count < 64 → length body < header % 2 ^ 31 → take (4 + size) room ≡ take (4 + size) before → length room ≡ length before
    → Fetches old new size count before room fetched.Ended
cut_short old mid new size count header before room body h reads small few short stays long =
    let four = h.is.0 in
    let all = length-append h.read body in
    record {
      read = h.read ++ body;
      reads = Consumes-trans old mid new h.read body h.reads reads;
      is = λ gathered size_is fragments_is.
          fragments.waits_body gathered (h.read ++ body) header (omega arith) (header_is h.read body header four h.is.1) (omega arith) (omega arith) (omega arith);
      prefix = stays;
      long = long;
    }

pub is_whole : (old mid new : Option (List ℕ)) (size count header : ℕ) (is_last : Bool) (before room body : List ℕ) → ReadsHeader old mid (Some header) → Consumes mid new body
    → size + header % 2 ^ 31 ≤ 16384 → count < 64 → length body ≡ header % 2 ^ 31 → is_last ≡ nat_le (2 ^ 31) header
    → body ≡ take (header % 2 ^ 31) (drop (4 + size) room) → take (4 + size) room ≡ take (4 + size) before → length room ≡ length before
    → Fetches old new size count before room (fetched.Brings (header % 2 ^ 31) is_last)
is_whole old mid new size count header is_last before room body h reads small few whole last_is stands stays long =
    let four = h.is.0 in
    let all = length-append h.read body in
    record {
      read = h.read ++ body;
      reads = Consumes-trans old mid new h.read body h.reads reads;
      is = λ gathered size_is fragments_is. (
        omega arith,
        drop_at h.read body 4 (omega arith) ∙ stands,
        λ rest.
            let more = length-append (h.read ++ body) rest in (
              omega arith,
              omega arith,
              omega arith,
              fragments.brings gathered ((h.read ++ body) ++ rest) header is_last (omega arith)
                  (header_is h.read (body ++ rest) header four h.is.1 ∙ ap (λ bytes. from_be_bytes w32 (take 4 bytes)) (sym (append_assoc h.read body rest)))
                  (omega arith) (omega arith) (omega arith) last_is,
            ),
      );
      prefix = stays;
      long = long;
    }

-- One after the other: what is gathered is in the room, after the place of a header

abbrev pub gathered_in : (room : List ℕ) → (size fragments : ℕ) → Gathered
gathered_in room size fragments = record { bytes = take size (drop 4 room); fragments = fragments }

abbrev pub place_of : (size fragments : ℕ) → Place
place_of size fragments = record { at = 0; size = size; fragments = fragments }

pub record Gathers (old now : Option (List ℕ)) (size fragments : ℕ) (room : List ℕ) : Type 0 where
  pub read : List ℕ
  pub reads : Consumes old now read
  pub fuel : ℕ
  pub walks : (rest : List ℕ) → Walks (read ++ rest) (gathered_in room size fragments) (fuel + length rest) rest (place_of size fragments)
  pub small : size ≤ 16384
  pub few : fragments ≤ 64
  pub long : length room ≡ 16388

pub begins : (known : Option (List ℕ)) (room : List ℕ) → length room ≡ 16388 → Gathers known known 0 0 room
begins known room long = record {
  read = [];
  reads = Consumes-nil known;
  fuel = 0;
  walks = λ rest. record { on = ap (λ (n : ℕ). prefix_from record_limits n (gathered_in room 0 0) rest) (omega arith); enough = omega arith; size = refl; fragments = refl };
  small = omega arith;
  few = omega arith;
  long = long;
}

pub ended : (old now new : Option (List ℕ)) (size fragments : ℕ) (room after : List ℕ) → Gathers old now size fragments room → Fetches now new size fragments room after fetched.Ended
    → Receives old new after received.Ended
ended old now new size fragments room after g f =
    let w = g.walks f.read in
    record {
      read = g.read ++ f.read;
      reads = Consumes-trans old now new g.read f.read g.reads f.reads;
      is = waits w (f.is (gathered_in room size fragments) w.size w.fragments);
      long = f.long ∙ g.long;
    }

pub refused : (old now new : Option (List ℕ)) (size fragments : ℕ) (room after : List ℕ) → Gathers old now size fragments room → Fetches now new size fragments room after fetched.Refused
    → Receives old new after received.Refused
refused old now new size fragments room after g f =
    let w = g.walks f.read in
    let is = f.is (gathered_in room size fragments) w.size w.fragments in
    record {
      read = g.read ++ f.read;
      reads = Consumes-trans old now new g.read f.read g.reads f.reads;
      is = (is.1.0, refuses is.1.0 w is.0 is.1.1);
      long = f.long ∙ g.long;
    }

-- the beginning of the room, after the place of a header
prefix_of : (size : ℕ) (room : List ℕ) → take size (drop 4 room) ≡ drop 4 (take (4 + size) room)
prefix_of size room = sym (drop-take 4 size room)

joins : (size more : ℕ) (room after part : List ℕ) → take (4 + size) after ≡ take (4 + size) room → part ≡ take more (drop (4 + size) after)
    → take size (drop 4 room) ++ part ≡ take (size + more) (drop 4 after)
joins size more room after part prefix is =
    ap (λ (bytes : List ℕ). bytes ++ part) (prefix_of size room ∙ ap (drop 4) (sym prefix) ∙ sym (prefix_of size after))
    ∙ ap (λ (bytes : List ℕ). take size (drop 4 after) ++ bytes) (is ∙ ap (λ (n : ℕ). take more (drop n after)) (omega arith) ∙ ap (take more) (sym (drop-drop size 4 after)))
    ∙ sym (take-add size more (drop 4 after))

-- the fragment that was fetched, as the prefix of what follows it
part_is : (read rest : List ℕ) (more : ℕ) → length read ≡ 4 + more → part_of more (read ++ rest) ≡ drop 4 read
part_is read rest more long =
    ap (take more) (drop-append-le 4 read rest (omega arith)) ∙ take-append-le more (drop 4 read) rest (omega (arith, length-drop 4 read)) ∙ take_all more (drop 4 read) (omega (arith, length-drop 4 read))

behind_is : (read rest : List ℕ) (more : ℕ) → length read ≡ 4 + more → behind_part more (read ++ rest) ≡ rest
behind_is read rest more long = drop-drop more 4 (read ++ rest) ∙ drop_at read rest (4 + more) long

pub finished : (old now new : Option (List ℕ)) (size fragments more : ℕ) (room after : List ℕ) → Gathers old now size fragments room
    → Fetches now new size fragments room after (fetched.Brings more true) → Receives old new after (received.Whole (size + more))
finished old now new size fragments more room after g f =
    let w = g.walks f.read in
    let is = f.is (gathered_in room size fragments) w.size w.fragments in
    let whole : Finds (gathered_in room size fragments) f.read (found.Brings more true) =
    subst (λ (bytes : List ℕ). Finds (gathered_in room size fragments) bytes (found.Brings more true)) (append-nil f.read) (is.2 []) in
    let fits = whole.1 in
    let before = w.size in
    let part : part_of more f.read ≡ drop 4 f.read = ap (part_of more) (sym (append-nil f.read)) ∙ part_is f.read [] more is.0 in
    let none : behind_part more f.read ≡ [] = ap (behind_part more) (sym (append-nil f.read)) ∙ behind_is f.read [] more is.0 in
    record {
      read = g.read ++ f.read;
      reads = Consumes-trans old now new g.read f.read g.reads f.reads;
      is = (
        omega arith,
        last more w whole
            ∙ ap (λ (rest : List ℕ). Whole (take size (drop 4 room) ++ part_of more f.read) rest) none
            ∙ ap (λ (bytes : List ℕ). Whole bytes []) (joins size more room after (part_of more f.read) f.prefix (part ∙ is.1)),
      );
      long = f.long ∙ g.long;
    }

pub goes_on : (old now new : Option (List ℕ)) (size fragments more : ℕ) (room after : List ℕ) → Gathers old now size fragments room
    → Fetches now new size fragments room after (fetched.Brings more false) → Gathers old new (size + more) (fragments + 1) after
goes_on old now new size fragments more room after g f =
    let here = gathered_in room size fragments in
    let first = g.walks [] in
    let is = f.is here first.size first.fragments in
    let seen = is.2 [] in
    let fits = seen.1 in
    let few = seen.2 in
    let before = first.size in
    let long = is.0 in
    record {
      read = g.read ++ f.read;
      reads = Consumes-trans old now new g.read f.read g.reads f.reads;
      fuel = g.fuel + length f.read - 1;
      walks = λ rest.
          let w = next (place_of (size + more) (fragments + 1)) more (g.walks (f.read ++ rest)) (is.2 rest) refl refl in
          let part = part_is f.read rest more long in
          let bytes_is : here.bytes ++ part_of more (f.read ++ rest) ≡ take (size + more) (drop 4 after) =
          joins size more room after (part_of more (f.read ++ rest)) f.prefix (part ∙ is.1) in
          let fuel_is : g.fuel + length (f.read ++ rest) - 1 ≡ (g.fuel + length f.read - 1) + length rest = omega (arith, length-append f.read rest) in
          let a = subst (λ (bytes : List ℕ). Walks (g.read ++ (f.read ++ rest)) (record { bytes = bytes; fragments = fragments + 1 }) (g.fuel + length (f.read ++ rest) - 1) (behind_part more (f.read ++ rest)) (place_of (size + more) (fragments + 1))) bytes_is w in
          let b = subst (λ (n : ℕ). Walks (g.read ++ (f.read ++ rest)) (gathered_in after (size + more) (fragments + 1)) n (behind_part more (f.read ++ rest)) (place_of (size + more) (fragments + 1))) fuel_is a in
          let d = subst (λ (bytes : List ℕ). Walks (g.read ++ (f.read ++ rest)) (gathered_in after (size + more) (fragments + 1)) ((g.fuel + length f.read - 1) + length rest) bytes (place_of (size + more) (fragments + 1))) (behind_is f.read rest more long) b in
          subst (λ (bytes : List ℕ). Walks bytes (gathered_in after (size + more) (fragments + 1)) ((g.fuel + length f.read - 1) + length rest) rest (place_of (size + more) (fragments + 1))) (sym (append_assoc g.read f.read rest)) d;
      small = omega arith;
      few = omega arith;
      long = f.long ∙ g.long;
    }

pub record Bounds (size more fragments : ℕ) : Type 0 where
  pub small : size + more ≤ 16384
  pub few : fragments < 64

pub bounds : (old now new : Option (List ℕ)) (size fragments more : ℕ) (is_last : Bool) (room after : List ℕ) → Gathers old now size fragments room
    → Fetches now new size fragments room after (fetched.Brings more is_last) → Bounds size more fragments
bounds old now new size fragments more is_last room after g f =
    let first = g.walks [] in
    let seen = (f.is (gathered_in room size fragments) first.size first.fragments).2 [] in
    let fits = seen.1 in
    let before = first.size in
    record { small = omega arith; few = seen.2 }

pub none_yet : prefix record_limits [] ≡ Partial
unfolding prefix_from
none_yet = refl

-- The header that is before the record in the end

-- a slice of a whole vector is the vector
pub lent : (n : ℕ) (room items : List ℕ) → length room ≡ n → take n (room ++ drop (length room) items) ≡ room
lent n room items long = take-append-le n room (drop (length room) items) (omega arith) ∙ take_all n room (omega arith)

pub put_length : (size : ℕ) (room put : List ℕ) → length room ≡ 16388 → put ≡ to_be_bytes w32 (2 ^ 31 + size) ++ drop 4 room → length put ≡ 16388
put_length size room put long is =
    let four : length (to_be_bytes w32 (2 ^ 31 + size)) ≡ 4 = refl in
    omega (arith, ap length is, length-append (to_be_bytes w32 (2 ^ 31 + size)) (drop 4 room), length-drop 4 room)

pub headed : (size : ℕ) (room put : List ℕ) → length room ≡ 16388 → size ≤ 16384 → put ≡ to_be_bytes w32 (2 ^ 31 + size) ++ drop 4 room
    → take (4 + size) put ≡ framed (take size (drop 4 room))
unfolding framed
headed size room put long small is =
    let size_is : length (take size (drop 4 room)) ≡ size = length-take-le size (drop 4 room) (omega (arith, length-drop 4 room)) in
    ap (take (4 + size)) is ∙ take-append-add (to_be_bytes w32 (2 ^ 31 + size)) (drop 4 room) size
    ∙ ap (λ (n : ℕ). to_be_bytes w32 (2 ^ 31 + n) ++ take size (drop 4 room)) (sym size_is)
