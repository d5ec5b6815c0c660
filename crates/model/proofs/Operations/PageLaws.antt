-- A page of READDIR has the entries that fit.
use Rattle.std.proofs.Common.{ℕ, Bool, true, false, List, [], ◌∷◌, ◌++◌, ◌≡◌, ◌+◌, ◌-◌, ◌<◌, ◌≤◌, ◌==◌, ◌↔◌, cond, nat_le, min, length, refl, ap, arith, length-append, leb-true, eqb-true, eq-eqb}
use Rattle.std.proofs.lemmas.Bool.{leb-false}
use Rattle.xdr.specs.Forms.{links, boolean}
use Rattle.xdr.specs.Grammar.{number}
use Rattle.std.specs.Int.{w32, w64}
use Rattle.xdr.proofs.Numbers.{length-number_32, length-number_64}
use Rattle.model.specs.Operations.Answer.{Entry}
use Rattle.model.specs.Operations.PageLaws.{page_size, EveryPage}
use Rattle.model.specs.Operations.ReadDir.{entry_size, fitting, all_entries, page_room, page}
use Rattle.model.specs.Wire.WireAnswers as answers

-- how many bytes entries have
sizes : List Entry → ℕ
sizes [] = 0
sizes (entry ∷ rest) = entry_size entry + sizes rest

links_length : (entries : List Entry) → length (links answers.entry.encoding entries) ≡ sizes entries + 4
unfolding links sizes
links_length [] = length-number_32 0
links_length (entry ∷ rest) =
    let whole = length-append (number w32 1) (answers.entry.encoding entry ++ links answers.entry.encoding rest) in
    let behind = length-append (answers.entry.encoding entry) (links answers.entry.encoding rest) in
    let prefix = length-number_32 1 in
    let others = links_length rest in
    omega (arith, whole, behind, prefix, others)

bool_length : (b : Bool) → length (boolean.encoding b) ≡ 4
bool_length true = length-number_32 1
bool_length false = length-number_32 0

size_is : (entries : List Entry) (is_end : Bool) → page_size entries is_end ≡ sizes entries + 16
size_is entries is_end =
    let whole = length-append (number w64 0) (links answers.entry.encoding entries ++ boolean.encoding is_end) in
    let behind = length-append (links answers.entry.encoding entries) (boolean.encoding is_end) in
    let prefix = length-number_64 0 in
    let middle = links_length entries in
    let last = bool_length is_end in
    omega (arith, whole, behind, prefix, middle, last)

sizes_more : (entries : List Entry) (entry : Entry) → sizes (entries ++ entry ∷ []) ≡ sizes entries + entry_size entry
unfolding sizes
sizes_more [] entry = omega arith
sizes_more (first ∷ rest) entry = let others = sizes_more rest entry in omega (arith, others)

-- what fits in this much room
record Fitted (room : ℕ) (all shown : List Entry) : Type 0 where
  pub rest : List Entry
  pub prefix : all ≡ shown ++ rest
  pub fits : sizes shown ≤ room
  pub longest : (next : Entry) (others : List Entry) → rest ≡ next ∷ others → room < sizes shown + entry_size next

fitted : (room : ℕ) (all : List Entry) → Fitted room all (fitting room all)
unfolding sizes
fitted room [] = record { rest = []; prefix = refl; fits = omega arith; longest = λ next others is. let never : ⊥ = cc in absurd never }
fitted room (entry ∷ rest) = by_room (nat_le (entry_size entry) room) refl (fitted (room - entry_size entry) rest)
  where
    first_of : (next : Entry) (others : List Entry) → entry ∷ rest ≡ next ∷ others → entry ≡ next
    first_of next others same = cc

    by_room : (b : Bool) → nat_le (entry_size entry) room ≡ b → Fitted (room - entry_size entry) rest (fitting (room - entry_size entry) rest)
        → Fitted room (entry ∷ rest) (cond b (entry ∷ fitting (room - entry_size entry) rest) [])
    by_room true has behind =
        let low = leb-true (entry_size entry) room has in
        record {
          rest = behind.rest;
          prefix = ap (λ l. entry ∷ l) behind.prefix;
          fits = let others = behind.fits in omega (arith, low, others);
          longest = λ next others is. let more = behind.longest next others is in omega (arith, low, more);
        }
    by_room false has behind = record {
      rest = entry ∷ rest;
      prefix = refl;
      fits = omega arith;
      longest = λ next others is.
          let high = leb-false (entry_size entry) room has in
          let same : entry_size entry ≡ entry_size next = ap entry_size (first_of next others is) in
          omega (arith, high, same);
    }

some_size : (shown : List Entry) → 0 < length shown → 0 < sizes shown
unfolding sizes
some_size [] some = absurd (omega (arith, some))
some_size (entry ∷ rest) some = omega arith

-- a prefix is as long as the whole exactly if nothing is left
ends_with : (all shown rest : List Entry) → all ≡ shown ++ rest → ((length shown == length all) ≡ true) ↔ (rest ≡ [])
ends_with all shown [] parts =
    let sum = length-append shown [] in
    let whole : length all ≡ length (shown ++ []) = ap length parts in
    ((λ same. refl), (λ none. eq-eqb (length shown) (length all) (omega (arith, sum, whole))))
ends_with all shown (entry ∷ rest) parts =
    let sum = length-append shown (entry ∷ rest) in
    let whole : length all ≡ length (shown ++ entry ∷ rest) = ap length parts in (
      (λ same. let equal = eqb-true (length shown) (length all) same in absurd (omega (arith, sum, whole, equal))),
      (λ none. let never : ⊥ = cc in absurd never),
    )

pub every_page : EveryPage
unfolding page
every_page limits state arguments =
    let all = all_entries limits state arguments in
    let room = page_room limits arguments in
    let shown = fitting room all in
    let of = fitted room all in
    let most = min arguments.max_count limits.transfer_bytes in
    record {
      rest = of.rest;
      prefix = of.prefix;
      fits = λ some.
          let size = size_is shown (page limits state arguments).is_end in
          let within = of.fits in
          let one = some_size shown some in
          omega (arith, size, within, one);
      longest = λ next others is_end is.
          let size = size_is (shown ++ next ∷ []) is_end in
          let more = sizes_more shown next in
          let above = of.longest next others is in
          omega (arith, size, more, above);
      ends = ends_with all shown of.rest of.prefix;
    }
