-- A page of READDIR, as it is filled.
use Rattle.std.proofs.Common.{◌≡◌, ◌≤◌, ◌<◌, ℕ, Bool, true, false, List, [], ◌∷◌, ◌++◌, ◌+◌, ◌-◌, ◌==◌, length, map, length-append, append_assoc, append-nil, sym, ap, ap₂, ◌∙◌, arith, ne_eqb}
use Rattle.std.specs.Prelude.{if◌then◌else◌, nat_le}
use Rattle.std.specs.List.{AllByRecursion}
use Rattle.std.proofs.lemmas.Bool.{eq-eqb, le-leb, lt-leb}
use Rattle.std.proofs.lemmas.List.{length-map, map-append}
use Rattle.model.specs.Operations.Answer.{Entry, ReadDirAnswer}
use Rattle.model.specs.Operations.ReadDir.{entry_size, fitting}
use Rattle.wire_attributes.specs.Listed.{EntryFits, entry_view}
use Rattle.wire_attributes.specs.declared.listed.ListedEntry.{ListedEntry}
use Rattle.fs.specs.Listing.{page_of}

-- what is shown so far, the room that it leaves, and the entries after it
pub record IsFilled (whole room : ℕ) (all rest : List Entry) (shown : List ListedEntry) : Type 0 where
  pub prefix : fitting whole all ≡ map entry_view shown ++ fitting room rest
  pub count : length shown + length rest ≡ length all
  pub fits : AllByRecursion EntryFits shown

all_fit : (shown : List ListedEntry) (entry : ListedEntry) → AllByRecursion EntryFits shown → EntryFits entry → AllByRecursion EntryFits (shown ++ entry ∷ [])
all_fit [] entry all fits = (fits, tt)
all_fit (one ∷ shown) entry all fits = (all.0, all_fit shown entry all.1 fits)

by_room : (room : ℕ) (rest : List Entry) (entry : Entry) (b : Bool) → nat_le (entry_size entry) room ≡ b
    → fitting room (entry ∷ rest) ≡ (if b then entry ∷ fitting (room - entry_size entry) rest else [])
by_room room rest entry b is = ap (λ (has : Bool). if has then entry ∷ fitting (room - entry_size entry) rest else []) is

abbrev page_with : List ListedEntry → Bool → ReadDirAnswer
page_with shown is_end = record { entries = map entry_view shown; is_end = is_end }

page_is : (whole : ℕ) (all : List Entry) (shown : List ListedEntry) (is_end : Bool) → fitting whole all ≡ map entry_view shown → (length shown == length all) ≡ is_end
    → page_with shown is_end ≡ page_of whole all
page_is whole all shown is_end told ends =
    let page : List Entry → Bool → ReadDirAnswer = λ entries last. record { entries = entries; is_end = last } in
    ap₂ page (sym told) (sym (ap (λ (l : List Entry). length l == length all) told ∙ ap (λ (n : ℕ). n == length all) (length-map shown entry_view) ∙ ends))

module _ (whole room : ℕ) (all rest : List Entry) (shown : List ListedEntry) where
  -- an entry that there is room for
  pub one_more : (entry : ListedEntry) (size : ℕ) → IsFilled whole room all (entry_view entry ∷ rest) shown → EntryFits entry → size ≡ entry_size (entry_view entry) → size ≤ room
      → IsFilled whole (room - size) all rest (shown ++ entry ∷ [])
  one_more entry size filled fits is low = record {
    prefix = filled.prefix
        ∙ ap (λ (l : List Entry). map entry_view shown ++ l) (by_room room rest (entry_view entry) true (le-leb (entry_size (entry_view entry)) room (omega (arith, is, low))))
        ∙ sym (append_assoc (map entry_view shown) (entry_view entry ∷ []) (fitting (room - entry_size (entry_view entry)) rest))
        ∙ ap (λ (l : List Entry). l ++ fitting (room - entry_size (entry_view entry)) rest) (sym (map-append entry_view shown (entry ∷ [])))
        ∙ ap (λ (n : ℕ). map entry_view (shown ++ entry ∷ []) ++ fitting (room - n) rest) (sym is);
    count = omega (arith, filled.count, length-append shown (entry ∷ []));
    fits = all_fit shown entry filled.fits fits;
  }

  -- one that there is none for
  pub full : (entry : Entry) → IsFilled whole room all (entry ∷ rest) shown → room < entry_size entry → page_with shown false ≡ page_of whole all
  full entry filled high =
      let told = filled.prefix ∙ ap (λ (l : List Entry). map entry_view shown ++ l) (by_room room rest entry false (lt-leb (entry_size entry) room high)) ∙ append-nil (map entry_view shown) in
      page_is whole all shown false told (ne_eqb (length shown) (length all) (λ same. omega (arith, filled.count, same)))

pub ended : (whole room : ℕ) (all : List Entry) (shown : List ListedEntry) → IsFilled whole room all [] shown → page_with shown true ≡ page_of whole all
ended whole room all shown filled =
    page_is whole all shown true (filled.prefix ∙ append-nil (map entry_view shown)) (eq-eqb (length shown) (length all) (omega (arith, filled.count)))
