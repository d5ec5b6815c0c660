-- Texts that name nobody, and texts that are numbers.
use Rattle.std.proofs.Common.{◌≡◌, ◌≢◌, ℕ, zero, suc, ◌<◌, ◌^◌, Bool, true, false, List, length, get_or, Result, Ok, Err, bytes_eq, codes, refl, sym, ap, subst, ◌∙◌, arith}
use Rattle.std.specs.Prelude.{Some, None, decimal, option_map}
use Rattle.std.specs.Cmp.Lexicographic.{bytes_decides}
use Rattle.std.specs.Str.{IsUtf8}
use Rattle.std.specs.Str.Parse.{AllDigits, IsNumeral, ParsesUnsigned, digits_value, without_leading_plus}
use Rattle.std.proofs.lemmas.Fmt.{decimal_is_IsNumeral, decimal_nonempty, first_decimal, IsAscii-decimal, decimal_digit, parse-decimal, decimal-digits_value}
use Rattle.std.proofs.lemmas.Str.{IsUtf8-from_ascii}
use Rattle.std.proofs.lemmas.Str.Parse.{IsNumeralModel, numerals_by_value, tells_digits, not_in_digits, without_leading_plus_none}
use Rattle.model_tree.specs.declared.acl.Who.TheVariants as who
use Rattle.model.specs.Attributes.AclText.{number_in, numbered, who_in}
use Rattle.model.proofs.Wire.AclTextLaws.{no_number, written_again}

digits : IsNumeralModel (AllDigits 10) (digits_value 10)
digits = numerals_by_value (AllDigits 10) tells_digits

pub no_number_empty : (text : List ℕ) → length text ≡ 0 → (n : ℕ) → n < 2 ^ 32 → text ≢ decimal n
no_number_empty text none n small = λ is.
    let some = decimal_nonempty n (omega arith) in
    omega (arith, some, ap length is)

pub no_number_zero : (text : List ℕ) → get_or text 0 0 ≡ 48 → 1 < length text → (n : ℕ) → n < 2 ^ 32 → text ≢ decimal n
no_number_zero text first more zero small = λ is. omega (arith, more, ap length (is ∙ decimal_digit 0 (omega arith)))
no_number_zero text first more (suc n) small = λ is.
    omega (arith, first, first_decimal (suc n) (omega arith) (omega arith), ap (λ (t : List ℕ). get_or t 0 0) is)

pub no_number_plus : (text : List ℕ) → get_or text 0 0 ≡ 43 → (n : ℕ) → n < 2 ^ 32 → text ≢ decimal n
no_number_plus text first n small = λ is.
    let numeral = decimal_is_IsNumeral n (omega arith) in
    not_in_digits digits (decimal n) 43 numeral.0.1 (λ within. omega (arith, within.0)) 0 numeral.0.0 (ap (λ (t : List ℕ). get_or t 0 0) (sym is) ∙ first)

pub no_number_bytes : (text : List ℕ) → (IsUtf8 text → ⊥) → (n : ℕ) → n < 2 ^ 32 → text ≢ decimal n
no_number_bytes text other n small = λ is.
    other (subst IsUtf8 (sym is) (IsUtf8-from_ascii (decimal n) (IsAscii-decimal n (omega arith))))

pub no_number_digits : {E : Type 0} (text : List ℕ) (e : E) (r : Result ℕ E) → r ≡ Err e → ParsesUnsigned 32 10 text r → (n : ℕ) → n < 2 ^ 32 → text ≢ decimal n
no_number_digits text e r refused parses n small = λ is.
    let read = parse-decimal 32 n text r small (omega arith) is parses in
    absurd (cc (refused, read))

pub is_number : {E : Type 0} (text : List ℕ) (m : ℕ) (r : Result ℕ E) → r ≡ Ok m → ParsesUnsigned 32 10 text r → get_or text 0 0 ≢ 43 → (get_or text 0 0 ≡ 48 → length text ≡ 1) → text ≡ decimal m
is_number {E = E} text m r read parses plus lead =
    let p = subst (λ (q : Result ℕ E). ParsesUnsigned 32 10 text q) read parses in
    let bare : without_leading_plus text ≡ text = without_leading_plus_none text plus in
    let numeral : IsNumeral 10 text = subst (λ (t : List ℕ). IsNumeral 10 t) bare p.0.0 in
    let value : m ≡ digits_value 10 text = p.1 ∙ ap (digits_value 10) bare in
    let small : digits_value 10 text < 2 ^ 64 = omega (arith, p.0.1, ap (digits_value 10) bare) in
    sym (ap decimal value ∙ decimal-digits_value digits text numeral.1 numeral.0 lead small)

-- ---- what the definitions read

pub unread : (text : List ℕ) → ((n : ℕ) → n < 2 ^ 32 → text ≢ decimal n) → None ≡ number_in text
unread text none = sym (no_number text none)

pub read : (text : List ℕ) (m : ℕ) → m < 2 ^ 32 → text ≡ decimal m → Some m ≡ number_in text
read text m small is = sym (written_again text m is small)

-- special names, in their order

pub names_owner : (is_group : Bool) (text : List ℕ) → text ≡ codes "OWNER@" → Some who.Owner ≡ who_in is_group text
unfolding who_in
names_owner is_group text is = ap (who_in is_group) (sym is)

pub names_group : (is_group : Bool) (text : List ℕ) → text ≡ codes "GROUP@" → Some who.Group ≡ who_in is_group text
unfolding who_in
names_group is_group text is = ap (who_in is_group) (sym is)

pub names_everyone : (is_group : Bool) (text : List ℕ) → text ≡ codes "EVERYONE@" → Some who.Everyone ≡ who_in is_group text
unfolding who_in
names_everyone is_group text is = ap (who_in is_group) (sym is)

other : (text special : List ℕ) → text ≢ special → bytes_eq text special ≡ false
other text special differs = by_test (bytes_eq text special) refl
  where
    by_test : (holds : Bool) → bytes_eq text special ≡ holds → holds ≡ false
    by_test true holds = absurd (differs ((bytes_decides text special).0 holds))
    by_test false fails = refl

module _ (is_group : Bool) (text : List ℕ) (owner : text ≢ codes "OWNER@") (group : text ≢ codes "GROUP@") (everyone : text ≢ codes "EVERYONE@") where
  names_other : who_in is_group text ≡ option_map (numbered is_group) (number_in text)
  unfolding who_in
  names_other = rw (other text (codes "OWNER@") owner, other text (codes "GROUP@") group, other text (codes "EVERYONE@") everyone) refl

  pub names_none : None ≡ number_in text → None ≡ who_in is_group text
  names_none none = sym (names_other ∙ ap (option_map (numbered is_group)) (sym none))

  pub names_number : (number : ℕ) → Some number ≡ number_in text → Some (numbered is_group number) ≡ who_in is_group text
  names_number number is = sym (names_other ∙ ap (option_map (numbered is_group)) (sym is))
