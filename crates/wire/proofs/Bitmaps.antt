-- Bitmaps without zero words at the end.
use Rattle.std.proofs.Common.{◌≡◌, ℕ, ◌-◌, ◌<◌, true, cond, zero, suc, List, [], ◌∷◌, ◌++◌, length, get_or, eqb, refl, ap, sym, ◌∙◌, arith}
use Rattle.std.specs.Prelude.{◌≢◌, not}
use Rattle.std.proofs.lemmas.Bool.{ne_eqb}
use Rattle.xdr.specs.Forms.{is_trimmed}
use Rattle.model.specs.Attributes.Attribute.{trimmed, word_before}

pub trimmed-zero : (words : List ℕ) → trimmed (words ++ 0 ∷ []) ≡ trimmed words
trimmed-zero [] = refl
trimmed-zero (first ∷ words) = ap (word_before first) (trimmed-zero words)

pub trimmed-word : (words : List ℕ) (word : ℕ) → word ≢ 0 → trimmed (words ++ word ∷ []) ≡ words ++ word ∷ []
trimmed-word [] word there = rw (ne_eqb word 0 there) refl
trimmed-word (first ∷ words) word there = ap (word_before first) (trimmed-word words word there) ∙ before words
  where
    before : (words : List ℕ) → word_before first (words ++ word ∷ []) ≡ first ∷ (words ++ word ∷ [])
    before [] = refl
    before (next ∷ words) = refl

more_trimmed : (word : ℕ) (words : List ℕ) → is_trimmed words ≡ true → is_trimmed (word_before word words) ≡ true
more_trimmed zero [] e = refl
more_trimmed (suc word) [] e = ap (λ b. is_trimmed (cond b [] (suc word ∷ []))) (ne_eqb (suc word) 0 (λ same. cc))
more_trimmed zero (next ∷ words) e = e
more_trimmed (suc word) (next ∷ words) e = e

pub trimmed_is : (words : List ℕ) → is_trimmed (trimmed words) ≡ true
trimmed_is [] = refl
trimmed_is (word ∷ words) = more_trimmed word (trimmed words) (trimmed_is words)

-- A bitmap has no zero word at its end if it is empty or its last word is another number.

-- of n or the last word
by_last : (n : ℕ) (words : List ℕ) → is_trimmed (n ∷ words) ≡ not (eqb (get_or (n ∷ words) (length words) 0) 0)
by_last zero [] = refl
by_last (suc n) [] = let some : suc n ≢ 0 = omega arith in ap not (sym (ne_eqb (suc n) 0 some))
by_last zero (m ∷ words) = by_last m words
by_last (suc n) (m ∷ words) = by_last m words

pub trimmed_by_last : (words : List ℕ) (last : ℕ) → 0 < length words → last ≡ get_or words (length words - 1) 0 → is_trimmed words ≡ not (eqb last 0)
trimmed_by_last [] last some is = absurd (omega arith)
trimmed_by_last (n ∷ words) last some is =
    let behind : length (n ∷ words) - 1 ≡ length words = omega arith in
    by_last n words ∙ ap (λ (i : ℕ). not (eqb (get_or (n ∷ words) i 0) 0)) (sym behind) ∙ ap (λ (k : ℕ). not (eqb k 0)) (sym is)
