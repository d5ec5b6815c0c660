-- The bytes of a gate as they are written, part by part.
use Rattle.std.proofs.Common.{◌≡◌, ◌≤◌, ◌<◌, ◌+◌, ◌-◌, ◌*◌, ℕ, suc, zero, List, [], ◌∷◌, ◌++◌, length, take, drop, refl, ap, ◌∙◌, arith}
use Rattle.std.proofs.lemmas.List.{append-nil, drop-drop, drop-replicate}
use Rattle.disk.specs.Calls.{zero_sector}
use Rattle.journal.specs.Layout.{gate, gate_words, words}
use borrow.Rule.Slice.PartMut.{put_mid}

pub take_past : (xs : List ℕ) (n : ℕ) → length xs ≤ n → take n xs ≡ xs
take_past [] zero l = refl
take_past [] (suc n) l = refl
take_past (x ∷ xs) zero l = absurd (omega arith)
take_past (x ∷ xs) (suc n) l = ap (λ ys. x ∷ ys) (take_past xs n (omega arith))

drop_past : (xs : List ℕ) (n : ℕ) → length xs ≤ n → drop n xs ≡ []
drop_past [] zero l = refl
drop_past [] (suc n) l = refl
drop_past (x ∷ xs) zero l = absurd (omega arith)
drop_past (x ∷ xs) (suc n) l = drop_past xs n (omega arith)

pub words_written : (a0 a1 a2 a3 b0 b1 b2 b3 : ℕ) (s s1 w2 d all : List ℕ) (n : ℕ) → length s ≡ 4096
    → s1 ≡ a0 ∷ a1 ∷ a2 ∷ a3 ∷ drop 4 s
    → w2 ≡ b0 ∷ b1 ∷ b2 ∷ b3 ∷ drop 4 (take (length s1 - 4) (drop 4 s1))
    → d ≡ all
    → put_mid 8 (8 + 4 * n - 8) (put_mid 4 (length s1 - 4) s1 w2) d
    ≡ a0 ∷ a1 ∷ a2 ∷ a3 ∷ b0 ∷ b1 ∷ b2 ∷ b3 ∷ (all ++ drop (4 * suc (suc n)) s)
words_written a0 a1 a2 a3 b0 b1 b2 b3 s s1 w2 d all n long e1 e2 e3 =
    let rest : List ℕ = drop 4 s in
    let l1 : length rest ≤ length s1 - 4 = omega (arith, ap length e1) in
    let d1 : drop 4 s1 ≡ rest = ap (λ (xs : List ℕ). drop 4 xs) e1 in
    let t1 : take (length s1 - 4) (drop 4 s1) ≡ rest = ap (λ (xs : List ℕ). take (length s1 - 4) xs) d1 ∙ take_past rest (length s1 - 4) l1 in
    let w : w2 ≡ b0 ∷ b1 ∷ b2 ∷ b3 ∷ drop 4 rest = e2 ∙ ap (λ (xs : List ℕ). b0 ∷ b1 ∷ b2 ∷ b3 ∷ drop 4 xs) t1 in
    let past : drop (length s1 - 4) (drop 4 s1) ≡ [] = ap (λ (xs : List ℕ). drop (length s1 - 4) xs) d1 ∙ drop_past rest (length s1 - 4) l1 in
    let both : put_mid 4 (length s1 - 4) s1 w2 ≡ a0 ∷ a1 ∷ a2 ∷ a3 ∷ b0 ∷ b1 ∷ b2 ∷ b3 ∷ drop 4 rest =
    ap (λ (xs : List ℕ). take 4 s1 ++ (w2 ++ xs)) past
    ∙ ap (λ (xs : List ℕ). take 4 s1 ++ xs) (append-nil w2 ∙ w)
    ∙ ap (λ (xs : List ℕ). take 4 xs ++ (b0 ∷ b1 ∷ b2 ∷ b3 ∷ drop 4 rest)) e1 in
    let eight : drop 4 rest ≡ drop 8 s = drop-drop 4 4 s in
    ap (λ (xs : List ℕ). put_mid 8 (8 + 4 * n - 8) xs d) (both ∙ ap (λ (xs : List ℕ). a0 ∷ a1 ∷ a2 ∷ a3 ∷ b0 ∷ b1 ∷ b2 ∷ b3 ∷ xs) eight)
    ∙ ap (λ (xs : List ℕ). a0 ∷ a1 ∷ a2 ∷ a3 ∷ b0 ∷ b1 ∷ b2 ∷ b3 ∷ (d ++ xs))
    (drop-drop (8 + 4 * n - 8) 8 s ∙ ap (λ (k : ℕ). drop k s) (omega arith))
    ∙ ap (λ (xs : List ℕ). a0 ∷ a1 ∷ a2 ∷ a3 ∷ b0 ∷ b1 ∷ b2 ∷ b3 ∷ (xs ++ drop (4 * suc (suc n)) s)) e3

-- the words of a set commit record, written over zeros
pub gate_open : (to sector zeros : List ℕ) → (0 < length to) → zeros ≡ gate [] → sector ≡ words (gate_words to) ++ drop (4 * length (gate_words to)) zeros
    → sector ≡ gate to
unfolding gate zero_sector
gate_open [] sector zeros some z e = absurd (omega arith)
gate_open (t ∷ ts) sector zeros some z e =
    e ∙ ap (λ (xs : List ℕ). words (gate_words (t ∷ ts)) ++ drop (4 * length (gate_words (t ∷ ts))) xs) z
    ∙ ap (λ (xs : List ℕ). words (gate_words (t ∷ ts)) ++ xs) (drop-replicate (4 * length (gate_words (t ∷ ts))) 4096 0)
