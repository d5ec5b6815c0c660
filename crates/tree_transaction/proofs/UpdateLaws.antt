-- Updates of distinct sectors: what they give, and one more.
use Rattle.std.proofs.Common.{◌≡◌, ◌≢◌, ◌≤◌, ◌<◌, ◌+◌, ℕ, zero, suc, List, [], ◌∷◌, ◌++◌, ◌⊎◌, length, get_or, set, refl, sym, ap, ◌∙◌, arith, subst, eq-eqb, ne_eqb, inl, inr}
use Rattle.std.proofs.lemmas.Bool.{cases_eq, cases_lt}
use Rattle.disk.specs.declared.update.Update.{Update}
use Rattle.std.proofs.Math.Path.{fun_ext}
use Rattle.disk.specs.Moments.{Image, put, applied}
use Rattle.tree_transaction.specs.Updates.{target_of, HasNoUpdate, IsFirst, UpdatesApart, updated, AreBetween, ChangeOne}

pub target_of-at : (updates : List Update) (i : ℕ) (other : Update) → i < length updates → target_of updates i ≡ (get_or updates i other).target
target_of-at [] i other h = absurd (omega arith)
target_of-at (update ∷ updates) zero other h = refl
target_of-at (update ∷ updates) (suc i) other h = target_of-at updates i other (omega arith)

pub put-here : (image : Image) (update : Update) (n : ℕ) → update.target ≡ n → put image update n ≡ update.content
put-here image update n e = rw (eq-eqb n update.target (sym e)) refl

pub put-elsewhere : (image : Image) (update : Update) (n : ℕ) → update.target ≢ n → put image update n ≡ image n
put-elsewhere image update n off = rw (ne_eqb n update.target (λ e. off (sym e))) refl

has_not-rest : (update : Update) (updates : List Update) (n : ℕ) → HasNoUpdate n (update ∷ updates) → HasNoUpdate n updates
has_not-rest update updates n none i h = none (suc i) (omega arith)

pub applied-same : (updates : List Update) (a b : Image) (n : ℕ) → a n ≡ b n → applied updates a n ≡ applied updates b n
applied-same [] a b n same = same
applied-same (update ∷ updates) a b n same = applied-same updates (put a update) (put b update) n (elim (cases_eq n update.target) [
  | inl e ↦ put-here a update n (sym e) ∙ sym (put-here b update n (sym e))
  | inr off ↦ put-elsewhere a update n (λ e. off (sym e)) ∙ same ∙ sym (put-elsewhere b update n (λ e. off (sym e)))
])

pub applied-other : (updates : List Update) (image : Image) (n : ℕ) → HasNoUpdate n updates → applied updates image n ≡ image n
applied-other [] image n none = refl
applied-other (update ∷ updates) image n none = applied-other updates (put image update) n (has_not-rest update updates n none) ∙ put-elsewhere image update n (none 0 (omega arith))

pub applied-first : (updates : List Update) (image : Image) (n place : ℕ) (other : Update) → UpdatesApart updates → IsFirst updates n place → applied updates image n ≡ (get_or updates place other).content
applied-first [] image n place other apart first = let h = first.within in absurd (omega arith)
applied-first (update ∷ updates) image n zero other apart first =
    applied-other updates (put image update) n (subst (λ (t : ℕ). HasNoUpdate t updates) first.there apart.0) ∙ put-here image update n first.there
applied-first (update ∷ updates) image n (suc place) other apart first =
    applied-first updates (put image update) n place other apart.1 (record { within = let h = first.within in omega arith; there = first.there; before = λ i h. first.before (suc i) (omega arith) })

-- one more update, whether in place of another or not
pub applied-updated : (updates : List Update) (update : Update) (image : Image) (n : ℕ) → UpdatesApart updates → applied (updated updates update) image n ≡ put (applied updates image) update n
applied-updated [] update image n apart = refl
applied-updated (first ∷ updates) update image n apart = elim (cases_eq first.target update.target) [
  | inl e ↦ rw (eq-eqb first.target update.target e) (elim (cases_eq n update.target) [
    | inl here ↦ applied-other updates (put image update) n (subst (λ (t : ℕ). HasNoUpdate t updates) (e ∙ sym here) apart.0) ∙ put-here image update n (sym here) ∙ sym (put-here (applied updates (put image first)) update n (sym here))
    | inr off ↦ applied-same updates (put image update) (put image first) n (put-elsewhere image update n (λ e. off (sym e)) ∙ sym (put-elsewhere image first n (λ f. off (sym f ∙ e))))
        ∙ sym (put-elsewhere (applied updates (put image first)) update n (λ e. off (sym e)))
  ])
  | inr off ↦ rw (ne_eqb first.target update.target off) (applied-updated updates update (put image first) n apart.1)
]

pub updated-first : (updates : List Update) (update : Update) (place : ℕ) → IsFirst updates update.target place → updated updates update ≡ set updates place update
updated-first [] update place first = let h = first.within in absurd (omega arith)
updated-first (x ∷ updates) update zero first = rw (eq-eqb x.target update.target first.there) refl
updated-first (x ∷ updates) update (suc place) first =
    rw (ne_eqb x.target update.target (first.before 0 (omega arith)))
    (ap (λ (rest : List Update). x ∷ rest) (updated-first updates update place (record { within = let h = first.within in omega arith; there = first.there; before = λ i h. first.before (suc i) (omega arith) })))

pub updated-none : (updates : List Update) (update : Update) → HasNoUpdate update.target updates → updated updates update ≡ updates ++ update ∷ []
updated-none [] update none = refl
updated-none (x ∷ updates) update none =
    rw (ne_eqb x.target update.target (none 0 (omega arith))) (ap (λ (rest : List Update). x ∷ rest) (updated-none updates update (has_not-rest x updates update.target none)))

-- what is put into the last update

pub target_of-last : (updates : List Update) (last : Update) → target_of (updates ++ last ∷ []) (length updates) ≡ last.target
target_of-last [] last = refl
target_of-last (update ∷ updates) last = target_of-last updates last

pub set-last : (updates : List Update) (last other : Update) → set (updates ++ last ∷ []) (length updates) other ≡ updates ++ other ∷ []
set-last [] last other = refl
set-last (update ∷ updates) last other = ap (λ (rest : List Update). update ∷ rest) (set-last updates last other)

-- what is put into the update at a place
pub filled : (old mid new : List Update) (update : Update) (place : ℕ) → target_of mid place ≡ update.target → set mid place update ≡ updated old update → new ≡ set mid place (record { target = target_of mid place; content = update.content }) → new ≡ updated old update
filled old mid new update place there whole is = is ∙ ap (λ (t : ℕ). set mid place (record { target = t; content = update.content })) there ∙ whole

has_not-updated : (updates : List Update) (update : Update) (n : ℕ) → HasNoUpdate n updates → update.target ≢ n → HasNoUpdate n (updated updates update)
has_not-updated [] update n none off = λ i. elim i as (λ (k : ℕ). k < length (update ∷ []) → target_of (update ∷ []) k ≢ n) [ zero ↦ (λ h. off) | suc k ↦ (λ h. absurd (omega arith)) ]
has_not-updated (x ∷ updates) update n none off = elim (cases_eq x.target update.target) [
  | inl e ↦ rw (eq-eqb x.target update.target e) (λ i. elim i as (λ (k : ℕ). k < length (update ∷ updates) → target_of (update ∷ updates) k ≢ n) [ zero ↦ (λ h. off) | suc k ↦ (λ h. none (suc k) (omega arith)) ])
  | inr other ↦ rw (ne_eqb x.target update.target other) (λ i. elim i as (λ (k : ℕ). k < length (x ∷ updated updates update) → target_of (x ∷ updated updates update) k ≢ n) [ zero ↦ (λ h. none 0 (omega arith)) | suc k ↦ (λ h. has_not-updated updates update n (has_not-rest x updates n none) off k (omega arith)) ])
]

pub apart-updated : (updates : List Update) (update : Update) → UpdatesApart updates → UpdatesApart (updated updates update)
apart-updated [] update apart = (λ i h. absurd (omega arith), tt)
apart-updated (x ∷ updates) update apart = elim (cases_eq x.target update.target) [
  | inl e ↦ rw (eq-eqb x.target update.target e) (subst (λ (t : ℕ). HasNoUpdate t updates) e apart.0, apart.1)
  | inr off ↦ rw (ne_eqb x.target update.target off) (has_not-updated updates update x.target apart.0 (λ e. off (sym e)), apart-updated updates update apart.1)
]

pub length-updated : (updates : List Update) (update : Update) → length (updated updates update) ≤ length updates + 1
length-updated [] update = omega arith
length-updated (x ∷ updates) update = elim (cases_eq x.target update.target) [
  | inl e ↦ rw (eq-eqb x.target update.target e) (omega arith)
  | inr off ↦ rw (ne_eqb x.target update.target off) (omega (arith, length-updated updates update))
]

pub image-updated : (updates : List Update) (update : Update) (image : Image) → UpdatesApart updates → applied (updated updates update) image ≡ put (applied updates image) update
image-updated updates update image apart = fun_ext (λ n. applied-updated updates update image n apart)

-- ---- which sectors are updated

-- an updated sector holds the same whatever is under the updates
updated-fixes : (updates : List Update) (i n : ℕ) (a b : Image) → i < length updates → target_of updates i ≡ n → applied updates a n ≡ applied updates b n
updated-fixes [] i n a b h at = absurd (omega arith)
updated-fixes (update ∷ updates) zero n a b h at = applied-same updates (put a update) (put b update) n (put-here a update n at ∙ sym (put-here b update n at))
updated-fixes (update ∷ updates) (suc i) n a b h at = updated-fixes updates i n (put a update) (put b update) (omega arith) at

nil_cons : (x : ℕ) → (let none : List ℕ = [] in none ≡ x ∷ []) → ⊥
nil_cons x e = cc

-- so if what is under them is read, the sector is none of theirs
not-updated : (updates : List Update) (n : ℕ) → ((image : Image) → applied updates image n ≡ image n) → HasNoUpdate n updates
not-updated updates n same i h at = nil_cons 0 (sym (same (λ n. [])) ∙ updated-fixes updates i n (λ n. []) (λ n. 0 ∷ []) h at ∙ same (λ n. 0 ∷ []))

-- if other updates leave what is outside unchanged, none of them is outside
pub between-still : (first end : ℕ) (old new : List Update) → AreBetween first end old → ((image : Image) (n : ℕ) → (n < first) ⊎ (end ≤ n) → applied new image n ≡ applied old image n) → AreBetween first end new
between-still first end old new between same i h =
    let n : ℕ = target_of new i in
    let outside : (n < first) ⊎ (end ≤ n) → ⊥ = λ out.
    let none : HasNoUpdate n old = λ j l at. let b = between j l in elim out [ inl low ↦ omega (arith, b.0) | inr high ↦ omega (arith, b.1) ] in
    not-updated new n (λ image. same image n out ∙ applied-other old image n none) i h refl in
    elim (cases_lt n first) [
      | inl low ↦ absurd (outside (inl low))
      | inr prefix ↦ elim (cases_lt n end) [
        | inl back ↦ (prefix, back)
        | inr high ↦ absurd (outside (inr high))
      ]
    ]

pub between-one : (first end : ℕ) (old new : List Update) (sector : ℕ) → first ≤ sector → sector < end → ChangeOne old new sector → AreBetween first end old → AreBetween first end new
between-one first end old new sector low high alone between = between-still first end old new between (λ image n out. alone image n (λ e. elim out [ inl l ↦ omega arith | inr h ↦ omega arith ]))

pub between-wider : (first more end : ℕ) (updates : List Update) → more ≤ first → AreBetween first end updates → AreBetween more end updates
between-wider first more end updates h between i l = let b = between i l in (omega (arith, b.0), b.1)
