-- What it changes to put other chunks in the place of one.
use Rattle.std.proofs.Common.{◌≡◌, ◌<◌, ◌≤◌, ◌+◌, ◌-◌, ◌∙◌, ℕ, zero, suc, List, [], ◌∷◌, ◌++◌, length, get_or, set, take, drop, map, refl, sym, ap, subst, arith, length-append, append_assoc}
use Rattle.std.proofs.lemmas.List.{append-nil, set-append_left, set-append_right}
use Rattle.std.proofs.lemmas.List.Concat.{flat_map-append}
use Rattle.std.proofs.lemmas.List.Edits.{insert-append_left, insert-append_right, remove-append_left, remove-append_right}
use Rattle.std.specs.List.{flat_map, insert, remove, AllByRecursion}
use Rattle.chunks.specs.Chunks.{IsChunk, ends_from, AreChunks, start_of}
use Rattle.chunks.proofs.Places.{each_at}

-- the list with others in the place of one
abbrev pub replaced : {R : Type 0} → List R → (k : ℕ) → List R → List R
replaced [] k new = new
replaced (c ∷ cs) zero new = new ++ cs
replaced (c ∷ cs) (suc k) new = c ∷ replaced cs k new

pub set_is : {R : Type 0} (cs : List R) (k : ℕ) (c : R) → k < length cs → set cs k c ≡ replaced cs k (c ∷ [])
set_is [] k c within = absurd (omega arith)
set_is (b ∷ cs) zero c within = refl
set_is (b ∷ cs) (suc k) c within = ap (λ l. b ∷ l) (set_is cs k c (omega arith))

pub remove_is : {R : Type 0} (cs : List R) (k : ℕ) → k < length cs → remove cs k ≡ replaced cs k []
remove_is [] k within = absurd (omega arith)
remove_is (b ∷ cs) zero within = refl
remove_is (b ∷ cs) (suc k) within = ap (λ l. b ∷ l) (remove_is cs k (omega arith))

-- one is inserted after the k-th, in whose place another is put
pub insert_set_is : {R : Type 0} (cs : List R) (k n : ℕ) (left right : R) → n ≡ suc k → k < length cs → set (insert cs n right) k left ≡ replaced cs k (left ∷ right ∷ [])
insert_set_is [] k n left right is within = absurd (omega arith)
insert_set_is (b ∷ cs) k zero left right is within = absurd (omega arith)
insert_set_is (b ∷ cs) zero (suc n) left right is within =
    let none : n ≡ 0 = omega arith in
    ap (λ i. left ∷ (take i cs ++ right ∷ drop i cs)) none
insert_set_is (b ∷ cs) (suc k) (suc n) left right is within =
    ap (λ l. b ∷ l) (insert_set_is cs k n left right (omega arith) (omega arith))

pub all_replaced : {R : Type 0} (P : R → Type 0) (cs new : List R) (k : ℕ) → AllByRecursion P cs → AllByRecursion P new → AllByRecursion P (replaced cs k new)
all_replaced P [] new k all good = good
all_replaced P (c ∷ cs) new zero all good = joined new good
  where
    joined : (l : List _) → AllByRecursion P l → AllByRecursion P (l ++ cs)
    joined [] each = all.1
    joined (b ∷ l) each = (each.0, joined l each.1)
all_replaced P (c ∷ cs) new (suc k) all good = (all.0, all_replaced P cs new k all.1 good)

module _ {R X : Type 0} (f : R → List X) where
  -- an edit at one place, in a part of a list that is joined to another
  pub record IsEdit (E : List X → ℕ → List X) : Type 0 where
    pub left : (xs ys : List X) (i : ℕ) → i < length xs → E (xs ++ ys) i ≡ E xs i ++ ys
    pub right : (xs ys : List X) (i n : ℕ) → i ≡ length xs + n → E (xs ++ ys) i ≡ xs ++ E ys n

  pub sets : (v : X) → IsEdit (λ xs i. set xs i v)
  sets v = record {
    left = λ xs ys i low. set-append_left xs ys i v low;
    right = λ xs ys i n is.
        set-append_right xs ys (length xs) i v refl (omega arith) ∙ ap (λ k. xs ++ set ys k v) (let same : i - length xs ≡ n = omega arith in same);
  }

  pub inserts : (v : X) → IsEdit (λ xs i. insert xs i v)
  inserts v = record {
    left = λ xs ys i low. insert-append_left xs ys i v (omega arith);
    right = λ xs ys i n is.
        insert-append_right xs ys (length xs) i v refl (omega arith) ∙ ap (λ k. xs ++ insert ys k v) (let same : i - length xs ≡ n = omega arith in same);
  }

  pub removes : IsEdit (λ xs i. remove xs i)
  removes = record {
    left = λ xs ys i low. remove-append_left xs ys i low;
    right = λ xs ys i n is.
        remove-append_right xs ys (length xs) i refl (omega arith) ∙ ap (λ k. xs ++ remove ys k) (let same : i - length xs ≡ n = omega arith in same);
  }

  pub keeps : IsEdit (λ xs i. xs)
  keeps = record { left = λ xs ys i low. refl; right = λ xs ys i n is. refl }

  pub edited : (E : List X → ℕ → List X) → IsEdit E → (cs : List R) (k at place : ℕ) (new : List R) (e : R) → k < length cs → at < length (f (get_or cs k e))
      → place ≡ start_of f cs k + at → flat_map f new ≡ E (f (get_or cs k e)) at → flat_map f (replaced cs k new) ≡ E (flat_map f cs) place
  edited E is [] k at place new e within low found made = absurd (omega arith)
  edited E is (c ∷ cs) zero at place new e within low found made =
      let same : at ≡ place = omega arith in
      flat_map-append f new cs
      ∙ (ap (λ l. l ++ flat_map f cs) (made ∙ ap (λ i. E (f c) i) same) ∙ sym (is.left (f c) (flat_map f cs) place (omega arith)))
  edited E is (c ∷ cs) (suc k) at place new e within low found made =
      let next : place ≡ length (f c) + (start_of f cs k + at) = omega (arith, length-append (f c) (flat_map f (take k cs))) in
      ap (λ l. f c ++ l) (edited E is cs k at (start_of f cs k + at) new e (omega arith) low refl made)
      ∙ sym (is.right (f c) (flat_map f cs) place (start_of f cs k + at) next)

  -- Where they end

  ends_up : (cs : List R) (n : ℕ) → ends_from f (n + 1) cs ≡ map (λ end. end + 1) (ends_from f n cs)
  ends_up [] n = refl
  ends_up (c ∷ cs) n =
      let same : n + 1 + length (f c) ≡ n + length (f c) + 1 = omega arith in
      ap (λ m. m ∷ ends_from f m cs) same ∙ ap (λ l. (n + length (f c) + 1) ∷ l) (ends_up cs (n + length (f c)))

  ends_down : (cs : List R) (n : ℕ) → map (λ end. end - 1) (ends_from f (n + 1) cs) ≡ ends_from f n cs
  ends_down [] n = refl
  ends_down (c ∷ cs) n =
      let same : n + 1 + length (f c) ≡ n + length (f c) + 1 = omega arith in
      let first : n + length (f c) + 1 - 1 ≡ n + length (f c) = omega arith in
      ap (λ m. (m - 1) ∷ map (λ end. end - 1) (ends_from f m cs)) same
      ∙ (ap (λ m. m ∷ map (λ end. end - 1) (ends_from f (n + length (f c) + 1) cs)) first
      ∙ ap (λ l. (n + length (f c)) ∷ l) (ends_down cs (n + length (f c))))

  pub ends_kept : (cs : List R) (from k : ℕ) (new e : R) → k < length cs → length (f new) ≡ length (f (get_or cs k e))
      → ends_from f from (replaced cs k (new ∷ [])) ≡ ends_from f from cs
  ends_kept [] from k new e within same = absurd (omega arith)
  ends_kept (c ∷ cs) from zero new e within same = ap (λ n. (from + n) ∷ ends_from f (from + n) cs) same
  ends_kept (c ∷ cs) from (suc k) new e within same =
      ap (λ l. (from + length (f c)) ∷ l) (ends_kept cs (from + length (f c)) k new e (omega arith) same)

  pub ends_raised : (cs : List R) (from k : ℕ) (new e : R) → k < length cs → length (f new) ≡ length (f (get_or cs k e)) + 1
      → ends_from f from (replaced cs k (new ∷ [])) ≡ take k (ends_from f from cs) ++ map (λ end. end + 1) (drop k (ends_from f from cs))
  ends_raised [] from k new e within more = absurd (omega arith)
  ends_raised (c ∷ cs) from zero new e within more =
      let same : from + length (f new) ≡ from + length (f c) + 1 = omega arith in
      ap (λ n. n ∷ ends_from f n cs) same ∙ ap (λ l. (from + length (f c) + 1) ∷ l) (ends_up cs (from + length (f c)))
  ends_raised (c ∷ cs) from (suc k) new e within more =
      ap (λ l. (from + length (f c)) ∷ l) (ends_raised cs (from + length (f c)) k new e (omega arith) more)

  pub ends_lowered : (cs : List R) (from k : ℕ) (new e : R) → k < length cs → length (f new) + 1 ≡ length (f (get_or cs k e))
      → ends_from f from (replaced cs k (new ∷ [])) ≡ take k (ends_from f from cs) ++ map (λ end. end - 1) (drop k (ends_from f from cs))
  ends_lowered [] from k new e within less = absurd (omega arith)
  ends_lowered (c ∷ cs) from zero new e within less =
      let n : ℕ = from + length (f new) in
      let same : n + 1 ≡ from + length (f c) = omega arith in
      let first : n ≡ n + 1 - 1 = omega arith in
      ap (λ l. n ∷ l) (sym (ends_down cs n))
      ∙ (ap (λ m. m ∷ map (λ end. end - 1) (ends_from f (n + 1) cs)) first
      ∙ ap (λ m. (m - 1) ∷ map (λ end. end - 1) (ends_from f m cs)) same)
  ends_lowered (c ∷ cs) from (suc k) new e within less =
      ap (λ l. (from + length (f c)) ∷ l) (ends_lowered cs (from + length (f c)) k new e (omega arith) less)

  -- a chunk of one entry is dropped
  pub ends_dropped : (cs : List R) (from k : ℕ) (e : R) → k < length cs → length (f (get_or cs k e)) ≡ 1
      → ends_from f from (replaced cs k []) ≡ remove (take k (ends_from f from cs) ++ map (λ end. end - 1) (drop k (ends_from f from cs))) k
  ends_dropped [] from k e within one = absurd (omega arith)
  ends_dropped (c ∷ cs) from zero e within one =
      let same : from + 1 ≡ from + length (f c) = omega arith in
      sym (ends_down cs from) ∙ ap (λ m. map (λ end. end - 1) (ends_from f m cs)) same
  ends_dropped (c ∷ cs) from (suc k) e within one =
      ap (λ l. (from + length (f c)) ∷ l) (ends_dropped cs (from + length (f c)) k e (omega arith) one)

  -- a chunk and one more entry become two chunks
  pub ends_split : (cs : List R) (from k middle : ℕ) (left right e : R) → k < length cs → length (f left) + length (f right) ≡ length (f (get_or cs k e)) + 1
      → middle ≡ from + start_of f cs k + length (f left)
      → ends_from f from (replaced cs k (left ∷ right ∷ [])) ≡ insert (take k (ends_from f from cs) ++ map (λ end. end + 1) (drop k (ends_from f from cs))) k middle
  ends_split [] from k middle left right e within both is = absurd (omega arith)
  ends_split (c ∷ cs) from zero middle left right e within both is =
      let first : from + length (f left) ≡ middle = omega arith in
      let same : middle + length (f right) ≡ from + length (f c) + 1 = omega arith in
      ap (λ n. n ∷ ((n + length (f right)) ∷ ends_from f (n + length (f right)) cs)) first
      ∙ (ap (λ n. middle ∷ (n ∷ ends_from f n cs)) same
      ∙ ap (λ l. middle ∷ ((from + length (f c) + 1) ∷ l)) (ends_up cs (from + length (f c))))
  ends_split (c ∷ cs) from (suc k) middle left right e within both is =
      ap (λ l. (from + length (f c)) ∷ l)
      (ends_split cs (from + length (f c)) k middle left right e (omega arith) both (omega (arith, length-append (f c) (flat_map f (take k cs)))))

  -- one more chunk
  pub ends_pushed : (cs : List R) (from : ℕ) (c : R) → ends_from f from (cs ++ c ∷ []) ≡ ends_from f from cs ++ (from + length (flat_map f cs) + length (f c)) ∷ []
  ends_pushed [] from c = let same : from + length (f c) ≡ from + 0 + length (f c) = omega arith in ap (λ n. n ∷ []) same
  ends_pushed (b ∷ cs) from c =
      let same : from + length (f b) + length (flat_map f cs) + length (f c) ≡ from + length (f b ++ flat_map f cs) + length (f c) = omega (arith, length-append (f b) (flat_map f cs)) in
      ap (λ l. (from + length (f b)) ∷ l) (ends_pushed cs (from + length (f b)) c ∙ ap (λ n. ends_from f (from + length (f b)) cs ++ n ∷ []) same)

  length_replaced : (cs : List R) (k : ℕ) (new : List R) (e : R) → k < length cs
      → length (flat_map f (replaced cs k new)) + length (f (get_or cs k e)) ≡ length (flat_map f cs) + length (flat_map f new)
  length_replaced [] k new e within = absurd (omega arith)
  length_replaced (c ∷ cs) zero new e within =
      omega (arith, ap (λ (l : List X). length l) (flat_map-append f new cs), length-append (flat_map f new) (flat_map f cs), length-append (f c) (flat_map f cs))
  length_replaced (c ∷ cs) (suc k) new e within =
      omega (arith, length_replaced cs k new e (omega arith), length-append (f c) (flat_map f (replaced cs k new)), length-append (f c) (flat_map f cs))

  length_one : (new : R) → length (flat_map f (new ∷ [])) ≡ length (f new)
  length_one new = ap (λ (l : List X). length l) (append-nil (f new))

  -- Chunks that are kept stay so

  module _ (cs : List R) (ends : List ℕ) (kept : AreChunks f cs ends) (k : ℕ) (e : R) (within : k < length cs) where
    kept_with : (new : List R) (now : List ℕ) → AllByRecursion (λ c. IsChunk (f c)) new → length (flat_map f cs) + length (flat_map f new) ≤ 4294967295 + length (f (get_or cs k e))
        → now ≡ ends_from f 0 (replaced cs k new) → AreChunks f (replaced cs k new) now
    kept_with new now good few is = record {
      each = all_replaced (λ c. IsChunk (f c)) cs new k kept.each good;
      few = omega (arith, length_replaced cs k new e within, few);
      ending = is;
    }

    its : IsChunk (f (get_or cs k e))
    its = each_at (λ c. IsChunk (f c)) cs k e kept.each within

    pub kept_set : (new : R) → length (f new) ≡ length (f (get_or cs k e)) → AreChunks f (set cs k new) ends
    kept_set new same =
        subst (λ l. AreChunks f l ends) (sym (set_is cs k new within))
        (kept_with (new ∷ []) ends (record { some = omega (arith, same, its.some); few = omega (arith, same, its.few) }, tt)
        (omega (arith, same, length_one new, kept.few)) (kept.ending ∙ sym (ends_kept cs 0 k new e within same)))

    pub kept_raised : (new : R) (now : List ℕ) → length (f new) ≡ length (f (get_or cs k e)) + 1 → length (f (get_or cs k e)) < 1024 → length (flat_map f cs) < 4294967295
        → now ≡ take k ends ++ map (λ end. end + 1) (drop k ends) → AreChunks f (set cs k new) now
    kept_raised new now more room low is =
        subst (λ l. AreChunks f l now) (sym (set_is cs k new within))
        (kept_with (new ∷ []) now (record { some = omega (arith, more); few = omega (arith, more, room) }, tt)
        (omega (arith, more, length_one new, low))
        (is ∙ (ap (λ l. take k l ++ map (λ end. end + 1) (drop k l)) kept.ending ∙ sym (ends_raised cs 0 k new e within more))))

    pub kept_lowered : (new : R) (now : List ℕ) → length (f new) + 1 ≡ length (f (get_or cs k e)) → 0 < length (f new)
        → now ≡ take k ends ++ map (λ end. end - 1) (drop k ends) → AreChunks f (set cs k new) now
    kept_lowered new now less some is =
        subst (λ l. AreChunks f l now) (sym (set_is cs k new within))
        (kept_with (new ∷ []) now (record { some = some; few = omega (arith, less, its.few) }, tt)
        (omega (arith, less, length_one new, kept.few))
        (is ∙ (ap (λ l. take k l ++ map (λ end. end - 1) (drop k l)) kept.ending ∙ sym (ends_lowered cs 0 k new e within less))))

    pub kept_dropped : (now : List ℕ) → length (f (get_or cs k e)) ≡ 1
        → now ≡ remove (take k ends ++ map (λ end. end - 1) (drop k ends)) k → AreChunks f (remove cs k) now
    kept_dropped now one is =
        subst (λ l. AreChunks f l now) (sym (remove_is cs k within))
        (kept_with [] now tt (omega (arith, kept.few))
        (is ∙ (ap (λ l. remove (take k l ++ map (λ end. end - 1) (drop k l)) k) kept.ending ∙ sym (ends_dropped cs 0 k e within one))))

    pub kept_split : (left right : R) (n middle : ℕ) (now : List ℕ) → n ≡ suc k → IsChunk (f left) → IsChunk (f right)
        → length (f left) + length (f right) ≡ length (f (get_or cs k e)) + 1 → length (flat_map f cs) < 4294967295 → middle ≡ start_of f cs k + length (f left)
        → now ≡ insert (take k ends ++ map (λ end. end + 1) (drop k ends)) k middle → AreChunks f (set (insert cs n right) k left) now
    kept_split left right n middle now next good_left good_right both low at is =
        subst (λ l. AreChunks f l now) (sym (insert_set_is cs k n left right next within))
        (kept_with (left ∷ right ∷ []) now (good_left, (good_right, tt))
        (omega (arith, both, low, length_one right, length-append (f left) (flat_map f (right ∷ []))))
        (is ∙ (ap (λ l. insert (take k l ++ map (λ end. end + 1) (drop k l)) k middle) kept.ending
        ∙ sym (ends_split cs 0 k middle left right e within both (omega (arith, at))))))

    pub unchanged : (new : R) → f new ≡ f (get_or cs k e) → flat_map f (set cs k new) ≡ flat_map f cs
    unchanged new same =
        ap (flat_map f) (set_is cs k new within)
        ∙ edited (λ xs i. xs) keeps cs k 0 (start_of f cs k + 0) (new ∷ []) e within its.some refl (append-nil (f new) ∙ same)

    -- and are edited as the list is

    module _ (at place : ℕ) (low : at < length (f (get_or cs k e))) (is : place ≡ start_of f cs k + at) where
      pub edited_by : (E : List X → ℕ → List X) → IsEdit E → (new : R) → f new ≡ E (f (get_or cs k e)) at → flat_map f (set cs k new) ≡ E (flat_map f cs) place
      edited_by E edit new made =
          ap (flat_map f) (set_is cs k new within)
          ∙ edited E edit cs k at place (new ∷ []) e within low is (append-nil (f new) ∙ made)

      pub dropped : length (f (get_or cs k e)) ≡ 1 → flat_map f (remove cs k) ≡ remove (flat_map f cs) place
      dropped one =
          ap (flat_map f) (remove_is cs k within)
          ∙ edited (λ xs i. remove xs i) removes cs k at place [] e within low is (emptied (f (get_or cs k e)) at one low)
        where
          emptied : (xs : List X) (i : ℕ) → length xs ≡ 1 → i < length xs → [] ≡ remove xs i
          emptied [] i single inside = absurd (omega arith)
          emptied (x ∷ []) zero single inside = refl
          emptied (x ∷ []) (suc i) single inside = absurd (omega arith)
          emptied (x ∷ y ∷ xs) i single inside = absurd (omega arith)

      pub split_in : (left right : R) (n : ℕ) (v : X) → n ≡ suc k → f left ++ f right ≡ insert (f (get_or cs k e)) at v
          → flat_map f (set (insert cs n right) k left) ≡ insert (flat_map f cs) place v
      split_in left right n v next made =
          ap (flat_map f) (insert_set_is cs k n left right next within)
          ∙ edited (λ xs i. insert xs i v) (inserts v) cs k at place (left ∷ right ∷ []) e within low is
          (ap (λ l. f left ++ l) (append-nil (f right)) ∙ made)

  -- one more entry in the last chunk
  last_more : (cs : List R) (k : ℕ) (new e : R) (v : X) → suc k ≡ length cs → f new ≡ f (get_or cs k e) ++ v ∷ [] → flat_map f (set cs k new) ≡ flat_map f cs ++ v ∷ []
  last_more [] k new e v last made = absurd (omega (arith, last))
  last_more (c ∷ []) zero new e v last made = append-nil (f new) ∙ (made ∙ ap (λ l. l ++ v ∷ []) (sym (append-nil (f c))))
  last_more (c ∷ d ∷ cs) zero new e v last made = absurd (omega (arith, last))
  last_more (c ∷ cs) (suc k) new e v last made =
      ap (λ l. f c ++ l) (last_more cs k new e v (omega (arith, last)) made) ∙ sym (append_assoc (f c) (flat_map f cs) (v ∷ []))

  pub last_pushed : (cs : List R) (ends : List ℕ) → AreChunks f cs ends → (k : ℕ) (new e : R) (v : X) → k + 1 ≡ length cs → f new ≡ f (get_or cs k e) ++ v ∷ []
      → flat_map f (set cs k new) ≡ flat_map f cs ++ v ∷ []
  last_pushed cs ends kept k new e v last made = last_more cs k new e v (omega (arith, last)) made

  -- one more chunk

  pub pushed : (cs : List R) (new : R) → flat_map f (cs ++ new ∷ []) ≡ flat_map f cs ++ f new
  pushed cs new = flat_map-append f cs (new ∷ []) ∙ ap (λ l. flat_map f cs ++ l) (append-nil (f new))

  kept_pushed : (cs : List R) (ends : List ℕ) (new : R) (now : List ℕ) → AreChunks f cs ends → IsChunk (f new) → length (flat_map f cs) + length (f new) ≤ 4294967295
      → now ≡ ends ++ (length (flat_map f cs) + length (f new)) ∷ [] → AreChunks f (cs ++ new ∷ []) now
  kept_pushed cs ends new now kept good few is = record {
    each = joined cs kept.each;
    few = omega (arith, few, ap (λ (l : List X). length l) (pushed cs new), length-append (flat_map f cs) (f new));
    ending =
        is ∙ (ap (λ l. l ++ (length (flat_map f cs) + length (f new)) ∷ []) kept.ending
        ∙ (ap (λ n. ends_from f 0 cs ++ n ∷ []) (let none : length (flat_map f cs) + length (f new) ≡ 0 + length (flat_map f cs) + length (f new) = omega arith in none)
        ∙ sym (ends_pushed cs 0 new)));
  }
    where
      joined : (l : List R) → AllByRecursion (λ c. IsChunk (f c)) l → AllByRecursion (λ c. IsChunk (f c)) (l ++ new ∷ [])
      joined [] all = (good, tt)
      joined (b ∷ l) all = (all.0, joined l all.1)

  pub kept_one : (cs : List R) (ends : List ℕ) (new : R) (now : List ℕ) → AreChunks f cs ends → (v : X) → f new ≡ v ∷ [] → (view : List X) → flat_map f cs ≡ view
      → (len : ℕ) → len ≡ length view → (len ≡ 4294967295 → ⊥) → now ≡ ends ++ (len + 1) ∷ [] → AreChunks f (cs ++ new ∷ []) now
  kept_one cs ends new now kept v made view same len len_is room is =
      let one : length (f new) ≡ 1 = ap (λ (l : List X). length l) made in
      let total : length (flat_map f cs) ≡ len = ap (λ (l : List X). length l) same ∙ sym len_is in
      let few : len < 4294967295 = omega (arith, total, kept.few, room) in
      let end : len + 1 ≡ length (flat_map f cs) + length (f new) = omega (arith, total, one) in
      kept_pushed cs ends new now kept (record { some = omega (arith, one); few = omega (arith, one) }) (omega (arith, total, one, few))
      (is ∙ ap (λ n. ends ++ n ∷ []) end)

  -- the same lists of entries in other chunks

  ends_map : (cs : List R) (n : ℕ) → ends_from f n cs ≡ ends_from (λ (l : List X). l) n (map f cs)
  ends_map [] n = refl
  ends_map (c ∷ cs) n = ap (λ l. (n + length (f c)) ∷ l) (ends_map cs (n + length (f c)))

  flat_same : (cs : List R) → flat_map f cs ≡ flat_map (λ (l : List X). l) (map f cs)
  flat_same [] = refl
  flat_same (c ∷ cs) = ap (λ l. f c ++ l) (flat_same cs)

  each_map : (cs : List R) → AllByRecursion (λ c. IsChunk (f c)) cs → AllByRecursion (λ (l : List X). IsChunk l) (map f cs)
  each_map [] all = tt
  each_map (c ∷ cs) all = (all.0, each_map cs all.1)

  each_unmap : (cs : List R) → AllByRecursion (λ (l : List X). IsChunk l) (map f cs) → AllByRecursion (λ c. IsChunk (f c)) cs
  each_unmap [] all = tt
  each_unmap (c ∷ cs) all = (all.0, each_unmap cs all.1)

  pub view_same : (cs ds : List R) → map f cs ≡ map f ds → flat_map f cs ≡ flat_map f ds
  view_same cs ds same = flat_same cs ∙ (ap (flat_map (λ (l : List X). l)) same ∙ sym (flat_same ds))

  pub kept_same : (cs ds : List R) (ends : List ℕ) → map f cs ≡ map f ds → AreChunks f ds ends → AreChunks f cs ends
  kept_same cs ds ends same kept = record {
    each = each_unmap cs (subst (AllByRecursion (λ (l : List X). IsChunk l)) (sym same) (each_map ds kept.each));
    few = omega (arith, ap (λ (l : List X). length l) (view_same cs ds same), kept.few);
    ending = kept.ending ∙ (ends_map ds 0 ∙ (ap (ends_from (λ (l : List X). l) 0) (sym same) ∙ sym (ends_map cs 0)));
  }
