-- For the layer above: a list of transactions that were joined, and what reads give after a call.
use Rattle.std.proofs.Common.{◌≡◌, ◌≤◌, ◌+◌, ℕ, suc, zero, List, [], ◌∷◌, ◌++◌, length, take, drop, refl, sym, ap, ◌∙◌, arith}
use Rattle.std.proofs.lemmas.List.{length-drop, take-append-drop}
use Rattle.disk.specs.declared.update.Update.{Update}
use Rattle.disk.specs.Moments.{Image, applied}
use Rattle.journal.specs.Settled.{AreSame}
use Rattle.journal.specs.Log.{Log, applied_all, contents, IsJoined, Moved}
use Rattle.journal.proofs.Prefixes.{applied_keeps, applied_all-push}
use Rattle.journal.proofs.Lists.{applied_at}

all_keeps : (size : ℕ) (list : List (List Update)) (a b : Image) → AreSame size a b → AreSame size (applied_all list a) (applied_all list b)
all_keeps size [] a b e = e
all_keeps size (us ∷ list) a b e = all_keeps size list (applied us a) (applied us b) (applied_keeps size us a b e)

applied_all-prefix : (all : List (List Update)) (k c : ℕ) (base : Image)
    → applied_all (take c (drop k all)) (applied_all (take k all) base) ≡ applied_all (take (k + c) all) base
applied_all-prefix all zero c base = ap (λ (n : ℕ). applied_all (take n all) base) (let q : c ≡ 0 + c = omega arith in q)
applied_all-prefix [] (suc k) c base = take_none c base ∙ sym (take_none (suc k + c) base)
  where
    take_none : (n : ℕ) (image : Image) → applied_all (take n []) image ≡ image
    take_none zero image = refl
    take_none (suc n) image = refl
applied_all-prefix (us ∷ all) (suc k) c base =
    applied_all-prefix all k c (applied us base)
    ∙ ap (λ (n : ℕ). applied_all (take n (us ∷ all)) base) (let q : suc (k + c) ≡ suc k + c = omega arith in q)

-- what a list gives a sector depends only on what the image has there
all_at : (list : List (List Update)) (a b : Image) (n : ℕ) → a n ≡ b n → applied_all list a n ≡ applied_all list b n
all_at [] a b n e = e
all_at (us ∷ list) a b n e = all_at list (applied us a) (applied us b) n (applied_at us a b n e)

applied_all-append : (a b : List (List Update)) (base : Image) → applied_all (a ++ b) base ≡ applied_all b (applied_all a base)
applied_all-append [] b base = refl
applied_all-append (us ∷ a) b base = applied_all-append a b (applied us base)

-- each prefix of a joined list does what a prefix of the list does
pub prefix_of_joined : (list joined : List (List Update)) → IsJoined list joined → (c : ℕ) → c ≤ length joined
    → (k : ℕ) × (k ≤ length list) × ((image : Image) (n : ℕ) → applied_all (take c joined) image n ≡ applied_all (take k list) image n)
prefix_of_joined list joined j zero l = (0, omega arith, (λ image n. refl))
prefix_of_joined list [] j (suc c) l = absurd (omega arith)
prefix_of_joined list (us ∷ joined) j (suc c) l =
    let rest = prefix_of_joined (drop j.0 list) joined j.3 c (omega arith) in (
      j.0 + rest.0,
      omega (arith, j.1, rest.1, length-drop j.0 list),
      (λ image n. rest.2 (applied us image) n
          ∙ all_at (take rest.0 (drop j.0 list)) (applied us image) (applied_all (take j.0 list) image) n (j.2 image n)
          ∙ ap (λ (f : Image). f n) (applied_all-prefix list j.0 rest.0 image)),
    )

-- and it gives the same
pub whole_of_joined : (list joined : List (List Update)) → IsJoined list joined → (image : Image) (n : ℕ)
    → applied_all joined image n ≡ applied_all list image n
whole_of_joined list [] j image n = j image n
whole_of_joined list (us ∷ joined) j image n =
    whole_of_joined (drop j.0 list) joined j.3 (applied us image) n
    ∙ all_at (drop j.0 list) (applied us image) (applied_all (take j.0 list) image) n (j.2 image n)
    ∙ ap (λ (f : Image). f n) (sym (applied_all-append (take j.0 list) (drop j.0 list) image))
    ∙ ap (λ (xs : List (List Update)). applied_all xs image n) (take-append-drop j.0 list)

-- a prefix after a call that moved the list's first transactions into the base gives what one of
-- the list's does
pub prefix_moved : (all : List (List Update)) (old mid : Log) → Moved all old mid → (count : ℕ) → count ≤ length mid.list
    → (before : ℕ) × (before ≤ length all) × AreSame old.area.end (applied_all (take before all) old.base) (applied_all (take count mid.list) mid.base)
prefix_moved all old mid moved count few =
    let there = prefix_of_joined (drop moved.count all) mid.list moved.list count few in (
      moved.count + there.0,
      omega (arith, moved.within, there.1, length-drop moved.count all),
      (λ n k. ap (λ (f : Image). f n) (sym (applied_all-prefix all moved.count there.0 old.base))
          ∙ all_keeps old.area.end (take there.0 (drop moved.count all)) (applied_all (take moved.count all) old.base) mid.base moved.base n k
          ∙ sym (there.2 mid.base n)),
    )

-- what reads give after a call that moved the list's first transactions into the base
pub moved_contents : (all : List (List Update)) (old mid : Log) → Moved all old mid → AreSame old.area.end (applied_all all old.base) (contents mid)
moved_contents all old mid moved n k =
    ap (λ (xs : List (List Update)). applied_all xs old.base n) (sym (take-append-drop moved.count all))
    ∙ ap (λ (f : Image). f n) (applied_all-append (take moved.count all) (drop moved.count all) old.base)
    ∙ all_keeps old.area.end (drop moved.count all) (applied_all (take moved.count all) old.base) mid.base moved.base n k
    ∙ sym (whole_of_joined (drop moved.count all) mid.list moved.list mid.base n)

-- what reads give after one more transaction
pub pushed_contents : (us : List Update) (old new : Log) → Moved (old.list ++ us ∷ []) old new → AreSame old.area.end (applied us (contents old)) (contents new)
pushed_contents us old new moved n k =
    ap (λ (f : Image). f n) (sym (applied_all-push old.list us old.base)) ∙ moved_contents (old.list ++ us ∷ []) old new moved n k
