-- Updates of which some are to hold inodes that are not encoded yet.
use Rattle.std.proofs.Common.{◌≡◌, ◌≢◌, ◌<◌, ◌+◌, ℕ, zero, suc, List, [], ◌∷◌, ◌++◌, Option, Some, None, length, get_or, set, take, refl, sym, ap, ◌∙◌, arith}
use Rattle.std.proofs.lemmas.List.{take_more, length-take}
use Rattle.disk.specs.declared.update.Update.{Update}
use Rattle.tree_transaction.specs.Updates.{target_of, content_of, HasNoUpdate, IsFirst, encoded, with_sector}

pub encoded-len : (us : List Update) (ps : List (Option (List ℕ))) → length (encoded us ps) ≡ length us
encoded-len [] ps = refl
encoded-len (u ∷ us) [] = refl
encoded-len (u ∷ us) (None ∷ ps) = ap suc (encoded-len us ps)
encoded-len (u ∷ us) (Some content ∷ ps) = ap suc (encoded-len us ps)

pub target-encoded : (us : List Update) (ps : List (Option (List ℕ))) (i : ℕ) → target_of (encoded us ps) i ≡ target_of us i
target-encoded [] ps i = refl
target-encoded (u ∷ us) [] i = refl
target-encoded (u ∷ us) (None ∷ ps) zero = refl
target-encoded (u ∷ us) (None ∷ ps) (suc i) = target-encoded us ps i
target-encoded (u ∷ us) (Some content ∷ ps) zero = refl
target-encoded (u ∷ us) (Some content ∷ ps) (suc i) = target-encoded us ps i

-- a content is put into an update
pub encoded-put : (us : List Update) (ps : List (Option (List ℕ))) (i : ℕ) (u : Update) → length ps ≡ length us → encoded (set us i u) (set ps i None) ≡ set (encoded us ps) i u
encoded-put [] ps i u e = refl
encoded-put (x ∷ us) [] i u e = absurd (omega (arith, e))
encoded-put (x ∷ us) (None ∷ ps) zero u e = refl
encoded-put (x ∷ us) (Some content ∷ ps) zero u e = refl
encoded-put (x ∷ us) (None ∷ ps) (suc i) u e = ap (λ (rest : List Update). x ∷ rest) (encoded-put us ps i u (omega (arith, e)))
encoded-put (x ∷ us) (Some content ∷ ps) (suc i) u e = ap (λ (rest : List Update). record { target = x.target; content = content } ∷ rest) (encoded-put us ps i u (omega (arith, e)))

-- an inode is put into an update
pub encoded-pending : (us : List Update) (ps : List (Option (List ℕ))) (i : ℕ) (content : List ℕ) → length ps ≡ length us → i < length us
    → encoded us (set ps i (Some content)) ≡ set (encoded us ps) i (record { target = target_of (encoded us ps) i; content = content })
encoded-pending [] ps i content e h = absurd (omega arith)
encoded-pending (x ∷ us) [] i content e h = absurd (omega (arith, e))
encoded-pending (x ∷ us) (None ∷ ps) zero content e h = refl
encoded-pending (x ∷ us) (Some other ∷ ps) zero content e h = refl
encoded-pending (x ∷ us) (None ∷ ps) (suc i) content e h = ap (λ (rest : List Update). x ∷ rest) (encoded-pending us ps i content (omega (arith, e)) (omega arith))
encoded-pending (x ∷ us) (Some other ∷ ps) (suc i) content e h = ap (λ (rest : List Update). record { target = x.target; content = other } ∷ rest) (encoded-pending us ps i content (omega (arith, e)) (omega arith))

-- one more update
pub encoded-more : (us : List Update) (ps : List (Option (List ℕ))) (u : Update) → length ps ≡ length us → encoded (us ++ u ∷ []) (ps ++ None ∷ []) ≡ encoded us ps ++ u ∷ []
encoded-more [] [] u e = refl
encoded-more [] (p ∷ ps) u e = absurd (omega (arith, e))
encoded-more (x ∷ us) [] u e = absurd (omega (arith, e))
encoded-more (x ∷ us) (None ∷ ps) u e = ap (λ (rest : List Update). x ∷ rest) (encoded-more us ps u (omega (arith, e)))
encoded-more (x ∷ us) (Some content ∷ ps) u e = ap (λ (rest : List Update). record { target = x.target; content = content } ∷ rest) (encoded-more us ps u (omega (arith, e)))

-- the place at which a sector is updated

pub none-encoded : (us : List Update) (ps : List (Option (List ℕ))) (n : ℕ) → HasNoUpdate n us → HasNoUpdate n (encoded us ps)
none-encoded us ps n none i h e = none i (omega (arith, encoded-len us ps)) (sym (target-encoded us ps i) ∙ e)

pub first-encoded : (us : List Update) (ps : List (Option (List ℕ))) (n place : ℕ) → IsFirst us n place → IsFirst (encoded us ps) n place
first-encoded us ps n place first = record {
  within = let h = first.within in omega (arith, encoded-len us ps);
  there = target-encoded us ps place ∙ first.there;
  before = λ i h e. first.before i h (sym (target-encoded us ps i) ∙ e);
}

-- what an update holds

pub content_of-at : (us : List Update) (i : ℕ) (other : Update) → i < length us → content_of us i ≡ (get_or us i other).content
content_of-at [] i other h = absurd (omega arith)
content_of-at (u ∷ us) zero other h = refl
content_of-at (u ∷ us) (suc i) other h = content_of-at us i other (omega arith)

pub content-none : (us : List Update) (ps : List (Option (List ℕ))) (i : ℕ) (other : Option (List ℕ)) → length ps ≡ length us → i < length us → get_or ps i other ≡ None → content_of (encoded us ps) i ≡ content_of us i
content-none [] ps i other e h is = absurd (omega arith)
content-none (x ∷ us) [] i other e h is = refl
content-none (x ∷ us) (None ∷ ps) zero other e h is = refl
content-none (x ∷ us) (Some content ∷ ps) zero other e h is = cc
content-none (x ∷ us) (None ∷ ps) (suc i) other e h is = content-none us ps i other (omega (arith, e)) (omega arith) is
content-none (x ∷ us) (Some content ∷ ps) (suc i) other e h is = content-none us ps i other (omega (arith, e)) (omega arith) is

pub content-some : (us : List Update) (ps : List (Option (List ℕ))) (i : ℕ) (other : Option (List ℕ)) (content : List ℕ) → length ps ≡ length us → i < length us → get_or ps i other ≡ Some content → content_of (encoded us ps) i ≡ content
content-some [] ps i other content e h is = absurd (omega arith)
content-some (x ∷ us) [] i other content e h is = absurd (omega (arith, e))
content-some (x ∷ us) (None ∷ ps) zero other content e h is = cc
content-some (x ∷ us) (Some here ∷ ps) zero other content e h is = cc
content-some (x ∷ us) (None ∷ ps) (suc i) other content e h is = content-some us ps i other content (omega (arith, e)) (omega arith) is
content-some (x ∷ us) (Some here ∷ ps) (suc i) other content e h is = content-some us ps i other content (omega (arith, e)) (omega arith) is

-- the first of them are encoded, and one more

encoded-skip : (us : List Update) (ps : List (Option (List ℕ))) → encoded us (ps ++ None ∷ []) ≡ encoded us ps
encoded-skip [] ps = refl
encoded-skip (x ∷ []) [] = refl
encoded-skip (x ∷ y ∷ us) [] = refl
encoded-skip (x ∷ us) (None ∷ ps) = ap (λ (rest : List Update). x ∷ rest) (encoded-skip us ps)
encoded-skip (x ∷ us) (Some content ∷ ps) = ap (λ (rest : List Update). record { target = x.target; content = content } ∷ rest) (encoded-skip us ps)

pub encoded-none : (us : List Update) → encoded us [] ≡ us
encoded-none [] = refl
encoded-none (u ∷ us) = refl

encoded-next : (us : List Update) (ps : List (Option (List ℕ))) (content : List ℕ) → length ps < length us → encoded us (ps ++ Some content ∷ []) ≡ with_sector (encoded us ps) (length ps) (Some content)
encoded-next [] ps content h = absurd (omega arith)
encoded-next (x ∷ us) [] content h = ap (λ (rest : List Update). record { target = x.target; content = content } ∷ rest) (encoded-none us)
encoded-next (x ∷ us) (None ∷ ps) content h = ap (λ (rest : List Update). x ∷ rest) (encoded-next us ps content (omega arith))
encoded-next (x ∷ us) (Some other ∷ ps) content h = ap (λ (rest : List Update). record { target = x.target; content = other } ∷ rest) (encoded-next us ps content (omega arith))

encoded-step : (us : List Update) (ps : List (Option (List ℕ))) (p : Option (List ℕ)) → length ps < length us → encoded us (ps ++ p ∷ []) ≡ with_sector (encoded us ps) (length ps) p
encoded-step us ps None h = encoded-skip us ps
encoded-step us ps (Some content) h = encoded-next us ps content h

pub encoded-at : (us : List Update) (ps : List (Option (List ℕ))) (i : ℕ) (p : Option (List ℕ)) → length ps ≡ length us → i < length ps → p ≡ get_or ps i p
    → with_sector (encoded us (take i ps)) i p ≡ encoded us (take (i + 1) ps)
encoded-at us ps i p e h is =
    let len : length (take i ps) ≡ i = omega (arith, h, length-take i ps) in
    let prefix : take (i + 1) ps ≡ take i ps ++ p ∷ [] = take_more ps i p h ∙ ap (λ (q : Option (List ℕ)). take i ps ++ q ∷ []) (sym is) in
    ap (λ (n : ℕ). with_sector (encoded us (take i ps)) n p) (sym len) ∙ sym (encoded-step us (take i ps) p (omega (arith, e, h, len))) ∙ ap (encoded us) (sym prefix)
