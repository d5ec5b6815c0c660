use Rattle.std.proofs.Common.{◌+◌, ◌*◌, ℕ, List, subst, ◌∙◌, arith}
use Rattle.std.specs.List.{concat}
use Rattle.std.proofs.lemmas.List.{length-map}
use Rattle.freemap.specs.Kept.{IsFirstClear}
use Rattle.freemap.proofs.PageLaws.{Shared, bytes_of, page_there, below_first, first_of}
use Rattle.freemap.proofs.pages.first_clear.Goals as goal

pub returns-then-place-lt-PAGE_PLACES : goal.returns-then-place-lt-PAGE_PLACES
returns-then-place-lt-PAGE_PLACES c =
    let pages = c.args.pages.now in
    let part = c.loop-part.part in
    let page = page_there pages part c.index-pages-part.result c.index-pages-part.is c.loop-part-test.true in
    let first = subst (λ (bytes : List ℕ). IsFirstClear bytes 32768 c.first-place.result) (c.deref.ensures ∙ page) c.first-place.ensures in
    subst (λ (n : ℕ). IsFirstClear (concat (bytes_of pages)) (32768 * n) (32768 * part + c.first-place.result)) (length-map pages (λ (p : Shared). p.value)) (first_of (bytes_of pages) c.requires.sectors part (omega (arith, c.loop-part-test.true, length-map pages (λ (p : Shared). p.value))) c.loop-part.invariant c.first-place.result first c.if-place-lt-PAGE_PLACES.true)

pub loop-part-preserved : goal.loop-part-preserved
loop-part-preserved c =
    let pages = c.args.pages.now in
    let part = c.loop-part.part in
    let page = page_there pages part c.index-pages-part.result c.index-pages-part.is c.loop-part-test.true in
    let first = subst (λ (bytes : List ℕ). IsFirstClear bytes 32768 c.first-place.result) (c.deref.ensures ∙ page) c.first-place.ensures in
    λ i h. below_first (bytes_of pages) c.requires.sectors part c.loop-part.invariant c.first-place.result first i (omega (arith, first.within))
