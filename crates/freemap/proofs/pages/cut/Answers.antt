use Rattle.std.proofs.Common.{◌≡◌, ◌≤◌, ◌+◌, ◌*◌, ℕ, List, [], ◌∷◌, ◌++◌, length, take, sym, ap, subst, ◌∙◌, arith}
use Rattle.std.specs.List.{concat}
use Rattle.std.proofs.lemmas.List.{map-append}
use Rattle.std.proofs.lemmas.List.Elements.{All-push}
use Rattle.freemap.specs.Kept.{AreSectors}
use Rattle.freemap.proofs.PageLaws.{Shared, bytes_of, IsSector, cut_more}
use Rattle.freemap.proofs.pages.cut.Goals as goal

pub loop-part-preserved : goal.loop-part-preserved
loop-part-preserved c =
    let bits = c.args.bits.now in
    let old = bytes_of c.loop-part.pages.items in
    let page = c.in_ok-new.field-0 in
    let first : ℕ = 4096 * c.loop-part.part in
    let within : first + 4096 ≤ length bits = omega arith in
    let one : bytes_of c.push.new.self.items ≡ old ++ page.value ∷ [] =
    ap bytes_of c.in_ok-push.ensures.items ∙ map-append (λ (p : Shared). p.value) c.loop-part.pages.items (page ∷ []) in
    let is = c.in_ok-new.ensures.ok ∙ c.in_ok-page.ensures in
    let next : first + 4096 ≡ 4096 * (c.loop-part.part + 1) = omega arith in
    let len : length page.value ≡ 4096 = omega (arith, ap length is) in
    record {
      bytes = ap concat one ∙ (cut_more old bits page.value first (omega arith) c.loop-part.invariant.bytes is ∙ ap (λ (n : ℕ). take n bits) next);
      sectors = subst (λ (pages : List (List ℕ)). AreSectors pages) (sym one) (All-push IsSector old page.value c.loop-part.invariant.sectors len);
    }
