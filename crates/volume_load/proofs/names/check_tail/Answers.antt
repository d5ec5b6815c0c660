use Rattle.std.proofs.Common.{◌≡◌, ◌%◌, ◌∙◌, ℕ, List, length, sym, ap, subst}
use Rattle.std.proofs.lemmas.Bool.{false≢true}
use Rattle.volume_load.specs.Sectors.{AreZeroFrom}
use Rattle.volume_load.proofs.TailLaws.{tail_of_hole, tail_of_sector, zeros_of_tail}
use Rattle.volume_load.proofs.names.check_tail.Goals as goal

pub returns-in_default-clause-found : goal.returns-in_default-clause-found
returns-in_default-clause-found g c = λ word. tail_of_hole (g.S.Sectors.image (g.S.Sectors.kept c.args.sectors.now)) c.args.blocks.now c.args.size c.requires.enough (sym c.at.ensures ∙ c.in_default.is)

pub returns-then-not-is_zero_from-clause-damaged : goal.returns-then-not-is_zero_from-clause-damaged
returns-then-not-is_zero_from-clause-damaged g c = λ word is tail.
    let image = g.S.Sectors.image (g.S.Sectors.kept c.args.sectors.now) in
    let same = c.in_ok-content.ensures.content word in
    let long : length c.in_ok-content.content ≡ 4096 = c.is_zero_from.ensures.whole in
    let zeros = zeros_of_tail image c.args.blocks.now c.args.size c.in-Some.sector (ap (λ (l : List ℕ). length l) (sym same) ∙ long) (sym c.at.ensures ∙ c.in-Some.is) tail in
    false≢true (sym c.if-not-is_zero_from.true ∙ c.is_zero_from.ensures.zero.1 (subst (λ (l : List ℕ). AreZeroFrom l (c.args.size % 4096)) (sym same) zeros))

pub returns-clause-found : goal.returns-clause-found
returns-clause-found g c = λ word.
    let image = g.S.Sectors.image (g.S.Sectors.kept c.args.sectors.now) in
    let same = c.in_ok-content.ensures.content word in
    tail_of_sector image c.args.blocks.now c.args.size c.in-Some.sector c.requires.enough (sym c.at.ensures ∙ c.in-Some.is)
    (subst (λ (l : List ℕ). AreZeroFrom l (c.args.size % 4096)) same (c.is_zero_from.ensures.zero.0 c.if-not-is_zero_from.false))
