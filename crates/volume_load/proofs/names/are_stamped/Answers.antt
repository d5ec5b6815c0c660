use Rattle.std.proofs.Common.{◌≤◌, ℕ, List, sym, subst}
use Rattle.layout.specs.Marks.{times}
use Rattle.volume_load.proofs.StampLaws.{stamped_so, apart_so}
use Rattle.volume_load.proofs.names.are_stamped.Goals as goal

pub returns : goal.returns
returns c = (
  λ is. stamped_so c.args.entries.now (c.are_above.ensures.0 c.if-not-are_above.false)
      (λ n. subst (λ (l : List ℕ). times n l ≤ 1) c.in_ok-stamps.ensures (c.in_ok-apart.ensures.0 is n)),
  λ stamped. c.in_ok-apart.ensures.1 (λ n. subst (λ (l : List ℕ). times n l ≤ 1) (sym c.in_ok-stamps.ensures) (apart_so c.args.entries.now stamped n)),
)
