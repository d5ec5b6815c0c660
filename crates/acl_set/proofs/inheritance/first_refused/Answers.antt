use Rattle.std.proofs.Common.{◌≡◌, ◌∙◌, refl, ap, ℕ, Bool, true, false, cond, Some, None, not, length, nat_lt}
use Rattle.std.specs.Bool.{then_some}
use Rattle.model_tree.specs.Rights.Acl.{is_entry_for}
use Rattle.model_tree.specs.Rights.Inherit.{first_refused}
use Rattle.model_tree.specs.declared.acl.Ace.{Ace}
use Rattle.acl_set.proofs.Kept.{first_or_limit}
use Rattle.acl_set.proofs.inheritance.first_refused.Goals as goal

some_if : (b : Bool) (n : ℕ) → then_some b n ≡ cond b (Some n) None
some_if true n = refl
some_if false n = refl

pub returns : goal.returns
unfolding first_refused
returns c =
    rw (c.then_some.ensures, c.min-place.ensures, c.unwrap_or.ensures, c.first_unfit.ensures)
    (ap (λ place. then_some (nat_lt place (length c.args.acl.now)) place) (first_or_limit (λ (ace : Ace). not (is_entry_for c.args.kind ace)) c.args.acl.now 64)
    ∙ some_if _ _)
