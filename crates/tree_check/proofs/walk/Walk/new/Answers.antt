use Rattle.tree_check.proofs.walk.Walk.new.Goals as goal

pub returns-clause-unseen : goal.returns-clause-unseen
returns-clause-unseen c = c.in_ok-seen.ensures.items_if_clones_equal (λ y h. h)
