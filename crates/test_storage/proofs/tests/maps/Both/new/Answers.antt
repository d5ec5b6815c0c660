use Rattle.std.proofs.Common.{sym, ◌∙◌}
use Rattle.test_storage.proofs.tests.maps.Both.new.Goals as goal

pub invariant_of-result : goal.invariant_of-result
invariant_of-result c = record {
  same = c.in_ok-new-2.ensures ∙ c.in_ok-new.ensures
      ∙ sym (c.in_ok-vec.ensures.items_if_clones_equal (λ y h. h));
  count = sym c.in_ok-vec.field-0.ok.0 ∙ c.in_ok-vec.ensures.len;
}
