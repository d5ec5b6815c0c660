use Rattle.std.proofs.Common.{◌≡◌, ◌≤◌, ◌-◌, List, ℕ, ◌++◌, drop, length, replicate, sym, ◌∙◌, ap, subst}
use Rattle.std.specs.Vec.{vec_len}
use Rattle.compound.proofs.Outcomes.{or_weaker}
use Rattle.xdr.specs.Forms.{padding}
use Rattle.compound.proofs.Parts.{all_replaced, part_encoded}
use Rattle.compound.proofs.read.finish.Goals as goal

pub returns : goal.returns
returns c =
    let items = c.args.values.now.items in
    let size_is : vec_len c.args.values.now ≡ length items = sym c.as_mut_slice.ensures.len ∙ ap length c.as_mut_slice.ensures.value in
    let replaced : vec_len c.args.values.now ≡ length c.put_prefix.new.values = sym c.as_mut_slice.ensures.len ∙ sym c.put_prefix.auto.values in
    or_weaker c.pad.result
    (λ done padded prefix part items_are eight few. part_encoded items prefix part c.prefix_of-prefix.result c.put_prefix.new.values c.pad.new.values.items c.args.is_end c.saturating_sub-len.result c.min.result
    (c.saturating_sub-len.ensures ∙ ap (λ n. n - 8) (c.len.ensures ∙ size_is)) c.min.ensures c.prefix_of-prefix.ensures
    (subst (λ (bytes : List ℕ). 8 ≤ length bytes → c.put_prefix.new.values ≡ c.prefix_of-prefix.result ++ drop 8 bytes) c.as_mut_slice.ensures.value c.put_prefix.ensures)
    (padded ∙ ap (λ (bytes : List ℕ). bytes ++ replicate (padding c.saturating_sub-len.result) 0) (all_replaced (vec_len c.args.values.now) c.put_prefix.new.values items replaced)) items_are eight few)
    c.pad.ensures
