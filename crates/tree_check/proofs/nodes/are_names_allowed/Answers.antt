use Rattle.std.proofs.Common.{true≢false, sym, ◌∙◌, subst, arith}
use Rattle.directory.specs.Records.{Record, record_of, name_of}
use Rattle.tree_check.specs.Nodes.{IsNameAllowed}
use Rattle.tree_check.proofs.NodeLaws.{each_entry, each_more}
use Rattle.tree_check.proofs.nodes.are_names_allowed.Goals as goal

pub returns-then-not-is_name_allowed : goal.returns-then-not-is_name_allowed
returns-then-not-is_name_allowed c = (
  λ never. absurd (true≢false (sym never)),
  λ allowed.
      let here = each_entry (λ (entry : Record). IsNameAllowed c.args.limits.now (name_of entry))
      c.args.names.now c.loop-place.place (record_of c.entry.result.now) c.entry.ensures (omega (arith, c.loop-place-test.true, c.len-place-end.ensures.count)) allowed in
      sym c.if-not-is_name_allowed.true ∙ c.is_name_allowed.ensures.1 (subst (IsNameAllowed c.args.limits.now) (sym c.deref.ensures.value) here),
)

pub loop-place-preserved : goal.loop-place-preserved
loop-place-preserved c =
    each_more (λ (entry : Record). IsNameAllowed c.args.limits.now (name_of entry)) c.args.names.now c.loop-place.place (record_of c.entry.result.now) c.entry.ensures
    (omega (arith, c.loop-place-test.true, c.len-place-end.ensures.count)) c.loop-place.invariant
    (subst (IsNameAllowed c.args.limits.now) c.deref.ensures.value (c.is_name_allowed.ensures.0 c.if-not-is_name_allowed.false))
