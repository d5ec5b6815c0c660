use Rattle.std.proofs.Common.{◌<◌, length, get_or, ap, ◌∙◌, arith}
use Rattle.std.specs.List.{flat_map}
use Rattle.std.proofs.lemmas.List.{take_all, get_or_default}
use Rattle.model_tree.specs.declared.acl.Ace.{Ace}
use Rattle.model_tree.specs.declared.acl.AceKind.TheVariants as kind
use Rattle.model_tree.specs.declared.acl.Who.TheVariants as who
use Rattle.wire_attributes.proofs.NodeSizes.{ace_text, length_more}
use Rattle.wire_attributes.proofs.node.aces_size.Goals as goal

pub loop-ace-preserved : goal.loop-ace-preserved
loop-ace-preserved c =
    let acl = c.args.acl.now in
    let i = c.loop-ace.ace-index in
    let lt : i < length acl = omega arith in
    let blank : Ace = record { kind = kind.Allow; flags = record { 0 = 0 }; mask = record { 0 = 0 }; who = who.Owner } in
    let more = length_more ace_text acl i (get_or acl i blank) lt (get_or_default acl i blank (get_or acl i blank) lt) in
    let so_far = c.loop-ace.invariant.value in
    record {
      value = omega (arith, more, so_far, c.ace_size-size.ensures.value);
      bound = omega (arith, c.loop-ace.invariant.bound, c.ace_size-size.ensures.bound);
      whole = omega (arith, c.loop-ace.invariant.whole, c.ace_size-size.ensures.whole);
    }

pub returns-clause-value : goal.returns-clause-value
returns-clause-value c =
    c.loop-ace.invariant.value ∙ ap (λ xs. length (flat_map ace_text xs)) (take_all c.loop-ace.ace-index c.args.acl.now (omega arith))
