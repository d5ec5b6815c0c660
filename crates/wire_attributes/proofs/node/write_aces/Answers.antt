use Rattle.std.proofs.Common.{◌<◌, length, get_or, arith}
use Rattle.std.proofs.lemmas.List.{get_or_default}
use Rattle.xdr.proofs.Writing.{wrote_stop}
use Rattle.model_tree.specs.declared.acl.Ace.{Ace}
use Rattle.model_tree.specs.declared.acl.AceKind.TheVariants as kind
use Rattle.model_tree.specs.declared.acl.Who.TheVariants as who
use Rattle.wire_attributes.proofs.NodeSizes.{ace_text}
use Rattle.wire_attributes.proofs.node.write_aces.Goals as goal

pub returns-in_err-write_ace : goal.returns-in_err-write_ace
returns-in_err-write_ace c =
    let list = c.args.acl.now in
    let i = c.loop-ace.ace-index in
    let lt : i < length list = omega arith in
    let blank : Ace = record { kind = kind.Allow; flags = record { 0 = 0 }; mask = record { 0 = 0 }; who = who.Owner } in
    wrote_stop ace_text list i (get_or list i blank) lt (get_or_default list i blank (get_or list i blank) lt)
    c.loop-ace.invariant c.from_residual.ensures.1 c.in_err-write_ace.ensures
