use Rattle.std.proofs.Common.{◌<◌, ◌-◌, length, take, ap, ◌∙◌, arith}
use Rattle.directory.proofs.Blocks.{counted, cut_filled, cut_is, less_filled, less_is}
use Rattle.directory.proofs.records.Records.shorten.Goals as goal

pub invariant_of-self : goal.invariant_of-self
invariant_of-self c =
    let inside = c.self.inside in
    let some : 0 < inside.count = omega (arith, counted _ inside.count c.self.invariant, ap length c.self.view_is, c.requires) in
    cut_filled _ inside.blocks.items inside.count some c.self.invariant c.if-self-eq0.true c.truncate.new.self.items c.truncate.ensures.items

pub invariant_of-self-else-self-eq0 : goal.invariant_of-self-else-self-eq0
invariant_of-self-else-self-eq0 c =
    let inside = c.self.inside in
    let some : 0 < inside.count = omega (arith, counted _ inside.count c.self.invariant, ap length c.self.view_is, c.requires) in
    less_filled _ inside.blocks.items inside.count some c.self.invariant c.if-self-eq0.false

pub returns-then-self-eq0 : goal.returns-then-self-eq0
returns-then-self-eq0 c =
    let inside = c.self.inside in
    let some : 0 < inside.count = omega (arith, counted _ inside.count c.self.invariant, ap length c.self.view_is, c.requires) in
    cut_is _ inside.blocks.items inside.count some c.self.invariant c.if-self-eq0.true c.truncate.new.self.items c.truncate.ensures.items
    ∙ ap (λ names. take (length names - 1) names) c.self.view_is

pub returns-else-self-eq0 : goal.returns-else-self-eq0
returns-else-self-eq0 c =
    let inside = c.self.inside in
    let some : 0 < inside.count = omega (arith, counted _ inside.count c.self.invariant, ap length c.self.view_is, c.requires) in
    less_is _ inside.blocks.items inside.count some c.self.invariant c.if-self-eq0.false
    ∙ ap (λ names. take (length names - 1) names) c.self.view_is
