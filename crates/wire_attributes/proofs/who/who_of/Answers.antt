use Rattle.std.proofs.Common.{rules, ◌≡◌, Some, ap, sym, ◌∙◌}
use Rattle.model.specs.Attributes.AclText.{number_in, numbered}
use Rattle.wire_attributes.proofs.Naming.{names_owner, names_group, names_everyone, names_number}
use Rattle.wire_attributes.proofs.who.who_of.Goals as goal

pub returns-then-eq : goal.returns-then-eq
returns-then-eq c = names_owner c.args.is_group c.args.text.now (search rules)

pub returns-then-eq-2 : goal.returns-then-eq-2
returns-then-eq-2 c = names_group c.args.is_group c.args.text.now (search rules)

pub returns-then-eq-3 : goal.returns-then-eq-3
returns-then-eq-3 c = names_everyone c.args.is_group c.args.text.now (search rules)

pub returns-then-is_group : goal.returns-then-is_group
returns-then-is_group c =
    let number : Some c.in_ok-number.number ≡ number_in c.args.text.now = search rules in
    ap (λ told. Some (numbered told c.in_ok-number.number)) (sym c.if-is_group.true)
    ∙ names_number c.args.is_group c.args.text.now (search rules) (search rules) (search rules) c.in_ok-number.number number

pub returns-else-is_group : goal.returns-else-is_group
returns-else-is_group c =
    let number : Some c.in_ok-number.number ≡ number_in c.args.text.now = search rules in
    ap (λ told. Some (numbered told c.in_ok-number.number)) (sym c.if-is_group.false)
    ∙ names_number c.args.is_group c.args.text.now (search rules) (search rules) (search rules) c.in_ok-number.number number
