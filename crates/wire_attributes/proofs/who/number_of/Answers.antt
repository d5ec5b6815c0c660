use Rattle.std.proofs.Common.{rules, ◌≡◌}
use Rattle.std.specs.Prelude.{decimal}
use Rattle.wire_attributes.proofs.Naming.{unread, read, no_number_bytes, is_number}
use Rattle.wire_attributes.proofs.who.number_of.Goals as goal

pub returns-in_default : goal.returns-in_default
returns-in_default c = unread c.args.text.now (no_number_bytes c.args.text.now (search rules))

pub returns : goal.returns
returns c =
    let text_is : c.args.text.now ≡ decimal c.in-Ok-parse.number = search (rules, is_number) in
    read c.args.text.now c.in-Ok-parse.number (search rules) text_is
