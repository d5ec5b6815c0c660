use Rattle.std.proofs.Common.{◌≡◌, ◌∙◌, ◌==◌, ap, bit_and}
use Rattle.bitflags.specs.Sets.{known_from}
use Rattle.model.specs.Sessions.Session.{session_flags}
use Rattle.session.proofs.Allowed.{among_allowed}
use Rattle.session.proofs.flags.SessionFlags.may_be_asked.Goals as goal

pub returns : goal.returns
unfolding known_from
returns c =
    let asked = c.args.self.0 in
    let allowed : c.all.result.0 ≡ session_flags = c.all.ensures tt in
    c.contains.ensures tt
    ∙ ap (λ flags. bit_and flags asked == asked) allowed
    ∙ among_allowed session_flags asked
