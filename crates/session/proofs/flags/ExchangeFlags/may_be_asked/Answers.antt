use Rattle.std.proofs.Common.{◌≡◌, ◌∙◌, ◌==◌, ap, bit_and}
use Rattle.bitflags.specs.Sets.{known_from, without}
use Rattle.model.specs.Sessions.Session.{exchange_flags, confirmed_flag}
use Rattle.session.proofs.Allowed.{among_allowed}
use Rattle.session.proofs.flags.ExchangeFlags.may_be_asked.Goals as goal

pub returns : goal.returns
unfolding known_from
returns c =
    let asked = c.args.self.0 in
    let allowed : c.difference.result.0 ≡ exchange_flags =
    c.difference.ensures tt ∙ ap (λ flags. without 32 flags confirmed_flag) (c.all.ensures tt) in
    c.contains.ensures tt
    ∙ ap (λ flags. bit_and flags asked == asked) allowed
    ∙ among_allowed exchange_flags asked
