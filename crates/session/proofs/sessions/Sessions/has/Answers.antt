use Rattle.std.proofs.Common.{rules, tests, sym, ◌∙◌}
use Rattle.std.proofs.lemmas.Iterator.{YieldsList-from_slice}
use Rattle.std.proofs.lemmas.Iterator.Search.{any_from_yields_List}
use Rattle.model.specs.Sessions.Session.{is_session}
use Rattle.session.specs.declared.session.Session.{Session}
use Rattle.session.specs.Views.{session_of}
use Rattle.session.proofs.Lists.{list_any-map}
use Rattle.session.proofs.sessions.Sessions.has.Goals as goal

pub returns : goal.returns
returns c =
    any_from_yields_List (λ (session : Session). is_session c.args.id.now (session_of session)) _ _ _ c.any.ensures.ran (YieldsList-from_slice c.args.self.now.list.items cc) (λ x b q k. search (rules, tests))
    ∙ sym (list_any-map (is_session c.args.id.now) session_of c.args.self.now.list.items)
